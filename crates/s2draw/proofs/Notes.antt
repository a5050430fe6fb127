-- Texts that are put together piece by piece.
use Rattle.std.proofs.Common.{◌≡◌, ℕ, zero, suc, ◌+◌, ◌<◌, List, [], ◌∷◌, ◌++◌, length, get_or, take, Bool, cond}
use Rattle.std.proofs.Common.{refl, ◌∙◌, ap, sym, arith, append_assoc, append-nil}
use Rattle.std.proofs.lemmas.List.{flat_map_more, take_more}
use Rattle.std.specs.List.{flat_map}
use Rattle.std.specs.Fmt.{decimal}
use Rattle.s2draw.specs.Rectangles.{drawn}
use Rattle.s2draw.specs.Picture.{small_note, small_line, note, rectangles, line}
use Rattle.s2draw.specs.Overlay.{outlines}

-- what follows the number of cells
pub noted : (old : List ℕ) {t u v : List ℕ} (a d b : List ℕ) (n : ℕ) →
    t ≡ old ++ a ++ d → u ≡ t ++ b → 0 < n → v ≡ u ++ small_line n → v ≡ old ++ (a ++ d ++ b ++ small_note n)
unfolding small_note
noted old a d b zero e1 e2 h e3 = absurd (omega (arith, h))
noted old a d b (suc n) e1 e2 h e3 = rw (e3, e2, e1) (simp append_assoc)

pub not_noted : (old : List ℕ) {t u : List ℕ} (a d b : List ℕ) {n : ℕ} →
    t ≡ old ++ a ++ d → u ≡ t ++ b → n ≡ 0 → u ≡ old ++ (a ++ d ++ b ++ small_note n)
unfolding small_note
not_noted old a d b e1 e2 h = rw (h, e2, e1) (simp (append_assoc, append-nil))

-- one more piece of a list
pub one_more : (f : ℕ → List ℕ) (old xs : List ℕ) (i d : ℕ) {x : ℕ} {t u : List ℕ} →
    t ≡ old ++ flat_map f (take i xs) → i < length xs → x ≡ get_or xs i d → u ≡ t ++ f x →
    u ≡ old ++ flat_map f (take (i + 1) xs)
one_more f old xs i d {x} e h item e2 =
    e2 ∙ ap (λ z. z ++ f x) e ∙ flat_map_more f old (take i xs) x
    ∙ ap (λ z. old ++ flat_map f z) (ap (λ z. take i xs ++ z ∷ []) item ∙ sym (take_more xs i d h))

-- the pieces of a list between two others
pub around : (f : ℕ → List ℕ) (old : List ℕ) {t u v : List ℕ} (a b : List ℕ) {some all : List ℕ} →
    t ≡ old ++ a → u ≡ t ++ flat_map f some → some ≡ all → v ≡ u ++ b → v ≡ old ++ (a ++ flat_map f all ++ b)
around f old a b e1 e2 e e3 = rw (e3, e2, e1, e) (simp append_assoc)

-- five numbers between texts
pub fields : (old : List ℕ) {t1 t2 t3 t4 t5 t6 : List ℕ} (a1 a2 a3 a4 a5 b : List ℕ) {n1 n2 n3 n4 n5 m1 m2
    m3 m4 m5 : ℕ} → t1 ≡ old ++ a1 ++ decimal n1 → t2 ≡ t1 ++ a2 ++ decimal n2 → t3 ≡ t2 ++ a3 ++ decimal n3 → t4 ≡ t3
    ++ a4 ++ decimal n4 → t5 ≡ t4 ++ a5 ++ decimal n5 → t6 ≡ t5 ++ b → n1 ≡ m1 → n2 ≡ m2 → n3 ≡ m3 → n4 ≡ m4 → n5 ≡ m5 →
    t6 ≡ old ++ (a1 ++ decimal m1 ++ a2 ++ decimal m2 ++ a3 ++ decimal m3 ++ a4 ++ decimal m4 ++ a5 ++ decimal m5 ++ b)
fields old a1 a2 a3 a4 a5 b e1 e2 e3 e4 e5 e6 f1 f2 f3 f4 f5 =
    rw (e6, e5, e4, e3, e2, e1, f1, f2, f3, f4, f5) (simp append_assoc)

-- all of a picture, between a head and a foot
pub whole : {head foot last t u v w x : List ℕ} (curve : Bool) (cells : List ℕ) {list again : List ℕ} →
    list ≡ drawn cells → again ≡ drawn cells →
    last ≡ foot → t ≡ head → u ≡ t ++ note cells → v ≡ u ++ rectangles list → w ≡ v ++ cond curve (line again) [] →
    x ≡ w ++ last → x ≡ head ++ note cells ++ rectangles (drawn cells) ++ cond curve (line (drawn cells)) [] ++ foot
whole curve cells e d f e1 e2 e3 e4 e5 = rw (e5, e4, e3, e2, e1, e, d, f) refl

-- what comes before the lists of an overlay, from nothing
pub begun : {t0 t1 t2 t3 t4 t5 t6 t7 : List ℕ} (a1 a2 a3 : List ℕ) {b1 b2 b3 b4 s1 s2 s3 s4 : List ℕ}
    {n1 n2 m1 m2 : ℕ} → t0 ≡ [] → t1 ≡ t0 ++ a1 ++ decimal n1 → t2 ≡ t1 ++ a2 ++ decimal n2 → t3 ≡ t2 ++ a3 →
    t4 ≡ t3 ++ b1 → t5 ≡ t4 ++ b2 → t6 ≡ t5 ++ b3 → t7 ≡ t6 ++ b4 →
    n1 ≡ m1 → n2 ≡ m2 → b1 ≡ s1 → b2 ≡ s2 → b3 ≡ s3 → b4 ≡ s4 →
    t7 ≡ a1 ++ decimal m1 ++ a2 ++ decimal m2 ++ a3 ++ s1 ++ s2 ++ s3 ++ s4
begun a1 a2 a3 e0 e1 e2 e3 e4 e5 e6 e7 f1 f2 g1 g2 g3 g4 =
    rw (e7, e6, e5, e4, e3, e2, e1, e0, f1, f2, g1, g2, g3, g4) (simp append_assoc)

-- a line of a legend
pub entry : (old : List ℕ) {t1 t2 t3 t4 t5 t6 t7 t8 : List ℕ} (a1 a2 a3 a4 a5 name a6 a7 : List ℕ) {n1 n2 n3 n4 n5 m1 m2
    m3 m4 m5 : ℕ} → t1 ≡ old ++ a1 ++ decimal n1 → t2 ≡ t1 ++ a2 ++ decimal n2 → t3 ≡ t2 ++ a3 ++ decimal n3 →
    t4 ≡ t3 ++ a4 ++ decimal n4 → t5 ≡ t4 ++ a5 → t6 ≡ t5 ++ name → t7 ≡ t6 ++ a6 ++ decimal n5 → t8 ≡ t7 ++ a7 →
    n1 ≡ m1 → n2 ≡ m2 → n3 ≡ m3 → n4 ≡ m4 → n5 ≡ m5 → t8 ≡ old ++ (a1 ++ decimal m1 ++ a2 ++ decimal m2 ++ a3
    ++ decimal m3 ++ a4 ++ decimal m4 ++ a5 ++ name ++ a6 ++ decimal m5 ++ a7)
entry old a1 a2 a3 a4 a5 name a6 a7 e1 e2 e3 e4 e5 e6 e7 e8 f1 f2 f3 f4 f5 =
    rw (e8, e7, e6, e5, e4, e3, e2, e1, f1, f2, f3, f4, f5) (simp append_assoc)

-- all that is drawn of a list
pub layered : (old : List ℕ) {t1 t2 t3 t4 t5 t6 : List ℕ} (a1 a2 a3 : List ℕ) (legend : ℕ → List ℕ) {n m k h : ℕ}
    (curve : Bool) (cells : List ℕ) {list again : List ℕ} → list ≡ drawn cells → again ≡ drawn cells →
    t1 ≡ old ++ a1 ++ decimal n → t2 ≡ t1 ++ a2 → t3 ≡ t2 ++ outlines list → t4 ≡ t3 ++ cond curve (line again) [] →
    t5 ≡ t4 ++ legend k → t6 ≡ t5 ++ a3 → n ≡ m → k ≡ h →
    t6 ≡ old ++ (a1 ++ decimal m ++ a2 ++ outlines (drawn cells) ++ cond curve (line (drawn cells)) [] ++ legend h
    ++ a3)
layered old a1 a2 a3 legend curve cells d d2 e1 e2 e3 e4 e5 e6 f g =
    rw (e6, e5, e4, e3, e2, e1, d, d2, f, g) (simp append_assoc)

-- two numbers between texts
pub two_fields : (old : List ℕ) {t1 t2 t3 : List ℕ} (a1 a2 b : List ℕ) {n1 n2 m1 m2 : ℕ} →
    t1 ≡ old ++ a1 ++ decimal n1 → t2 ≡ t1 ++ a2 ++ decimal n2 → t3 ≡ t2 ++ b → n1 ≡ m1 → n2 ≡ m2 →
    t3 ≡ old ++ (a1 ++ decimal m1 ++ a2 ++ decimal m2 ++ b)
two_fields old a1 a2 b e1 e2 e3 f1 f2 = rw (e3, e2, e1, f1, f2) (simp append_assoc)

-- six pieces between two others
pub six : (old : List ℕ) {t0 t1 t2 t3 t4 t5 t6 t7 : List ℕ} (a p1 p2 p3 p4 p5 p6 b : List ℕ) →
    t0 ≡ old ++ a → t1 ≡ t0 ++ p1 → t2 ≡ t1 ++ p2 → t3 ≡ t2 ++ p3 → t4 ≡ t3 ++ p4 → t5 ≡ t4 ++ p5 → t6 ≡ t5 ++ p6 →
    t7 ≡ t6 ++ b → t7 ≡ old ++ (a ++ p1 ++ p2 ++ p3 ++ p4 ++ p5 ++ p6 ++ b)
six old a p1 p2 p3 p4 p5 p6 b e0 e1 e2 e3 e4 e5 e6 e7 = rw (e7, e6, e5, e4, e3, e2, e1, e0) (simp append_assoc)

-- what comes before the lists of a part, from nothing
pub begun_zoom : {t0 t1 t2 t3 t4 t5 t6 t7 t8 : List ℕ} (b1 b4 a5 b6 b7 a8 : List ℕ) {b2 b3 s2 s3 : List ℕ} →
    t0 ≡ [] → t1 ≡ t0 ++ b1 → t2 ≡ t1 ++ b2 → t3 ≡ t2 ++ b3 → t4 ≡ t3 ++ b4 → t5 ≡ t4 ++ a5 → t6 ≡ t5 ++ b6 →
    t7 ≡ t6 ++ b7 → t8 ≡ t7 ++ a8 → b2 ≡ s2 → b3 ≡ s3 → t8 ≡ b1 ++ s2 ++ s3 ++ b4 ++ a5 ++ b6 ++ b7 ++ a8
begun_zoom b1 b4 a5 b6 b7 a8 e0 e1 e2 e3 e4 e5 e6 e7 e8 f2 f3 =
    rw (e8, e7, e6, e5, e4, e3, e2, e1, e0, f2, f3) (simp append_assoc)

-- all that is drawn of a list in a part
pub zoomed_list : (old : List ℕ) {t1 t2 t3 t4 t5 t6 t7 : List ℕ} (a1 a2 b3 : List ℕ) (pieces : List ℕ → List ℕ)
    (a5 : List ℕ) (legend : ℕ → List ℕ) (a7 : List ℕ) {n m k h : ℕ} {list want : List ℕ} → list ≡ want →
    t1 ≡ old ++ a1 ++ decimal n → t2 ≡ t1 ++ a2 → t3 ≡ t2 ++ b3 → t4 ≡ t3 ++ pieces list → t5 ≡ t4 ++ a5 →
    t6 ≡ t5 ++ legend k → t7 ≡ t6 ++ a7 → n ≡ m → k ≡ h →
    t7 ≡ old ++ (a1 ++ decimal m ++ a2 ++ b3 ++ pieces want ++ a5 ++ legend h ++ a7)
zoomed_list old a1 a2 b3 pieces a5 legend a7 d e1 e2 e3 e4 e5 e6 e7 f g =
    rw (e7, e6, e5, e4, e3, e2, e1, d, f, g) (simp append_assoc)
