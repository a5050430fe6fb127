-- What is fetched from two shelves, where some content is allowed by what both found.
use Rattle.std.proofs.Common.{◌≡◌, ◌≢◌, ℕ, ◌<◌, ◌⊎◌, inl, inr, Bool, true, false, List, ◌++◌, length, take}
use Rattle.std.proofs.Common.{Option, None, Some, Ok, Err, refl, sym, ap, ◌∙◌, subst, arith}
use Rattle.std.specs.Prelude.{◌==◌, if◌then◌else◌}
use Rattle.std.proofs.Math.Seq.{take-append_seam}
use Rattle.std.proofs.lemmas.Bool.Decides.{Decides-eqb}
use Rattle.std.proofs.lemmas.Option.{same_Some, none-some}
use Rattle.s2file.specs.declared.union_file.TheConstants.{MOST_SIZE}
use Rattle.s2file.specs.File.{File, HasFault}
use Rattle.s2file.proofs.Beginnings.{longest, fault_begins}
use Rattle.s2file.proofs.Files.{same_leaves, no_fault}
use Rattle.s2shelf.specs.Shelf.{Files, Finding, NoFile, Opened, Holding, Beginning, Written, Failed, Allows, MayFind}
use Rattle.s2shelf.specs.Shelf.{Asks, Finds, FindsBeginning, finding_begun}
use Rattle.s2shelf.proofs.Begun.{some_begun, whole, begun_allows}
use Rattle.s2calc.specs.declared.refusal.Refusal.{Refusal}
use Rattle.s2calc.specs.declared.refusal.Refusal.TheVariants.{File as FileFailed, Memory}
use Rattle.s2calc.specs.Fetch.{Fetches, Reads, FetchesUnion}

-- some content is allowed by both findings, whatever two shelves found under a name
abbrev pub OneContent : Files → Files → Files → Files → List ℕ → Type 0
OneContent a b c d name = (x y : Option (List ℕ)) (f : MayFind a name x c) (g : MayFind b name y d)
    → (content : Option (List ℕ)) × Allows f.finding content × Allows g.finding content

pub turned : (a b c d : Files) (name : List ℕ) → OneContent a b c d name → OneContent b a d c name
turned a b c d name one x y f g = let (content, p, q) = one y x g f in (content, q, p)

-- a shelf was asked for that name, once; no file changes
abbrev pub AskedFor : Files → List ℕ → Files → Type 0
AskedFor old name new = (content : Option (List ℕ)) × MayFind old name content new

abbrev pub found_bytes : (a c : Files) (name bytes : List ℕ) → Finds a name (Some bytes) c →
    MayFind a name (Some bytes) c
found_bytes a c name bytes f = record { finding = Holding bytes; allows = refl; asks = f }

abbrev found_nothing : (a c : Files) (name : List ℕ) → Finds a name None c → MayFind a name None c
found_nothing a c name f = record { finding = NoFile; allows = refl; asks = f }

-- neither out of memory nor a failed shelf
abbrev pub IsSettled : Refusal → Type 0
IsSettled refusal = (refusal ≢ Memory) × (refusal ≢ FileFailed)

-- ---- beginnings

-- first bytes of which a union is read are the whole file, if more were asked for than a file can have
pub union_found : (old new : Files) (name bytes : List ℕ) (n : ℕ) (S : ℕ → Bool) → MOST_SIZE < n →
    FindsBeginning old name n (Some bytes) new → Reads bytes (Ok S) → FetchesUnion name old (Ok S) new
union_found old new name bytes n S h f r =
    let few = longest bytes S r in
    (bytes, whole old new name n bytes f (λ e. omega (arith, h, few, e)), r)

-- a content is refused as its first bytes are, if these are more than a file can have
refuses_whole : (content bytes : List ℕ) (n : ℕ) (refusal : Refusal) → MOST_SIZE < n → bytes ≡ take n content →
    Reads bytes (Err refusal) → Reads content (Err refusal)
refuses_whole content bytes n refusal h e (inl r) =
    inl (r.0, fault_begins content n r.0 h r.2 (subst (λ b. HasFault b r.0) e r.1), r.2, r.3)
refuses_whole content bytes n refusal h e (inr r) = inr r

-- each content that is allowed by what was found of its first bytes begins with them
begins_so : (n : ℕ) (bytes all : List ℕ) (b : Bool) → (length bytes == n) ≡ b →
    Allows (if b then Beginning bytes else Holding bytes) (Some all) → (all ≡ bytes) ⊎ (bytes ≡ take n all)
begins_so n bytes all true e (more, is) =
    let from : all ≡ bytes ++ more = same_Some all (bytes ++ more) is in
    let many : length bytes ≡ n = (Decides-eqb (length bytes) n).0 e in
    inr (sym (take-append_seam bytes more) ∙ ap (λ (k : ℕ). take k (bytes ++ more)) many ∙ ap (take n) (sym from))
begins_so n bytes all false e is = inl (same_Some all bytes is)

refuses_all : (n : ℕ) (bytes all : List ℕ) (refusal : Refusal) → MOST_SIZE < n → Reads bytes (Err refusal) →
    (all ≡ bytes) ⊎ (bytes ≡ take n all) → Reads all (Err refusal)
refuses_all n bytes all refusal h r (inl e) = subst (λ b. Reads b (Err refusal)) (sym e) r
refuses_all n bytes all refusal h r (inr e) = refuses_whole all bytes n refusal h e r

pub no_union_found : (old new : Files) (name bytes : List ℕ) (n : ℕ) (refusal : Refusal) → MOST_SIZE < n →
    FindsBeginning old name n (Some bytes) new → Reads bytes (Err refusal) → FetchesUnion name old (Err refusal) new
no_union_found old new name bytes n refusal h f r =
    let finding = finding_begun n (Some bytes) in
    let (content, is, begins) = some_begun f.content n bytes f.is in
    let found : MayFind old name (Some content) new =
    record {
      finding = finding;
      allows = subst (λ c. Allows finding c) is (begun_allows f.content n (Some bytes) f.is);
      asks = subst (λ c. Asks old name c finding new) is f.asks;
    } in
    inr (
      content,
      found,
      λ all allows. refuses_all n bytes all refusal h r (begins_so n bytes all (length bytes == n) refl allows),
    )

-- ---- the content

not_none : (f : Finding) (xs : List ℕ) → Allows f (Some xs) → Allows f None → ⊥
not_none NoFile xs p q = none-some xs (sym p)
not_none Opened xs p q = p
not_none (Holding bytes) xs p q = none-some bytes q
not_none (Beginning bytes) xs p q = none-some (bytes ++ q.0) q.1
not_none (Written bytes) xs p q = p
not_none (Failed fault) xs p q = p

pub some_allowed : (f : Finding) (xs : List ℕ) (content : Option (List ℕ)) → Allows f (Some xs) → Allows f content →
    (all : List ℕ) × (content ≡ Some all)
some_allowed f xs None p q = absurd (not_none f xs p q)
some_allowed f xs (Some all) p q = (all, refl)

pub same_bytes : (a b c d : Files) (name xs ys : List ℕ) → OneContent a b c d name → Finds a name (Some xs) c →
    Finds b name (Some ys) d → xs ≡ ys
same_bytes a b c d name xs ys one l m =
    let (content, p, q) = one (Some xs) (Some ys) (found_bytes a c name xs l) (found_bytes b d name ys m) in
    same_Some xs ys (sym p ∙ q)

-- a file that one shelf has the other hands over
pub bytes_or_none : (a b c d : Files) (name xs : List ℕ) (y : Refusal) → OneContent a b c d name →
    MayFind a name (Some xs) c → Fetches name b (Err y) d → IsSettled y → ⊥
bytes_or_none a b c d name xs y one l (inl m) q =
    let (content, p, none) = one (Some xs) None l (found_nothing b d name m.1) in
    not_none l.finding xs l.allows (subst (λ h. Allows l.finding h) none p)
bytes_or_none a b c d name xs y one l (inr (inl m)) q = q.1 m.0
bytes_or_none a b c d name xs y one l (inr (inr m)) q = q.0 m.0

pub same_fetch_refusal : (a b c d : Files) (name : List ℕ) (x y : Refusal) → Fetches name a (Err x) c →
    Fetches name b (Err y) d → IsSettled x → IsSettled y → x ≡ y
same_fetch_refusal a b c d name x y (inl l) (inl m) p q = l.0 ∙ sym m.0
same_fetch_refusal a b c d name x y (inl l) (inr (inl m)) p q = absurd (q.1 m.0)
same_fetch_refusal a b c d name x y (inl l) (inr (inr m)) p q = absurd (q.0 m.0)
same_fetch_refusal a b c d name x y (inr (inl l)) m p q = absurd (p.1 l.0)
same_fetch_refusal a b c d name x y (inr (inr l)) m p q = absurd (p.0 l.0)

-- ---- the union that it stands for

pub read_or_none : (bytes : List ℕ) (S : ℕ → Bool) (y : Refusal) → Reads bytes (Ok S) → Reads bytes (Err y) →
    IsSettled y → ⊥
read_or_none bytes S y l (inl m) q = m.2 (no_fault bytes S m.0 l m.1)
read_or_none bytes S y l (inr m) q = q.0 m

same_read_refusal : (bytes : List ℕ) (x y : Refusal) → Reads bytes (Err x) → Reads bytes (Err y) → IsSettled x →
    IsSettled y → x ≡ y
same_read_refusal bytes x y (inl l) (inl m) p q = l.3 ∙ sym m.3
same_read_refusal bytes x y (inl l) (inr m) p q = absurd (q.0 m)
same_read_refusal bytes x y (inr l) m p q = absurd (p.0 l)

pub same_union : (a b c d : Files) (name : List ℕ) (S T : ℕ → Bool) → OneContent a b c d name →
    FetchesUnion name a (Ok S) c → FetchesUnion name b (Ok T) d → (n : ℕ) → S n ≡ T n
same_union a b c d name S T s l m n =
    let bytes : m.0 ≡ l.0 = sym (same_bytes a b c d name l.0 m.0 s l.1 m.1) in
    same_leaves l.0 S T l.2 (subst (λ xs. File xs T) bytes m.2) n

pub union_or_none : (a b c d : Files) (name : List ℕ) (S : ℕ → Bool) (y : Refusal) → OneContent a b c d name →
    FetchesUnion name a (Ok S) c → FetchesUnion name b (Err y) d → IsSettled y → ⊥
union_or_none a b c d name S y s l (inl m) q =
    bytes_or_none a b c d name l.0 y s (found_bytes a c name l.0 l.1) m q
union_or_none a b c d name S y s l (inr m) q =
    let (content, is, allows) = s (Some l.0) (Some m.0) (found_bytes a c name l.0 l.1) m.1 in
    read_or_none l.0 S y l.2 (m.2 l.0 (subst (λ h. Allows m.1.finding h) is allows)) q

pub same_refusal : (a b c d : Files) (name : List ℕ) (x y : Refusal) → OneContent a b c d name →
    FetchesUnion name a (Err x) c → FetchesUnion name b (Err y) d → IsSettled x → IsSettled y → x ≡ y
same_refusal a b c d name x y s (inl l) (inl m) p q = same_fetch_refusal a b c d name x y l m p q
same_refusal a b c d name x y s (inl l) (inr m) p q =
    absurd (bytes_or_none b a d c name m.0 x (turned a b c d name s) m.1 l p)
same_refusal a b c d name x y s (inr l) (inl m) p q = absurd (bytes_or_none a b c d name l.0 y s l.1 m q)
same_refusal a b c d name x y s (inr l) (inr m) p q =
    let (content, allows, others) = s (Some l.0) (Some m.0) l.1 m.1 in
    let (all, is) = some_allowed l.1.finding l.0 content l.1.allows allows in
    same_read_refusal all x y (l.2 all (subst (λ h. Allows l.1.finding h) is allows))
    (m.2 all (subst (λ h. Allows m.1.finding h) is others)) p q

-- ---- what a fetch asks for

pub fetch_asks : (a c : Files) (name : List ℕ) (x : Refusal) → Fetches name a (Err x) c → IsSettled x →
    AskedFor a name c
fetch_asks a c name x (inl l) p = (None, found_nothing a c name l.1)
fetch_asks a c name x (inr (inl l)) p = absurd (p.1 l.0)
fetch_asks a c name x (inr (inr l)) p = absurd (p.0 l.0)

pub union_asks : (a c : Files) (name : List ℕ) (S : ℕ → Bool) → FetchesUnion name a (Ok S) c → AskedFor a name c
union_asks a c name S l = (Some l.0, found_bytes a c name l.0 l.1)

pub refusal_asks : (a c : Files) (name : List ℕ) (x : Refusal) → FetchesUnion name a (Err x) c → IsSettled x →
    AskedFor a name c
refusal_asks a c name x (inl l) p = fetch_asks a c name x l p
refusal_asks a c name x (inr l) p = (Some l.0, l.1)
