-- Lemmas on pictures of the part in which the unions of files lie.
use Rattle.std.proofs.Common.{◌≡◌, ℕ, suc, ◌+◌, List, [], ◌∷◌, ◌++◌, length, refl, sym, ◌∙◌, ap, arith}
use Rattle.std.proofs.Common.{append_assoc, append-nil, map, take, inl, inr, Err, ◌⊎◌}
use Rattle.std.proofs.lemmas.List.{map-append}
use Rattle.s2shelf.specs.Shelf.{Files}
use Rattle.s2draw.specs.declared.zoom.Part.{Part}
use Rattle.s2draw.specs.Overlay.{Layer}
use Rattle.s2draw.specs.Zoom.{zoom_layer, zoom_layers_from, zoom_head, zoom_foot, zoomed, part_around, bounds_from}
use Rattle.s2draw.specs.Zoom.{nowhere}
use Rattle.s2calc.specs.declared.refusal.Refusal.{Refusal}
use Rattle.s2calc.specs.declared.refusal.Refusal.TheVariants.{Memory}
use Rattle.s2calc.specs.Fetch.{FetchesUnion}
use Rattle.s2calc.specs.Overlay.{ReadsCells, ReadsLayers, RefusesFiles}
use Rattle.s2calc.proofs.OverlayLemmas.{one_more_read}

-- one more list, over those that are there
pub one_more_zoomed : (p : Part) (k : ℕ) (ls : List Layer) (l : Layer) →
    zoom_layers_from p k (ls ++ l ∷ []) ≡ zoom_layers_from p k ls ++ zoom_layer p (k + length ls) l
one_more_zoomed p k [] l =
    let e : k ≡ k + 0 = omega arith in append-nil (zoom_layer p k l) ∙ ap (λ n. zoom_layer p n l) e
one_more_zoomed p k (m ∷ ls) l =
    let e : k + 1 + length ls ≡ k + suc (length ls) = omega arith in
    ap (λ t. zoom_layer p k m ++ t) (one_more_zoomed p (k + 1) ls l)
    ∙ sym (append_assoc (zoom_layer p k m) (zoom_layers_from p (k + 1) ls) (zoom_layer p (k + 1 + length ls) l))
    ∙ ap (λ n. (zoom_layer p k m ++ zoom_layers_from p (k + 1) ls) ++ zoom_layer p n l) e

-- one more file among those that were read
pub read_more : {A : Type 0} (f : A → List ℕ) (names : List A) (x : A) (old between new : Files) (ls more : List Layer)
    (name cells : List ℕ) → ReadsLayers (map f names) old ls between → ReadsCells name between cells new → name ≡ f x →
    more ≡ ls ++ record { name = name; cells = cells } ∷ [] → ReadsLayers (map f (names ++ x ∷ [])) old more new
read_more f names x old between new ls more name cells reads read e m =
    let named : map f names ++ name ∷ [] ≡ map f (names ++ x ∷ []) = ap (λ z. map f names ++ z ∷ []) e
    ∙ sym (map-append f names (x ∷ [])) in
    rw (sym named, m) (one_more_read (map f names) old between new ls name cells reads read)

-- what is known if one of the files was not read, after those before it
pub not_read : {A : Type 0} (f : A → List ℕ) (all before after : List A) (x : A) (old between new : Files)
    (ls : List Layer) (name : List ℕ) (refusal : Refusal) → ReadsLayers (map f before) old ls between →
    all ≡ before ++ x ∷ after → name ≡ f x →
    FetchesUnion name between (Err refusal) new ⊎ ((cells : List ℕ) × ReadsCells name between cells new
    × (refusal ≡ Memory)) → RefusesFiles (map f all) old refusal new
not_read f all before after x old between new ls name refusal reads e named (inl fails) =
    inl (record {
      before = map f before;
      name = name;
      after = map f after;
      names_are = ap (map f) e ∙ map-append f before (x ∷ after)
          ∙ ap (λ z. map f before ++ z ∷ map f after) (sym named);
      layers = ls;
      between = between;
      reads = reads;
      refuses = fails;
    })
not_read f all before after x old between new ls name refusal reads e named (inr (cells, read, memory)) =
    inr (record {
      before = map f before ++ name ∷ [];
      after = map f after;
      names_are = ap (map f) e ∙ map-append f before (x ∷ after)
          ∙ ap (λ z. map f before ++ z ∷ map f after) (sym named)
          ∙ sym (append_assoc (map f before) (name ∷ []) (map f after));
      layers = ls ++ record { name = name; cells = cells } ∷ [];
      reads = one_more_read (map f before) old between new ls name cells reads read;
      memory = memory;
    })

-- there was no memory after all files were read
pub not_drawn : (names : List (List ℕ)) (old new : Files) (ls : List Layer) → ReadsLayers names old ls new →
    RefusesFiles names old Memory new
not_drawn names old new ls reads = inr (record {
  before = names;
  after = [];
  names_are = sym (append-nil names);
  layers = ls;
  reads = reads;
  memory = refl;
})

-- one more list in the picture
pub grown_picture : (p : Part) (list : List Layer) (i k : ℕ) (l : Layer) (start : List ℕ) {t u name cells : List ℕ} →
    t ≡ start ++ zoom_layers_from p 0 (take i list) →
    u ≡ t ++ zoom_layer p k (record { name = name; cells = cells }) → take (i + 1) list ≡ take i list ++ l ∷ [] →
    length (take i list) ≡ k → name ≡ l.name → cells ≡ l.cells → u ≡ start ++ zoom_layers_from p 0 (take (i + 1) list)
grown_picture p list i k l start e g more many n c =
    let place : 0 + length (take i list) ≡ k = omega (arith, many) in
    rw (g, e, n, c, more, one_more_zoomed p 0 (take i list) l, place)
    (append_assoc start (zoom_layers_from p 0 (take i list)) (zoom_layer p k l))

-- all of a picture, between its head and its foot
pub all_zoomed : (ls : List Layer) (p : Part) (n : ℕ) {t0 t1 t2 : List ℕ} → t0 ≡ zoom_head p n →
    t1 ≡ t0 ++ zoom_layers_from p 0 ls → t2 ≡ t1 ++ zoom_foot → p ≡ part_around (bounds_from nowhere ls) →
    n ≡ length ls → t2 ≡ zoomed ls
unfolding zoomed
all_zoomed ls p n e0 e1 e2 ep en =
    e2 ∙ ap (λ z. z ++ zoom_foot) (e1 ∙ ap (λ z. z ++ zoom_layers_from p 0 ls) e0)
    ∙ ap (λ m. zoom_head p m ++ zoom_layers_from p 0 ls ++ zoom_foot) en
    ∙ ap (λ q. zoom_head q (length ls) ++ zoom_layers_from q 0 ls ++ zoom_foot) ep
