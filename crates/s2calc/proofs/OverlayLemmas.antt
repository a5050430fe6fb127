-- Lemmas on reading several files, and on pictures of them.
use Rattle.std.proofs.Common.{◌≡◌, ℕ, suc, ◌+◌, Bool, List, [], ◌∷◌, ◌++◌, length, refl, sym, ◌∙◌, ap, arith}
use Rattle.std.proofs.Common.{append_assoc, append-nil, map, subst, inl, inr, Err, ◌⊎◌, ◌<◌, take, drop, get_or}
use Rattle.std.proofs.Common.{take-append-drop}
use Rattle.std.proofs.lemmas.List.{length-map, map-append, drop_more}
use Rattle.s2shelf.specs.Shelf.{Files}
use Rattle.s2draw.specs.Overlay.{Layer, layer, layers_from, overlay_head, overlay_foot, overlay}
use Rattle.s2calc.specs.declared.refusal.Refusal.{Refusal}
use Rattle.s2calc.specs.declared.refusal.Refusal.TheVariants.{Memory}
use Rattle.s2calc.specs.Fetch.{FetchesUnion}
use Rattle.s2calc.specs.Overlay.{ReadsCells, ReadsLayers, RefusesFiles}

-- a list, cut round one of its elements
pub cut_round : {A : Type 0} → (xs : List A) (i : ℕ) (x : A) → i < length xs → x ≡ get_or xs i x →
    take i xs ++ (x ∷ drop (i + 1) xs) ≡ xs
cut_round xs i x h e = ap (λ y. take i xs ++ (y ∷ drop (i + 1) xs)) e
    ∙ ap (λ s. take i xs ++ s) (sym (drop_more xs i x h)) ∙ take-append-drop i xs

-- one more file
pub one_more_read : (names : List (List ℕ)) (old between new : Files) (ls : List Layer) (name cells : List ℕ) →
    ReadsLayers names old ls between → ReadsCells name between cells new →
    ReadsLayers (names ++ name ∷ []) old (ls ++ record { name = name; cells = cells } ∷ []) new
one_more_read [] old between new [] name cells r h = (new, refl, subst (λ f. ReadsCells name f cells new) r h, refl)
one_more_read [] old between new (l ∷ ls) name cells r h = absurd r
one_more_read (n ∷ names) old between new [] name cells r h = absurd r
one_more_read (n ∷ names) old between new (l ∷ ls) name cells (mid, e, first, rest) h =
    (mid, e, first, one_more_read names mid between new ls name cells rest h)

-- as many layers as files
pub as_many : (names : List (List ℕ)) (old new : Files) (ls : List Layer) → ReadsLayers names old ls new →
    length ls ≡ length names
as_many [] old new [] r = refl
as_many [] old new (l ∷ ls) r = absurd r
as_many (n ∷ names) old new [] r = absurd r
as_many (n ∷ names) old new (l ∷ ls) (mid, e, first, rest) = ap suc (as_many names mid new ls rest)

-- one more layer, over those that are there
pub one_more_layer : (curve : Bool) (k : ℕ) (ls : List Layer) (l : Layer) →
    layers_from curve k (ls ++ l ∷ []) ≡ layers_from curve k ls ++ layer curve (k + length ls) l
one_more_layer curve k [] l =
    let e : k ≡ k + 0 = omega arith in append-nil (layer curve k l) ∙ ap (λ n. layer curve n l) e
one_more_layer curve k (m ∷ ls) l =
    let e : k + 1 + length ls ≡ k + suc (length ls) = omega arith in
    ap (λ t. layer curve k m ++ t) (one_more_layer curve (k + 1) ls l)
    ∙ sym (append_assoc (layer curve k m) (layers_from curve (k + 1) ls) (layer curve (k + 1 + length ls) l))
    ∙ ap (λ n. (layer curve k m ++ layers_from curve (k + 1) ls) ++ layer curve n l) e

-- the files under these names were read, and the text is a picture's beginning with them
abbrev pub InPicture : {A : Type 0} → (A → List ℕ) → List A → Files → Bool → List ℕ → List ℕ → Files → Type 0
InPicture f names old curve start text new =
    (layers : List Layer) × ReadsLayers (map f names) old layers new × (text ≡ start ++ layers_from curve 0 layers)

-- one more file in the picture
pub grow : {A : Type 0} (f : A → List ℕ) (names : List A) (x : A) (k : ℕ) (old between new : Files) (curve : Bool)
    (start t u name cells : List ℕ) → InPicture f names old curve start t between → ReadsCells name between cells new →
    name ≡ f x → k ≡ length names → u ≡ t ++ layer curve k (record { name = name; cells = cells }) →
    InPicture f (names ++ x ∷ []) old curve start u new
grow f names x k old between new curve start t u name cells (layers, reads, text) read e h added =
    let l : Layer = record { name = name; cells = cells } in
    let many : length layers ≡ length names = as_many (map f names) old between layers reads ∙ length-map names f in
    let place : k ≡ 0 + length layers = omega (arith, many, h) in
    let named : map f names ++ name ∷ [] ≡ map f (names ++ x ∷ []) = ap (λ z. map f names ++ z ∷ []) e
    ∙ sym (map-append f names (x ∷ [])) in
    let more = one_more_read (map f names) old between new layers name cells reads read in (
      layers ++ l ∷ [],
      subst (λ ns. ReadsLayers ns old (layers ++ l ∷ []) new) named more,
      added ∙ ap (λ z. z ++ layer curve k l) text
          ∙ append_assoc start (layers_from curve 0 layers) (layer curve k l)
          ∙ ap (λ n. start ++ (layers_from curve 0 layers ++ layer curve n l)) place
          ∙ ap (λ z. start ++ z) (sym (one_more_layer curve 0 layers l)),
    )

-- what is known if one of the files is not in the picture, after those before it
pub refused_at : {A : Type 0} (f : A → List ℕ) (all before after : List A) (x : A) (old between new : Files)
    (curve : Bool) (start t name : List ℕ) (refusal : Refusal) → InPicture f before old curve start t between →
    all ≡ before ++ x ∷ after → name ≡ f x →
    FetchesUnion name between (Err refusal) new ⊎ ((cells : List ℕ) × ReadsCells name between cells new
    × (refusal ≡ Memory)) → RefusesFiles (map f all) old refusal new
refused_at f all before after x old between new curve start t name refusal (layers, reads, text) e named (inl fails) =
    inl (record {
      before = map f before;
      name = name;
      after = map f after;
      names_are = ap (map f) e ∙ map-append f before (x ∷ after)
          ∙ ap (λ z. map f before ++ z ∷ map f after) (sym named);
      layers = layers;
      between = between;
      reads = reads;
      refuses = fails;
    })
refused_at f all before after x old between new curve start t name refusal (layers, reads, text) e named
    (inr (cells, read, memory)) =
    inr (record {
      before = map f before ++ name ∷ [];
      after = map f after;
      names_are = ap (map f) e ∙ map-append f before (x ∷ after)
          ∙ ap (λ z. map f before ++ z ∷ map f after) (sym named)
          ∙ sym (append_assoc (map f before) (name ∷ []) (map f after));
      layers = layers ++ record { name = name; cells = cells } ∷ [];
      reads = one_more_read (map f before) old between new layers name cells reads read;
      memory = memory;
    })

-- there was no memory before any file was asked for
pub stopped_first : (names : List (List ℕ)) (old : Files) → RefusesFiles names old Memory old
stopped_first names old = inr (record {
  before = [];
  after = names;
  names_are = refl;
  layers = [];
  reads = refl;
  memory = refl;
})

-- there was no memory after all files were read
pub stopped_last : {A : Type 0} (f : A → List ℕ) (names : List A) (old new : Files) (curve : Bool) (start t : List ℕ) →
    InPicture f names old curve start t new → RefusesFiles (map f names) old Memory new
stopped_last f names old new curve start t (layers, reads, text) = inr (record {
  before = map f names;
  after = [];
  names_are = sym (append-nil (map f names));
  layers = layers;
  reads = reads;
  memory = refl;
})

-- the picture, once all files are in it
pub finished : {A : Type 0} (f : A → List ℕ) (names : List A) (old new : Files) (curve : Bool) (t u : List ℕ) →
    InPicture f names old curve (overlay_head (length names)) t new → u ≡ t ++ overlay_foot →
    (layers : List Layer) × ReadsLayers (map f names) old layers new × (u ≡ overlay curve layers)
unfolding overlay
finished f names old new curve t u (layers, reads, text) e =
    let many : length layers ≡ length names = as_many (map f names) old new layers reads ∙ length-map names f in (
      layers,
      reads,
      e ∙ ap (λ z. z ++ overlay_foot) text
          ∙ ap (λ n. overlay_head n ++ layers_from curve 0 layers ++ overlay_foot) (sym many),
    )
