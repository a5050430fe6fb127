-- Words that name cells, one after another.
use Rattle.std.proofs.Common.{◌≡◌, ℕ, suc, ◌+◌, ◌-◌, ◌<◌, ◌≤◌, List, [], ◌∷◌, ◌++◌, length, take}
use Rattle.std.proofs.Common.{drop, refl, sym}
use Rattle.std.proofs.Common.{ap, ◌∙◌, subst, arith}
use Rattle.std.proofs.Common.{append_assoc, length-append, drop-cons, add-one, get_or}
use Rattle.std.proofs.Math.ListN.{set}
use Rattle.std.proofs.Math.Seq.{set-append_seam}
use Rattle.std.proofs.lemmas.List.{length-drop}
use Rattle.std.specs.List.{AllZip}
use Rattle.s2cell.specs.Words.{NamesCell}
use Rattle.s2union_c.specs.Texts.{AreNames, IsFirstNameless, words_of_text}
use Rattle.s2union_c.specs.Working.Texts.{IsFilled, IsNextWord}

-- the words up to the place `at` name these cells, `count` of them
pub record Naming (text : List ℕ) (at count : ℕ) (ids : List ℕ) : Type 0 where
  pub within : at ≤ length text
  pub few : count ≤ at
  pub done : List (List ℕ)
  pub all : done ++ words_of_text (drop at text) ≡ words_of_text text
  pub named : AllZip NamesCell done ids
  pub count_is : length ids ≡ count

abbrev pub word_at : List ℕ → ℕ → ℕ → List ℕ
word_at text start end = take (end - start) (drop start text)

zip_push : (ws : List (List ℕ)) (ids : List ℕ) (w : List ℕ) (id : ℕ) → AllZip NamesCell ws ids → NamesCell w id
    → AllZip NamesCell (ws ++ w ∷ []) (ids ++ id ∷ [])
zip_push [] [] w id z n = (n, tt)
zip_push [] (i ∷ ids) w id z n = absurd z
zip_push (v ∷ ws) [] w id z n = absurd z
zip_push (v ∷ ws) (i ∷ ids) w id z n = (z.0, zip_push ws ids w id z.1 n)

pub zip_length : (ws : List (List ℕ)) (ids : List ℕ) → AllZip NamesCell ws ids → length ws ≡ length ids
zip_length [] [] z = refl
zip_length [] (i ∷ ids) z = absurd z
zip_length (v ∷ ws) [] z = absurd z
zip_length (v ∷ ws) (i ∷ ids) z = ap suc (zip_length ws ids z.1)

zip_names : (ws : List (List ℕ)) (ids : List ℕ) → AllZip NamesCell ws ids → AreNames ws
zip_names [] [] z = tt
zip_names [] (i ∷ ids) z = absurd z
zip_names (v ∷ ws) [] z = absurd z
zip_names (v ∷ ws) (i ∷ ids) z = ((i, z.0), zip_names ws ids z.1)

name_at : (done : List (List ℕ)) (w : List ℕ) (later : List (List ℕ)) (ids : List ℕ) →
    AllZip NamesCell (done ++ w ∷ later) ids
    → (id : ℕ) × NamesCell w id
name_at [] w later [] z = absurd z
name_at [] w later (i ∷ ids) z = (i, z.0)
name_at (v ∷ done) w later [] z = absurd z
name_at (v ∷ done) w later (i ∷ ids) z = name_at done w later ids z.1

pub naming_start : (text : List ℕ) → Naming text 0 0 []
naming_start text = record {
  within = omega arith;
  few = omega arith;
  done = [];
  all = refl;
  named = tt;
  count_is = refl;
}

-- the words before the next one, it, and those after it
pub words_there : (text : List ℕ) (at count : ℕ) (ids : List ℕ) (start end : ℕ) → (n : Naming text at count ids)
    → IsNextWord text at start end
    → n.done ++ word_at text start end ∷ words_of_text (drop end text) ≡ words_of_text text
words_there text at count ids start end n w = ap (λ ws. n.done ++ ws) (sym w.first ∙ w.same) ∙ n.all

pub naming_more : (text : List ℕ) (at count : ℕ) (ids : List ℕ) (start end id : ℕ) → Naming text at count ids →
    IsNextWord text at start end
    → NamesCell (word_at text start end) id → Naming text end (count + 1) (ids ++ id ∷ [])
naming_more text at count ids start end id n w names =
    let within = n.within in
    let few = n.few in
    let order = w.order in
    let some = w.some in
    let c = n.count_is in
    let len = length-append ids (id ∷ []) in
    record {
      within = w.within;
      few = omega arith;
      done = n.done ++ word_at text start end ∷ [];
      all = append_assoc n.done (word_at text start end ∷ []) (words_of_text (drop end text))
          ∙ words_there text at count ids start end n w;
      named = zip_push n.done ids (word_at text start end) id n.named names;
      count_is = omega arith;
    }

pub nameless_at : (text : List ℕ) (at count : ℕ) (ids : List ℕ) (start end : ℕ) → Naming text at count ids →
    IsNextWord text at start end
    → ((id : ℕ) → NamesCell (word_at text start end) id → ⊥) → IsFirstNameless text start
nameless_at text at count ids start end n w none =
    let some = w.some in
    let within = w.within in
    record {
      earlier = n.done;
      word = word_at text start end;
      later = words_of_text (drop end text);
      words_are = sym (words_there text at count ids start end n w);
      named = zip_names n.done ids n.named;
      nameless = none;
      within = omega arith;
      begins = w.begins;
      there = w.first;
    }

-- where all words name cells, the next one does, and there is room for its cell
pub name_there : (text : List ℕ) (at count : ℕ) (ids : List ℕ) (start end : ℕ) (all : List ℕ) → Naming text at count ids
    → IsNextWord text at start end → AllZip NamesCell (words_of_text text) all
    → (id : ℕ) × NamesCell (word_at text start end) id
name_there text at count ids start end all n w zip =
    name_at n.done (word_at text start end) (words_of_text (drop end text)) all
    (subst (λ ws. AllZip NamesCell ws all) (sym (words_there text at count ids start end n w)) zip)

pub room_there : (text : List ℕ) (at count : ℕ) (ids : List ℕ) (start end : ℕ) (all : List ℕ) → Naming text at count ids
    → IsNextWord text at start end → AllZip NamesCell (words_of_text text) all → count < length all
room_there text at count ids start end all n w zip =
    let one = zip_length (words_of_text text) all zip in
    let two = zip_length n.done ids n.named in
    let c = n.count_is in
    let is : length (n.done ++ word_at text start end ∷ words_of_text (drop end text)) ≡ length (words_of_text text) =
    ap length (words_there text at count ids start end n w) in
    let len = length-append n.done (word_at text start end ∷ words_of_text (drop end text)) in
    omega arith

pub same_count : (ws : List (List ℕ)) (a b : List ℕ) → AllZip NamesCell ws a → AllZip NamesCell ws b
    → length a ≡ length b
same_count ws a b x y = sym (zip_length ws a x) ∙ zip_length ws b y

-- one more number after the front
pub filled_more : (old new front : List ℕ) (k id : ℕ) → length front ≡ k → k < length old → IsFilled old new front
    → IsFilled old (set new k id) (front ++ id ∷ [])
filled_more old new front k id e h f =
    let d : drop k old ≡ get_or old k 0 ∷ drop (k + 1) old = rw (add-one, drop-cons old k 0) in
    let seam : set (front ++ get_or old k 0 ∷ drop (k + 1) old) (length front) id ≡ front ++ id ∷ drop (k + 1) old =
    set-append_seam front (get_or old k 0) (drop (k + 1) old) id in
    let len : length (front ++ id ∷ []) ≡ k + 1 = (let l = length-append front (id ∷ []) in omega arith) in
    let assoc : (front ++ id ∷ []) ++ drop (k + 1) old ≡ front ++ (id ∷ [] ++ drop (k + 1) old) =
    append_assoc front (id ∷ []) (drop (k + 1) old) in
    cc

pub filled_length : (old new front : List ℕ) → length front ≤ length old → IsFilled old new front →
    length new ≡ length old
filled_length old new front h f =
    let len = length-append front (drop (length front) old) in
    let rest : length (drop (length front) old) ≡ length old - length front = length-drop (length front) old in
    let is : length new ≡ length (front ++ drop (length front) old) = ap length f in
    omega arith
