-- Two runs that find the same in files take one course.
use Rattle.std.proofs.Common.{◌≡◌, ℕ, ◌⊎◌, inl, inr, List, [], ◌∷◌, ◌++◌, length, Option, None, Some, refl, sym, ap}
use Rattle.std.proofs.Common.{◌∙◌, subst, append_assoc}
use Rattle.std.specs.Prelude.{option_map}
use Rattle.std.proofs.lemmas.List.{length-map, map-append}
use Rattle.std.proofs.lemmas.Option.{same_Some}
use Rattle.s2shelf.specs.Shelf.{Files, Finding, NoFile, Opened, Holding, Beginning, Written, Failed, Found, Allows}
use Rattle.s2shelf.specs.Shelf.{MayFind}
use Rattle.s2script.specs.declared.command.Parsed.{Parsed}
use Rattle.s2calc.specs.World.{World}
use Rattle.s2calc.specs.Replies.{Reply}
use Rattle.s2calc.specs.Step.{StepBy}
use Rattle.s2calc.specs.Run.{Steps}
use Rattle.s2calc.specs.Laws.{IsPlain, AllPlain}
use Rattle.s2calc.specs.LawsFound.{Held, MayComeOf, FoundIn, Asked, stored_by, asked_of, asked_by, Course, Begins}
use Rattle.s2calc.proofs.FetchLemmas.{OneContent}
use Rattle.s2calc.proofs.OneRun.{SameUse, one_line, HeldBefore, all_back, Begun, begun_all, same_heads, one_begins}

-- these lines were carried out over a shelf of which nothing had been asked, found what it had to hand over, and led to
-- this; none was answered `error memory` or `error file`
pub record Takes (held : Held) (start now : World) (done : List (List ℕ)) (course : Course) : Type 0 where
  pub steps : Steps start done course.replies now
  pub plain : AllPlain course.replies
  pub unasked : start.files.found ≡ Some []
  pub found_are : now.files.found ≡ Some course.found
  pub from_held : FoundIn held course.found
  pub state_is : now.state ≡ course.state

abbrev entry : List ℕ → Finding → Found
entry name finding = record { name = name; finding = finding }

abbrev asking : List ℕ → Option (List ℕ) → Asked
asking name stored = record { name = name; stored = stored }

-- ---- what was found before

-- what a shelf has listed that finds this too
listed : (one : Found) (a c : Files) (found : List Found) → c.found ≡ option_map (λ (fs : List Found). one ∷ fs) a.found
    → a.found ≡ Some found → c.found ≡ Some (one ∷ found)
listed one a c found asked known = asked ∙ ap (option_map (λ (fs : List Found). one ∷ fs)) known

-- what a shelf has listed so far is the oldest of all that is found in the end
abbrev Reaches : List Found → Files → Type 0
Reaches final files =
    (found : List Found) → files.found ≡ Some found → (newer : List Found) × (final ≡ newer ++ found)

found_back : (final : List Found) (one : Found) (a c : Files) → Reaches final c →
    c.found ≡ option_map (λ (fs : List Found). one ∷ fs) a.found → Reaches final a
found_back final one a c r asked found known =
    let (newer, is) = r (one ∷ found) (listed one a c found asked known) in
    (newer ++ one ∷ [], is ∙ sym (append_assoc newer (one ∷ []) found))

use_back : (final : List Found) (a c : Files) → Reaches final c → SameUse a a c c → Reaches final a
use_back final a c r (inl (f, g)) = subst (λ (h : Files). Reaches final h) f r
use_back final a c r (inr (inl (name, f, g))) = found_back final (entry name f.1.finding) a c r f.1.asks.asked
use_back final a c r (inr (inr (name, bytes, f, g))) = found_back final (entry name (Written bytes)) a c r f.found

-- what a shelf lists in one line is one thing
own_content : (a c : Files) (found : List Found) → a.found ≡ Some found → (name : List ℕ) → OneContent a a c c name
own_content a c found known name x y f g =
    let one = entry name f.finding in
    let other = entry name g.finding in
    let same : one ∷ found ≡ other ∷ found = same_Some (one ∷ found) (other ∷ found)
    (sym (listed one a c found f.asks.asked known) ∙ listed other a c found g.asks.asked known) in
    (x, f.allows, subst (λ (h : Found). Allows h.finding x) (same_heads one other found found same).0 f.allows)

back : (final : List Found) → HeldBefore (λ w. Reaches final w.files)
back final parsed a c x s p r found known = use_back final a.files c.files r
    (one_line a a c c x x refl (own_content a.files c.files found known) p p parsed s s).files found known

-- ---- two runs

-- two worlds with one state, whose shelves were asked the same
record Alike (a b : World) : Type 0 where
  state : a.state ≡ b.state
  mine : List Found
  others : List Found
  mine_are : a.files.found ≡ Some mine
  others_are : b.files.found ≡ Some others
  asked : asked_by mine ≡ asked_by others

turned : (a b : World) → Alike a b → Alike b a
turned a b k = record {
  state = sym k.state;
  mine = k.others;
  others = k.mine;
  mine_are = k.others_are;
  others_are = k.mine_are;
  asked = sym k.asked;
}

not_stored : (f : Finding) (x : Option (List ℕ)) → Allows f x → stored_by f ≡ None
not_stored NoFile x p = refl
not_stored Opened x p = refl
not_stored (Holding bytes) x p = refl
not_stored (Beginning bytes) x p = refl
not_stored (Written bytes) x p = absurd p
not_stored (Failed fault) x p = refl

alike_found : (a b c d : World) → Alike a b → c.state ≡ d.state → (f g : Found) →
    c.files.found ≡ option_map (λ (fs : List Found). f ∷ fs) a.files.found
    → d.files.found ≡ option_map (λ (fs : List Found). g ∷ fs) b.files.found → asked_of f ≡ asked_of g → Alike c d
alike_found a b c d k e f g m n same = record {
  state = e;
  mine = f ∷ k.mine;
  others = g ∷ k.others;
  mine_are = m ∙ ap (option_map (λ (fs : List Found). f ∷ fs)) k.mine_are;
  others_are = n ∙ ap (option_map (λ (fs : List Found). g ∷ fs)) k.others_are;
  asked = ap (λ (one : Asked). one ∷ asked_by k.mine) same ∙ ap (λ (all : List Asked). asked_of g ∷ all) k.asked;
}

alike_after : (a b c d : World) → Alike a b → c.state ≡ d.state → SameUse a.files b.files c.files d.files → Alike c d
alike_after a b c d k e (inl (f, g)) = record {
  state = e;
  mine = k.mine;
  others = k.others;
  mine_are = ap (λ (h : Files). h.found) f ∙ k.mine_are;
  others_are = ap (λ (h : Files). h.found) g ∙ k.others_are;
  asked = k.asked;
}
alike_after a b c d k e (inr (inl (name, f, g))) =
    alike_found a b c d k e (entry name f.1.finding) (entry name g.1.finding) f.1.asks.asked g.1.asks.asked
    (ap (asking name) (not_stored f.1.finding f.0 f.1.allows ∙ sym (not_stored g.1.finding g.0 g.1.allows)))
alike_after a b c d k e (inr (inr (name, bytes, f, g))) =
    alike_found a b c d k e (entry name (Written bytes)) (entry name (Written bytes)) f.found g.found refl

later_in : (held : Held) (newer found : List Found) → FoundIn held (newer ++ found) → FoundIn held found
later_in held [] found h = h
later_in held (one ∷ newer) found h = later_in held newer found h.1

allowed : (f : Finding) (x content : Option (List ℕ)) → Allows f x → MayComeOf f content → Allows f content
allowed NoFile x content p q = q
allowed Opened x content p q = absurd p
allowed (Holding bytes) x content p q = q
allowed (Beginning bytes) x content p q = q
allowed (Written bytes) x content p q = absurd p
allowed (Failed fault) x content p q = absurd p

-- what was found comes of what the shelf had to hand over
comes_of : (held : Held) (final : List Found) → FoundIn held final → (a c : Files) (name : List ℕ)
    (x : Option (List ℕ)) (before : List Found) → Reaches final c → a.found ≡ Some before
    → (f : MayFind a name x c) → Allows f.finding (held (length before) name)
comes_of held final h a c name x before r known f =
    let all = entry name f.finding ∷ before in
    let (newer, is) = r all (listed (entry name f.finding) a c before f.asks.asked known) in
    let here : FoundIn held all = later_in held newer all (subst (λ (fs : List Found). FoundIn held fs) is h) in
    allowed f.finding x (held (length before) name) f.allows here.0

module _ (held : Held) (final final' : List Found) (h : FoundIn held final) (h' : FoundIn held final') where
  held_content : (a b c d : World) → Alike a b → Reaches final c.files → Reaches final' d.files → (name : List ℕ) →
      OneContent a.files b.files c.files d.files name
  held_content a b c d k r r' name x y f g =
      let many : length k.mine ≡ length k.others =
      sym (length-map k.mine asked_of) ∙ ap length k.asked ∙ length-map k.others asked_of in (
        held (length k.others) name,
        subst (λ n. Allows f.finding (held n name)) many
            (comes_of held final h a.files c.files name x k.mine r k.mine_are f),
        comes_of held final' h' b.files d.files name y k.others r' k.others_are g,
      )

  goes_on : (parsed : Parsed) (a b c d : World) (x y : Reply) → Alike a b → Reaches final c.files →
      Reaches final' d.files → StepBy parsed a x c → StepBy parsed b y d → IsPlain x → IsPlain y → (x ≡ y) × Alike c d
  goes_on parsed a b c d x y k r r' l m p q =
      let one = one_line a b c d x y k.state (held_content a b c d k r r') p q parsed l m in
      (one.reply, alike_after a b c d k one.state one.files)

-- ---- whole runs

plain_after : (rs more : List Reply) → AllPlain (rs ++ more) → AllPlain more
plain_after [] more p = p
plain_after (x ∷ rs) more p = plain_after rs more p.1

at_end : (final : List Found) (files : Files) → files.found ≡ Some final → Reaches final files
at_end final files is found known = ([], same_Some final found (sym is ∙ known))

-- where a run has this beginning, the course of the one is the beginning of the other's
is_beginning : (held : Held) (a b c d : World) (ls ms : List (List ℕ)) (one other : Course) → Takes held a c ls one →
    Takes held b d ms other
    → (Holds : World → Type 0) (alike : (mid : World) → Holds mid → Alike c mid)
    → Begun Holds d one.replies other.replies → Begins one other
is_beginning held a b c d ls ms one other l m Holds alike h =
    let k = alike h.mid h.holds in
    let (newer, is) = all_back (λ w. Reaches other.found w.files) (back other.found) h.mid d h.lines h.later h.goes_on
    (plain_after one.replies h.later (subst (λ (rs : List Reply). AllPlain rs) h.are m.plain))
    (at_end other.found d.files m.found_are) k.others k.others_are in
    let mine : k.mine ≡ one.found = same_Some k.mine one.found (sym k.mine_are ∙ l.found_are) in
    record {
      later = h.later;
      replies = h.are;
      newer = asked_by newer;
      asked = ap asked_by is ∙ map-append asked_of newer k.others
          ∙ ap (λ (all : List Asked). asked_by newer ++ all) (sym k.asked ∙ ap asked_by mine);
      same = λ none.
          let all = alike d (begun_all Holds d one.replies other.replies h none).1 in (
            ap asked_by (same_Some one.found all.mine (sym l.found_are ∙ all.mine_are)) ∙ all.asked
                ∙ ap asked_by (same_Some all.others other.found (sym all.others_are ∙ m.found_are)),
            sym l.state_is ∙ all.state ∙ m.state_is,
          );
    }

-- the lines of one script, from one state, over shelves that had the same to hand over
pub one_course : (held : Held) (a b c d : World) (ls ms xs ys : List (List ℕ)) (one other : Course) →
    Takes held a c ls one → Takes held b d ms other → a.state ≡ b.state → ls ++ xs ≡ ms ++ ys
    → Begins one other ⊎ Begins other one
one_course held a b c d ls ms xs ys one other l m s e =
    let alike : Alike a b = record {
      state = s;
      mine = [];
      others = [];
      mine_are = l.unasked;
      others_are = m.unasked;
      asked = refl;
    } in
    elim (one_begins Alike (λ w. Reaches one.found w.files) (λ w. Reaches other.found w.files) (back one.found)
    (back other.found) (goes_on held one.found other.found l.from_held m.from_held) a b c d ls ms xs ys one.replies
    other.replies alike (at_end one.found c.files l.found_are) (at_end other.found d.files m.found_are) e l.steps
    m.steps l.plain m.plain) [
      | inl h ↦ inl (is_beginning held a b c d ls ms one other l m (λ mid. Alike c mid) (λ mid k. k) h)
      | inr h ↦ inr (is_beginning held b a d c ms ls other one m l (λ mid. Alike mid d) (λ mid k. turned mid d k) h)
    ]
