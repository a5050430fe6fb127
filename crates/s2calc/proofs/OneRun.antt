-- If no line runs out of memory or meets a failed shelf, a script has one run.
use Rattle.std.proofs.Common.{◌≡◌, ◌≢◌, ℕ, ◌-◌, ◌^◌, ◌≤◌, ◌⊎◌, inl, inr, Bool, true, false, List, []}
use Rattle.std.proofs.Common.{◌∷◌, ◌++◌, length, refl, sym, ap, ◌∙◌, subst, arith, Some, append-nil, length-append}
use Rattle.std.proofs.lemmas.List.{nil_from_length}
use Rattle.std.proofs.Math.Logic.{⊎_elim}
use Rattle.std.proofs.lemmas.Bool.{false≢true}
use Rattle.std.proofs.lemmas.Option.{same_Some, none-some}
use Rattle.std.proofs.lemmas.Slice.Eq.{bytes_eq-Decides}
use Rattle.std.specs.Str.{bytes_eq}
use Rattle.s2cell.specs.Cell.{IsCell, level_of, first_leaf, size_of}
use Rattle.s2cell.proofs.CellLemmas.{cell_leaves}
use Rattle.s2cell.proofs.Calls.{size_at}
use Rattle.s2cell.proofs.Squares.{one_leaf, one_square}
use Rattle.s2list.specs.Union.{IsNormalForm}
use Rattle.s2list.proofs.Normal.{one_normal_form, normal_form_same}
use Rattle.s2edit.specs.History.{History, Assigned, numbers, undone, redone, sets}
use Rattle.s2session.specs.Session.{Text, Stored}
use Rattle.s2edit.specs.Session.{IsKept, Restored}
use Rattle.s2edit.proofs.OneEnd.{is_there}
use Rattle.s2session.proofs.Spelling.{text_is_stored}
use Rattle.s2shelf.specs.Shelf.{Files, Allows, PutsFile}
use Rattle.s2file.specs.File.{Bytes, file_text}
use Rattle.s2script.specs.declared.command.Question.{Question}
use Rattle.s2script.specs.declared.command.Question.TheVariants.{Cell, At, Square, Show, Count, Has, Touches, Compares}
use Rattle.s2script.specs.declared.command.Question.TheVariants.{Denorm, History as Sides}
use Rattle.s2script.specs.declared.command.Command.{Command}
use Rattle.s2script.specs.declared.command.Command.TheVariants.{Edit, Load, Save, Dump, Restore, Undo, Redo, Ask}
use Rattle.s2script.specs.declared.command.Parsed.{Parsed}
use Rattle.s2script.specs.declared.command.Parsed.TheVariants.{Nothing, Does, Fails}
use Rattle.s2calc.specs.declared.refusal.Refusal.{Refusal}
use Rattle.s2script.specs.Line.{line_of}
use Rattle.s2calc.specs.World.{World}
use Rattle.s2calc.specs.Replies.{Reply, Says, Refuses}
use Rattle.s2calc.specs.Texts.{cell_line, square_line, ok_line, done_line}
use Rattle.s2calc.specs.Questions.{AnswersYesIf, ListsSome, Answers}
use Rattle.s2calc.specs.Edits.{new_set, leaves_of, IsTooLong, Gets, Moves}
use Rattle.s2calc.specs.Sessions.{RefusesBytes, FetchesNoState}
use Rattle.s2calc.specs.Step.{Loads, WritesFile, Dumps, Restores, Acts, Step, StepBy}
use Rattle.s2calc.specs.Run.{Steps}
use Rattle.s2calc.specs.Laws.{SameWorld, IsPlain, AllPlain}
use Rattle.s2calc.proofs.TextLemmas.{one_text_of}
use Rattle.s2calc.proofs.RunLemmas.{Steps-lengths}
use Rattle.s2calc.proofs.SessionLemmas.{one_taken, taken_or_refused, fetched_or_not, one_failure, failure_asks}
use Rattle.s2calc.proofs.FetchLemmas.{OneContent, turned, AskedFor, found_bytes, IsSettled, same_bytes, same_union}
use Rattle.s2calc.proofs.FetchLemmas.{union_or_none, same_refusal, union_asks, refusal_asks}

-- ---- questions

one_tells : (P : Type 0) (x y : Reply) → AnswersYesIf P x → AnswersYesIf P y → x ≡ y
one_tells P x y (inl a) (inl b) = a.1 ∙ sym b.1
one_tells P x y (inl a) (inr b) = absurd (b.0 a.0)
one_tells P x y (inr a) (inl b) = absurd (a.0 b.0)
one_tells P x y (inr a) (inr b) = a.1 ∙ sym b.1

one_list : (cells : List ℕ) (x y : Reply) → ListsSome cells x → ListsSome cells y → x ≡ y
one_list cells x y (inl a) (inl b) = a.1 ∙ sym b.1
one_list cells x y (inl a) (inr b) = absurd (omega (arith, a.0, b.0))
one_list cells x y (inr a) (inl b) = absurd (omega (arith, a.0, b.0))
one_list cells x y (inr a) (inr b) = a.1 ∙ sym b.1

-- a leaf by its number
one_cell_of_leaf : (n m : ℕ) → IsCell n → IsCell m → level_of n ≡ 30 → level_of m ≡ 30 →
    first_leaf n ≡ first_leaf m → n ≡ m
one_cell_of_leaf n m c d k l e =
    let a = cell_leaves n c in
    let b = cell_leaves m d in
    let s : size_of n ≡ 1 = size_at n c ∙ ap (λ h. 4 ^ (30 - h)) k in
    let t : size_of m ≡ 1 = size_at m d ∙ ap (λ h. 4 ^ (30 - h)) l in
    let p = a.middle in
    let q = b.middle in
    omega arith

one_square_line : (f i j s g u v t : ℕ) → f ≡ g → i ≡ u → j ≡ v → s ≡ t → square_line f i j s ≡ square_line g u v t
one_square_line f i j s g u v t e h k l = cc

one_answer : (question : Question) (state : History (List ℕ)) (x y : Reply) → Answers question state x →
    Answers question state y → x ≡ y
one_answer (Cell n) state x y a b = a ∙ sym b
one_answer (At place) state x y a b =
    a.4 ∙ ap (λ n. Says (cell_line n)) (one_cell_of_leaf a.0 b.0 a.1 b.1 a.2 b.2 (one_leaf _ _ _ _ _ a.3 b.3)) ∙ sym b.4
one_answer (Square n) state x y a b =
    let same = one_square n _ _ _ _ _ _ _ _ a.0 a.1.4 b.1.4 in
    a.1.5 ∙ ap (λ line. Says line) (one_square_line _ _ _ _ _ _ _ _ same.face same.first same.second same.size)
    ∙ sym b.1.5
one_answer (Show r) state x y a b = a ∙ sym b
one_answer (Count r) state x y a b = a ∙ sym b
one_answer (Has r n) state x y a b = one_tells _ x y a b
one_answer (Touches r n) state x y a b = one_tells _ x y a b
one_answer (Compares comparison r s) state x y a b = one_tells _ x y a b
one_answer (Denorm r least modulus) state x y a b = one_list _ x y a b
one_answer Sides state x y a b = a ∙ sym b

-- ---- edits

one_assignment : (old new other : History (List ℕ)) (r : ℕ) (u : List ℕ) → Assigned old r u new →
    Assigned old r u other → new ≡ other
one_assignment old new other r u a b = ⊎_elim (λ e. a.same e ∙ sym (b.same e))
    (λ n. a.differs n ∙ sym (b.differs n)) (is_there old.now r u)

told_numbers : (old new other : History (List ℕ)) → new ≡ other →
    ok_line (numbers old.now new.now).0 (numbers old.now new.now).1 ≡ ok_line (numbers old.now other.now).0
    (numbers old.now other.now).1
told_numbers old new other e = ap (λ (h : History (List ℕ)).
    ok_line (numbers old.now h.now).0 (numbers old.now h.now).1) e

-- a normal form within the limit is the only one
not_too_long : (S : ℕ → Bool) (limit : ℕ) (u : List ℕ) → IsTooLong S limit → IsNormalForm S u → length u ≤ limit → ⊥
not_too_long S limit u t n h = let same = ap length (one_normal_form S u t.list n t.normal) in let above =
    t.above in omega arith

one_get : (S T : ℕ → Bool) (r : ℕ) (old new other : History (List ℕ)) (x y : Reply) → ((n : ℕ) → S n ≡ T n) →
    Gets S r old x new → Gets T r old y other → IsPlain x → IsPlain y → (x ≡ y) × (new ≡ other)
one_get S T r old new other x y e (inl a) (inl b) p q =
    let u = a.0.list in
    let list : b.0.list ≡ u = one_normal_form T b.0.list u b.0.normal (normal_form_same S T u e a.0.normal) in
    let state : new ≡ other = one_assignment old new other r u a.0.state
    (subst (λ u. Assigned old r u other) list b.0.state) in
    (a.1 ∙ ap (λ line. Says line) (told_numbers old new other state) ∙ sym b.1, state)
one_get S T r old new other x y e (inl a) (inr (inl b)) p q =
    absurd (not_too_long T old.limit a.0.list b.1 (normal_form_same S T a.0.list e a.0.normal) a.0.within)
one_get S T r old new other x y e (inl a) (inr (inr b)) p q = absurd (q.0 b.0)
one_get S T r old new other x y e (inr (inl a)) (inl b) p q =
    absurd (not_too_long S old.limit b.0.list a.1 (normal_form_same T S b.0.list (λ n. sym (e n)) b.0.normal)
    b.0.within)
one_get S T r old new other x y e (inr (inl a)) (inr (inl b)) p q = (a.0 ∙ sym b.0, a.2 ∙ sym b.2)
one_get S T r old new other x y e (inr (inl a)) (inr (inr b)) p q = absurd (q.0 b.0)
one_get S T r old new other x y e (inr (inr a)) b p q = absurd (p.0 a.0)

one_move : (side : List (List (List ℕ))) (old moved new other : History (List ℕ)) (ms : History (ℕ → Bool))
    (x y : Reply) → Moves side old moved ms x new → Moves side old moved ms y other → (x ≡ y) × (new ≡ other)
one_move side old moved new other ms x y (inl a) (inl b) =
    let state : new ≡ other = a.1 ∙ sym b.1 in
    (a.3 ∙ ap (λ line. Says line) (told_numbers old new other state) ∙ sym b.3, state)
one_move side old moved new other ms x y (inl a) (inr b) = absurd (a.0 b.0)
one_move side old moved new other ms x y (inr a) (inl b) = absurd (b.0 a.0)
one_move side old moved new other ms x y (inr a) (inr b) = (a.2 ∙ sym b.2, a.1 ∙ sym b.1)

-- ---- files

-- two lines did the same with files: nothing; or both asked for one name; or both stored the same bytes under one name
abbrev pub SameUse : Files → Files → Files → Files → Type 0
SameUse a b c d = ((c ≡ a) × (d ≡ b))
    ⊎ ((name : List ℕ) × AskedFor a name c × AskedFor b name d)
    ⊎ ((name : List ℕ) × (bytes : List ℕ) × PutsFile a c name bytes × PutsFile b d name bytes)

-- two lines had the same reply, left the same state, and did the same with files
pub record OneLine (a b c d : World) (x y : Reply) : Type 0 where
  pub reply : x ≡ y
  pub state : c.state ≡ d.state
  pub files : SameUse a.files b.files c.files d.files

-- a refusal that a plain reply gives
pub settled : (refusal : Refusal) (x : Reply) → x ≡ Refuses refusal → IsPlain x → IsSettled refusal
settled refusal x told p = (λ e. p.0 (told ∙ ap (λ r. Refuses r) e), λ e. p.1 (told ∙ ap (λ r. Refuses r) e))

one_text : (S : ℕ → Bool) (bytes others : List ℕ) → Bytes S bytes → Bytes S others → bytes ≡ others
one_text S bytes others a b = a.is ∙ ap file_text (one_normal_form S a.ids b.ids a.normal b.normal) ∙ sym b.is

module _ (a b c d : World) (x y : Reply) (s : a.state ≡ b.state)
    (t : (name : List ℕ) → OneContent a.files b.files c.files d.files name) (p : IsPlain x) (q : IsPlain y) where
  one_load : (r : ℕ) (name : List ℕ) → Loads r name a x c → Loads r name b y d → OneLine a b c d x y
  one_load r name (inl l) (inl m) =
      let gets : Gets m.0 r a.state y d.state = subst (λ st. Gets m.0 r st y d.state) (sym s) m.2 in
      let same = one_get l.0 m.0 r a.state c.state d.state x y
      (same_union a.files b.files c.files d.files name l.0 m.0 (t name) l.1 m.1) l.2 gets p q in
      record {
        reply = same.0;
        state = same.1;
        files = inr (inl (name, union_asks _ _ name l.0 l.1, union_asks _ _ name m.0 m.1));
      }
  one_load r name (inl l) (inr m) =
      absurd (union_or_none a.files b.files c.files d.files name l.0 m.0 (t name) l.1 m.1 (settled m.0 y m.2 q))
  one_load r name (inr l) (inl m) =
      absurd (union_or_none b.files a.files d.files c.files name m.0 l.0
      (turned a.files b.files c.files d.files name (t name)) m.1 l.1 (settled l.0 x l.2 p))
  one_load r name (inr l) (inr m) =
      let one = settled l.0 x l.2 p in
      let other = settled m.0 y m.2 q in
      let refusal : l.0 ≡ m.0 = same_refusal a.files b.files c.files d.files name l.0 m.0 (t name) l.1 m.1 one other in
      record {
        reply = l.2 ∙ ap (λ r. Refuses r) refusal ∙ sym m.2;
        state = l.3 ∙ s ∙ sym m.3;
        files = inr (inl (name, refusal_asks _ _ name l.0 l.1 one, refusal_asks _ _ name m.0 m.1 other));
      }

  one_write : (P Q : List ℕ → Type 0) (name : List ℕ) →
      ((bytes others : List ℕ) → P bytes → Q others → bytes ≡ others)
      → WritesFile P name a x c → WritesFile Q name b y d → OneLine a b c d x y
  one_write P Q name one (h, inl (bytes, those, inl l)) (k, inl (others, these, inl m)) =
      let same : others ≡ bytes = sym (one bytes others those these) in
      let put : PutsFile b.files d.files name bytes = subst (λ xs. PutsFile b.files d.files name xs) same m.1 in
      record { reply = l.0 ∙ sym m.0; state = h ∙ s ∙ sym k; files = inr (inr (name, bytes, l.1, put)) }
  one_write P Q name one (h, inl (bytes, those, inl l)) (k, inl (others, these, inr (inl m))) = absurd (q.1 m.0)
  one_write P Q name one (h, inl (bytes, those, inl l)) (k, inl (others, these, inr (inr m))) = absurd (q.0 m.0)
  one_write P Q name one (h, inl (bytes, those, inl l)) (k, inr m) = absurd (q.0 m.0)
  one_write P Q name one (h, inl (bytes, those, inr (inl l))) m = absurd (p.1 l.0)
  one_write P Q name one (h, inl (bytes, those, inr (inr l))) m = absurd (p.0 l.0)
  one_write P Q name one (h, inr l) m = absurd (p.0 l.0)

  one_restore : (name : List ℕ) → Restores name a x c → Restores name b y d → OneLine a b c d x y
  one_restore name (inl l) (inl m) =
      let bytes : m.0 ≡ l.0 = sym (same_bytes a.files b.files c.files d.files name l.0 m.0 (t name) l.1 m.1) in
      let other : Restored (Stored l.0) a.state d.state = subst (λ (st : History (List ℕ)). Restored (Stored l.0) st
      d.state) (sym s) (subst (λ (xs : List ℕ). Restored (Stored xs) b.state d.state) bytes m.2) in
      record {
        reply = l.3 ∙ sym m.3;
        state = one_taken l.0 a.state c.state d.state l.2 other;
        files = inr (inl (
          name,
          (Some l.0, found_bytes a.files c.files name l.0 l.1),
          (Some m.0, found_bytes b.files d.files name m.0 m.1),
        ));
      }
  one_restore name (inl l) (inr m) =
      let fails : FetchesNoState name b.files a.state m.0 d.files =
      subst (λ (st : History (List ℕ)). FetchesNoState name b.files st m.0 d.files) (sym s) m.1 in
      absurd (fetched_or_not a.files b.files c.files d.files name l.0 a.state c.state m.0 (t name) l.1 l.2 fails
      (settled m.0 y m.2 q))
  one_restore name (inr l) (inl m) =
      let fails : FetchesNoState name a.files b.state l.0 c.files =
      subst (λ (st : History (List ℕ)). FetchesNoState name a.files st l.0 c.files) s l.1 in
      absurd (fetched_or_not b.files a.files d.files c.files name m.0 b.state d.state l.0
      (turned a.files b.files c.files d.files name (t name)) m.1 m.2 fails (settled l.0 x l.2 p))
  one_restore name (inr l) (inr m) =
      let one = settled l.0 x l.2 p in
      let other = settled m.0 y m.2 q in
      let fails : FetchesNoState name b.files a.state m.0 d.files =
      subst (λ (st : History (List ℕ)). FetchesNoState name b.files st m.0 d.files) (sym s) m.1 in
      let refusal : l.0 ≡ m.0 = one_failure a.files b.files c.files d.files name a.state l.0 m.0 (t name) l.1 fails
      one other in
      record {
        reply = l.2 ∙ ap (λ r. Refuses r) refusal ∙ sym m.2;
        state = l.3 ∙ s ∙ sym m.3;
        files = inr (inl (
          name,
          failure_asks _ _ name a.state l.0 l.1 one,
          failure_asks _ _ name a.state m.0 fails other,
        ));
      }

  -- ---- lines

  unmoved : x ≡ y → c ≡ a → d ≡ b → OneLine a b c d x y
  unmoved e l m = record {
    reply = e;
    state = ap (λ (w : World). w.state) l ∙ s ∙ sym (ap (λ (w : World). w.state) m);
    files = inl (ap (λ (w : World). w.files) l, ap (λ (w : World). w.files) m);
  }

  one_act : (command : Command) → Acts command a x c → Acts command b y d → OneLine a b c d x y
  one_act (Edit r edit) l m =
      let gets : Gets (new_set a.state.now r edit) r a.state y d.state =
      subst (λ (st : History (List ℕ)). Gets (new_set st.now r edit) r st y d.state) (sym s) m.0 in
      let same = one_get _ _ r a.state c.state d.state x y (λ n. refl) l.0 gets p q in
      record { reply = same.0; state = same.1; files = inl (l.1, m.1) }
  one_act (Load r name) l m = one_load r name l m
  one_act (Save r name) l m =
      one_write (Bytes (leaves_of a.state.now r)) (Bytes (leaves_of b.state.now r)) name
      (λ bytes others f g. one_text (leaves_of a.state.now r) bytes others f
      (subst (λ (st : History (List ℕ)). Bytes (leaves_of st.now r) others) (sym s) g)) l m
  one_act (Dump name) l m =
      one_write (Text a.state) (Text b.state) name
      (λ bytes others f g. one_text_of a.state bytes others f
      (subst (λ (st : History (List ℕ)). Text st others) (sym s) g)) l m
  one_act (Restore name) l m = one_restore name l m
  one_act Undo l m =
      let moves : Moves a.state.past a.state (undone a.state) (undone (sets a.state)) y d.state =
      subst (λ (st : History (List ℕ)). Moves st.past st (undone st) (undone (sets st)) y d.state) (sym s) m.0 in
      let same = one_move a.state.past a.state (undone a.state) c.state d.state (undone (sets a.state)) x y l.0
      moves in
      record { reply = same.0; state = same.1; files = inl (l.1, m.1) }
  one_act Redo l m =
      let moves : Moves a.state.future a.state (redone a.state) (redone (sets a.state)) y d.state =
      subst (λ (st : History (List ℕ)). Moves st.future st (redone st) (redone (sets st)) y d.state) (sym s) m.0 in
      let same = one_move a.state.future a.state (redone a.state) c.state d.state (redone (sets a.state)) x y l.0
      moves in
      record { reply = same.0; state = same.1; files = inl (l.1, m.1) }
  one_act (Ask question) l m =
      let answers : Answers question a.state y = subst (λ st. Answers question st y) (sym s) m.0 in
      unmoved (one_answer question a.state x y l.0 answers) l.1 m.1

  pub one_line : (parsed : Parsed) → StepBy parsed a x c → StepBy parsed b y d → OneLine a b c d x y
  one_line Nothing l m = unmoved (l.0 ∙ sym m.0) l.1 m.1
  one_line (Fails refusal) l m = unmoved (l.0 ∙ sym m.0) l.1 m.1
  one_line (Does command) l m = one_act command l m

-- ---- beginnings of one script

no_steps : (a c : World) (ls : List (List ℕ)) → Steps a ls [] c → c ≡ a
no_steps a c [] s = s
no_steps a c (l ∷ ls) s = absurd s

-- what holds after a plain line held before it
abbrev pub HeldBefore : (World → Type 0) → Type 0
HeldBefore Holds = (parsed : Parsed) (a c : World) (x : Reply) → StepBy parsed a x c → IsPlain x → Holds c → Holds a

pub all_back : (Holds : World → Type 0) → HeldBefore Holds → (a c : World) (ls : List (List ℕ)) (rs : List Reply) →
    Steps a ls rs c → AllPlain rs → Holds c → Holds a
all_back Holds back a c [] [] s p h = subst Holds s h
all_back Holds back a c [] (x ∷ rs) s p h = absurd s
all_back Holds back a c (l ∷ ls) [] s p h = absurd s
all_back Holds back a c (l ∷ ls) (x ∷ rs) s p h =
    back (line_of l) a s.0 x s.1.by p.0 (all_back Holds back s.0 c ls rs s.2 p.1 h)

-- a run had these replies first, in a world of which this holds, and went on from there to its end
pub record Begun (Holds : World → Type 0) (end : World) (first all : List Reply) : Type 0 where
  pub mid : World
  pub holds : Holds mid
  pub lines : List (List ℕ)
  pub later : List Reply
  pub are : all ≡ first ++ later
  pub goes_on : Steps mid lines later end

begun_more : (Holds : World → Type 0) (end : World) (x y : Reply) (rs ss : List Reply) → x ≡ y →
    Begun Holds end rs ss → Begun Holds end (x ∷ rs) (y ∷ ss)
begun_more Holds end x y rs ss e b = record {
  mid = b.mid;
  holds = b.holds;
  lines = b.lines;
  later = b.later;
  are = ap (λ r. r ∷ ss) (sym e) ∙ ap (λ r. x ∷ r) b.are;
  goes_on = b.goes_on;
}

-- with no more replies, that was its end
pub begun_all : (Holds : World → Type 0) (end : World) (rs ss : List Reply) (b : Begun Holds end rs ss) →
    b.later ≡ [] → (rs ≡ ss) × Holds end
begun_all Holds end rs ss b none = (
  sym (b.are ∙ ap (λ more. rs ++ more) none ∙ append-nil rs),
  subst Holds (sym (no_steps b.mid end b.lines (subst (λ more. Steps b.mid b.lines more end) none b.goes_on))) b.holds,
)

pub same_heads : {A : Type 0} (x y : A) (xs ys : List A) → x ∷ xs ≡ y ∷ ys → (x ≡ y) × (xs ≡ ys)
same_heads x y xs ys e = (cc, cc)

-- `Like` relates the worlds of two runs, and goes on where both carry out a line and are to come to such ends
module _ (Like : World → World → Type 0) (End Other : World → Type 0) (back : HeldBefore End) (back' : HeldBefore Other)
    (goes_on : (parsed : Parsed) (a b c d : World) (x y : Reply) → Like a b → End c → Other d
    → StepBy parsed a x c → StepBy parsed b y d → IsPlain x → IsPlain y → (x ≡ y) × Like c d) where
  -- of two runs that begin alike and carry out lines of one script, one is the beginning of the other
  pub one_begins : (a b c d : World) (ls ms xs ys : List (List ℕ)) (rs ss : List Reply) → Like a b → End c → Other d
      → ls ++ xs ≡ ms ++ ys → Steps a ls rs c → Steps b ms ss d → AllPlain rs → AllPlain ss
      → Begun (λ mid. Like c mid) d rs ss ⊎ Begun (λ mid. Like mid d) c ss rs
  one_begins a b c d [] ms xs ys [] ss k h i e l m p q = inl (record {
    mid = b;
    holds = subst (λ w. Like w b) (sym l) k;
    lines = ms;
    later = ss;
    are = refl;
    goes_on = m;
  })
  one_begins a b c d [] ms xs ys (x ∷ rs) ss k h i e l m p q = absurd l
  one_begins a b c d (line ∷ ls) ms xs ys [] ss k h i e l m p q = absurd l
  one_begins a b c d (line ∷ ls) [] xs ys (x ∷ rs) [] k h i e l m p q = inr (record {
    mid = a;
    holds = subst (λ w. Like a w) (sym m) k;
    lines = line ∷ ls;
    later = x ∷ rs;
    are = refl;
    goes_on = l;
  })
  one_begins a b c d (line ∷ ls) [] xs ys (x ∷ rs) (y ∷ ss) k h i e l m p q = absurd m
  one_begins a b c d (line ∷ ls) (other ∷ ms) xs ys (x ∷ rs) [] k h i e l m p q = absurd m
  one_begins a b c d (line ∷ ls) (other ∷ ms) xs ys (x ∷ rs) (y ∷ ss) k h i e l m p q =
      let same = same_heads line other (ls ++ xs) (ms ++ ys) e in
      let by : StepBy (line_of line) b y m.0 = subst (λ o. StepBy (line_of o) b y m.0) (sym same.0) m.1.by in
      let one = goes_on (line_of line) a b l.0 m.0 x y k (all_back End back l.0 c ls rs l.2 p.1 h)
      (all_back Other back' m.0 d ms ss m.2 q.1 i) l.1.by by p.0 q.0 in
      elim (one_begins l.0 m.0 c d ls ms xs ys rs ss one.1 h i same.1 l.2 m.2 p.1 q.1) [
        | inl b ↦ inl (begun_more (λ mid. Like c mid) d x y rs ss one.0 b)
        | inr b ↦ inr (begun_more (λ mid. Like mid d) c y x ss rs (sym one.0) b)
      ]

-- ---- shelves that expose their contents

-- two worlds with the same state and files, over shelves that expose their contents
abbrev Exposed : World → World → Type 0
Exposed a b = SameWorld a b × (a.files.tells ≡ true)

-- what both find under a name is what both hold there
exposed_content : (a b c d : World) → Exposed a b → (name : List ℕ) → OneContent a.files b.files c.files d.files name
exposed_content a b c d (s, t) name x y f g =
    let same : x ≡ y = f.asks.holds t ∙ s.at name ∙ sym (g.asks.holds (sym s.tells ∙ t)) in
    (y, subst (λ z. Allows f.finding z) same f.allows, g.allows)

-- what a file holds after it was put, and what the others hold
put_at : (a b : Files) (name bytes other : List ℕ) → PutsFile a b name bytes → a.tells ≡ true → (same : Bool) →
    bytes_eq other name ≡ same → ((other ≡ name) × (b.at other ≡ Some bytes))
    ⊎ ((other ≢ name) × (b.at other ≡ a.at other))
put_at a b name bytes other p t true e =
    let is : other ≡ name = (bytes_eq-Decides other name).0 e in
    inl (is, ap b.at is ∙ p.there t)
put_at a b name bytes other p t false e =
    let is : other ≢ name = λ h. false≢true (sym e ∙ (bytes_eq-Decides other name).1 h) in
    inr (is, p.others t other is)

both_put : (a b c d : Files) (name bytes other : List ℕ) → ((h : List ℕ) → a.at h ≡ b.at h) →
    ((other ≡ name) × (c.at other ≡ Some bytes)) ⊎ ((other ≢ name) × (c.at other ≡ a.at other))
    → ((other ≡ name) × (d.at other ≡ Some bytes)) ⊎ ((other ≢ name) × (d.at other ≡ b.at other)) →
    c.at other ≡ d.at other
both_put a b c d name bytes other s (inl l) (inl m) = l.1 ∙ sym m.1
both_put a b c d name bytes other s (inl l) (inr m) = absurd (m.0 l.0)
both_put a b c d name bytes other s (inr l) (inl m) = absurd (l.0 m.0)
both_put a b c d name bytes other s (inr l) (inr m) = l.1 ∙ s other ∙ sym m.1

-- the files stay the same
exposed_after : (a b c d : World) → Exposed a b → c.state ≡ d.state → SameUse a.files b.files c.files d.files →
    Exposed c d
exposed_after a b c d (s, t) e (inl (f, g)) = (
  record {
    state = e;
    tells = ap (λ (h : Files). h.tells) f ∙ s.tells ∙ sym (ap (λ (h : Files). h.tells) g);
    at = λ name. ap (λ (h : Files). h.at name) f ∙ s.at name ∙ sym (ap (λ (h : Files). h.at name) g);
    failures = ap (λ (h : Files). h.failures) f ∙ s.failures ∙ sym (ap (λ (h : Files). h.failures) g);
  },
  ap (λ (h : Files). h.tells) f ∙ t,
)
exposed_after a b c d (s, t) e (inr (inl (name, f, g))) =
    let one = f.1.asks.same in
    let other = g.1.asks.same in (
      record {
        state = e;
        tells = one.0.tells ∙ s.tells ∙ sym other.0.tells;
        at = λ name. one.0.at t name ∙ s.at name ∙ sym (other.0.at (sym s.tells ∙ t) name);
        failures = one.1 ∙ s.failures ∙ sym other.1;
      },
      one.0.tells ∙ t,
    )
exposed_after a b c d (s, t) e (inr (inr (name, bytes, f, g))) = (
  record {
    state = e;
    tells = f.tells ∙ s.tells ∙ sym g.tells;
    at = λ other. both_put a.files b.files c.files d.files name bytes other s.at
        (put_at a.files c.files name bytes other f t (bytes_eq other name) refl)
        (put_at b.files d.files name bytes other g (sym s.tells ∙ t) (bytes_eq other name) refl);
    failures = f.failures ∙ s.failures ∙ sym g.failures;
  },
  f.tells ∙ t,
)

pub exposed_begins : (a b c d : World) (ls ms xs ys : List (List ℕ)) (rs ss : List Reply) → Exposed a b →
    ls ++ xs ≡ ms ++ ys → Steps a ls rs c → Steps b ms ss d → AllPlain rs → AllPlain ss
    → Begun (λ mid. Exposed c mid) d rs ss ⊎ Begun (λ mid. Exposed mid d) c ss rs
exposed_begins a b c d ls ms xs ys rs ss k e l m p q =
    one_begins Exposed (λ _. Unit {0}) (λ _. Unit {0}) (λ parsed a c x s p h. h) (λ parsed a c x s p h. h)
    (λ parsed a b c d x y k h i l m p q.
    let one = one_line a b c d x y k.0.state (exposed_content a b c d k) p q parsed l m in
    (one.reply, exposed_after a b c d k one.state one.files))
    a b c d ls ms xs ys rs ss k tt tt e l m p q

-- as many lines have as many replies
pub none_later : (Holds : World → Type 0) (end : World) (rs ss : List Reply) (b : Begun Holds end rs ss) →
    length rs ≡ length ss → b.later ≡ []
none_later Holds end rs ss b n =
    let long = ap length b.are in
    nil_from_length b.later (omega (arith, n, long, length-append rs b.later))

pub one_run_of : (a b c d : World) (ls : List (List ℕ)) (rs ss : List Reply) → SameWorld a b →
    a.files.tells ≡ true → Steps a ls rs c → Steps b ls ss d → AllPlain rs → AllPlain ss → (rs ≡ ss) × SameWorld c d
one_run_of a b c d ls rs ss s t l m p q =
    let many : length rs ≡ length ss = sym (Steps-lengths a c ls rs l) ∙ Steps-lengths b d ls ss m in
    elim (exposed_begins a b c d ls ls [] [] rs ss (s, t) refl l m p q) [
      | inl h ↦ let all = begun_all (λ mid. Exposed c mid) d rs ss h (none_later _ d rs ss h many) in (all.0, all.1.0)
      | inr h ↦ let all = begun_all (λ mid. Exposed mid d) c ss rs h (none_later _ c ss rs h (sym many)) in
          (sym all.0, all.1.0)
    ]

-- ---- what was dumped comes back

-- the bytes that a dump wrote, which the shelf then holds
record Dumped (name : List ℕ) (a b : World) : Type 0 where
  bytes : List ℕ
  text : Text a.state bytes
  there : b.files.at name ≡ Some bytes

dumped : (name : List ℕ) (a b : World) (x : Reply) → a.files.tells ≡ true → Dumps name a x b → IsPlain x →
    Dumped name a b
dumped name a b x t (h, inl (bytes, text, inl l)) p = record { bytes = bytes; text = text; there = l.1.there t }
dumped name a b x t (h, inl (bytes, text, inr (inl l))) p = absurd (p.1 l.0)
dumped name a b x t (h, inl (bytes, text, inr (inr l))) p = absurd (p.0 l.0)
dumped name a b x t (h, inr l) p = absurd (p.0 l.0)

-- a file that is taken over is restored
is_restored : (name bytes : List ℕ) (c d : World) (state : History (List ℕ)) (y : Reply) → c.files.tells ≡ true →
    c.files.at name ≡ Some bytes → Restored (Stored bytes) c.state state
    → Restores name c y d → IsPlain y → (y ≡ Says done_line) × (d.state ≡ state)
is_restored name bytes c d state y t there f (inl l) p =
    let same : l.0 ≡ bytes = same_Some l.0 bytes (l.1.holds t ∙ there) in (
      l.3,
      one_taken bytes c.state d.state state (subst (λ (xs : List ℕ). Restored (Stored xs) c.state d.state) same l.2) f,
    )
is_restored name bytes c d state y t there f (inr (refusal, inl (inl l), told, kept)) p =
    absurd (none-some bytes (l.1.holds t ∙ there))
is_restored name bytes c d state y t there f (inr (refusal, inl (inr (inl l)), told, kept)) p =
    absurd ((settled refusal y told p).1 l.0)
is_restored name bytes c d state y t there f (inr (refusal, inl (inr (inr l)), told, kept)) p =
    absurd ((settled refusal y told p).0 l.0)
is_restored name bytes c d state y t there f (inr (refusal, inr l, told, kept)) p =
    let same : l.0 ≡ bytes = same_Some l.0 bytes (l.1.asks.holds t ∙ there) in
    absurd (taken_or_refused bytes c.state state refusal f
    (subst (λ (xs : List ℕ). RefusesBytes xs c.state refusal) same (l.2 l.0 l.1.allows)) (settled refusal y told p))

pub gives_back : (a b c d : World) (line other name : List ℕ) (x y : Reply) → line_of line ≡ Does (Dump name) →
    line_of other ≡ Does (Restore name) → IsKept a.state
    → Step a line x b → Step c other y d → a.files.tells ≡ true → c.files.tells ≡ true →
    c.files.at name ≡ b.files.at name
    → c.state.limit ≡ a.state.limit → c.state.depth ≡ a.state.depth → IsPlain x → IsPlain y → (y ≡ Says done_line)
    × (d.state ≡ a.state)
gives_back a b c d line other name x y e f kept s r t u at limit depth p q =
    let dumps : StepBy (Does (Dump name)) a x b = subst (λ h. StepBy h a x b) e s.by in
    let restores : StepBy (Does (Restore name)) c y d = subst (λ h. StepBy h c y d) f r.by in
    let was = dumped name a b x t dumps p in
    let back : Restored (Stored was.bytes) c.state a.state =
    record {
      tells = text_is_stored was.bytes a.state was.text;
      limit = sym limit;
      depth = sym depth;
      kept = kept;
    } in
    is_restored name was.bytes c d a.state y u (at ∙ was.there) back restores q
