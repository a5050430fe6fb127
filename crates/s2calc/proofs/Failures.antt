-- Answers `error file` are counted by the shelf.
use Rattle.std.proofs.Common.{◌≡◌, ℕ, zero, suc, ◌+◌, ◌%◌, ◌^◌, ◌⊎◌, inl, inr, Bool, true, false, cond}
use Rattle.std.proofs.Common.{List, [], ◌∷◌, refl, sym, ap, ◌∙◌, subst, arith, Err, count_by}
use Rattle.std.proofs.Math.Nat.{mod-add-mod}
use Rattle.std.proofs.lemmas.List.Sums.{sum_by-cons}
use Rattle.s2edit.specs.History.{History}
use Rattle.s2edit.specs.declared.session.RestoreFault.{RestoreFault}
use Rattle.s2edit.specs.declared.session.RestoreFault.TheVariants.{Fit, TooDeep, TooMany, Memory as NoRoom}
use Rattle.s2shelf.specs.Shelf.{Files}
use Rattle.s2shelf.proofs.Opened.{get_fails_for_device, get_fails_for_memory}
use Rattle.s2calc.specs.declared.refusal.Refusal.{Refusal}
use Rattle.s2script.specs.declared.command.Question.{Question}
use Rattle.s2script.specs.declared.command.Question.TheVariants.{Cell as OfCell, At, Square, Show, Count, Has, Touches}
use Rattle.s2script.specs.declared.command.Question.TheVariants.{Compares, Denorm, History as Sides}
use Rattle.s2script.specs.declared.command.Command.{Command}
use Rattle.s2script.specs.declared.command.Command.TheVariants.{Edit, Load, Save, Dump, Restore, Undo, Redo, Ask}
use Rattle.s2script.specs.declared.command.Parsed.{Parsed}
use Rattle.s2script.specs.declared.command.Parsed.TheVariants.{Nothing as Silence, Does, Fails}
use Rattle.s2script.specs.Line.{line_of}
use Rattle.s2calc.specs.World.{World}
use Rattle.s2calc.specs.Replies.{Reply, Refuses}
use Rattle.s2calc.specs.Questions.{AnswersYesIf, ListsSome, Answers}
use Rattle.s2calc.specs.Edits.{Gets, Moves}
use Rattle.s2calc.specs.Fetch.{Reads, FetchesUnion}
use Rattle.s2calc.specs.Sessions.{refusal_of, FetchesNoState}
use Rattle.s2calc.specs.Step.{Loads, WritesFile, Restores, Acts, StepBy}
use Rattle.s2calc.specs.Run.{Steps}
use Rattle.s2calc.specs.Laws.{is_of_shelf, is_failure, RoseBy}

tells_no_failure : (P : Type 0) (x : Reply) → AnswersYesIf P x → is_failure x ≡ false
tells_no_failure P x (inl a) = ap is_failure a.1
tells_no_failure P x (inr a) = ap is_failure a.1

list_no_failure : (cells : List ℕ) (x : Reply) → ListsSome cells x → is_failure x ≡ false
list_no_failure cells x (inl a) = ap is_failure a.1
list_no_failure cells x (inr a) = ap is_failure a.1

answer_no_failure : (question : Question) (state : History (List ℕ)) (x : Reply) → Answers question state x →
    is_failure x ≡ false
answer_no_failure (OfCell n) state x a = ap is_failure a
answer_no_failure (At place) state x a = ap is_failure a.4
answer_no_failure (Square n) state x a = ap is_failure a.1.5
answer_no_failure (Show r) state x a = ap is_failure a
answer_no_failure (Count r) state x a = ap is_failure a
answer_no_failure (Has r n) state x a = tells_no_failure _ x a
answer_no_failure (Touches r n) state x a = tells_no_failure _ x a
answer_no_failure (Compares comparison r s) state x a = tells_no_failure _ x a
answer_no_failure (Denorm r least modulus) state x a = list_no_failure _ x a
answer_no_failure Sides state x a = ap is_failure a

get_no_failure : (S : ℕ → Bool) (r : ℕ) (old new : History (List ℕ)) (x : Reply) → Gets S r old x new →
    is_failure x ≡ false
get_no_failure S r old new x (inl a) = ap is_failure a.1
get_no_failure S r old new x (inr (inl a)) = ap is_failure a.0
get_no_failure S r old new x (inr (inr a)) = ap is_failure a.0

move_no_failure : (side : List (List (List ℕ))) (old moved new : History (List ℕ)) (ms : History (ℕ → Bool))
    (x : Reply) → Moves side old moved ms x new → is_failure x ≡ false
move_no_failure side old moved new ms x (inl a) = ap is_failure a.3
move_no_failure side old moved new ms x (inr a) = ap is_failure a.2

-- the count rose by one if the answer is `error file`, and stayed the same otherwise
abbrev IsCounted : World → World → Reply → Type 0
IsCounted a c x = ((is_failure x ≡ false) × (c.files.failures ≡ a.files.failures))
    ⊎ ((is_failure x ≡ true) × (c.files.failures ≡ (a.files.failures + 1) % 2 ^ 64))

stays : (a c : World) (x : Reply) → is_failure x ≡ false → c.files.failures ≡ a.files.failures → IsCounted a c x
stays a c x n e = inl (n, e)

rises : (a c : World) (x : Reply) → is_failure x ≡ true → c.files.failures ≡ (a.files.failures + 1) % 2 ^ 64 →
    IsCounted a c x
rises a c x n e = inr (n, e)

read_no_failure : (bytes : List ℕ) (refusal : Refusal) → Reads bytes (Err refusal) → is_of_shelf refusal ≡ false
read_no_failure bytes refusal (inl l) = ap is_of_shelf l.3
read_no_failure bytes refusal (inr l) = ap is_of_shelf l

count_refused : (name : List ℕ) (a c : World) (refusal : Refusal) (x : Reply) →
    FetchesUnion name a.files (Err refusal) c.files → x ≡ Refuses refusal → IsCounted a c x
count_refused name a c refusal x (inl (inl l)) e = stays a c x (ap is_failure e ∙ ap is_of_shelf l.0) l.1.same.1
count_refused name a c refusal x (inl (inr (inl l))) e =
    rises a c x (ap is_failure e ∙ ap is_of_shelf l.0) (get_fails_for_device a.files c.files name l.1).1
count_refused name a c refusal x (inl (inr (inr l))) e =
    stays a c x (ap is_failure e ∙ ap is_of_shelf l.0) (get_fails_for_memory a.files c.files name l.1).1
count_refused name a c refusal x (inr (bytes, found, refuses)) e =
    stays a c x (ap is_failure e ∙ read_no_failure bytes refusal (refuses bytes found.allows)) found.asks.same.1

count_load : (r : ℕ) (name : List ℕ) (a c : World) (x : Reply) → Loads r name a x c → IsCounted a c x
count_load r name a c x (inl l) = stays a c x (get_no_failure l.0 r a.state c.state x l.2) l.1.1.same.1
count_load r name a c x (inr l) = count_refused name a c l.0 x l.1 l.2

count_write : (P : List ℕ → Type 0) (name : List ℕ) (a c : World) (x : Reply) → WritesFile P name a x c →
    IsCounted a c x
count_write P name a c x (kept, inl (bytes, those, inl l)) = stays a c x (ap is_failure l.0) l.1.failures
count_write P name a c x (kept, inl (bytes, those, inr (inl l))) = rises a c x (ap is_failure l.0) l.1.failed
count_write P name a c x (kept, inl (bytes, those, inr (inr l))) = stays a c x (ap is_failure l.0) l.1.0.counted
count_write P name a c x (kept, inr l) = stays a c x (ap is_failure l.0) (ap (λ (h : Files). h.failures) l.1)

-- what the editor refuses is no failure of the shelf
not_of_shelf : (fault : RestoreFault) → is_of_shelf (refusal_of fault) ≡ false
not_of_shelf Fit = refl
not_of_shelf TooDeep = refl
not_of_shelf TooMany = refl
not_of_shelf NoRoom = refl

-- a refusal that is answered, of what was fetched
count_no_state : (name : List ℕ) (a c : World) (refusal : Refusal) (x : Reply) →
    FetchesNoState name a.files a.state refusal c.files → x ≡ Refuses refusal → IsCounted a c x
count_no_state name a c refusal x (inl (inl l)) e = stays a c x (ap is_failure e ∙ ap is_of_shelf l.0) l.1.same.1
count_no_state name a c refusal x (inl (inr (inl l))) e =
    rises a c x (ap is_failure e ∙ ap is_of_shelf l.0) (get_fails_for_device a.files c.files name l.1).1
count_no_state name a c refusal x (inl (inr (inr l))) e =
    stays a c x (ap is_failure e ∙ ap is_of_shelf l.0) (get_fails_for_memory a.files c.files name l.1).1
count_no_state name a c refusal x (inr (bytes, found, refuses)) e =
    let l = refuses bytes found.allows in
    stays a c x (ap is_failure e ∙ ap is_of_shelf l.1 ∙ not_of_shelf l.0) found.asks.same.1

count_restore : (name : List ℕ) (a c : World) (x : Reply) → Restores name a x c → IsCounted a c x
count_restore name a c x (inl l) = stays a c x (ap is_failure l.3) l.1.same.1
count_restore name a c x (inr l) = count_no_state name a c l.0 x l.1 l.2

count_act : (command : Command) (a c : World) (x : Reply) → Acts command a x c → IsCounted a c x
count_act (Edit r edit) a c x l = stays a c x (get_no_failure _ r a.state c.state x l.0)
    (ap (λ (f : Files). f.failures) l.1)
count_act (Load r name) a c x l = count_load r name a c x l
count_act (Save r name) a c x l = count_write _ name a c x l
count_act (Dump name) a c x l = count_write _ name a c x l
count_act (Restore name) a c x l = count_restore name a c x l
count_act Undo a c x l = stays a c x (move_no_failure _ a.state _ c.state _ x l.0)
    (ap (λ (f : Files). f.failures) l.1)
count_act Redo a c x l = stays a c x (move_no_failure _ a.state _ c.state _ x l.0)
    (ap (λ (f : Files). f.failures) l.1)
count_act (Ask question) a c x l = stays a c x (answer_no_failure question a.state x l.0)
    (ap (λ (w : World). w.files.failures) l.1)

count_line_of : (parsed : Parsed) → (a c : World) (x : Reply) → StepBy parsed a x c → IsCounted a c x
count_line_of Silence a c x l = stays a c x (ap is_failure l.0) (ap (λ (v : World). v.files.failures) l.1)
count_line_of (Fails refusal) a c x l = stays a c x (ap is_failure l.0) (ap (λ (v : World). v.files.failures) l.1)
count_line_of (Does command) a c x l = count_act command a c x l

-- a count rose by one, and then by more
rises_first : (old mid more new : ℕ) → mid ≡ (old + 1) % 2 ^ 64 → RoseBy mid more new →
    new ≡ (old + (1 + more)) % 2 ^ 64
rises_first old mid zero new e r =
    let one : old + 1 ≡ old + (1 + 0) = omega arith in r.0 refl ∙ e ∙ ap (λ n. n % 2 ^ 64) one
rises_first old mid (suc more) new e r =
    let all : old + 1 + suc more ≡ old + (1 + suc more) = omega arith in
    r.1 (omega arith) ∙ ap (λ n. (n + suc more) % 2 ^ 64) e ∙ mod-add-mod (old + 1) (2 ^ 64) (suc more)
    ∙ ap (λ n. n % 2 ^ 64) all

-- one answer was counted, and then the others
counts_on : (a mid b : World) (x : Reply) (rs : List Reply) → IsCounted a mid x →
    RoseBy mid.files.failures (count_by is_failure rs) b.files.failures →
    RoseBy a.files.failures (count_by is_failure (x ∷ rs)) b.files.failures
counts_on a mid b x rs (inl l) r =
    let more = count_by is_failure rs in
    let none : 0 + more ≡ more = omega arith in
    let count : count_by is_failure (x ∷ rs) ≡ more =
    sum_by-cons (λ y. cond (is_failure y) 1 0) x rs ∙ ap (λ k. cond k 1 0 + more) l.0 ∙ none in
    subst (λ n. RoseBy a.files.failures n b.files.failures) (sym count)
    (subst (λ n. RoseBy n more b.files.failures) l.1 r)
counts_on a mid b x rs (inr l) r =
    let more = count_by is_failure rs in
    let count : count_by is_failure (x ∷ rs) ≡ 1 + more =
    sum_by-cons (λ y. cond (is_failure y) 1 0) x rs ∙ ap (λ k. cond k 1 0 + more) l.0 in
    subst (λ n. RoseBy a.files.failures n b.files.failures) (sym count) (
      λ none. absurd (omega (arith, none)),
      λ some. rises_first a.files.failures mid.files.failures more b.files.failures l.1 r,
    )

pub failures_of : (a b : World) (ls : List (List ℕ)) (rs : List Reply) → Steps a ls rs b →
    RoseBy a.files.failures (count_by is_failure rs) b.files.failures
failures_of a b [] [] s = (λ none. ap (λ (w : World). w.files.failures) s, λ some. absurd (omega (arith, some)))
failures_of a b [] (x ∷ rs) s = absurd s
failures_of a b (line ∷ ls) [] s = absurd s
failures_of a b (line ∷ ls) (x ∷ rs) s =
    counts_on a s.0 b x rs (count_line_of (line_of line) a s.0 x s.1.by) (failures_of s.0 b ls rs s.2)
