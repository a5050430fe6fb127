-- Two runs of one script that find the same in files write alike.
use Rattle.std.proofs.Common.{◌≡◌, ℕ, ◌⊎◌, inl, inr, List, [], ◌∷◌, ◌++◌, length, Option, Some, Result, Ok, Err, refl}
use Rattle.std.proofs.Common.{sym, ap, ◌∙◌, subst, append_assoc, append-nil, arith, length-append, drop, ◌+◌, ◌-◌, ◌≤◌}
use Rattle.std.proofs.Common.{MatchResult}
use Rattle.std.proofs.lemmas.List.{nil_from_length, take-append-drop}
use Rattle.std.proofs.lemmas.List.Concat.{flat_map-append}
use Rattle.s2edit.specs.History.{History}
use Rattle.s2shelf.specs.Shelf.{Files}
use Rattle.s2script.specs.Lines.{lines, whole_lines, BeginsWith}
use Rattle.s2calc.specs.declared.engine.Tally.{Tally}
use Rattle.s2calc.specs.declared.fault.RunFault.{RunFault}
use Rattle.s2calc.specs.declared.fault.RunFault.TheVariants.{Input, Output, Memory}
use Rattle.s2calc.specs.Calls.{Call}
use Rattle.s2calc.specs.LawsFound.{Held, Course, Begins}
use Rattle.s2calc.specs.Notes.{note_of, number_of, notes_from, notes_of}
use Rattle.s2calc.specs.Program.{status_of}
use Rattle.s2calc.specs.Reads.{ReadsLast}
use Rattle.s2calc.specs.Replies.{Reply, text_of, texts, tally_of}
use Rattle.s2calc.specs.Run.{Did, Ends, WereReadWhole, came_out}
use Rattle.s2calc.specs.World.{World, world}
use Rattle.s2calc.proofs.CutOffLemmas.{read_lines}
use Rattle.s2calc.proofs.FoundLemmas.{Takes, one_course}
use Rattle.s2calc.proofs.LineLemmas.{cut, whole_lines_begun}
use Rattle.s2calc.proofs.OneRun.{same_heads}
use Rattle.s2calc.proofs.RunLemmas.{Steps-lengths}
use Rattle.s2process.specs.declared.ended.Ended.{Ended}
use Rattle.s2process.specs.Laws.{IsReadOf, OneBegins, RunOf, course_of, WritesAlike, OneOutput}
use Rattle.s2process.specs.Listed.{given, reads, taken, called}
use Rattle.s2process.proofs.LawLemmas.{all_out}

-- ---- the lines that were carried out are the first of the script

module _ {start now : World} {written : List ℕ} (did : Did start now written)
    (whole script : List ℕ) (reads : List (Option ℕ)) (r : IsReadOf whole script reads) where
  abbrev AreFirst : List (List ℕ) → Type 0
  AreFirst ls = (more : List (List ℕ)) × (ls ++ more ≡ lines whole)

  were_read : (ls : List (List ℕ)) → WereReadWhole script (ReadsLast (Some 0) reads) ls → AreFirst ls
  were_read ls w = read_lines whole script r.more (ReadsLast (Some 0) reads) ls r.is r.whole w

  whole_first : did.done ≡ whole_lines script → AreFirst did.done
  whole_first e =
      let (ls, rest, begins, unbroken) = cut script in
      let same : did.done ≡ ls = e ∙ whole_lines_begun script ls rest begins unbroken in
      were_read did.done (inl (rest, subst (λ done. BeginsWith script done rest) (sym same) begins))

  beside_first : (before : List (List ℕ)) (line : List ℕ) → AreFirst (before ++ line ∷ []) →
      (did.done ≡ before) ⊎ (did.done ≡ before ++ line ∷ []) → AreFirst did.done
  beside_first before line (more, is) (inl e) =
      (line ∷ more, ap (λ ls. ls ++ line ∷ more) e ∙ sym (append_assoc before (line ∷ []) more) ∙ is)
  beside_first before line (more, is) (inr e) = (more, ap (λ ls. ls ++ more) e ∙ is)

  done_first : (called : List Call) (result : Result Tally RunFault) →
      Ends script (ReadsLast (Some 0) reads) (Unit {0}) reads called did result → AreFirst did.done
  done_first called (Ok tally) e = were_read did.done (inr (e.0.0, e.0.1))
  done_first called (Err Input) e = whole_first e.0.0
  done_first called (Err Output) (inl i, well, failed) = were_read did.done i.0
  done_first called (Err Output) (inr (inl all), well, failed) = were_read did.done (inr (all.0, all.1))
  done_first called (Err Output) (inr (inr (_, inl w)), well, failed) = whole_first w.0
  done_first called (Err Output) (inr (inr (_, inr f)), well, failed) =
      beside_first f.before f.line (were_read (f.before ++ f.line ∷ []) f.read_whole) f.done_are
  done_first called (Err Memory) e = (lines whole, ap (λ ls. ls ++ lines whole) e.0)

-- ---- what was written

longer_begins : (x y : ℕ) (xs ys : List ℕ) → x ≡ y → OneBegins xs ys → OneBegins (x ∷ xs) (y ∷ ys)
longer_begins x y xs ys e (inl (more, is)) =
    inl (more, ap (λ z. z ∷ ys) (sym e) ∙ ap (λ (zs : List ℕ). x ∷ zs) is)
longer_begins x y xs ys e (inr (more, is)) = inr (more, ap (λ z. z ∷ xs) e ∙ ap (λ (zs : List ℕ). y ∷ zs) is)

-- two beginnings of one list
one_begins : (xs ys rest others : List ℕ) → xs ++ rest ≡ ys ++ others → OneBegins xs ys
one_begins [] ys rest others e = inl (ys, refl)
one_begins (x ∷ xs) [] rest others e = inr (x ∷ xs, refl)
one_begins (x ∷ xs) (y ∷ ys) rest others e =
    let same = same_heads x y (xs ++ rest) (ys ++ others) e in
    longer_begins x y xs ys same.0 (one_begins xs ys rest others same.1)

turned : (xs ys : List ℕ) → OneBegins xs ys → OneBegins ys xs
turned xs ys (inl b) = inr b
turned xs ys (inr b) = inl b

module _ {start now start' now' : World} (written waiting written' waiting' : List ℕ)
    (did : Did start now (written ++ waiting)) (did' : Did start' now' (written' ++ waiting')) where
  written_begins : (later : List Reply) → did'.replies ≡ did.replies ++ later → OneBegins written written'
  written_begins later e =
      one_begins written written' ((waiting ++ did.left) ++ texts later) (waiting' ++ did'.left)
      (sym (append_assoc written (waiting ++ did.left) (texts later))
      ∙ ap (λ bytes. bytes ++ texts later) (sym (did.texts_are ∙ append_assoc written waiting did.left))
      ∙ sym (flat_map-append text_of did.replies later) ∙ ap texts (sym e) ∙ did'.texts_are
      ∙ append_assoc written' waiting' did'.left)

  -- the texts of the same replies, of which nothing waits and nothing is left
  written_same : did.replies ≡ did'.replies → waiting ≡ [] → did.left ≡ [] → waiting' ≡ [] → did'.left ≡ [] →
      written ≡ written'
  written_same e w l w' l' =
      all_out written waiting did w l ∙ ap texts e ∙ sym (all_out written' waiting' did' w' l')

-- the notes on the first of some lines are the first of their notes
notes_first : (n : ℕ) (ls more : List (List ℕ)) (rs later : List Reply) → length rs ≤ length ls →
    (rest : List ℕ) × (notes_from n (ls ++ more) (rs ++ later) ≡ notes_from n ls rs ++ rest)
notes_first n [] more [] later h = (notes_from n more later, refl)
notes_first n [] more (r ∷ rs) later h = absurd (omega arith)
notes_first n (line ∷ ls) more [] later h = (notes_from n (line ∷ (ls ++ more)) later, refl)
notes_first n (line ∷ ls) more (r ∷ rs) later h =
    let (rest, is) = notes_first (n + 1) ls more rs later (omega arith) in
    let note = note_of (number_of n) line r in
    (rest, ap (λ text. note ++ text) is ∙ sym (append_assoc note (notes_from (n + 1) ls rs) rest))

came_first : (rs : List Reply) (left : List ℕ) → (last : List Reply) × (rs ≡ came_out rs left ++ last)
came_first rs [] = ([], sym (append-nil rs))
came_first rs (byte ∷ left) = (drop (length rs - 1) rs, sym (take-append-drop (length rs - 1) rs))

-- what was written of a run's notes is the first of the notes of any run that it begins
noted_first : {start now : World} {written : List ℕ} (did : Did start now written) (notes rest : List ℕ)
    (all later : List Reply) (more ls : List (List ℕ))
    → notes_of did.done (came_out did.replies did.left) ≡ notes ++ rest → all ≡ did.replies ++ later →
    did.done ++ more ≡ ls → (others : List ℕ) × (notes_of ls all ≡ notes ++ others)
noted_first did notes rest all later more ls is are e =
    let (last, came) = came_first did.replies did.left in
    let first = came_out did.replies did.left in
    let many = Steps-lengths _ _ did.done did.replies did.steps in
    let few = ap length came in
    let (others, n) = notes_first 1 did.done more first (last ++ later)
    (omega (arith, many, few, length-append first last)) in (
      rest ++ others,
      ap (notes_of ls) (are ∙ ap (λ rs. rs ++ later) came ∙ append_assoc first last later)
          ∙ ap (λ lines. notes_of lines (first ++ (last ++ later))) (sym e) ∙ n ∙ ap (λ text. text ++ others) is
          ∙ append_assoc notes rest others,
    )

-- as many lines had the same replies
all_replies : (one other : Course) → Begins one other → length one.replies ≡ length other.replies →
    one.replies ≡ other.replies
all_replies one other b n =
    let long = ap length b.replies in
    let none : b.later ≡ [] = nil_from_length b.later (omega (arith, n, long, length-append one.replies b.later)) in
    sym (b.replies ∙ ap (λ (rs : List Reply). one.replies ++ rs) none ∙ append-nil one.replies)

same_replies : (one other : Course) → Begins one other ⊎ Begins other one → length one.replies ≡ length other.replies →
    one.replies ≡ other.replies
same_replies one other (inl b) n = all_replies one other b n
same_replies one other (inr b) n = sym (all_replies other one b (sym n))

-- ---- two runs

module _ (R W E F : Type 0) {S : Type 0} (files : S → Files) (opened : S → List ℕ → Type 0) (script : List ℕ)
    (held : Held) (start : History (List ℕ)) where
  module _ (ended : Ended R W E F S) (run : RunOf R W E F files opened script held start ended) where
    abbrev did_in : Did (world start (files run.runs.first)) (world run.runs.now (files run.runs.last))
        (taken ended.streams.output ++ run.runs.waiting)
    did_in = run.runs.runs.did

    -- such a run isn't stopped by a refused line
    unstopped : Ends (given ended.streams.input) (ReadsLast (Some 0) (reads ended.streams.input)) (Unit {0})
        (reads ended.streams.input) (called ended.streams.output) did_in run.runs.result
    unstopped = elim run.runs.runs.ends [
      | inl ends ↦ ends
      | inr halts ↦ let no = halts.0 in absurd cc
    ]

    abbrev ends_in : (result : Result Tally RunFault) → run.runs.result ≡ result →
        Ends (given ended.streams.input) (ReadsLast (Some 0) (reads ended.streams.input)) (Unit {0})
        (reads ended.streams.input) (called ended.streams.output) did_in result
    ends_in result e = subst (λ r. Ends (given ended.streams.input) (ReadsLast (Some 0) (reads ended.streams.input))
        (Unit {0}) (reads ended.streams.input) (called ended.streams.output) did_in r) e unstopped

    -- nothing waits after a result that says so
    none_waits : (result : Result Tally RunFault) → run.runs.result ≡ result →
        MatchResult result (λ _. run.runs.waiting ≡ []) (λ fault. fault ≡ Input → run.runs.waiting ≡ [])
    none_waits result e = subst (λ r. MatchResult r (λ _. run.runs.waiting ≡ [])
        (λ fault. fault ≡ Input → run.runs.waiting ≡ [])) e run.runs.runs.none_wait

    takes : Takes held (world start (files run.runs.first)) (world run.runs.now (files run.runs.last)) did_in.done
        (course_of R W E F files opened run)
    takes = record {
      steps = did_in.steps;
      plain = run.plain;
      unasked = run.unasked;
      found_are = run.found_are;
      from_held = run.from_held;
      state_is = refl;
    }

    first_lines : (more : List (List ℕ)) × (did_in.done ++ more ≡ lines script)
    first_lines = done_first did_in script (given ended.streams.input) (reads ended.streams.input) run.read
        (called ended.streams.output) run.runs.result unstopped

    -- a run that came to the end has read the whole script
    all_read : (tally : Tally) → run.runs.result ≡ Ok tally → did_in.done ≡ lines script
    all_read tally e =
        let all = (ends_in (Ok tally) e).0 in
        all.0 ∙ ap lines (sym (run.read.is ∙ ap (λ more. given ended.streams.input ++ more) (run.read.whole all.1)
        ∙ append-nil (given ended.streams.input)))

    many : length did_in.done ≡ length did_in.replies
    many = Steps-lengths _ _ did_in.done did_in.replies did_in.steps

  module _ (ended ended' : Ended R W E F S) (run : RunOf R W E F files opened script held start ended)
      (other : RunOf R W E F files opened script held start ended') where
    abbrev mine : Did (world start (files run.runs.first)) (world run.runs.now (files run.runs.last))
        (taken ended.streams.output ++ run.runs.waiting)
    mine = did_in ended run

    abbrev theirs : Did (world start (files other.runs.first)) (world other.runs.now (files other.runs.last))
        (taken ended'.streams.output ++ other.runs.waiting)
    theirs = did_in ended' other

    courses : Begins (course_of R W E F files opened run) (course_of R W E F files opened other)
        ⊎ Begins (course_of R W E F files opened other) (course_of R W E F files opened run)
    courses =
        let first = first_lines ended run in
        let first' = first_lines ended' other in
        one_course held _ _ _ _ mine.done theirs.done first.0 first'.0 (course_of R W E F files opened run)
        (course_of R W E F files opened other) (takes ended run) (takes ended' other) refl (first.1 ∙ sym first'.1)

    -- the same lines had the same replies
    replied : mine.done ≡ theirs.done → mine.replies ≡ theirs.replies
    replied e = same_replies (course_of R W E F files opened run) (course_of R W E F files opened other) courses
        (sym (many ended run) ∙ ap length e ∙ many ended' other)

    writes : OneBegins (taken ended.streams.output) (taken ended'.streams.output)
    writes = elim courses [
      | inl b ↦ written_begins _ run.runs.waiting _ other.runs.waiting mine theirs b.later b.replies
      | inr b ↦ turned _ _ (written_begins _ other.runs.waiting _ run.runs.waiting theirs mine b.later b.replies)
    ]

    notes : (m m' : List ℕ) (rest rest' : List ℕ) → notes_of mine.done (came_out mine.replies mine.left) ≡ m ++ rest →
        notes_of theirs.done (came_out theirs.replies theirs.left) ≡ m' ++ rest' → OneBegins m m'
    notes m m' rest rest' n n' =
        let first = first_lines ended run in
        let first' = first_lines ended' other in
        elim courses [
          | inl b ↦
              let one = noted_first mine m rest theirs.replies b.later first.0 (lines script) n b.replies first.1 in
              let all = noted_first theirs m' rest' theirs.replies [] first'.0 (lines script) n'
              (sym (append-nil theirs.replies)) first'.1 in
              one_begins m m' one.0 all.0 (sym one.1 ∙ all.1)
          | inr b ↦
              let one = noted_first theirs m' rest' mine.replies b.later first'.0 (lines script) n' b.replies
              first'.1 in
              let all = noted_first mine m rest mine.replies [] first.0 (lines script) n
              (sym (append-nil mine.replies)) first.1 in
              one_begins m m' all.0 one.0 (sym all.1 ∙ one.1)
        ]

    ends_same : (result result' : Result Tally RunFault) → run.runs.result ≡ result → other.runs.result ≡ result' →
        status_of result ≡ status_of result' → ended.status ≡ ended'.status
    ends_same result result' e e' same =
        run.runs.status_is ∙ ap status_of e ∙ same ∙ sym (other.runs.status_is ∙ ap status_of e')

    alike : WritesAlike R W E F files opened run other
    alike = record {
      course = courses;
      written = writes;
      noted = λ e e'.
          let told = (run.runs.tells_notes e).explains in
          let told' = (other.runs.tells_notes e').explains in
          notes _ _ told.rest told'.rest told.notes_are told'.notes_are;
      to_the_end = λ tally tally' e e'.
          let all = ends_in ended run (Ok tally) e in
          let all' = ends_in ended' other (Ok tally') e' in
          let same = replied (all_read ended run tally e ∙ sym (all_read ended' other tally' e')) in (
            written_same _ _ _ _ mine theirs same (none_waits ended run (Ok tally) e) all.0.2
                (none_waits ended' other (Ok tally') e') all'.0.2,
            ends_same (Ok tally) (Ok tally') e e'
                (ap (λ (t : Tally). status_of (Ok t)) (all.1 ∙ ap tally_of same ∙ sym all'.1)),
          );
      to_one_byte = λ e e' read.
          let all = ends_in ended run (Err Input) e in
          let all' = ends_in ended' other (Err Input) e' in
          let same = replied (all.0.0 ∙ ap whole_lines read ∙ sym all'.0.0) in (
            written_same _ _ _ _ mine theirs same (none_waits ended run (Err Input) e refl) all.0.1
                (none_waits ended' other (Err Input) e' refl) all'.0.1,
            ends_same (Err Input) (Err Input) e e' refl,
          );
    }

pub one_output : (R W E F : Type 0) {S : Type 0} (files : S → Files) (opened : S → List ℕ → Type 0) →
    OneOutput R W E F files opened
one_output R W E F files opened script held start ended ended' run other =
    alike R W E F files opened script held start ended ended' run other
