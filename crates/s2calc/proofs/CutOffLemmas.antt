-- Two runs that are cut off at the same byte have one end.
use Rattle.std.proofs.Common.{◌≡◌, ℕ, ◌<◌, true, List, [], ◌∷◌, ◌++◌, Option, None, Some, refl, sym, ap, ◌∙◌, subst}
use Rattle.std.proofs.Common.{append_assoc, append-nil, length, eqb, arith, inl, inr, length-append, take}
use Rattle.std.proofs.lemmas.List.{append_cancel_left, append_cancel_right, take_at}
use Rattle.std.proofs.lemmas.List.Concat.{flat_map-append}
use Rattle.std.proofs.lemmas.List.Splits.{length-slice_split}
use Rattle.std.specs.List.{AllByRecursion}
use Rattle.std.specs.Io.KnownBytes.{Consumes, IsAtEnd}
use Rattle.s2script.specs.Lines.{IsUnbroken, ended, lines, pieces, whole_lines, but_last, last_piece}
use Rattle.s2script.specs.Lines.{last_line, unended}
use Rattle.s2calc.specs.World.{World}
use Rattle.s2calc.specs.Replies.{Reply, text_of, texts}
use Rattle.s2calc.specs.Working.Stands.{IsCutOff}
use Rattle.s2calc.specs.Run.{Known, Ran, WholeLines, InsideAnswer, Steps, WereReadWhole}
use Rattle.s2calc.specs.Laws.{SameWorld, AllPlain}
use Rattle.s2calc.specs.LawsScripts.{SameStart, SameEnd}
use Rattle.s2calc.proofs.LineLemmas.{BeginsWith-more, pieces_line}
use Rattle.s2calc.proofs.CloseLemmas.{but_last-more}
use Rattle.s2calc.proofs.OneRun.{one_run_of, Begun, begun_all, exposed_begins}
use Rattle.s2calc.proofs.ReadLemmas.{cut_off}
use Rattle.s2calc.proofs.RunLemmas.{Steps-lengths}
use Rattle.s2calc.proofs.ScriptLemmas.{written_is, same_written}

-- ---- cut off while reading

-- what was read up to one place is one script
read_one : (whole script other : List ℕ) (left : Option (List ℕ)) → Consumes (Some whole) left script →
    Consumes (Some whole) left other → script ≡ other
read_one whole script other None p q = absurd p
read_one whole script other (Some left) p q = append_cancel_right script other left (sym p ∙ q)

pub one_end_of_input : (old old' new new' : Known) (script out : List ℕ) → SameStart old old' script out →
    new.input.ahead ≡ new'.input.ahead → (run : Ran old new) (other : Ran old' new') →
    WholeLines run.script run.did → WholeLines other.script other.did → AllPlain run.did.replies →
    AllPlain other.did.replies → SameEnd new new' run.did.replies other.did.replies
one_end_of_input old old' new new' script out start n run other w w' p p' =
    let read : Consumes (Some script) new.input.ahead run.script =
    subst (λ (known : Option (List ℕ)). Consumes known new.input.ahead run.script) start.input run.read.0 in
    let read' : Consumes (Some script) new'.input.ahead other.script =
    subst (λ (known : Option (List ℕ)). Consumes known new'.input.ahead other.script) start.input' other.read.0 in
    let same : run.script ≡ other.script =
    read_one script run.script other.script new'.input.ahead
    (subst (λ (left : Option (List ℕ)). Consumes (Some script) left run.script) n read) read' in
    let steps : Steps old.world other.did.done run.did.replies new.world =
    subst (λ (ls : List (List ℕ)). Steps old.world ls run.did.replies new.world)
    (w.0 ∙ ap whole_lines same ∙ sym w'.0) run.did.steps in
    let one = one_run_of old.world old'.world new.world new'.world other.did.done run.did.replies other.did.replies
    start.world
    start.tells steps other.did.steps p p' in
    record {
      written = same_written old old' new new' script out start run other w.1 w'.1 one.0;
      replies_are = one.0;
      world = one.1;
    }

-- ---- cut off while writing

-- after an answer that lacks some bytes comes no other
cut_whole : (rs more : List Reply) (bytes : List ℕ) → IsCutOff bytes rs → IsCutOff bytes (rs ++ more) → more ≡ []
cut_whole rs [] bytes k k' = refl
cut_whole rs (z ∷ zs) bytes k k' =
    let lasts = but_last (z ∷ zs) in
    let after = k'.all_but_last.0 in
    let is : bytes ≡ (texts rs ++ texts lasts) ++ after =
    k'.all_but_last.1 ∙ ap (λ (ss : List Reply). texts ss ++ after) (but_last-more rs z zs)
    ∙ ap (λ (b : List ℕ). b ++ after) (flat_map-append text_of rs lasts) in
    let long = ap length is in
    let short = ap length k.beginning in
    absurd (omega (
      arith,
      long,
      short,
      k.lacking,
      length-append bytes k.rest,
      length-append (texts rs) (texts lasts),
      length-append (texts rs ++ texts lasts) after,
    ))

cut_begun : (Holds : World → Type 0) (end : World) (rs ss : List Reply) (bytes : List ℕ) (b : Begun Holds end rs ss) →
    IsCutOff bytes rs → IsCutOff bytes ss → (rs ≡ ss) × Holds end
cut_begun Holds end rs ss bytes b k k' = begun_all Holds end rs ss b
    (cut_whole rs b.later bytes k (subst (λ (xs : List Reply). IsCutOff bytes xs) b.are k'))

-- two beginnings of one script whose answers are cut off at the same byte
one_cut : (a b c d : World) (ls ms xs ys : List (List ℕ)) (rs ss : List Reply) (bytes : List ℕ) → SameWorld a b →
    a.files.tells ≡ true → ls ++ xs ≡ ms ++ ys → Steps a ls rs c → Steps b ms ss d → AllPlain rs → AllPlain ss
    → IsCutOff bytes rs → IsCutOff bytes ss → (rs ≡ ss) × SameWorld c d
one_cut a b c d ls ms xs ys rs ss bytes s t e l m p q k k' =
    elim (exposed_begins a b c d ls ms xs ys rs ss (s, t) e l m p q) [
      | inl h ↦ let all = cut_begun _ d rs ss bytes h k k' in (all.0, all.1.0)
      | inr h ↦ let all = cut_begun _ c ss rs bytes h k' k in (sym all.0, all.1.0)
    ]

-- ---- lines that were read whole

some_pieces : (script : List ℕ) → 0 < length (pieces script)
some_pieces script = omega (arith, length-slice_split (λ b. eqb b 10) script)

but_last_later : (x : List ℕ) (xs : List (List ℕ)) → 0 < length xs → but_last (x ∷ xs) ≡ x ∷ but_last xs
but_last_later x [] h = absurd (omega arith)
but_last_later x (y ∷ ys) h = but_last-more (x ∷ []) y ys

last_piece_later : (x : List ℕ) (xs : List (List ℕ)) → 0 < length xs → last_piece (x ∷ xs) ≡ last_piece xs
last_piece_later x [] h = absurd (omega arith)
last_piece_later x (y ∷ ys) h = refl

lines_line : (line more : List ℕ) → IsUnbroken line → lines (line ++ 10 ∷ more) ≡ line ∷ lines more
lines_line line more u =
    let cut = pieces_line line more u in
    let some = some_pieces more in
    let whole : whole_lines (line ++ 10 ∷ more) ≡ line ∷ whole_lines more = ap but_last cut
    ∙ but_last_later line (pieces more) some in
    let left : unended (line ++ 10 ∷ more) ≡ unended more = ap last_piece cut
    ∙ last_piece_later line (pieces more) some in
    ap (λ ls. ls ++ last_line (unended (line ++ 10 ∷ more))) whole
    ∙ ap (λ b. (line ∷ whole_lines more) ++ last_line b) left

lines_ended : (done : List (List ℕ)) (rest : List ℕ) → AllByRecursion IsUnbroken done →
    lines (ended done ++ rest) ≡ done ++ lines rest
lines_ended [] rest e = refl
lines_ended (line ∷ done) rest e =
    ap lines (append_assoc (line ++ 10 ∷ []) (ended done) rest ∙ append_assoc line (10 ∷ []) (ended done ++ rest))
    ∙ lines_line line (ended done ++ rest) e.0 ∙ ap (λ ls. line ∷ ls) (lines_ended done rest e.1)

-- lines that were read whole are the first of the lines of the whole script
pub read_lines : (whole script left : List ℕ) (Ended : Type 0) (done : List (List ℕ)) → whole ≡ script ++ left →
    (Ended → left ≡ []) → WereReadWhole script Ended done → (more : List (List ℕ)) × (done ++ more ≡ lines whole)
read_lines whole script left Ended done c none (inl (rest, begins)) =
    let b = BeginsWith-more script done rest left begins in
    (lines (rest ++ left), sym (ap lines (c ∙ b.bytes_are) ∙ lines_ended done (rest ++ left) b.each))
read_lines whole script left Ended done c none (inr (are, ended)) =
    ([], append-nil done ∙ are ∙ ap lines (sym (c ∙ ap (λ l. script ++ l) (none ended) ∙ append-nil script)))

-- what a reader that exposes its bytes has left
read_known : (whole script : List ℕ) (left : Option (List ℕ)) (done : List (List ℕ)) →
    Consumes (Some whole) left script → WereReadWhole script (IsAtEnd left) done
    → (more : List (List ℕ)) × (done ++ more ≡ lines whole)
read_known whole script None done c w = absurd c
read_known whole script (Some left) done c w =
    read_lines whole script left (IsAtEnd (Some left)) done c (λ none. none) w

-- as many lines of one script, from its beginning
same_done : (done other more others : List (List ℕ)) → done ++ more ≡ other ++ others → length done ≡ length other →
    done ≡ other
same_done done other more others e n =
    sym (take_at done more (length done) refl) ∙ ap (take (length done)) e ∙ take_at other others (length done) (sym n)

pub one_end_of_output : (old old' new new' : Known) (script out : List ℕ) → SameStart old old' script out →
    new.output ≡ new'.output → (run : Ran old new) (other : Ran old' new') →
    InsideAnswer run.script (IsAtEnd new.input.ahead) run.did →
    InsideAnswer other.script (IsAtEnd new'.input.ahead) other.did
    → AllPlain run.did.replies → AllPlain other.did.replies
    → SameEnd new new' run.did.replies other.did.replies × (run.did.done ≡ other.did.done)
one_end_of_output old old' new new' script out start n run other s s' p p' =
    let read : Consumes (Some script) new.input.ahead run.script =
    subst (λ (known : Option (List ℕ)). Consumes known new.input.ahead run.script) start.input run.read.0 in
    let read' : Consumes (Some script) new'.input.ahead other.script =
    subst (λ (known : Option (List ℕ)). Consumes known new'.input.ahead other.script) start.input' other.read.0 in
    let d = read_known script run.script new.input.ahead run.did.done read s.0 in
    let d' = read_known script other.script new'.input.ahead other.did.done read' s'.0 in
    let w = written_is old.output new.output out run.written start.output run.appended in
    let w' = written_is old'.output new'.output out other.written start.output' other.appended in
    let known : Some (out ++ run.written) ≡ Some (out ++ other.written) = sym w ∙ n ∙ w' in
    let longer : out ++ run.written ≡ out ++ other.written = cc in
    let same : other.written ≡ run.written = sym (append_cancel_left out run.written other.written longer) in
    let one = one_cut old.world old'.world new.world new'.world run.did.done other.did.done d.0 d'.0 run.did.replies
    other.did.replies
    run.written start.world start.tells (d.1 ∙ sym d'.1) run.did.steps other.did.steps p p' (cut_off run.did s.1)
    (subst (λ (b : List ℕ). IsCutOff b other.did.replies) same (cut_off other.did s'.1)) in
    let count = Steps-lengths old.world new.world run.did.done run.did.replies run.did.steps in
    let count' = Steps-lengths old'.world new'.world other.did.done other.did.replies other.did.steps in
    let as_many : length run.did.done ≡ length other.did.done = count ∙ ap length one.0 ∙ sym count' in (
      record { written = n; replies_are = one.0; world = one.1 },
      same_done run.did.done other.did.done d.0 d'.0 (d.1 ∙ sym d'.1) as_many,
    )
