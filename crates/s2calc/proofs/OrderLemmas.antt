-- Lemmas on what an observer sees of a run.
use Rattle.std.proofs.Common.{◌≡◌, ◌∙◌, ℕ, ◌+◌, ◌<◌, Bool, true, List, [], ◌∷◌, ◌++◌, length, take}
use Rattle.std.proofs.Common.{Option, None, Some, Result, Ok, Err, MatchResult}
use Rattle.std.proofs.Common.{refl, sym, ap, subst, append_assoc, append-nil, arith, length-append, inl, inr}
use Rattle.std.proofs.lemmas.List.Concat.{flat_map-append}
use Rattle.std.specs.Io.KnownBytes.{Appends, IsAtEnd, Keeps}
use Rattle.std.proofs.KnownBytes.{Appends-kept, Appends-trans}
use Rattle.s2shelf.specs.Shelf.{Files}
use Rattle.s2script.specs.Line.{line_of}
use Rattle.s2script.specs.Lines.{lines, whole_lines, IsUnbroken, BeginsWith}
use Rattle.s2calc.specs.declared.engine.Tally.{Tally}
use Rattle.s2calc.specs.declared.fault.RunFault.{RunFault}
use Rattle.s2calc.specs.declared.fault.RunFault.TheVariants.{Output}
use Rattle.s2calc.specs.declared.progress.Progress.{Progress}
use Rattle.s2calc.specs.declared.limits.TheConstants.{KEPT}
use Rattle.s2calc.specs.World.{World}
use Rattle.s2calc.specs.Replies.{Reply, text_of, texts}
use Rattle.s2calc.specs.Step.{asks_for_file}
use Rattle.s2calc.specs.Run.{Steps, Known, Runs, WereReadWhole, LastIsFirstRefused, NoneAfterRefused}
use Rattle.s2calc.specs.Working.Stands.{Point}
use Rattle.s2calc.specs.Calls.{Call, Flushed, Gains, Gained, AllWell, EndsWith, NoneFailed}
use Rattle.s2calc.specs.Reads.{Gives, AllGave, ReadsLast}
use Rattle.s2calc.specs.Flushing.{FlushedIfOk, Settled}
use Rattle.s2calc.specs.Working.Stands.{point, Stands, Answered, StandsAfter, Closes}
use Rattle.s2calc.specs.Moments.{Event, Came, ReadFailed, LineBegins, LineEnds, Moment, moment, bytes_of, read_of}
use Rattle.s2calc.specs.Moments.{bytes_read, reads_seen, begun_in, ended_in, Adds, AddsOne}
use Rattle.s2calc.specs.Order.{HasEnded, AllOut, GoneOut, ReadsWhen, LineWhen, MayCome, EachMay, Each, InOrder}
use Rattle.s2calc.specs.Order.{Ordered}
use Rattle.s2calc.specs.Working.Seen.{LinesSeen, LineSeen, LineCut, ManySeen, MoreSeen, EndSeen, LastSeen}
use Rattle.s2calc.specs.Working.Seen.{SeenSoFar}
use Rattle.s2calc.proofs.CallLemmas.{gains_nil, gains_more, none_failed_more, last_flushed_after, last_failed_after}
use Rattle.s2calc.proofs.CallLemmas.{gave_no_end}
use Rattle.s2calc.proofs.LineLemmas.{every-append, whole_lines_begun, BeginsWith-more}
use Rattle.s2calc.proofs.CloseLemmas.{lines_one, lines_none}
use Rattle.s2calc.proofs.ReadLemmas.{Appends-texts, finishes, stops_at_end, halts_well, halts_unflushed}
use Rattle.s2calc.proofs.RefusedLemmas.{none_before_last}
use Rattle.s2calc.proofs.StepLemmas.{line_of-kept}
use Rattle.s2calc.proofs.TakeInLemmas.{Stands-more, Steps-line, begins_line, texts-push}

-- ---- lists of moments

module _ {W S : Type 0} where
  pub bytes_read-append : (ms ns : List (Moment W S)) → bytes_read (ms ++ ns) ≡ bytes_read ms ++ bytes_read ns
  bytes_read-append ms ns = flat_map-append (λ (m : Moment W S). bytes_of m.event) ms ns

  -- no byte came in these
  pub bytes_read-quiet : (ms ns : List (Moment W S)) → bytes_read ns ≡ [] → bytes_read (ms ++ ns) ≡ bytes_read ms
  bytes_read-quiet ms ns e = bytes_read-append ms ns ∙ ap (λ b. bytes_read ms ++ b) e ∙ append-nil (bytes_read ms)

  pub reads_seen-append : (ms ns : List (Moment W S)) → reads_seen (ms ++ ns) ≡ reads_seen ms ++ reads_seen ns
  reads_seen-append ms ns = flat_map-append (λ (m : Moment W S). read_of m.event) ms ns

  -- no read was made in these
  pub reads_seen-quiet : (ms ns : List (Moment W S)) → reads_seen ns ≡ [] → reads_seen (ms ++ ns) ≡ reads_seen ms
  reads_seen-quiet ms ns e = reads_seen-append ms ns ∙ ap (λ r. reads_seen ms ++ r) e ∙ append-nil (reads_seen ms)

  pub begun_in-append : (ms ns : List (Moment W S)) → begun_in (ms ++ ns) ≡ begun_in ms + begun_in ns
  begun_in-append [] ns = let e : begun_in ns ≡ 0 + begun_in ns = omega arith in e
  begun_in-append (m ∷ ms) ns = let rest = begun_in-append ms ns in omega (arith, rest)

  pub ended_in-append : (ms ns : List (Moment W S)) → ended_in (ms ++ ns) ≡ ended_in ms + ended_in ns
  ended_in-append [] ns = let e : ended_in ns ≡ 0 + ended_in ns = omega arith in e
  ended_in-append (m ∷ ms) ns = let rest = ended_in-append ms ns in omega (arith, rest)

  -- more lines have begun and ended
  lines_more : (past ms : List (Moment W S)) (few many : ℕ) → few + begun_in ms ≡ many → few + ended_in ms ≡ many →
      LinesSeen few past → LinesSeen many (past ++ ms)
  lines_more past ms few many begun ended seen =
      let all_begun = begun_in-append past ms in
      let all_ended = ended_in-append past ms in
      let first_begun = seen.0 in
      let first_ended = seen.1 in (
        omega (arith, begun, all_begun, first_begun),
        omega (arith, ended, all_ended, first_ended),
      )

  pub Adds-none : (known : Option (List (Moment W S))) (P : List (Moment W S) → Type 0) → P [] → Adds known known P
  Adds-none None P p = tt
  Adds-none (Some ms) P p = (ms, [], refl, sym (append-nil ms), p)

  pub Adds-same : (a b c : Option (List (Moment W S))) (P : List (Moment W S) → Type 0) → Adds a b P → c ≡ b →
      Adds a c P
  Adds-same a b c P p e = subst (λ (k : Option (List (Moment W S))). Adds a k P) (sym e) p

  pub Adds-weaker : (a b : Option (List (Moment W S))) (P Q : List (Moment W S) → Type 0) →
      ((ms : List (Moment W S)) → P ms → Q ms) → Adds a b P → Adds a b Q
  Adds-weaker a None P Q f p = tt
  Adds-weaker a (Some ms) P Q f p = (p.0, p.1, p.2, p.3, f p.1 p.4)

  Adds-onto : (a b : Option (List (Moment W S))) (front : List (Moment W S)) (P : List (Moment W S) → Type 0) →
      Adds a b P → b ≡ Some front → Adds a (Some front) P
  Adds-onto a b front P p e = subst (λ (k : Option (List (Moment W S))). Adds a k P) e p

  pub Adds-trans : (a b c : Option (List (Moment W S))) (P Q R : List (Moment W S) → Type 0) →
      ((ms ns : List (Moment W S)) → P ms → Q ns → R (ms ++ ns)) → Adds a b P → Adds b c Q → Adds a c R
  Adds-trans a b None P Q R f p q = tt
  Adds-trans a b (Some ms) P Q R f p q =
      let first = Adds-onto a b q.0 P p q.2 in (
        first.0,
        first.1 ++ q.1,
        first.2,
        q.3 ∙ ap (λ s. s ++ q.1) first.3 ∙ append_assoc first.0 first.1 q.1,
        f first.1 q.1 first.4 q.4,
      )

  pub Adds-three : (a b c d : Option (List (Moment W S))) (P Q R T : List (Moment W S) → Type 0) →
      ((ms ns ks : List (Moment W S)) → P ms → Q ns → R ks → T ((ms ++ ns) ++ ks)) → Adds a b P → Adds b c Q →
      Adds c d R → Adds a d T
  Adds-three a b c d P Q R T f p q r =
      Adds-trans a c d
      (λ (all : List (Moment W S)). (ms : List (Moment W S)) × (ns : List (Moment W S)) × (all ≡ ms ++ ns) × P ms × Q
      ns)
      R T
      (λ all ks m k. subst (λ (x : List (Moment W S)). T (x ++ ks)) (sym m.2) (f m.0 m.1 ks m.3 m.4 k))
      (Adds-trans a b c P Q
      (λ (all : List (Moment W S)). (ms : List (Moment W S)) × (ns : List (Moment W S)) × (all ≡ ms ++ ns) × P ms × Q
      ns)
      (λ ms ns x y. (ms, ns, refl, x, y)) p q)
      r

  -- the reader was at its end, and still is
  pub HasEnded-more : (past ms : List (Moment W S)) → HasEnded past → HasEnded (past ++ ms)
  HasEnded-more past ms h = record {
    before = h.before;
    last = h.last;
    after = h.after ++ ms;
    is = ap (λ k. k ++ ms) h.is ∙ append_assoc h.before (h.last ∷ h.after) ms;
    nothing_came = h.nothing_came;
  }

-- ---- moments in order

-- what is said of a writer may be said otherwise, and the run had more replies
module _ {W S : Type 0} {Written Written' : W → List ℕ → Type 0} {Called Called' : W → (List Call → Type 0) → Type 0}
    (is_sent : W → Type 0) (files : S → Files) (may_flush : Type 0) (start : World)
    (written : (writer : W) (bytes : List ℕ) → Written writer bytes → Written' writer bytes)
    (called : (writer : W) (Holds : List Call → Type 0) → Called writer Holds → Called' writer Holds)
    (all longer more : List Reply) (is : longer ≡ all ++ more) where
  abbrev out_so : (ls : List (List ℕ)) (writer : W) →
      AllOut Written Called is_sent files may_flush start all ls writer →
      AllOut Written' Called' is_sent files may_flush start longer ls writer
  out_so ls writer out = record {
    replies = out.replies;
    later = out.later ++ more;
    of_run = is ∙ ap (λ rs. rs ++ more) out.of_run ∙ append_assoc out.replies out.later more;
    now = out.now;
    steps = out.steps;
    out = written writer (texts out.replies) out.out;
    none_failed = called writer (AllWell may_flush) out.none_failed;
  }

  gone_so : (writer : W) → GoneOut Called is_sent may_flush writer → GoneOut Called' is_sent may_flush writer
  gone_so writer g =
      record { sent = g.sent; flushed = λ m. called writer (EndsWith Flushed may_flush) (g.flushed m) }

  reads_so : (past : List (Moment W S)) (m : Moment W S) →
      ReadsWhen Written Called is_sent files may_flush start all past m →
      ReadsWhen Written' Called' is_sent files may_flush start longer past m
  reads_so past m r = record { answers = out_so _ _ r.answers; gone_out = gone_so _ r.gone_out }

  line_so : (past : List (Moment W S)) (m : Moment W S) →
      LineWhen Written Called is_sent files may_flush start all past m →
      LineWhen Written' Called' is_sent files may_flush start longer past m
  line_so past m l = record {
    before = l.before;
    line = l.line;
    begun = l.begun;
    ended = l.ended;
    read_whole = l.read_whole;
    answers = out_so _ _ l.answers;
    files_are = l.files_are;
    gone_out = λ h. gone_so _ (l.gone_out h);
  }

  may_so : (e : Event) (past : List (Moment W S)) (m : Moment W S) →
      MayCome Written Called is_sent files may_flush start all e past m →
      MayCome Written' Called' is_sent files may_flush start longer e past m
  may_so (Came bytes) past m r = reads_so past m r
  may_so ReadFailed past m r = reads_so past m r
  may_so LineBegins past m l = line_so past m l
  may_so LineEnds past m l = line_so past m l

  pub EachMay-so : (past ms : List (Moment W S)) → EachMay Written Called is_sent files may_flush start all past ms →
      EachMay Written' Called' is_sent files may_flush start longer past ms
  EachMay-so past [] p = tt
  EachMay-so past (m ∷ ms) p = (may_so m.event past m p.0, EachMay-so (past ++ m ∷ []) ms p.1)

module _ {W S : Type 0} (contents : W → Option (List ℕ)) (calls : W → Option (List Call)) (is_sent : W → Type 0)
    (files : S → Files) (may_flush : Type 0) where
  module _ (world : World) (first : W) where
    pub EachMay-append : (all : List Reply) (past ms ns : List (Moment W S)) →
        Each contents calls is_sent files may_flush world first all past ms
        → Each contents calls is_sent files may_flush world first all (past ++ ms) ns
        → Each contents calls is_sent files may_flush world first all past (ms ++ ns)
    EachMay-append all past [] ns p q =
        subst (λ (k : List (Moment W S)). Each contents calls is_sent files may_flush world first all k ns)
        (append-nil past) q
    EachMay-append all past (m ∷ ms) ns p q = (
      p.0,
      EachMay-append all (past ++ m ∷ []) ms ns p.1
          (subst (λ (k : List (Moment W S)). Each contents calls is_sent files may_flush world first all k ns)
          (sym (append_assoc past (m ∷ []) ms)) q),
    )

    -- the run had more replies
    EachMay-longer : (all more : List Reply) (past ms : List (Moment W S)) →
        Each contents calls is_sent files may_flush world first all past ms
        → Each contents calls is_sent files may_flush world first (all ++ more) past ms
    EachMay-longer all more past ms p =
        EachMay-so is_sent files may_flush world (λ w bytes h. h) (λ w Holds h. h) all (all ++ more) more refl past ms p

    -- the line was read to its end, and still is
    read_more : (past ms : List (Moment W S)) (ls : List (List ℕ)) → bytes_read ms ≡ [] →
        WereReadWhole (bytes_read past) (HasEnded past) ls
        → WereReadWhole (bytes_read (past ++ ms)) (HasEnded (past ++ ms)) ls
    read_more past ms ls e (inl p) =
        inl (p.0, subst (λ (b : List ℕ). BeginsWith b ls p.0) (sym (bytes_read-quiet past ms e)) p.1)
    read_more past ms ls e (inr p) =
        inr (p.0 ∙ ap lines (sym (bytes_read-quiet past ms e)), HasEnded-more past ms p.1)

    -- all that was written has gone out
    gone_out : (old new : W) (has_file : Bool) → NoneFailed may_flush (calls first) (calls old) →
        Settled contents calls is_sent may_flush has_file old new → has_file ≡ true
        → GoneOut (λ writer. Gained (calls first) (calls writer)) is_sent may_flush new
    gone_out old new has_file n s h = record {
      sent = s.sent h;
      flushed = λ m. last_flushed_after may_flush (calls first) (calls old) (calls new) n (s.flushed h m);
    }

  module _ (start : Point) (script : List ℕ) (replies : List Reply) (now : Point) (progress : Progress)
      (s : Stands start script replies now progress) where
    -- what is kept of the line asks for a command with a file if the line does
    asks_kept : asks_for_file (line_of s.rest) ≡ true → asks_for_file (line_of progress.kept) ≡ true
    asks_kept h = ap asks_for_file (ap line_of s.kept_is ∙ line_of-kept s.rest) ∙ h

    begins_here : (old mid : W) (shelf : S) → now.world.files ≡ files shelf
        → Settled contents calls is_sent may_flush (asks_for_file (line_of progress.kept)) old mid
        → (first : W) (later : List Reply) (past : List (Moment W S))
        → WereReadWhole (bytes_read past) (HasEnded past) (s.done ++ s.rest ∷ [])
        → LinesSeen (length s.done) past → Appends (contents first) (contents old) (texts replies)
        → NoneFailed may_flush (calls first) (calls old)
        → LineWhen (λ w. Appends (contents first) (contents w)) (λ w. Gained (calls first) (calls w)) is_sent files
        may_flush start.world (replies ++ later) past (moment LineBegins mid shelf)
    begins_here old mid shelf files_are settled first later past whole seen out n =
        let first_begun = seen.0 in
        record {
          before = s.done;
          line = s.rest;
          begun = omega (arith, first_begun);
          ended = seen.1;
          read_whole = whole;
          answers = record {
            replies = replies;
            later = later;
            of_run = refl;
            now = now.world;
            steps = s.run;
            out = Appends-kept (contents first) (contents old) (contents mid) (texts replies) out settled.kept;
            none_failed = none_failed_more may_flush (calls first) (calls old) (calls mid) n settled.none_failed;
          };
          files_are = files_are;
          gone_out = λ h. gone_out start.world first old mid (asks_for_file (line_of progress.kept)) n settled
              (asks_kept h);
        }

    -- a line was seen to begin, and not to end
    cut_each : (old : W) (shelf : S) (ms : List (Moment W S)) → now.world.files ≡ files shelf
        → LineCut contents calls is_sent files may_flush (asks_for_file (line_of progress.kept)) old shelf ms
        → (first : W) (later : List Reply) (past : List (Moment W S))
        → WereReadWhole (bytes_read past) (HasEnded past) (s.done ++ s.rest ∷ [])
        → LinesSeen (length s.done) past → Appends (contents first) (contents old) (texts replies)
        → NoneFailed may_flush (calls first) (calls old)
        → Each contents calls is_sent files may_flush start.world first (replies ++ later) past ms
    cut_each old shelf ms files_are l first later past whole seen out n = subst (λ (k : List (Moment W S)).
        Each contents calls is_sent files may_flush start.world first (replies ++ later) past k) (sym l.is)
        (begins_here old l.mid shelf files_are l.settled first later past whole seen out n, tt)

  module _ (start : Point) (script : List ℕ) (replies : List Reply) (now new : Point) (progress after : Progress)
      (s : Stands start script replies now progress) (old writer : W) (old_shelf new_shelf : S)
      (a : Answered now progress new after (contents old) (contents writer))
      (well : NoneFailed may_flush (calls old) (calls writer)) (files_old : now.world.files ≡ files old_shelf)
      (files_new : new.world.files ≡ files new_shelf) (ms : List (Moment W S))
      (l : LineSeen contents calls is_sent files may_flush (asks_for_file (line_of progress.kept)) old writer old_shelf
      new_shelf ms) where
    module _ (first : W) (past : List (Moment W S))
        (whole : WereReadWhole (bytes_read past) (HasEnded past) (s.done ++ s.rest ∷ []))
        (seen : LinesSeen (length s.done) past) (out : Appends (contents first) (contents old) (texts replies))
        (n : NoneFailed may_flush (calls first) (calls old)) where
      ends_here : LineWhen (λ w. Appends (contents first) (contents w)) (λ w. Gained (calls first) (calls w)) is_sent
          files may_flush start.world (replies ++ a.reply ∷ []) (past ++ moment LineBegins l.mid old_shelf ∷ [])
          (moment LineEnds writer new_shelf)
      ends_here =
          let all_begun = begun_in-append past (moment LineBegins l.mid old_shelf ∷ []) in
          let all_ended = ended_in-append past (moment LineBegins l.mid old_shelf ∷ []) in
          let first_begun = seen.0 in
          let first_ended = seen.1 in
          record {
            before = s.done;
            line = s.rest;
            begun = omega (arith, all_begun, first_begun);
            ended = omega (arith, all_ended, first_ended);
            read_whole = read_more start.world first past (moment LineBegins l.mid old_shelf ∷ [])
                (s.done ++ s.rest ∷ []) refl whole;
            answers = record {
              replies = replies ++ a.reply ∷ [];
              later = [];
              of_run = sym (append-nil (replies ++ a.reply ∷ []));
              now = new.world;
              steps = Steps-line start script replies now progress s a.reply new a.step;
              out = subst (Appends (contents first) (contents writer)) (sym (texts-push replies a.reply))
                  (Appends-trans (contents first) (contents old) (contents writer) (texts replies) (text_of a.reply)
                  out a.written);
              none_failed = none_failed_more may_flush (calls first) (calls old) (calls writer) n well;
            };
            files_are = files_new;
            gone_out = λ h. record {
              sent = l.sent (asks_kept start script replies now progress s h);
              flushed = λ m. last_flushed_after may_flush (calls first) (calls old) (calls writer) n
                  (l.flushed (asks_kept start script replies now progress s h) m);
            };
          }

      pub line_each : Each contents calls is_sent files may_flush start.world first (replies ++ a.reply ∷ []) past ms
      line_each = subst (λ (k : List (Moment W S)).
          Each contents calls is_sent files may_flush start.world first (replies ++ a.reply ∷ []) past k)
          (sym l.is) (
            begins_here start script replies now progress s old l.mid old_shelf files_old l.settled first
                (a.reply ∷ []) past whole seen out n,
            (ends_here, tt),
          )

    pub one_begun : begun_in ms ≡ 1
    one_begun = ap begun_in l.is

    pub one_ended : ended_in ms ≡ 1
    one_ended = ap ended_in l.is

    pub none_came : bytes_read ms ≡ []
    none_came = ap bytes_read l.is

    pub none_made : reads_seen ms ≡ []
    none_made = ap reads_seen l.is

  pub MoreSeen-none : (world : World) (script : List ℕ) (replies more : List Reply) (old : W) →
      MoreSeen contents calls is_sent files may_flush world script [] replies more old []
  MoreSeen-none world script replies more old =
      let same : length (whole_lines (script ++ [])) ≡ length (whole_lines script) =
      ap (λ b. length (whole_lines b)) (append-nil script) in
      let count : length (whole_lines script) + 0 ≡ length (whole_lines (script ++ [])) = omega (arith, same) in
      record {
        none_read = refl;
        none_made = refl;
        begun = count;
        ended = count;
        each = λ first past rest e lines_seen out n. tt;
      }

  -- the moments of one more line
  pub MoreSeen-line : (start : Point) (script : List ℕ) (replies : List Reply) (seen bytes : List ℕ)
      (now new : Point) (progress mid after : Progress) (before old writer : W) (old_shelf new_shelf : S)
      (ms ns : List (Moment W S))
      → (s : StandsAfter start script replies seen now progress (contents before) (contents old)) → IsUnbroken bytes →
      mid.kept ≡ take KEPT (progress.kept ++ bytes) → mid.tally ≡ progress.tally → mid.lines ≡ progress.lines →
      (a : Answered now mid new after (contents old) (contents writer))
      → NoneFailed may_flush (calls before) (calls old) → NoneFailed may_flush (calls old) (calls writer)
      → now.world.files ≡ files old_shelf → new.world.files ≡ files new_shelf
      → MoreSeen contents calls is_sent files may_flush start.world script seen replies s.more before ms
      → LineSeen contents calls is_sent files may_flush (asks_for_file (line_of mid.kept)) old writer old_shelf
      new_shelf ns
      → MoreSeen contents calls is_sent files may_flush start.world script ((seen ++ bytes) ++ 10 ∷ []) replies
      (s.more ++ a.reply ∷ []) before (ms ++ ns)
  MoreSeen-line start script replies seen bytes now new progress mid after before old writer old_shelf new_shelf ms ns
      s u m mid_tally mid_lines a earlier well files_old files_new seen_before l =
      let held = Stands-more start (script ++ seen) (replies ++ s.more) now progress mid bytes s.stands u m mid_tally
      mid_lines in
      let none = none_came start ((script ++ seen) ++ bytes) (replies ++ s.more) now new mid after held old writer
      old_shelf new_shelf a well files_old files_new ns l in
      let unmade = none_made start ((script ++ seen) ++ bytes) (replies ++ s.more) now new mid after held old writer
      old_shelf new_shelf a well files_old files_new ns l in
      let begun = one_begun start ((script ++ seen) ++ bytes) (replies ++ s.more) now new mid after held old writer
      old_shelf new_shelf a well files_old files_new ns l in
      let ended = one_ended start ((script ++ seen) ++ bytes) (replies ++ s.more) now new mid after held old writer
      old_shelf new_shelf a well files_old files_new ns l in
      let begins = begins_line script seen bytes [] ((seen ++ bytes) ++ 10 ∷ []) held.done held.rest held.begins
      held.unbroken refl in
      let whole_before : whole_lines (script ++ seen) ≡ s.stands.done = whole_lines_begun (script ++ seen)
      s.stands.done s.stands.rest s.stands.begins s.stands.unbroken in
      let whole_after : whole_lines (script ++ ((seen ++ bytes) ++ 10 ∷ [])) ≡ held.done ++ held.rest ∷ [] =
      whole_lines_begun (script ++ ((seen ++ bytes) ++ 10 ∷ [])) (held.done ++ held.rest ∷ []) [] begins tt in
      let same_done = ap length (sym (whole_lines_begun ((script ++ seen) ++ bytes) held.done held.rest held.begins
      held.unbroken) ∙ whole_lines_begun ((script ++ seen) ++ bytes) s.stands.done (s.stands.rest ++ bytes)
      (BeginsWith-more (script ++ seen) s.stands.done s.stands.rest bytes s.stands.begins)
      (every-append _ s.stands.rest bytes s.stands.unbroken u)) in
      let count_before = ap length whole_before in
      let count_done : length (whole_lines (script ++ seen)) ≡ length held.done = count_before ∙ sym same_done in
      let count_after = ap length whole_after in
      let one_more = length-append held.done (held.rest ∷ []) in
      let all_begun = begun_in-append ms ns in
      let all_ended = ended_in-append ms ns in
      let first_begun = seen_before.begun in
      let first_ended = seen_before.ended in
      record {
        none_read = bytes_read-quiet ms ns none ∙ seen_before.none_read;
        none_made = reads_seen-quiet ms ns unmade ∙ seen_before.none_made;
        begun = omega (arith, same_done, count_before, count_after, one_more, all_begun, first_begun, begun);
        ended = omega (arith, same_done, count_before, count_after, one_more, all_ended, first_ended, ended);
        each = λ first past rest e lines_seen out n.
            let here : bytes_read past ≡ (script ++ seen) ++ ((bytes ++ 10 ∷ []) ++ rest) = e
            ∙ (simp append_assoc) in
            let there : bytes_read (past ++ ms) ≡ script ++ ((seen ++ bytes) ++ 10 ∷ rest) =
            bytes_read-quiet past ms seen_before.none_read ∙ e ∙ (simp append_assoc) in
            subst (λ (rs : List Reply). Each contents calls is_sent files may_flush start.world first rs past
            (ms ++ ns)) (append_assoc replies s.more (a.reply ∷ []))
            (EachMay-append start.world first ((replies ++ s.more) ++ a.reply ∷ []) past ms ns
            (EachMay-longer start.world first (replies ++ s.more) (a.reply ∷ []) past ms
            (seen_before.each first past ((bytes ++ 10 ∷ []) ++ rest) here lines_seen out n))
            (line_each start ((script ++ seen) ++ bytes) (replies ++ s.more) now new mid after held old writer
            old_shelf new_shelf a well files_old files_new ns l first (past ++ ms)
            (inl (
              rest,
              subst (λ (b : List ℕ). BeginsWith b (held.done ++ held.rest ∷ []) rest) (sym there)
                  (begins_line script seen bytes rest ((seen ++ bytes) ++ 10 ∷ rest) held.done held.rest held.begins
                  held.unbroken refl),
            ))
            (lines_more past ms (length (whole_lines script)) (length held.done) (first_begun ∙ count_done)
            (first_ended ∙ count_done) lines_seen)
            (Appends-texts (contents first) (contents before) (contents old) replies s.more out s.written)
            (none_failed_more may_flush (calls first) (calls before) (calls old) n earlier)));
      }

  -- what was seen before a line that was cut off, and with it
  module _ (start : Point) (script : List ℕ) (replies : List Reply) (seen bytes more_bytes all : List ℕ) (now : Point)
      (progress mid : Progress) (before old : W) (ms : List (Moment W S))
      (s : StandsAfter start script replies seen now progress (contents before) (contents old)) (u : IsUnbroken bytes)
      (held : Stands start ((script ++ seen) ++ bytes) (replies ++ s.more) now mid)
      (whole : all ≡ (seen ++ bytes) ++ 10 ∷ more_bytes)
      (m : MoreSeen contents calls is_sent files may_flush start.world script seen replies s.more before ms) where
    done_count : length (whole_lines (script ++ seen)) ≡ length held.done
    done_count = ap length (whole_lines_begun (script ++ seen) s.stands.done s.stands.rest s.stands.begins
        s.stands.unbroken
        ∙ sym (whole_lines_begun ((script ++ seen) ++ bytes) s.stands.done (s.stands.rest ++ bytes)
        (BeginsWith-more (script ++ seen) s.stands.done s.stands.rest bytes s.stands.begins)
        (every-append _ s.stands.rest bytes s.stands.unbroken u))
        ∙ whole_lines_begun ((script ++ seen) ++ bytes) held.done held.rest held.begins held.unbroken)

    pub ManySeen-before : ManySeen contents calls is_sent files may_flush start.world script all replies s.more before
        (length held.done) (length held.done) ms
    ManySeen-before =
        record {
          none_read = m.none_read;
          none_made = m.none_made;
          begun = m.begun ∙ done_count;
          ended = m.ended ∙ done_count;
          each = λ first past rest e lines_seen out n.
              let here : bytes_read past ≡ (script ++ seen) ++ ((bytes ++ 10 ∷ more_bytes) ++ rest) = e
              ∙ ap (λ b. (script ++ b) ++ rest) whole ∙ (simp append_assoc) in
              m.each first past ((bytes ++ 10 ∷ more_bytes) ++ rest) here lines_seen out n;
        }

    pub ManySeen-cut : (reply : Reply) (shelf : S) (ns : List (Moment W S)) →
        NoneFailed may_flush (calls before) (calls old)
        → now.world.files ≡ files shelf
        → LineCut contents calls is_sent files may_flush (asks_for_file (line_of mid.kept)) old shelf ns
        → ManySeen contents calls is_sent files may_flush start.world script all replies (s.more ++ reply ∷ []) before
        (length (held.done ++ held.rest ∷ [])) (length held.done) (ms ++ ns)
    ManySeen-cut reply shelf ns earlier files_are l =
        let none : bytes_read ns ≡ [] = ap bytes_read l.is in
        let begun : begun_in ns ≡ 1 = ap begun_in l.is in
        let ended : ended_in ns ≡ 0 = ap ended_in l.is in
        let all_begun = begun_in-append ms ns in
        let all_ended = ended_in-append ms ns in
        let first_begun = m.begun in
        let first_ended = m.ended in
        let count = done_count in
        let one_more = length-append held.done (held.rest ∷ []) in
        record {
          none_read = bytes_read-quiet ms ns none ∙ m.none_read;
          none_made = reads_seen-quiet ms ns (ap reads_seen l.is) ∙ m.none_made;
          begun = omega (arith, begun, all_begun, first_begun, count, one_more);
          ended = omega (arith, ended, all_ended, first_ended, count);
          each = λ first past rest e lines_seen out n.
              let there : bytes_read (past ++ ms) ≡ script ++ ((seen ++ bytes) ++ 10 ∷ (more_bytes ++ rest)) =
              bytes_read-quiet past ms m.none_read ∙ e ∙ ap (λ b. (script ++ b) ++ rest) whole
              ∙ (simp append_assoc) in
              subst (λ (rs : List Reply). Each contents calls is_sent files may_flush start.world first rs past
              (ms ++ ns)) (append_assoc replies s.more (reply ∷ []))
              (EachMay-append start.world first ((replies ++ s.more) ++ reply ∷ []) past ms ns
              (EachMay-longer start.world first (replies ++ s.more) (reply ∷ []) past ms
              (ManySeen-before.each first past rest e lines_seen out n))
              (cut_each start ((script ++ seen) ++ bytes) (replies ++ s.more) now mid held old shelf ns files_are l
              first (reply ∷ []) (past ++ ms)
              (inl (
                more_bytes ++ rest,
                subst (λ (b : List ℕ). BeginsWith b (held.done ++ held.rest ∷ []) (more_bytes ++ rest)) (sym there)
                    (begins_line script seen bytes (more_bytes ++ rest) ((seen ++ bytes) ++ 10 ∷ (more_bytes ++ rest))
                    held.done held.rest held.begins held.unbroken refl),
              ))
              (lines_more past ms (length (whole_lines script)) (length held.done) (first_begun ∙ count)
              (first_ended ∙ count) lines_seen)
              (Appends-texts (contents first) (contents before) (contents old) replies s.more out s.written)
              (none_failed_more may_flush (calls first) (calls before) (calls old) n earlier)));
        }

  -- bytes without a newline end no line
  pub MoreSeen-rest : (start : Point) (script : List ℕ) (replies more : List Reply) (all seen bytes : List ℕ)
      (now : Point) (progress : Progress) (before : W) (output_old output_new : Option (List ℕ))
      (ms : List (Moment W S))
      → StandsAfter start script replies seen now progress output_old output_new → IsUnbroken bytes →
      all ≡ seen ++ bytes
      → MoreSeen contents calls is_sent files may_flush start.world script seen replies more before ms
      → MoreSeen contents calls is_sent files may_flush start.world script all replies more before ms
  MoreSeen-rest start script replies more all seen bytes now progress before output_old output_new ms s u whole m =
      let joined : (script ++ seen) ++ bytes ≡ script ++ all = append_assoc script seen bytes
      ∙ ap (λ b. script ++ b) (sym whole) in
      let begins = subst (λ (b : List ℕ). BeginsWith b s.stands.done (s.stands.rest ++ bytes)) joined
      (BeginsWith-more (script ++ seen) s.stands.done s.stands.rest bytes s.stands.begins) in
      let same : whole_lines (script ++ all) ≡ whole_lines (script ++ seen) =
      whole_lines_begun (script ++ all) s.stands.done (s.stands.rest ++ bytes) begins
      (every-append _ s.stands.rest bytes s.stands.unbroken u)
      ∙ sym (whole_lines_begun (script ++ seen) s.stands.done s.stands.rest s.stands.begins s.stands.unbroken) in
      record {
        none_read = m.none_read;
        none_made = m.none_made;
        begun = m.begun ∙ ap length (sym same);
        ended = m.ended ∙ ap length (sym same);
        each = λ first past rest e lines_seen out n. m.each first past (bytes ++ rest)
            (e ∙ ap (λ b. b ++ rest) (sym joined) ∙ append_assoc (script ++ seen) bytes rest) lines_seen out n;
      }

  pub LastSeen-none : (start : Point) (script : List ℕ) (replies more : List Reply) (now : Point) (progress : Progress)
      (old : W) → Stands start script replies now progress → progress.kept ≡ []
      → LastSeen contents calls is_sent files may_flush start.world script replies more old []
  LastSeen-none start script replies more now progress old s e =
      let same : length (whole_lines script) ≡ length (lines script) =
      ap length (whole_lines_begun script s.done s.rest s.begins s.unbroken
      ∙ sym (lines_none start script replies now progress s e)) in
      let count : length (whole_lines script) + 0 ≡ length (lines script) = omega (arith, same) in
      record {
        none_read = refl;
        none_made = refl;
        begun = count;
        ended = count;
        each = λ first past read at_end lines_seen out n. tt;
      }

  module _ (start : Point) (script : List ℕ) (replies : List Reply) (now : Point) (progress : Progress) (old : W)
      (s : Stands start script replies now progress) where
    -- the last line was not seen to begin
    pub EndSeen-none : (more : List Reply) → EndSeen contents calls is_sent files may_flush start.world script replies
        more old (length s.done) (length s.done) []
    EndSeen-none more =
        let whole = ap length (whole_lines_begun script s.done s.rest s.begins s.unbroken) in
        let count : length (whole_lines script) + 0 ≡ length s.done = omega (arith, whole) in
        record {
          none_read = refl;
          none_made = refl;
          begun = count;
          ended = count;
          each = λ first past read at_end lines_seen out n. tt;
        }

    -- the last line was seen to begin, and not to end
    pub EndSeen-cut : (reply : Reply) (shelf : S) (ms : List (Moment W S)) → 0 < length progress.kept →
        now.world.files ≡ files shelf
        → LineCut contents calls is_sent files may_flush (asks_for_file (line_of progress.kept)) old shelf ms
        → EndSeen contents calls is_sent files may_flush start.world script replies (reply ∷ []) old
        (length (lines script)) (length s.done) ms
    EndSeen-cut reply shelf ms h files_are l =
        let all = lines_one start script replies now progress s h in
        let whole = ap length (whole_lines_begun script s.done s.rest s.begins s.unbroken) in
        let count = ap length all in
        let one_more = length-append s.done (s.rest ∷ []) in
        let begun : begun_in ms ≡ 1 = ap begun_in l.is in
        let ended : ended_in ms ≡ 0 = ap ended_in l.is in
        record {
          none_read = ap bytes_read l.is;
          none_made = ap reads_seen l.is;
          begun = omega (arith, whole, count, one_more, begun);
          ended = omega (arith, whole, ended);
          each = λ first past read at_end lines_seen out n.
              cut_each start script replies now progress s old shelf ms files_are l first (reply ∷ []) past
              (inr (sym all ∙ ap lines (sym read), at_end)) (lines_seen.0 ∙ whole, lines_seen.1 ∙ whole) out n;
        }

  pub LastSeen-line : (start : Point) (script : List ℕ) (replies : List Reply) (now new : Point)
      (progress after : Progress) (old writer : W) (old_shelf new_shelf : S) (ms : List (Moment W S))
      → Stands start script replies now progress → 0 < length progress.kept →
      (a : Answered now progress new after (contents old) (contents writer))
      → NoneFailed may_flush (calls old) (calls writer) → now.world.files ≡ files old_shelf
      → new.world.files ≡ files new_shelf
      → LineSeen contents calls is_sent files may_flush (asks_for_file (line_of progress.kept)) old writer old_shelf
      new_shelf ms
      → LastSeen contents calls is_sent files may_flush start.world script replies (a.reply ∷ []) old ms
  LastSeen-line start script replies now new progress after old writer old_shelf new_shelf ms s h a well files_old
      files_new l =
      let all = lines_one start script replies now progress s h in
      let count_whole = ap length (whole_lines_begun script s.done s.rest s.begins s.unbroken) in
      let count_all = ap length all in
      let one_more = length-append s.done (s.rest ∷ []) in
      let begun = one_begun start script replies now new progress after s old writer old_shelf new_shelf a well
      files_old files_new ms l in
      let ended = one_ended start script replies now new progress after s old writer old_shelf new_shelf a well
      files_old files_new ms l in
      record {
        none_read = none_came start script replies now new progress after s old writer old_shelf new_shelf a well
            files_old files_new ms l;
        none_made = none_made start script replies now new progress after s old writer old_shelf new_shelf a well
            files_old files_new ms l;
        begun = omega (arith, count_whole, count_all, one_more, begun);
        ended = omega (arith, count_whole, count_all, one_more, ended);
        each = λ first past read at_end lines_seen out n.
            line_each start script replies now new progress after s old writer old_shelf new_shelf a well files_old
            files_new ms l first past (inr (sym all ∙ ap lines (sym read), at_end))
            (lines_seen.0 ∙ count_whole, lines_seen.1 ∙ count_whole) out n;
      }

  -- ---- the moments of a run

  module _ (world : World) (first : W) where
    pub SeenSoFar-start : (made : Option (List (Option ℕ))) →
        SeenSoFar contents calls is_sent files may_flush world first [] [] made made []
    SeenSoFar-start made = record { each = tt; read = refl; made = gains_nil made; begins = refl; ends = refl }

  module _ (start : Point) (script : List ℕ) (replies : List Reply) (now : Point) (progress : Progress)
      (s : Stands start script replies now progress) (first old writer : W) (shelf : S)
      (out : Appends (contents first) (contents old) (texts replies))
      (n : NoneFailed may_flush (calls first) (calls old))
      (settled : Settled contents calls is_sent may_flush true old writer)
      (made_first made_before made_now : Option (List (Option ℕ))) where
    -- the run reads where all is out
    pub reads_when : (event : Event) (ms : List (Moment W S)) →
        SeenSoFar contents calls is_sent files may_flush start.world first script replies made_first made_before ms
        → ReadsWhen (λ w. Appends (contents first) (contents w)) (λ w. Gained (calls first) (calls w)) is_sent files
        may_flush start.world replies ms (moment event writer shelf)
    reads_when event ms seen =
        let whole : whole_lines (bytes_read ms) ≡ s.done = ap whole_lines seen.read
        ∙ whole_lines_begun script s.done s.rest s.begins s.unbroken in
        record {
          answers = record {
            replies = replies;
            later = [];
            of_run = sym (append-nil replies);
            now = now.world;
            steps = subst (λ (ls : List (List ℕ)). Steps start.world ls replies now.world) (sym whole) s.run;
            out = Appends-kept (contents first) (contents old) (contents writer) (texts replies) out settled.kept;
            none_failed = none_failed_more may_flush (calls first) (calls old) (calls writer) n settled.none_failed;
          };
          gone_out = gone_out start.world first old writer true n settled refl;
        }

    -- one more read was made
    made_more : (ms ns : List (Moment W S)) (event : Event) →
        SeenSoFar contents calls is_sent files may_flush start.world first script replies made_first made_before ms
        → ns ≡ moment event writer shelf ∷ [] → Gains made_before made_now (read_of event)
        → Gains made_first made_now (reads_seen (ms ++ ns))
    made_more ms ns event seen e made =
        let one : reads_seen ns ≡ read_of event = ap reads_seen e ∙ append-nil (read_of event) in
        subst (Gains made_first made_now)
        (sym (reads_seen-append ms ns ∙ ap (λ (r : List (Option ℕ)). reads_seen ms ++ r) one))
        (gains_more made_first made_before made_now (reads_seen ms) (read_of event) seen.made made)

    -- a read failed
    pub SeenSoFar-failed : (ms ns : List (Moment W S)) → Gains made_before made_now (None ∷ []) →
        SeenSoFar contents calls is_sent files may_flush start.world first script replies made_first made_before ms
        → ns ≡ moment ReadFailed writer shelf ∷ []
        → SeenSoFar contents calls is_sent files may_flush start.world first script replies made_first made_now
        (ms ++ ns)
    SeenSoFar-failed ms ns made seen e =
        let none : bytes_read ns ≡ [] = ap bytes_read e in
        let begun : begun_in ns ≡ 0 = ap begun_in e in
        let ended : ended_in ns ≡ 0 = ap ended_in e in
        let all_begun = begun_in-append ms ns in
        let all_ended = ended_in-append ms ns in
        let first_begun = seen.begins in
        let first_ended = seen.ends in
        record {
          each = EachMay-append start.world first replies [] ms ns seen.each
              (subst (λ (k : List (Moment W S)).
              Each contents calls is_sent files may_flush start.world first replies ms k) (sym e)
              (reads_when ReadFailed ms seen, tt));
          read = bytes_read-quiet ms ns none ∙ seen.read;
          made = made_more ms ns ReadFailed seen e made;
          begins = omega (arith, begun, all_begun, first_begun);
          ends = omega (arith, ended, all_ended, first_ended);
        }

    module _ (bytes : List ℕ) (ms ns ks : List (Moment W S))
        (seen : SeenSoFar contents calls is_sent files may_flush start.world first script replies made_first
        made_before ms)
        (e : ns ≡ moment (Came bytes) writer shelf ∷ [])
        (made : Gains made_before made_now (Some (length bytes) ∷ [])) where
      came_bytes : bytes_read ns ≡ bytes
      came_bytes = ap bytes_read e ∙ append-nil bytes

      came_each : Each contents calls is_sent files may_flush start.world first replies [] (ms ++ ns)
      came_each = EachMay-append start.world first replies [] ms ns seen.each
          (subst (λ (k : List (Moment W S)).
          Each contents calls is_sent files may_flush start.world first replies ms k) (sym e)
          (reads_when (Came bytes) ms seen, tt))

      came_read : bytes_read (ms ++ ns) ≡ script ++ bytes
      came_read = bytes_read-append ms ns ∙ ap (λ b. b ++ bytes_read ns) seen.read ∙ ap (λ b. script ++ b) came_bytes

      came_made : Gains made_first made_now (reads_seen (ms ++ ns))
      came_made = made_more ms ns (Came bytes) seen e made

      came_begun : begun_in (ms ++ ns) ≡ length (whole_lines script)
      came_begun =
          let none : begun_in ns ≡ 0 = ap begun_in e in
          let all = begun_in-append ms ns in
          let before = seen.begins in
          omega (arith, none, all, before)

      came_ended : ended_in (ms ++ ns) ≡ length (whole_lines script)
      came_ended =
          let none : ended_in ns ≡ 0 = ap ended_in e in
          let all = ended_in-append ms ns in
          let before = seen.ends in
          omega (arith, none, all, before)

      out_here : Appends (contents first) (contents writer) (texts replies)
      out_here = Appends-kept (contents first) (contents old) (contents writer) (texts replies) out settled.kept

      well_here : NoneFailed may_flush (calls first) (calls writer)
      well_here = none_failed_more may_flush (calls first) (calls old) (calls writer) n settled.none_failed

      -- bytes were read, and the lines that end in them were carried out
      InOrder-more : (rest : List Reply) (begins ends : ℕ) →
          ManySeen contents calls is_sent files may_flush start.world script bytes replies rest writer begins ends ks →
          InOrder contents calls is_sent files may_flush start.world first (replies ++ rest) (script ++ bytes) begins
          ends made_first made_now ((ms ++ ns) ++ ks)
      InOrder-more rest begins ends more =
          let begun = came_begun in
          let ended = came_ended in
          let more_begun = more.begun in
          let more_ended = more.ended in
          let all_begun = begun_in-append (ms ++ ns) ks in
          let all_ended = ended_in-append (ms ++ ns) ks in
          record {
            each = EachMay-append start.world first (replies ++ rest) [] (ms ++ ns) ks
                (EachMay-longer start.world first replies rest [] (ms ++ ns) came_each)
                (more.each first (ms ++ ns) [] (came_read ∙ sym (append-nil (script ++ bytes)))
                (came_begun, came_ended) out_here well_here);
            read = bytes_read-quiet (ms ++ ns) ks more.none_read ∙ came_read;
            made = subst (Gains made_first made_now) (sym (reads_seen-quiet (ms ++ ns) ks more.none_made)) came_made;
            begins = omega (arith, begun, more_begun, all_begun);
            ends = omega (arith, ended, more_ended, all_ended);
          }

      -- the reader is at its end, and a last line was carried out
      InOrder-last : (rest : List Reply) (begins ends : ℕ) → bytes ≡ [] →
          EndSeen contents calls is_sent files may_flush start.world script replies rest writer begins ends ks
          → InOrder contents calls is_sent files may_flush start.world first (replies ++ rest) script begins ends
          made_first made_now ((ms ++ ns) ++ ks) × HasEnded ((ms ++ ns) ++ ks)
      InOrder-last rest begins ends none last =
          let begun = came_begun in
          let ended = came_ended in
          let last_begun = last.begun in
          let last_ended = last.ended in
          let all_begun = begun_in-append (ms ++ ns) ks in
          let all_ended = ended_in-append (ms ++ ns) ks in
          let here : bytes_read (ms ++ ns) ≡ script = came_read ∙ ap (λ b. script ++ b) none ∙ append-nil script in
          let at_end : HasEnded (ms ++ ns) = record {
            before = ms;
            last = moment (Came bytes) writer shelf;
            after = [];
            is = ap (λ k. ms ++ k) e;
            nothing_came = ap Came none;
          } in (
            record {
              each = EachMay-append start.world first (replies ++ rest) [] (ms ++ ns) ks
                  (EachMay-longer start.world first replies rest [] (ms ++ ns) came_each)
                  (last.each first (ms ++ ns) here at_end (came_begun, came_ended) out_here well_here);
              read = bytes_read-quiet (ms ++ ns) ks last.none_read ∙ here;
              made = subst (Gains made_first made_now) (sym (reads_seen-quiet (ms ++ ns) ks last.none_made)) came_made;
              begins = omega (arith, begun, last_begun, all_begun);
              ends = omega (arith, ended, last_ended, all_ended);
            },
            HasEnded-more (ms ++ ns) ks at_end,
          )

    -- bytes were read, and lines that end in them were carried out
    pub InOrder-read : (bytes : List ℕ) (a b c d : Option (List (Moment W S))) (rest : List Reply) (begins ends : ℕ) →
        Gains made_before made_now (Some (length bytes) ∷ [])
        → Adds a b (SeenSoFar contents calls is_sent files may_flush start.world first script replies made_first
        made_before)
        → AddsOne b c (Came bytes) writer shelf
        → Adds c d
        (ManySeen contents calls is_sent files may_flush start.world script bytes replies rest writer begins ends)
        → Adds a d (InOrder contents calls is_sent files may_flush start.world first (replies ++ rest)
        (script ++ bytes) begins ends made_first made_now)
    InOrder-read bytes a b c d rest begins ends made p q r =
        Adds-three a b c d _ _ _ _
        (λ ms ns ks seen e more. InOrder-more bytes ms ns ks seen e made rest begins ends more) p q r

    -- the reader is at its end
    pub InOrder-end : (bytes : List ℕ) (a b c d : Option (List (Moment W S))) (rest : List Reply) (begins ends : ℕ) →
        Gains made_before made_now (Some (length bytes) ∷ [])
        → Adds a b (SeenSoFar contents calls is_sent files may_flush start.world first script replies made_first
        made_before)
        → AddsOne b c (Came bytes) writer shelf → bytes ≡ []
        → Adds c d (EndSeen contents calls is_sent files may_flush start.world script replies rest writer begins ends)
        → Adds a d (λ ks. InOrder contents calls is_sent files may_flush start.world first (replies ++ rest) script
        begins ends made_first made_now ks × HasEnded ks)
    InOrder-end bytes a b c d rest begins ends made p q none last =
        Adds-three a b c d _ _ _ _
        (λ ms ns ks seen e l. InOrder-last bytes ms ns ks seen e made rest begins ends none l) p q last

  -- the end of a run that has come to the end of its script
  pub Runs-end : (stops : Bool) (Here : List Reply → ℕ → ℕ → Type 0) (old new : Known) (script : List ℕ)
      (replies : List Reply) (first : W) (output : Option (List ℕ)) (a d : Option (List (Moment W S)))
      (mid : Option (List Call))
      (result : Result Tally RunFault) →
      Gives old.input new.input script → IsAtEnd new.input.ahead → Appends old.output output (texts replies)
      → Gained old.reads new.reads (ReadsLast (Some 0)) → NoneFailed may_flush old.calls mid
      → Closes may_flush Here (point old.world old.noted) script replies (point new.world new.noted) output new.output
      result → FlushedIfOk may_flush mid new.calls result
      → ((more : List Reply) (begins ends : ℕ) → Here more begins ends → Adds a d (λ ks. InOrder contents calls is_sent
      files may_flush old.world first (replies ++ more) script begins ends old.reads new.reads ks × HasEnded ks))
      → ((more : List Reply) (begins ends : ℕ) → Here more begins ends → (reads : List (Option ℕ)) →
      ReadsLast (Some 0) reads → stops ≡ true → NoneAfterRefused script reads (replies ++ more))
      → (run : Runs stops may_flush old new result)
      × Ordered contents calls is_sent files may_flush old.world first run.ran a d result
  Runs-end stops Here old new script replies first output a d mid (Ok tally) r e w reads n closes sent order halts = (
    finishes old new stops may_flush script replies output r e w tally closes reads
        (last_flushed_after may_flush old.calls mid new.calls n sent)
        (halts closes.more (length (lines script)) (length (lines script)) closes.seen reads.more reads.holds),
    Adds-weaker a d _ _ (λ ks k. (k.0, λ last. k.1))
        (order closes.more (length (lines script)) (length (lines script)) closes.seen),
  )
  Runs-end stops Here old new script replies first output a d mid (Err fault) r e w reads n closes failed order halts =
      let stopped = stops_at_end old new stops may_flush script replies Here
      (λ rs b begins ends. Adds a d (InOrder contents calls is_sent files may_flush old.world first rs b begins ends
      old.reads new.reads) × ((reads : List (Option ℕ)) → ReadsLast (Some 0) reads → stops ≡ true →
      NoneAfterRefused b reads rs)) (λ rs b reads begins ends last seen. seen.1 reads last) (λ reads last. last)
      output r e w reads (last_failed_after may_flush old.calls mid new.calls n failed)
      (λ more begins ends here. (
        Adds-weaker a d _ _ (λ ks k. k.0) (order more begins ends here),
        halts more begins ends here,
      )) closes.1 in
      subst (λ (f : RunFault). (run : Runs stops may_flush old new (Err f))
      × Ordered contents calls is_sent files may_flush old.world first run.ran a d (Err f)) (sym closes.0)
      (stopped.0, (stopped.1.0, stopped.1.1.0, stopped.1.2))

  -- the moments of the lines up to the one that stopped the run
  pub ManySeen-halted : (world : World) (script chunk used unused : List ℕ) (replies more : List Reply)
      (done : List (List ℕ)) (rest : List ℕ) (before : W) (ms : List (Moment W S))
      → BeginsWith (script ++ used) done rest → IsUnbroken rest → chunk ≡ used ++ unused
      → MoreSeen contents calls is_sent files may_flush world script used replies more before ms
      → ManySeen contents calls is_sent files may_flush world script chunk replies more before (length done)
      (length done) ms
  ManySeen-halted world script chunk used unused replies more done rest before ms b u is m =
      let whole = ap length (whole_lines_begun (script ++ used) done rest b u) in
      record {
        none_read = m.none_read;
        none_made = m.none_made;
        begun = m.begun ∙ whole;
        ended = m.ended ∙ whole;
        each = λ first past later e lines_seen out n.
            let here : bytes_read past ≡ (script ++ used) ++ (unused ++ later) = e
            ∙ ap (λ b. (script ++ b) ++ later) is ∙ (simp append_assoc) in
            m.each first past (unused ++ later) here lines_seen out n;
      }

  -- the end of a run that was stopped by a refused line
  module _ (old new : Known) (script chunk used unused : List ℕ) (replies : List Reply) (progress : Progress)
      (first : W) (output output_mid : Option (List ℕ)) (a d : Option (List (Moment W S)))
      (read : Gives old.input new.input (script ++ chunk)) (is : chunk ≡ used ++ unused)
      (s : StandsAfter (point old.world old.noted) script replies used (point new.world new.noted) progress output
      output_mid)
      (w : Appends old.output output (texts replies)) (kept : Keeps output_mid new.output)
      (reads : Gained old.reads new.reads (λ reads. AllGave reads × ReadsLast (Some (length chunk)) reads))
      (refused : LastIsFirstRefused (replies ++ s.more)) (some : 0 < length s.more)
      (whole : length (whole_lines script) ≡ length replies)
      (order : Adds a d (InOrder contents calls is_sent files may_flush old.world first (replies ++ s.more)
      (script ++ chunk) (length s.stands.done) (length s.stands.done) old.reads new.reads)) where
    halted_written : Appends old.output new.output (texts (replies ++ s.more))
    halted_written = Appends-texts old.output output new.output replies s.more w
        (Appends-kept output output_mid new.output (texts s.more) s.written kept)

    halted_begins : BeginsWith (script ++ chunk) s.stands.done (s.stands.rest ++ unused)
    halted_begins = subst (λ (b : List ℕ). BeginsWith b s.stands.done (s.stands.rest ++ unused))
        (append_assoc script used unused ∙ ap (λ b. script ++ b) (sym is))
        (BeginsWith-more (script ++ used) s.stands.done s.stands.rest unused s.stands.begins)

    abbrev gave : Gained old.reads new.reads AllGave
    gave = record { more = reads.more; gained = reads.gained; holds = reads.holds.0 }

    none_after : NoneAfterRefused (script ++ chunk) reads.more (replies ++ s.more)
    none_after = let long = length-append replies s.more in inr (record {
      earlier = script;
      bytes = chunk;
      script_is = refl;
      read_last = reads.holds.1;
      read_then = omega (arith, whole, long, some);
      none_before = none_before_last (replies ++ s.more) refused;
    })

    pub Runs-halted : (stops : Bool) (mid : Option (List Call)) (result : Result Tally RunFault) → stops ≡ true
        → NoneFailed may_flush old.calls mid → FlushedIfOk may_flush mid new.calls result
        → MatchResult result (λ t. t ≡ progress.tally) (λ fault. fault ≡ Output)
        → (run : Runs stops may_flush old new result)
        × Ordered contents calls is_sent files may_flush old.world first run.ran a d result
    Runs-halted stops mid (Ok tally) e n flushed answer_is =
        subst (λ (b : Bool). (run : Runs b may_flush old new (Ok tally))
        × Ordered contents calls is_sent files may_flush old.world first run.ran a d (Ok tally)) (sym e) (
          halts_well old new may_flush (script ++ chunk) s.stands.done (replies ++ s.more) (s.stands.rest ++ unused)
              read s.stands.run halted_written s.stands.noted halted_begins refused gave none_after tally
              (answer_is ∙ s.stands.tally_is) (last_flushed_after may_flush old.calls mid new.calls n flushed),
          Adds-weaker a d _ _ (λ ks k. (k, λ last. absurd (gave_no_end reads.more reads.holds.0 last))) order,
        )
    Runs-halted stops mid (Err fault) e n failed answer_is =
        subst (λ (f : RunFault). (run : Runs stops may_flush old new (Err f))
        × Ordered contents calls is_sent files may_flush old.world first run.ran a d (Err f)) (sym answer_is)
        (subst (λ (b : Bool). (run : Runs b may_flush old new (Err Output))
        × Ordered contents calls is_sent files may_flush old.world first run.ran a d (Err Output)) (sym e) (
          halts_unflushed old new may_flush (script ++ chunk) s.stands.done (replies ++ s.more)
              (s.stands.rest ++ unused) read s.stands.run halted_written s.stands.noted halted_begins refused gave
              none_after (last_failed_after may_flush old.calls mid new.calls n failed),
          (length s.stands.done, order, inl (refl, refl)),
        ))
