-- What an observer sees of one line, of the lines that end in the bytes of a read, and of a last line.
use Rattle.std.specs.Prelude.{◌≡◌, ℕ, ◌+◌, Bool, true, List, [], ◌∷◌, ◌++◌, length, Option}
use Rattle.std.specs.Io.KnownBytes.{Appends}
use Rattle.s2shelf.specs.Shelf.{Files}
use Rattle.s2script.specs.Lines.{lines, whole_lines}
use Rattle.s2calc.specs.World.{World}
use Rattle.s2calc.specs.Replies.{Reply, texts}
use Rattle.s2calc.specs.Calls.{Call, NoneFailed, LastFlushed}
use Rattle.s2calc.specs.Moments.{LineBegins, LineEnds, Moment, moment, bytes_read, reads_seen}
use Rattle.s2calc.specs.Flushing.{Settled}
use Rattle.s2calc.specs.Moments.{begun_in, ended_in}
use Rattle.s2calc.specs.Order.{HasEnded, Each, InOrder}

-- this many lines have begun, and all of them have ended
abbrev pub LinesSeen : {W S : Type 0} → ℕ → List (Moment W S) → Type 0
LinesSeen count past = (begun_in past ≡ count) × (ended_in past ≡ count)

module _ {W S : Type 0} (contents : W → Option (List ℕ)) (calls : W → Option (List Call)) (is_sent : W → Type 0)
    (files : S → Files) (may_flush : Type 0) where
  -- the line began when this was settled, with the shelf as it was, and ended
  pub record LineSeen (has_file : Bool) (old new : W) (old_shelf new_shelf : S) (moments : List (Moment W S)) :
      Type 0 where
    pub mid : W
    pub is : moments ≡ moment LineBegins mid old_shelf ∷ moment LineEnds new new_shelf ∷ []
    pub settled : Settled contents calls is_sent may_flush has_file old mid
    pub flushed : has_file ≡ true → may_flush → LastFlushed may_flush (calls old) (calls new)
    pub sent : has_file ≡ true → is_sent new

  -- the line began when this was settled, with the shelf as it was, and was not seen to end
  pub record LineCut (has_file : Bool) (old : W) (old_shelf : S) (moments : List (Moment W S)) : Type 0 where
    pub mid : W
    pub is : moments ≡ moment LineBegins mid old_shelf ∷ []
    pub settled : Settled contents calls is_sent may_flush has_file old mid

  -- the moments of lines that end in the chunk, which have `more` replies, after those of a run that has read the
  -- script, has written these replies, and has reached this writer: then this many lines have begun and ended
  pub record ManySeen (world : World) (script chunk : List ℕ) (replies more : List Reply) (old : W) (begins ends : ℕ)
      (moments : List (Moment W S)) : Type 0 where
    pub none_read : bytes_read moments ≡ []
    pub none_made : reads_seen moments ≡ []
    pub begun : length (whole_lines script) + begun_in moments ≡ begins
    pub ended : length (whole_lines script) + ended_in moments ≡ ends
    pub each : (first : W) (past : List (Moment W S)) (rest : List ℕ) → bytes_read past ≡ (script ++ chunk) ++ rest →
        LinesSeen (length (whole_lines script)) past → Appends (contents first) (contents old) (texts replies) →
        NoneFailed may_flush (calls first) (calls old)
        → Each contents calls is_sent files may_flush world first (replies ++ more) past moments

  -- the moments of all lines that end in the chunk
  abbrev pub MoreSeen : World → List ℕ → List ℕ → List Reply → List Reply → W → List (Moment W S) → Type 0
  MoreSeen world script chunk replies more old moments =
      let count = length (whole_lines (script ++ chunk)) in
      ManySeen world script chunk replies more old count count moments

  -- the moments of a last line, which has `more` replies, after the reader has ended: then this many lines have begun
  -- and ended
  pub record EndSeen (world : World) (script : List ℕ) (replies more : List Reply) (old : W) (begins ends : ℕ)
      (moments : List (Moment W S)) : Type 0 where
    pub none_read : bytes_read moments ≡ []
    pub none_made : reads_seen moments ≡ []
    pub begun : length (whole_lines script) + begun_in moments ≡ begins
    pub ended : length (whole_lines script) + ended_in moments ≡ ends
    pub each : (first : W) (past : List (Moment W S)) → bytes_read past ≡ script → HasEnded past →
        LinesSeen (length (whole_lines script)) past → Appends (contents first) (contents old) (texts replies) →
        NoneFailed may_flush (calls first) (calls old)
        → Each contents calls is_sent files may_flush world first (replies ++ more) past moments

  -- the moments of a last line that ended
  abbrev pub LastSeen : World → List ℕ → List Reply → List Reply → W → List (Moment W S) → Type 0
  LastSeen world script replies more old moments =
      let count = length (lines script) in EndSeen world script replies more old count count moments

  -- the moments of a run that has read the script, by the reads between `made` and `now`, and has written these replies
  abbrev pub SeenSoFar : World → W → List ℕ → List Reply → (made now : Option (List (Option ℕ))) →
      List (Moment W S) → Type 0
  SeenSoFar world first script replies made now moments =
      let count = length (whole_lines script) in
      InOrder contents calls is_sent files may_flush world first replies script count count made now moments
