-- How proofs store the calls of files, and what a `OneFileCall` shows.
use Rattle.std.specs.Prelude.{◌≡◌, ℕ, List, ◌⊎◌, refl}
use Rattle.std.specs.Coded.{Coded, code_by, coded_ℕ, coded_list, coded⊎, coded×}
use mathlib.Core.Logic.{inl, inr}
use Rattle.s2shelf.specs.FileCalls.{FileCall, Looked, Opened, OpenedNot, LookedAgain, Gave, Made, MadeNot, Wrote}
use Rattle.s2shelf.specs.FileCalls.{Closed, path_to}
use Rattle.s2shelf.specs.OpenedFile.{joined}
use Rattle.s2shelf.specs.declared.file_calls.OneFileCall.{OneFileCall}
use Rattle.s2shelf.specs.declared.file_calls.OneFileCall.TheVariants as one

abbrev Text : Type 0
Text = List ℕ

abbrev Parts : Type 0
Parts = Text ⊎ (Text ⊎ (Text ⊎ (Text ⊎ (Text ⊎ (Text ⊎ (Text ⊎ ((Text × Text) ⊎ (Text × Text))))))))

abbrev parts : FileCall → Parts
parts (Looked path) = inl path
parts (Opened path) = inr (inl path)
parts (OpenedNot path) = inr (inr (inl path))
parts (LookedAgain path) = inr (inr (inr (inl path)))
parts (Made path) = inr (inr (inr (inr (inl path))))
parts (MadeNot path) = inr (inr (inr (inr (inr (inl path)))))
parts (Closed path) = inr (inr (inr (inr (inr (inr (inl path))))))
parts (Gave path bytes) = inr (inr (inr (inr (inr (inr (inr (inl (path, bytes))))))))
parts (Wrote path bytes) = inr (inr (inr (inr (inr (inr (inr (inr (path, bytes))))))))

abbrev from : Parts → FileCall
from (inl path) = Looked path
from (inr (inl path)) = Opened path
from (inr (inr (inl path))) = OpenedNot path
from (inr (inr (inr (inl path)))) = LookedAgain path
from (inr (inr (inr (inr (inl path))))) = Made path
from (inr (inr (inr (inr (inr (inl path)))))) = MadeNot path
from (inr (inr (inr (inr (inr (inr (inl path))))))) = Closed path
from (inr (inr (inr (inr (inr (inr (inr (inl p)))))))) = Gave p.0 p.1
from (inr (inr (inr (inr (inr (inr (inr (inr p)))))))) = Wrote p.0 p.1

-- the parts of a call are those of no other
pub from_parts : (c : FileCall) → from (parts c) ≡ c
from_parts (Looked path) = refl
from_parts (Opened path) = refl
from_parts (OpenedNot path) = refl
from_parts (LookedAgain path) = refl
from_parts (Made path) = refl
from_parts (MadeNot path) = refl
from_parts (Closed path) = refl
from_parts (Gave path bytes) = refl
from_parts (Wrote path bytes) = refl

abbrev text_coded : Coded Text
text_coded = coded_list coded_ℕ

abbrev two_coded : Coded (Text × Text)
two_coded = coded× text_coded text_coded

-- how proofs store a call
abbrev pub file_call_coded : Coded FileCall
file_call_coded =
    code_by Parts (coded⊎ text_coded (coded⊎ text_coded (coded⊎ text_coded (coded⊎ text_coded (coded⊎ text_coded
    (coded⊎ text_coded (coded⊎ text_coded (coded⊎ two_coded two_coded)))))))) parts from from_parts

-- the call that is shown
abbrev pub shown : OneFileCall → FileCall
shown (one.Looked path) = Looked path.now
shown (one.Opened path) = Opened path.now
shown (one.OpenedNot path) = OpenedNot path.now
shown (one.LookedAgain path) = LookedAgain path.now
shown (one.Gave path bytes) = Gave path.now bytes.now
shown (one.GaveInPieces folder file) =
    Gave (path_to folder.now (joined file.now.0.entries)) (joined file.now.1.entries)
shown (one.Made path) = Made path.now
shown (one.MadeNot path) = MadeNot path.now
shown (one.Wrote path bytes) = Wrote path.now bytes.now
shown (one.Closed path) = Closed path.now
shown (one.ClosedNamed folder file) = Closed (path_to folder.now (joined file.now.0.entries))
