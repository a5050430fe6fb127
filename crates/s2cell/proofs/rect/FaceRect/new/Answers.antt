use Rattle.s2cell.proofs.Rectangles.{in_rect}
use Rattle.s2cell.proofs.rect.FaceRect.new.Goals as goal

pub returns-then-j1-lt-SIDE-clause-leaves : goal.returns-then-j1-lt-SIDE-clause-leaves
returns-then-j1-lt-SIDE-clause-leaves c = in_rect _
