use Rattle.s2polygon.proofs.Changes.{inside_twice, lines_inside, points_inside}
use Rattle.s2polygon.proofs.laws.law_of_lines.Goals as goal

pub returns-clause-twice : goal.returns-clause-twice
returns-clause-twice c = inside_twice

pub returns-clause-lines : goal.returns-clause-lines
returns-clause-lines c = lines_inside

pub returns-clause-points : goal.returns-clause-points
returns-clause-points c = points_inside
