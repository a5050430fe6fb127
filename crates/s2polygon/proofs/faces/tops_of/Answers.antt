use Rattle.s2polygon.proofs.Borders.{tops_are}
use Rattle.s2polygon.proofs.faces.tops_of.Goals as goal

pub returns : goal.returns
returns c edges margin are =
    tops_are edges c.is_odd_border-one.result c.is_odd_border.result c.is_odd_border-2.result
    c.is_odd_border-3.result c.is_odd_border-4.result (c.is_odd_border-one.ensures edges margin are)
    (c.is_odd_border.ensures edges margin are) (c.is_odd_border-2.ensures edges margin are)
    (c.is_odd_border-3.ensures edges margin are) (c.is_odd_border-4.ensures edges margin are)
