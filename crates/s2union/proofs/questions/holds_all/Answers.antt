use Rattle.std.proofs.Common.{arith}
use Rattle.s2union.proofs.questions.holds_all.Goals as goal

pub returns-clause-answer : goal.returns-clause-answer
returns-clause-answer g c = c.holds_all.ensures.answer c.requires.x_local c.requires.y_local

pub returns-clause-looks : goal.returns-clause-looks
returns-clause-looks g c k h =
    let none = c.requires.count in
    let l = c.holds_all.ensures.sizes c.requires.x_local c.requires.y_local k h in
    omega arith

pub returns-clause-least : goal.returns-clause-least
returns-clause-least g c hx hy =
    let none = c.requires.count in
    let s = c.holds_all.ensures.some hx hy in
    omega arith
