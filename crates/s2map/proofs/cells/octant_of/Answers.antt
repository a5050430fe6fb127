use Rattle.std.proofs.Common.{◌≡◌, arith}
use Rattle.s2map.proofs.Sides.{on_0, on_1, on_2, on_3, on_4, on_5}
use Rattle.s2map.proofs.cells.octant_of.Goals as goal

pub returns-in-0-clause-all : goal.returns-in-0-clause-all
returns-in-0-clause-all c p d proper has s =
    let e : c.args.face ≡ 0 = omega arith in
    on_0 p d c.args.u c.args.v c.angles_by_x.result proper has c.angles_by_x.ensures.all (rw e at s)

pub returns-in-1-clause-all : goal.returns-in-1-clause-all
returns-in-1-clause-all c p d proper has s =
    let e : c.args.face ≡ 1 = omega arith in
    on_1 p d c.args.u c.args.v c.angles_by_y.result proper has c.angles_by_y.ensures.all (rw e at s)

pub returns-in-2-clause-all : goal.returns-in-2-clause-all
returns-in-2-clause-all c p d proper has s =
    let e : c.args.face ≡ 2 = omega arith in
    on_2 p d c.args.u c.args.v c.angles_by_z.result proper has c.angles_by_z.ensures.all (rw e at s)

pub returns-in-3-clause-all : goal.returns-in-3-clause-all
returns-in-3-clause-all c p d proper has s =
    let e : c.args.face ≡ 3 = omega arith in
    on_3 p d c.args.u c.args.v c.angles_by_x-in-3.result proper has c.angles_by_x-in-3.ensures.all (rw e at s)

pub returns-in-4-clause-all : goal.returns-in-4-clause-all
returns-in-4-clause-all c p d proper has s =
    let e : c.args.face ≡ 4 = omega arith in
    on_4 p d c.args.u c.args.v c.angles_by_y-in-4.result proper has c.angles_by_y-in-4.ensures.all (rw e at s)

pub returns-in_default-clause-all : goal.returns-in_default-clause-all
returns-in_default-clause-all c p d proper has s =
    let e : c.args.face ≡ 5 = omega arith in
    on_5 p d c.args.u c.args.v c.angles_by_z-in_default.result proper has c.angles_by_z-in_default.ensures.all
    (rw e at s)
