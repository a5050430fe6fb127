use Rattle.s2polygon.proofs.Polygons.{all_lists}
use Rattle.s2polygon.proofs.lists.lists_of.Goals as goal

pub returns : goal.returns
returns c =
    all_lists c.args.edges.now c.args.margin (record {
      zero = c.in_ok-zero.zero;
      one = c.in_ok-one.one;
      two = c.in_ok-two.two;
      three = c.in_ok-three.three;
      four = c.in_ok-four.four;
      five = c.in_ok-five.five;
    })
    c.in_ok-zero.ensures c.in_ok-one.ensures c.in_ok-two.ensures
    c.in_ok-three.ensures c.in_ok-four.ensures c.in_ok-five.ensures
