use Rattle.s2map.proofs.Sides.{box_made}
use Rattle.s2map.proofs.cells.box_in.Goals as goal

pub returns-clause-bounds : goal.returns-clause-bounds
returns-clause-bounds c =
    box_made c.range_of-longitudes.result c.range_of-latitudes.result c.args.o.behind c.args.o.west c.args.o.south
    c.args.o.angles.east c.args.o.angles.north c.range_of-longitudes.ensures c.range_of-latitudes.ensures
