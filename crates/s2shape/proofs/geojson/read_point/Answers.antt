use Rattle.std.proofs.Common.{◌≡◌, ap, sym, ◌∙◌, arith}
use Rattle.json.specs.Value.{value_view}
use Rattle.s2shape.specs.GeoJson.{listed, point, single, unless_empty}
use Rattle.s2shape.specs.Working.Seen.{seen}
use Rattle.s2shape.proofs.Each.{unless_empty_some}
use Rattle.s2shape.proofs.geojson.read_point.Goals as goal

pub returns-in-Some : goal.returns-in-Some
unfolding point
returns-in-Some c =
    let j = value_view c.args.value.now in
    let r = seen c.args.reading.now in
    let xs = c.in-Some.field-0.now in
    let e : point j r ≡ single j r = ap (λ o. listed (unless_empty single j) o r) (sym c.in-Some.ensures)
    ∙ unless_empty_some single j xs r (omega arith) in
    rw e c.read_single.ensures
