use Rattle.test_script.specs.Working.Known.{call_of, entries}
use Rattle.test_script.proofs.Listing.{gains_map, has_made}
use Rattle.test_script.proofs.narrow.Narrow.list.Goals as goal

pub returns-clause-made : goal.returns-clause-made
returns-clause-made c =
    has_made c.args.call _ _
    (gains_map call_of (entries c.args.self.now.made) _ c.args.call c.add.ensures)
