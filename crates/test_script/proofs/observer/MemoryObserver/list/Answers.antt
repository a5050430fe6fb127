use Rattle.test_script.specs.Working.Known.{entries}
use Rattle.test_script.specs.Working.Observed.{moment_of}
use Rattle.test_script.proofs.Listing.{adds_one, gains_map}
use Rattle.test_script.proofs.observer.MemoryObserver.list.Goals as goal

pub returns : goal.returns
returns g c = adds_one _ _ _ (gains_map moment_of (entries c.args.self.now.moments) _ _ c.add.ensures)
