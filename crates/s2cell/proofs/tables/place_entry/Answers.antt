use Rattle.s2cell.proofs.TableEntries.{place_entry_is}
use Rattle.s2cell.proofs.tables.place_entry.Goals as goal

pub returns : goal.returns
returns c = place_entry_is c.args.shift c.args.digits c.requires.shift c.requires.orientation c.requires.digits
