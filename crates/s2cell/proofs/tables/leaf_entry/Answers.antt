use Rattle.s2cell.proofs.TableEntries.{leaf_entry_is}
use Rattle.s2cell.proofs.tables.leaf_entry.Goals as goal

pub returns : goal.returns
returns c = leaf_entry_is c.args.shift c.args.place c.requires.shift c.requires.orientation c.requires.place
