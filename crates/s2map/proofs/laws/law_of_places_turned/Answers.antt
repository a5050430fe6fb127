use Rattle.s2map.proofs.Turns.{turned_inside}
use Rattle.s2map.proofs.laws.law_of_places_turned.Goals as goal

pub returns : goal.returns
returns c shape p edges is next = turned_inside p is next shape edges
