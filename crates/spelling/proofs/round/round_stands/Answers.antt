use Rattle.spelling.proofs.Rounds.{round}
use Rattle.spelling.proofs.round.round_stands.Goals as goal

pub returns : goal.returns
returns g c = round g.S.Spelling.finds g.S.Spelling.canon g.met.S.Spelling.back
