use Rattle.framed.proofs.Heads.{word_some, word_none}
use Rattle.framed.proofs.read.word.Goals as goal

pub returns-in-Some : goal.returns-in-Some
returns-in-Some c = word_some c.args.bytes.now c.in-Some.end c.in-Some.ensures

pub returns-in-None : goal.returns-in-None
returns-in-None c = word_none c.args.bytes.now c.in-None.ensures
