use Rattle.cola_b.proofs.Guards.{guarded, octets}
use Rattle.cola_b.proofs.read.read_guarded.Goals as goal

pub returns : goal.returns
returns c = record {
  answer = c.read_in.ensures.answer;
  keeps = c.read_in.ensures.keeps;
  guarded = guarded c.args.bytes.now (octets c.args.bytes.now c.type_inv.bytes);
}
