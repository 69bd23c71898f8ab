use Rattle.std.proofs.Common.{slice_set, refl, arith, length-set}
use Rattle.spelling.proofs.Puts.{put_one, enclosed_by}
use Rattle.cola_a.specs.Envelope.{wrap_text}
use Rattle.cola_a.proofs.envelope.put_envelope.Goals as goal

pub returns : goal.returns
returns c =
    enclosed_by wrap_text c.args.out.now _ _ c.args.to _ _ c.requires.front refl refl (put_one c.args.out.now 0 2 (omega (arith, c.requires.room))) (put_one (slice_set c.args.out.now 0 2) c.args.to 3 (omega (arith, c.requires.room, length-set c.args.out.now 0 2)))
