use Rattle.std.proofs.Common.{length, inl, ap, arith}
use Rattle.viewer.proofs.Counts.{few}
use Rattle.viewer.proofs.calls.count.Goals as goal

pub count-requires-clause-fits : goal.count-requires-clause-fits
count-requires-clause-fits g c =
    let read = c.in_ok-telegram.ensures in
    inl (omega (arith, ap length c.items.ensures, few g.F.Meaning.left g.F.Meaning.reads c.args.framing.now c.args.bytes.now c.in_ok-telegram.telegram read.answer read.keeps))
