use Rattle.std.proofs.Common.{◌∙◌, arith}
use Rattle.layout.specs.Source.{Telegram}
use Rattle.writing.proofs.Wholes.{whole_long, few, items_little}
use Rattle.writing.proofs.write.gauge_whole.Goals as goal

pub gauge-items-requires : goal.gauge-items-requires
gauge-items-requires g c =
    let t : Telegram = g.T.Source.telegram c.args.telegram.now in
    (record { few = omega (arith, few t c.requires); short = omega (arith, items_little t c.requires g.S.Spelling.canon g.met.S.FullSpelling.slim) })

pub whole_length-requires : goal.whole_length-requires
whole_length-requires g c =
    let t : Telegram = g.T.Source.telegram c.args.telegram.now in
    omega (arith, items_little t c.requires g.S.Spelling.canon g.met.S.FullSpelling.slim, c.gauge-items.ensures.bytes)

pub returns : goal.returns
returns g c =
    let t : Telegram = g.T.Source.telegram c.args.telegram.now in
    record {
      items = c.gauge-items.ensures.items;
      bytes = c.whole_length.ensures ∙ whole_long g.S.Spelling.canon g.S.FullSpelling.wrap g.met.S.FullSpelling.snug t c.row.result c.gauge-items.result.bytes c.row.ensures c.gauge-items.ensures.bytes;
    }
