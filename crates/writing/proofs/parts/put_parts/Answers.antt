use Rattle.std.proofs.Common.{sym, subst, arith}
use Rattle.spelling.specs.Output.{HasRoom, Puts}
use Rattle.spelling.proofs.Puts.{puts_puts, puts_room}
use Rattle.writing.proofs.Fives.{five, five_long}
use Rattle.writing.proofs.parts.put_parts.Goals as goal

pub put_position-requires : goal.put_position-requires
put_position-requires g c = omega (arith, five_long g.S.Spelling.canon c.args.first c.args.parts, c.requires.room)

pub put_label-requires : goal.put_label-requires
put_label-requires g c =
    let all = subst (HasRoom c.args.out.now) (five_long g.S.Spelling.canon c.args.first c.args.parts) c.requires.room in
    let r0 = puts_room _ c.put_position.ensures all in
    (record { sized = c.requires.labelled.0; room = omega (arith, r0) })

pub put_label-requires-2 : goal.put_label-requires-2
put_label-requires-2 g c =
    let all = subst (HasRoom c.args.out.now) (five_long g.S.Spelling.canon c.args.first c.args.parts) c.requires.room in
    let r0 = puts_room _ c.put_position.ensures all in
    let r1 = puts_room _ c.put_label.ensures r0 in
    (record { sized = c.requires.labelled.1; room = omega (arith, r1) })

pub put_time-requires : goal.put_time-requires
put_time-requires g c =
    let all = subst (HasRoom c.args.out.now) (five_long g.S.Spelling.canon c.args.first c.args.parts) c.requires.room in
    let r0 = puts_room _ c.put_position.ensures all in
    let r1 = puts_room _ c.put_label.ensures r0 in
    let r2 = puts_room _ c.put_label-2.ensures r1 in
    omega (arith, r2)

pub put_all-requires : goal.put_all-requires
put_all-requires g c =
    let all = subst (HasRoom c.args.out.now) (five_long g.S.Spelling.canon c.args.first c.args.parts) c.requires.room in
    let r0 = puts_room _ c.put_position.ensures all in
    let r1 = puts_room _ c.put_label.ensures r0 in
    let r2 = puts_room _ c.put_label-2.ensures r1 in
    let r3 = puts_room _ c.put_time.ensures r2 in
    r3

pub returns : goal.returns
returns g c =
    subst (λ w. Puts c.args.out.now w c.put_all.new.out) (sym (five g.S.Spelling.canon c.args.first c.args.parts))
    (puts_puts c.put_position.ensures (puts_puts c.put_label.ensures (puts_puts c.put_label-2.ensures (puts_puts c.put_time.ensures c.put_all.ensures))))
