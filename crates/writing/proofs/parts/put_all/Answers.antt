use Rattle.std.proofs.Common.{rules, ◌≡◌, ◌+◌, ◌&&◌, eqb, map, drop, sym, arith}
use Rattle.telegram.specs.declared.item.Item.TheVariants.{Number}
use Rattle.telegram.specs.declared.kind.Kind.TheVariants.{Bool}
use Rattle.telegram.specs.Value.{value_of}
use Rattle.writing.proofs.Fillings.{filling_as, filling_room, filling_more, one, not_first}
use Rattle.writing.proofs.parts.put_all.Goals as goal
use Rattle.writing.proofs.parts.put_all.Goals.{then-first, else-first}

pub put-requires : goal.put-requires
put-requires g c =
    let leads : (c.args.first && eqb c.loop-i.i 0) ≡ c.if-first.put = elim c.if-first.branch [ then-first w ↦ search rules | else-first w ↦ search rules ] in
    filling_room _ _ _ _ (drop (c.loop-i.i + 1) (map value_of c.args.items.now)) _ _ _ (filling_as leads c.loop-i.invariant) (one value_of c.args.items.now c.loop-i.i (Number Bool 0) (omega arith)) c.requires

pub loop-i-preserved : goal.loop-i-preserved
loop-i-preserved g c =
    let leads : (c.args.first && eqb c.loop-i.i 0) ≡ c.if-first.put = elim c.if-first.branch [ then-first w ↦ search rules | else-first w ↦ search rules ] in
    filling_as (sym (not_first c.args.first c.loop-i.i))
    (filling_more _ _ _ _ (drop (c.loop-i.i + 1) (map value_of c.args.items.now)) _ _ _ (filling_as leads c.loop-i.invariant) (one value_of c.args.items.now c.loop-i.i (Number Bool 0) (omega arith)) _ c.put.ensures)
