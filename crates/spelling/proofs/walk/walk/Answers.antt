use Rattle.spelling.proofs.Turns.{passing_more, passing_walks, stepped_less}
use Rattle.spelling.proofs.walk.walk.Goals as goal

pub loop-want-smaller : goal.loop-want-smaller
loop-want-smaller g c = stepped_less g.S.Spelling.finds c.args.text.now c.loop-want.at _ _ c.in_ok-item.ensures

pub loop-want-preserved : goal.loop-want-preserved
loop-want-preserved g c =
    passing_more g.S.Spelling.finds c.args.text.now _ c.loop-want.at _ _ _ c.loop-want.invariant
    (record { item = c.in_ok-item.item; on = c.in_ok-item.ensures; has = c.note-parts.ensures })

pub returns : goal.returns
returns g c = passing_walks g.S.Spelling.finds c.args.text.now c.args.row c.args.start c.new.result c.new.ensures c.loop-want.at _ c.loop-want.invariant c.in_default.ensures
