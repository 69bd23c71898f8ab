use Rattle.std.proofs.Common.{◌≡◌, ◌++◌, vec_items}
use Rattle.framing.specs.Items.{rest}
use Rattle.page.specs.Page.{lines}
use Rattle.page.proofs.sheet.put_items.Given as goal

abbrev pub invariant-loop-item : goal.invariant-loop-item
invariant-loop-item g l =
    (goal.iterator-loop-item g).can_next l.item-iterator
    × (goal.iterator-loop-item g).is_finite l.item-iterator
    × (vec_items l.out ++ lines (rest g.F.Meaning.left l.item-iterator) ≡ vec_items l.initial.out ++ lines (rest g.F.Meaning.left l.fn.items))
