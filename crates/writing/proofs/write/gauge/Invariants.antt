use Rattle.layout.specs.Source.{values}
use Rattle.writing.proofs.Gauges.{Gauge}
use Rattle.writing.proofs.write.gauge.Given as goal

abbrev pub invariant-loop-item : goal.invariant-loop-item
invariant-loop-item g l =
    (goal.iterator-loop-item g).can_next l.item-iterator × (goal.iterator-loop-item g).is_finite l.item-iterator
    × Gauge g.S.Spelling.canon (g.T.Source.telegram l.telegram).items l.items l.bytes (values (g.T.Source.rest l.item-iterator.telegram.now l.item-iterator.at))
