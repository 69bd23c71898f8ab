use Rattle.std.proofs.Common.{true, ◌+◌, ◌^◌, ◌<◌, eqb, take}
use Rattle.layout.specs.Source.{values}
use Rattle.spelling.specs.Canon.{written}
use Rattle.writing.proofs.Fillings.{Filling}
use Rattle.writing.proofs.write.put_items.Given as goal

abbrev pub invariant-loop-i : goal.invariant-loop-i
invariant-loop-i g l =
    (goal.iterator-loop-i g).can_next l.i-iterator × (goal.iterator-loop-i g).is_finite l.i-iterator
    × (l.i-iterator.count + l.i-iterator.iter.n < 2 ^ 64)
    × Filling g.S.Spelling.canon (written g.S.Spelling.canon true (take l.n (g.T.Source.telegram l.telegram).items)) (eqb l.i-iterator.count 0) (take l.i-iterator.iter.n (values (g.T.Source.rest l.i-iterator.iter.iter.telegram.now l.i-iterator.iter.iter.at))) l.initial.out l.out
