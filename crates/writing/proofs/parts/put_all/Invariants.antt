use Rattle.std.proofs.Common.{◌&&◌, eqb, map, drop}
use Rattle.telegram.specs.Value.{value_of}
use Rattle.spelling.specs.Canon.{written}
use Rattle.writing.proofs.Fillings.{Filling}
use Rattle.writing.proofs.parts.put_all.Given as goal

abbrev pub invariant-loop-i : goal.invariant-loop-i
invariant-loop-i g l =
    Filling g.S.Spelling.canon (written g.S.Spelling.canon l.first (map value_of l.items)) (l.first && eqb l.i 0) (drop l.i (map value_of l.items)) l.initial.out l.out
