-- Items counted and measured one after the other. Assumes nothing.
use Rattle.std.proofs.Common.{◌≡◌, ℕ, ◌+◌, true, eqb, List, length}
use Rattle.telegram.specs.Value.{Value}
use Rattle.spelling.specs.Canon.{Canon, written}

-- i items take b bytes, and left are to come
pub record Gauge (canon : Canon) (all : List Value) (i b : ℕ) (left : List Value) : Type 0 where
  pub count : i + length left ≡ length all
  pub sum : b + length (written canon (eqb i 0) left) ≡ length (written canon true all)
