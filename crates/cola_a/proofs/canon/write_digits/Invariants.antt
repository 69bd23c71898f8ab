use Rattle.std.proofs.Common.{◌≡◌, ◌++◌, length, drop}
use Rattle.cola_a.specs.Canon.{hexadecimals}
use Rattle.cola_a.proofs.canon.write_digits.Given as goal

abbrev pub invariant-loop-i : goal.invariant-loop-i
invariant-loop-i l = hexadecimals l.i l.rest ++ drop l.i l.digits ≡ hexadecimals (length l.initial.digits) l.value
