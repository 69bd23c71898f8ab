use Rattle.std.proofs.Common.{◌≡◌, ◌^◌, ◌<◌, ◌≤◌, drop}
use Rattle.cola_a.specs.Digits.{radix, run}
use Rattle.cola_a.proofs.digits.digits_of.Given as goal

abbrev pub invariant-loop-count : goal.invariant-loop-count
invariant-loop-count l =
    (l.count ≤ l.most) × (l.value < 16 ^ l.count)
    × (run (radix l.base) l.most l.count l.value (drop l.count l.bytes) ≡ run (radix l.base) l.most 0 0 l.bytes)
