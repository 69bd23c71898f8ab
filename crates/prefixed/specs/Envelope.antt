-- The envelope: the body's length in two bytes, the highest first, and the body. Assumes nothing.
use Rattle.std.specs.Prelude.{◌-◌, cond, [], length, take, ◌==◌, nat_lt}
use Rattle.std.specs.Int.Digits.{number_from_digits}
use Rattle.spelling.specs.Spell.{holds, wrong, Opens}
use Rattle.spelling.specs.Canon.{fixed}
use Rattle.spelling.specs.Write.{Wrap}

-- fewer than two bytes are refused at their end, another length at its first byte
abbrev pub open_prefixed : Opens
open_prefixed bs = cond (nat_lt (length bs) 2) (wrong 2 (length bs)) (cond (number_from_digits 256 (take 2 bs) == length bs - 2) (holds 2 (length bs)) (wrong 2 0))

-- what is put around a body
abbrev pub wrap_prefixed : Wrap
wrap_prefixed = record { front = λ b. fixed 256 2 (length b); behind = λ b. []; before = 2; after = 0 }
