-- The canonical letters of a value. Assumes nothing.
use Rattle.std.specs.Prelude.{ℕ, ◌+◌, max, cond, List, ◌∷◌, map, nat_lt}
use Rattle.telegram.specs.Value.{Value, num, real, text}
use Rattle.spelling.specs.Canon.{Canon, fixed}

-- a digit, 0 to 9 and A to F
abbrev pub letter : ℕ → ℕ
letter d = cond (nat_lt d 10) (48 + d) (55 + d)

-- the least n of which v is below 16 ^ n, for 32 bits
abbrev pub hex_digits : ℕ → ℕ
hex_digits v = cond (nat_lt v 1) 0 (cond (nat_lt v 0x10) 1 (cond (nat_lt v 0x100) 2 (cond (nat_lt v 0x1000) 3 (cond (nat_lt v 0x1_0000) 4 (cond (nat_lt v 0x10_0000) 5 (cond (nat_lt v 0x100_0000) 6 (cond (nat_lt v 0x1000_0000) 7 8)))))))

-- how many digits are written: of a number no more than it has, and at least one; of a Real eight; of a text none
abbrev pub size : Value → ℕ
size (num k v) = max 1 (hex_digits v)
size (real v) = 8
size (text s) = 0

-- n hexadecimal digits of v
abbrev pub hexadecimals : ℕ → ℕ → List ℕ
hexadecimals n v = map letter (fixed 16 n v)

-- a number and a Real in hexadecimal, a text as it stands
abbrev pub letters : Value → List ℕ
letters (num k v) = hexadecimals (max 1 (hex_digits v)) v
letters (real v) = hexadecimals 8 v
letters (text s) = s

-- an item with its blank
abbrev pub canon_text : Canon
canon_text first v = 32 ∷ letters v
