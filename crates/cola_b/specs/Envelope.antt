-- The envelope in binary: a header, the body's length, the body, and its checksum. Assumes nothing.
use Rattle.std.specs.Prelude.{ℕ, ◌-◌, cond, List, [], ◌∷◌, ◌++◌, length, take, drop, ◌==◌, bit_xor, nat_lt, slice_index}
use Rattle.std.specs.List.{fold, prefix_len, zip}
use Rattle.std.specs.Int.Digits.{number_from_digits}
use Rattle.spelling.specs.Spell.{holds, wrong, Opens}
use Rattle.spelling.specs.Canon.{fixed}
use Rattle.spelling.specs.Write.{Wrap}

-- the bytes that every telegram begins with
abbrev pub header : List ℕ
header = 2 ∷ 2 ∷ 2 ∷ 2 ∷ []

-- how many bytes two lists have in common before the first that differs
abbrev pub alike : List ℕ → List ℕ → ℕ
alike xs ys = prefix_len (λ p. p.0 == p.1) (zip xs ys)

-- the length that is stated behind the header, in four bytes, the highest first
abbrev pub stated : List ℕ → ℕ
stated bs = number_from_digits 256 (take 4 (drop 4 bs))

-- all behind the stated length, but for the last byte
abbrev pub body : List ℕ → List ℕ
body bs = take (length bs - 9) (drop 8 bs)

-- the exclusive or of all bytes
abbrev pub checksum : List ℕ → ℕ
checksum bs = fold bit_xor 0 bs

-- too few bytes, a byte that is not the header's, another length, another checksum; else the body
abbrev pub open_binary : Opens
open_binary bs =
    let n : ℕ = length bs in
    let place : ℕ = alike header bs in
    cond (nat_lt n 9) (wrong 2 n)
    (cond (nat_lt place 4) (wrong 2 place)
    (cond (stated bs == n - 9)
    (cond (checksum (body bs) == slice_index bs (n - 1)) (holds 8 (n - 1)) (wrong 3 (n - 1)))
    (wrong 2 4)))

-- what is put around a body: the header and its length in four bytes, and its checksum
abbrev pub wrap_binary : Wrap
wrap_binary = record { front = λ b. header ++ fixed 256 4 (length b); behind = λ b. checksum b ∷ []; before = 8; after = 1 }
