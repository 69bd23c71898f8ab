-- Bytes as a table writes them. Assumes nothing.
use Rattle.std.specs.Prelude.{ℕ, ◌+◌, ◌-◌, ◌*◌, ◌==◌, nat_le, Bool, true, false, ◌&&◌, cond, List, [], ◌∷◌, Option, Some, None}

-- the value of a hexadecimal digit; any other character counts as 0
abbrev pub digit : ℕ → ℕ
digit c = cond (nat_le 48 c && nat_le c 57) (c - 48) (cond (nat_le 65 c && nat_le c 70) (c - 55) 0)

-- what a text stands for from a place on: whether the place is in brackets, and the digit there that waits for its second
abbrev pub reads : Bool → Option ℕ → List ℕ → List ℕ
reads inside high [] = []
reads false high (c ∷ cs) = cond (c == 35) [] (cond (c == 91) (reads true high cs) (c ∷ reads false high cs))
reads true None (c ∷ cs) = cond (c == 93) (reads false None cs) (cond (c == 32) (reads true None cs) (reads true (Some c) cs))
reads true (Some h) (c ∷ cs) = cond (c == 93) (reads false (Some h) cs) (cond (c == 32) (reads true (Some h) cs) ((16 * digit h + digit c) ∷ reads true None cs))

-- what a text stands for: a byte by two digits in square brackets, where blanks do not count, and elsewhere by itself; a `#` outside brackets ends it
abbrev pub decoded : List ℕ → List ℕ
decoded cs = reads false None cs
