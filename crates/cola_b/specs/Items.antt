-- Items in binary: numbers stand highest byte first. Assumes nothing.
use Rattle.std.specs.Prelude.{ℕ, true, false, cond, List, length, take, drop, Some, None, Option, nat_lt}
use Rattle.std.specs.Int.Digits.{number_from_digits}
use Rattle.telegram.specs.declared.kind.Kind.{Kind}
use Rattle.telegram.specs.declared.item.Want.{Want}
use Rattle.telegram.specs.declared.item.Want.TheVariants.{Number, Real, Text}
use Rattle.telegram.specs.declared.refusal.Fault.TheVariants.{Cut, Misspelt}
use Rattle.telegram.specs.Kind.{bytes, patterns}
use Rattle.telegram.specs.Value.{Value, num, real}
use Rattle.spelling.specs.Spell.{Spelt, found, faulty, Find, text_of, blanked}

-- the number that the first n bytes spell, the highest first, unless there are fewer
abbrev pub front : ℕ → List ℕ → Option ℕ
front n bs = cond (nat_lt (length bs) n) None (Some (number_from_digits 256 (take n bs)))

-- the value whose pattern the first n bytes spell; one that is not below the limit is misspelt
abbrev pub spelt_in : ℕ → ℕ → (ℕ → Value) → List ℕ → Spelt
spelt_in n limit value bs =
    let v : ℕ = number_from_digits 256 (take n bs) in
    cond (nat_lt (length bs) n) (faulty Cut) (cond (nat_lt v limit) (found (value v) (drop n bs)) (faulty Misspelt))

-- a number of a kind, in the width of the kind
abbrev pub number_in : Kind → List ℕ → Spelt
number_in k bs = spelt_in (bytes k) (patterns k) (num k) bs

-- a Real: four bytes, which may be any, since what they spell is always below the limit
abbrev pub real_in : List ℕ → Spelt
real_in bs = spelt_in 4 4294967296 real bs

-- an item with no blank before it
abbrev pub bare : Want → List ℕ → Spelt
bare (Number k) bs = number_in k bs
bare Real bs = real_in bs
bare (Text n) bs = text_of n bs

-- a blank stands before the first item, and before no other
abbrev pub find_binary : Find
find_binary true w bs = blanked (bare w) bs
find_binary false w bs = bare w bs
