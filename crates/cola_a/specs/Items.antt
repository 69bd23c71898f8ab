-- How an item is spelt in a text. Assumes nothing.
use Rattle.std.specs.Prelude.{◌≡◌, ℕ, ◌-◌, ◌*◌, ◌<◌, Bool, true, false, cond, ◌&&◌, ◌||◌, List, [], ◌∷◌, Ok, Err, Result, ◌==◌, nat_le, nat_lt}
use Rattle.telegram.specs.declared.kind.Kind.{Kind}
use Rattle.telegram.specs.declared.kind.Kind.TheVariants.{Bool as Truth, Uint8, Uint16, Uint32, Int8, Int32}
use Rattle.telegram.specs.declared.item.Want.{Want}
use Rattle.telegram.specs.declared.item.Want.TheVariants.{Number, Real, Text}
use Rattle.telegram.specs.declared.refusal.Fault.{Fault}
use Rattle.telegram.specs.declared.refusal.Fault.TheVariants.{Misspelt}
use Rattle.telegram.specs.Kind.{bytes, patterns}
use Rattle.telegram.specs.Value.{num, real}
use Rattle.spelling.specs.Spell.{Spelt, found, faulty, Find, text_of, blanked}
use Rattle.cola_a.specs.declared.items.Sign.{Sign}
use Rattle.cola_a.specs.declared.items.Sign.TheVariants.{Plus, Minus}
use Rattle.cola_a.specs.declared.items.Lead.{Lead}
use Rattle.cola_a.specs.declared.items.Lead.TheVariants.{Signed, Digit}
use Rattle.cola_a.specs.Digits.{digit, Run, ran, broken, run}

-- how many numbers, from 0 up, may stand behind a plus
abbrev pub upward : Kind → ℕ
upward Truth = 2
upward Uint8 = 256
upward Uint16 = 65536
upward Uint32 = 4294967296
upward Int8 = 128
upward Int32 = 2147483648

-- how many numbers, from 0 on, may stand behind a minus: of the unsigned kinds 0 alone
abbrev pub downward : Kind → ℕ
downward Truth = 1
downward Uint8 = 1
downward Uint16 = 1
downward Uint32 = 1
downward Int8 = 129
downward Int32 = 2147483649

-- one digit or more, and the number is a pattern of the kind
abbrev pub hexadecimal : Kind → Run → Spelt
hexadecimal k (ran n v rest) = cond (nat_le 1 n && nat_lt v (patterns k)) (found (num k v) rest) (faulty Misspelt)
hexadecimal k broken = faulty Misspelt

-- the pattern of a number behind a sign: of a negative one, what it lacks to all patterns
abbrev pub pattern : Kind → Bool → ℕ → ℕ
pattern k minus v = cond (minus && nat_lt 0 v) (patterns k - v) v

-- the letter of a sign, + or -
abbrev pub letter_of : Sign → ℕ
letter_of Plus = 43
letter_of Minus = 45

abbrev pub is_minus : Sign → Bool
is_minus Plus = false
is_minus Minus = true

-- one digit or more, and the number lies in the range of the kind
abbrev pub decimal : Kind → Bool → Run → Spelt
decimal k minus (ran n v rest) = cond (nat_le 1 n && nat_lt v (cond minus (downward k) (upward k))) (found (num k (pattern k minus v)) rest) (faulty Misspelt)
decimal k minus broken = faulty Misspelt

-- a number behind its blank: decimal with a sign and up to ten digits, else hexadecimal with up to two digits for each byte
abbrev pub number_after : Kind → List ℕ → Spelt
number_after k [] = faulty Misspelt
number_after k (c ∷ cs) =
    let signed : Spelt = decimal k (c == 45) (run 10 10 0 0 cs) in
    let plain : Spelt = hexadecimal k (run 16 (2 * bytes k) 0 0 (c ∷ cs)) in
    cond (c == 43 || c == 45) signed plain

-- eight digits
abbrev pub eight : Run → Spelt
eight (ran n v rest) = cond (n == 8) (found (real v) rest) (faulty Misspelt)
eight broken = faulty Misspelt

-- a Real behind its blank: eight hexadecimal digits
abbrev pub real_after : List ℕ → Spelt
real_after bs = eight (run 16 8 0 0 bs)

-- an item behind its blank
abbrev pub bare : Want → List ℕ → Spelt
bare (Number k) bs = number_after k bs
bare Real bs = real_after bs
bare (Text n) bs = text_of n bs

-- every item has a blank before it
abbrev pub find_text : Find
find_text first w bs = blanked (bare w) bs

-- a number alone may have a sign
abbrev pub signs : Want → Bool
signs (Number k) = true
signs Real = false
signs (Text n) = false

-- how an item begins: with a sign if it may have one, with a digit, or wrongly
abbrev pub Leads : Want → ℕ → Result Lead Fault → Type 0
Leads w c (Ok (Signed s)) = (signs w ≡ true) × (c ≡ letter_of s)
Leads w c (Ok Digit) = digit c < 16
Leads w c (Err e) = (e ≡ Misspelt) × (digit c ≡ 16) × ((signs w && (c == 43 || c == 45)) ≡ false)
