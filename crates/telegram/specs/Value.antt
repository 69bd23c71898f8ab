-- Values, and what a layout asks for. Assumes nothing.
use Rattle.std.specs.Prelude.{◌≡◌, ℕ, ◌<◌, Bool, true, ◌&&◌, List, length, nat_le}
use Rattle.std.specs.List.{list_all}
use Rattle.telegram.specs.declared.kind.Kind.{Kind}
use Rattle.telegram.specs.declared.item.Want.{Want}
use Rattle.telegram.specs.declared.item.Want.TheVariants.{Number as a_number, Real as a_real, Text as a_text}
use Rattle.telegram.specs.declared.item.Item.{Item}
use Rattle.telegram.specs.declared.item.Item.TheVariants.{Number, Real, Text}
use Rattle.telegram.specs.Kind.{patterns}

-- a number of a kind, by the pattern of its full width; a Real, by its pattern; a text
pub data Value : Type 0 where
  num : Kind → ℕ → Value
  real : ℕ → Value
  text : List ℕ → Value

-- the one definition of what an item says
abbrev pub value_of : Item → Value
value_of (Number k v) = num k v
value_of (Real v) = real v
value_of (Text s) = text s.now

-- what has to be asked for to get a value
abbrev pub want : Value → Want
want (num k v) = a_number k
want (real v) = a_real
want (text s) = a_text (length s)

-- the pattern of a number or a Real; a text has none, and says 0
abbrev pub number : Value → ℕ
number (num k v) = v
number (real v) = v
number (text s) = 0

-- a byte of a text: 20 to 7E
abbrev pub textual : ℕ → Bool
textual c = nat_le 32 c && nat_le c 126

abbrev pub printable : List ℕ → Bool
printable cs = list_all textual cs

-- a pattern of its kind, or a text of textual bytes
abbrev pub Good : Value → Type 0
Good (num k v) = v < patterns k
Good (real v) = v < 4294967296
Good (text s) = printable s ≡ true
