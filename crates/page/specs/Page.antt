-- What a sheet says of bytes. Assumes nothing.
use Rattle.std.specs.Prelude.{ℕ, cond, List, [], ◌∷◌, ◌++◌, codes, decimal, ◌==◌, slice_index}
use Rattle.telegram.specs.declared.kind.Kind.{Kind}
use Rattle.telegram.specs.declared.kind.Kind.TheVariants.{Bool, Uint8, Uint16, Uint32, Int8, Int32}
use Rattle.telegram.specs.declared.row.Row.{Row}
use Rattle.telegram.specs.Catalogue.{command, name}
use Rattle.telegram.specs.Value.{Value, num, real, text}
use Rattle.layout.specs.Source.{Seen}
use Rattle.framing.specs.Read.{Outcome, accepted, refused}
use Rattle.cola_a.specs.Canon.{letters}
use Rattle.cola_a.specs.Read.{reads_text}
use Rattle.cola_b.specs.Read.{reads_binary}

-- the name of a kind of numbers
abbrev pub kind_name : Kind → List ℕ
kind_name Bool = codes "Bool"
kind_name Uint8 = codes "Uint_8"
kind_name Uint16 = codes "Uint_16"
kind_name Uint32 = codes "Uint_32"
kind_name Int8 = codes "Int_8"
kind_name Int32 = codes "Int_32"

-- what kind of value a line tells of
abbrev pub value_name : Value → List ℕ
value_name (num k v) = kind_name k
value_name (real v) = codes "Real"
value_name (text s) = codes "text"

-- two words with a blank between them, and a line feed
abbrev pub pair : List ℕ → List ℕ → List ℕ
pair a b = a ++ (32 ∷ (b ++ (10 ∷ [])))

-- the front of a line: what kind of item it tells of, and the item's place
abbrev pub front : Seen → List ℕ
front s = value_name s.value ++ (codes " " ++ (decimal s.from ++ codes " "))

-- an item: its kind, its place, and its canonical letters
abbrev pub line : Seen → List ℕ
line s = front s ++ (letters s.value ++ (10 ∷ []))

abbrev pub lines : List Seen → List ℕ
lines [] = []
lines (s ∷ ss) = line s ++ lines ss

-- a telegram's type and name
abbrev pub title : Row → List ℕ
title r = pair (command r) (name r)

-- a refusal: its number and its place
abbrev pub refusal : ℕ → ℕ → List ℕ
refusal n p = codes "refused " ++ (decimal n ++ (codes " " ++ (decimal p ++ codes "\n")))

-- the whole sheet of what bytes come to
abbrev pub page : Outcome → List ℕ
page (accepted g) = title g.row ++ lines g.items
page (refused n p) = refusal n p

-- bytes are read in binary if the second of them is 02, else as text
abbrev pub outcome : List ℕ → Outcome
outcome bs = cond (slice_index bs 1 == 2) (reads_binary bs) (reads_text bs)

abbrev pub sheet_of : List ℕ → List ℕ
sheet_of bs = page (outcome bs)
