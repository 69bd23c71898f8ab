-- What is written is read. Assumes nothing.
use Rattle.std.specs.Prelude.{◌≡◌, ℕ, Bool, true, false, List, [], ◌∷◌, ◌++◌, length}
use Rattle.telegram.specs.declared.row.Row.{Row}
use Rattle.telegram.specs.Value.{Value}
use Rattle.layout.specs.Layout.{layout, limit}
use Rattle.layout.specs.Source.{Fits, Seen}
use Rattle.spelling.specs.Spell.{Find}
use Rattle.spelling.specs.Canon.{Canon, written}
use Rattle.spelling.specs.Walk.{whole, seen}
use Rattle.spelling.specs.Check.{starting}

-- the places of values in their canonical spelling, at the end of n bytes
abbrev pub spans_of : Canon → ℕ → Bool → List Value → List Seen
spans_of canon n first [] = []
spans_of canon n first (v ∷ vs) = seen n v (written canon first (v ∷ vs)) (written canon false vs) ∷ spans_of canon n false vs

-- behind any head, the values of a row that are written are the values that are read, each with its place
abbrev pub Round : Find → Canon → Type 0
Round find canon =
    (row : Row) (front : List ℕ) (vs : List Value) → Fits (layout row) limit vs
    → starting find row (front ++ written canon true vs) (length front) ≡ record { items = spans_of canon (length (front ++ written canon true vs)) true vs; ending = whole }
