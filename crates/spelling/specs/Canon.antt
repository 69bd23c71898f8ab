-- The one spelling of an item that is written. Assumes nothing.
use Rattle.std.specs.Prelude.{◌≡◌, ℕ, zero, suc, ◌/◌, ◌%◌, Bool, false, List, [], ◌∷◌, ◌++◌}
use Rattle.telegram.specs.Value.{Value, Good, want}
use Rattle.spelling.specs.Spell.{found, Find}

-- the n lowest digits of v in a base, the highest first
abbrev pub fixed : ℕ → ℕ → ℕ → List ℕ
fixed base zero v = []
fixed base (suc n) v = fixed base n (v / base) ++ (v % base ∷ [])

-- how an item is written, its blank included: whether it is the first of its telegram, and its value
abbrev pub Canon : Type 0
Canon = Bool → Value → List ℕ

-- items one behind the other
abbrev pub written : Canon → Bool → List Value → List ℕ
written canon first [] = []
written canon first (v ∷ vs) = canon first v ++ written canon false vs

-- what is written is found, before whatever items may follow it
abbrev pub Back : Find → Canon → Type 0
Back find canon = (first : Bool) (v : Value) (vs : List Value) → Good v → find first (want v) (written canon first (v ∷ vs)) ≡ found v (written canon false vs)
