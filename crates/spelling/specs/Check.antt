-- What a check of a row's items answers. Assumes nothing.
use Rattle.std.specs.Prelude.{◌≡◌, ℕ, ◌+◌, ◌≤◌, Bool, true, false, List, length, drop, Some, Ok, Err, Result, nat_lt}
use Rattle.telegram.specs.declared.item.Item.{Item}
use Rattle.telegram.specs.declared.item.Placed.{Placed}
use Rattle.layout.specs.declared.cursor.Cursor.{Cursor}
use Rattle.telegram.specs.declared.row.Row.{Row}
use Rattle.layout.specs.declared.records.Parts.{Parts}
use Rattle.telegram.specs.declared.refusal.Reason.TheVariants.{Rest}
use Rattle.telegram.specs.declared.refusal.Refusal.{Refusal}
use Rattle.telegram.specs.Refusal.{reason_number, fault_number}
use Rattle.telegram.specs.Value.{want, number, value_of}
use Rattle.layout.specs.Layout.{layout, limit, weight, wanted, advance, is_scan}
use Rattle.layout.specs.Follow.{todo, stands, Fitting}
use Rattle.layout.specs.Passing.{Goes, noted}
use Rattle.layout.specs.Source.{values, seen_of, Tells}
use Rattle.spelling.specs.Spell.{Find, Spelt, found, faulty}
use Rattle.spelling.specs.Walk.{Walk, Ending, whole, halt, stop, more, walk, onward}

-- the refusal of an item's fault at a place
abbrev pub FaultAt : ℕ → Spelt → Refusal → Type 0
FaultAt p (found v rest) e = ⊥
FaultAt p (faulty f) e = (reason_number e.reason ≡ fault_number f) × (e.place ≡ p)

-- the item found at the start of bytes that stand at a place, and how many of them it takes; or the refusal of its fault there
abbrev pub Found : ℕ → List ℕ → Spelt → Result (Item × ℕ) Refusal → Type 0
Found p bs s (Ok x) = (s ≡ found (value_of x.0) (drop x.1 bs)) × (x.1 ≤ length bs)
Found p bs s (Err e) = FaultAt p s e

-- an item was passed: the walk goes on behind it
pub record Stepped (find : Find) (t : List ℕ) (at : Cursor) (item : Placed Item) (next : Cursor) : Type 0 where
  pub goes_on : onward find t at ≡ more (seen_of item) (onward find t next)
  pub inside : next.place ≤ length t
  pub asked : Some (want (value_of item.value)) ≡ wanted (todo at.progress.stage)
  pub fits : Fitting (wanted (todo at.progress.stage)) (number (value_of item.value))
  pub stepped : advance (todo at.progress.stage) at.progress.room (number (value_of item.value)) ≡ Some (stands next.progress)
  pub goes : Goes at.progress.stage (number (value_of item.value)) next.progress.stage

abbrev pub Steps : Find → List ℕ → Cursor → Result (Placed Item × Cursor) Refusal → Type 0
Steps find t at (Ok p) = Stepped find t at p.0 p.1
Steps find t at (Err e) = onward find t at ≡ stop (halt (reason_number e.reason) e.place)

-- an item was passed, and the records have it
pub record Passed (find : Find) (t : List ℕ) (at : Cursor) (parts : Parts) (next : Cursor) (after : Parts) : Type 0 where
  pub item : Placed Item
  pub on : Stepped find t at item next
  pub has : after ≡ noted at.progress.stage item.value parts

-- the walk along a row's whole layout, where the items begin at a place
abbrev pub starting : Find → Row → List ℕ → ℕ → Walk
starting find row t start = walk find (weight (layout row) + limit) (length t) true (layout row) limit (drop start t)

-- how a walk ends whose last item ends at a place: bytes are left over, or none
abbrev pub over : ℕ → Bool → Ending
over place true = halt (reason_number Rest) place
over place false = whole

-- the walk comes to the place behind the last item, and the records tell of the items
abbrev pub Walks : Find → Row → List ℕ → ℕ → Result (ℕ × Parts) Refusal → Type 0
Walks find row t start (Ok p) =
    ((starting find row t start).ending ≡ over p.0 (nat_lt p.0 (length t))) × Tells (is_scan row) (layout row) (values (starting find row t start).items) p.1
Walks find row t start (Err e) = (starting find row t start).ending ≡ halt (reason_number e.reason) e.place

abbrev pub Checks : Find → Row → List ℕ → ℕ → Result Parts Refusal → Type 0
Checks find row t start (Ok p) =
    ((starting find row t start).ending ≡ whole) × Tells (is_scan row) (layout row) (values (starting find row t start).items) p
Checks find row t start (Err e) = (starting find row t start).ending ≡ halt (reason_number e.reason) e.place
