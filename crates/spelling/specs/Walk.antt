-- The items of a body, one after the other. Assumes nothing.
use Rattle.std.specs.Prelude.{ℕ, zero, suc, ◌+◌, ◌-◌, Bool, false, List, [], ◌∷◌, length, drop, Some, None, Option}
use Rattle.telegram.specs.declared.item.Want.{Want}
use Rattle.telegram.specs.declared.refusal.Reason.TheVariants.{Limit, Rest}
use Rattle.layout.specs.declared.cursor.Cursor.{Cursor}
use Rattle.telegram.specs.Value.{Value, number}
use Rattle.telegram.specs.Refusal.{reason_number, fault_number}
use Rattle.layout.specs.Layout.{Layout, State, wanted, advance, weight}
use Rattle.layout.specs.Follow.{todo}
use Rattle.layout.specs.Source.{Seen}
use Rattle.spelling.specs.Spell.{Spelt, found, faulty, Find}

-- the end of the layout and of the bytes; or a refusal, by number and place
pub data Ending : Type 0 where
  whole : Ending
  halt : ℕ → ℕ → Ending

-- the items up to the end of the layout or the first fault, and how that ends
pub record Walk : Type 0 where
  pub items : List Seen
  pub ending : Ending

abbrev pub stop : Ending → Walk
stop e = record { items = []; ending = e }

abbrev pub more : Seen → Walk → Walk
more s w = record { items = s ∷ w.items; ending = w.ending }

-- where nothing is wanted any more, of n bytes: what is left is left over
abbrev pub closed : ℕ → List ℕ → Walk
closed n [] = stop whole
closed n (b ∷ bs) = stop (halt (reason_number Rest) (n - length (b ∷ bs)))

abbrev pub asked : Walk → (Want → Walk) → Option Want → Walk
asked done next None = done
asked done next (Some w) = next w

abbrev pub taken : ℕ → (Value → List ℕ → Walk) → Spelt → Walk
taken p next (faulty e) = stop (halt (fault_number e) p)
taken p next (found v rest) = next v rest

abbrev pub fit : ℕ → (State → Walk) → Option State → Walk
fit p next None = stop (halt (reason_number Limit) p)
fit p next (Some s) = next s

-- a value found at the start of bs, before rest, both at the end of n bytes
abbrev pub seen : ℕ → Value → List ℕ → List ℕ → Seen
seen n v bs rest = record { value = v; from = n - length bs; to = n - length rest }

-- along a layout, with at most t items; bs is what is left of n bytes, so that its place is n less its length
unfoldable pub walk : Find → ℕ → ℕ → Bool → Layout → ℕ → List ℕ → Walk
walk find zero n first l r bs = closed n bs
walk find (suc t) n first l r bs =
    asked (closed n bs)
    (λ w. taken (n - length bs) (λ v rest. fit (n - length bs) (λ s. more (seen n v bs rest) (walk find t n false s.todo s.room rest)) (advance l r (number v))) (find first w bs))
    (wanted l)

-- the walk on from a cursor, in an input up to its body's end
abbrev pub onward : Find → List ℕ → Cursor → Walk
onward find t at =
    walk find (weight (todo at.progress.stage) + at.progress.room) (length t) at.first (todo at.progress.stage) at.progress.room (drop at.place t)

-- the items that are left at a cursor
abbrev pub left : Find → List ℕ → Cursor → List Seen
left find t at = (onward find t at).items
