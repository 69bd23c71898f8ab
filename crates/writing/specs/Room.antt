-- Whether an output has room. Assumes nothing.
use Rattle.std.specs.Prelude.{◌≡◌, ℕ, ◌<◌, ◌≤◌, Ok, Err, Result}
use Rattle.telegram.specs.declared.refusal.Refusal.{Refusal}
use Rattle.telegram.specs.declared.refusal.Reason.TheVariants.{Room}
use Rattle.telegram.specs.Refusal.{reason_number}

-- so many bytes fit into an output so long; else they are refused with how many they are
abbrev pub Fits : ℕ → ℕ → Result Unit Refusal → Type 0
Fits room bytes (Ok u) = bytes ≤ room
Fits room bytes (Err e) = (reason_number e.reason ≡ reason_number Room) × (e.place ≡ bytes) × (room < bytes)
