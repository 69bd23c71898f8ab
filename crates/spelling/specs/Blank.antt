-- What is found behind a blank. Assumes nothing.
use Rattle.std.specs.Prelude.{◌≡◌, ℕ, ◌+◌, cond, List, [], ◌∷◌, Ok, Err, Result, ◌==◌}
use Rattle.telegram.specs.declared.item.Item.{Item}
use Rattle.telegram.specs.declared.refusal.Fault.{Fault}
use Rattle.telegram.specs.declared.refusal.Fault.TheVariants.{Cut, Misspelt}

-- what is found takes one byte more
abbrev pub with_blank : Result (Item × ℕ) Fault → Result (Item × ℕ) Fault
with_blank (Ok p) = Ok (p.0, 1 + p.1)
with_blank (Err e) = Err e

-- where no blank stands before it, what is found is misspelt
abbrev pub without : Result (Item × ℕ) Fault → Result (Item × ℕ) Fault
without (Ok p) = Err Misspelt
without (Err e) = Err e

-- an answer, by what may be found behind the first byte
abbrev pub Behind : (List ℕ → Result (Item × ℕ) Fault → Type 0) → List ℕ → Result (Item × ℕ) Fault → Type 0
Behind Found [] r = r ≡ Err Cut
Behind Found (b ∷ bs) r = (found : Result (Item × ℕ) Fault) × Found bs found × (r ≡ cond (b == 32) (with_blank found) (without found))
