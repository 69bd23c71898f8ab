-- Respelling, and that one telegram has one spelling. Assumes nothing.
use Rattle.std.specs.Prelude.{◌≡◌, ℕ, ◌≤◌, cond, List, ◌++◌, length, drop, Ok, Err, Result, nat_lt}
use Rattle.telegram.specs.declared.refusal.Refusal.{Refusal}
use Rattle.telegram.specs.declared.refusal.Reason.TheVariants.{Room}
use Rattle.telegram.specs.Refusal.{reason_number}
use Rattle.layout.specs.Source.{Telegram, Within}
use Rattle.framing.specs.Read.{Reading, Outcome, accepted, refused, telegram, Means}

-- what comes of writing: so many bytes, or a refusal by number and place
pub data Answer : Type 0 where
  wrote : ℕ → Answer
  declined : ℕ → ℕ → Answer

-- the answer, and the output afterwards
pub record Written : Type 0 where
  pub answer : Answer
  pub output : List ℕ

-- the one definition of what a call that writes answers
abbrev pub answer_of : Result ℕ Refusal → Answer
answer_of (Ok n) = wrote n
answer_of (Err e) = declined (reason_number e.reason) e.place

-- bytes put at an output's start, unless it is shorter than they are
abbrev pub filled : List ℕ → List ℕ → Written
filled w out =
    cond (nat_lt (length out) (length w)) (record { answer = declined (reason_number Room) (length w); output = out })
    (record { answer = wrote (length w); output = w ++ drop (length w) out })

-- a telegram that was read is written as it is spelt; a refusal leaves the output as it was
abbrev pub respelt : Outcome → (Telegram → List ℕ) → List ℕ → Written
respelt (accepted g) spells out = filled (spells (telegram g)) out
respelt (refused n p) spells out = record { answer = declined n p; output = out }

-- how long what is written will be
abbrev pub measured : Outcome → (Telegram → List ℕ) → Answer
measured (accepted g) spells = wrote (length (spells (telegram g)))
measured (refused n p) spells = declined n p

-- One telegram has one spelling: of a framing that reads and spells so.
pub record OneSpelling (reads : List ℕ → Outcome) (spells : Telegram → List ℕ) : Type 0 where
  -- spellings are equal exactly when the fields are
  pub apart : (t u : Telegram) → Within t → Within u → spells t ≡ spells u → t ≡ u
  pub alike : (t u : Telegram) → t ≡ u → spells t ≡ spells u
  -- what was written is read as the same fields
  pub again : (t : Telegram) → Within t → Means t (reads (spells t))
  -- a canonical spelling, respelt with enough output, is written again
  pub same : (t : Telegram) (out : List ℕ) → Within t → length (spells t) ≤ length out → respelt (reads (spells t)) spells out ≡ record { answer = wrote (length (spells t)); output = spells t ++ drop (length (spells t)) out }
  -- any accepted spelling, respelt with enough output, becomes its telegram's canonical one
  pub settled : (bs : List ℕ) (g : Reading) (out : List ℕ) → reads bs ≡ accepted g → length (spells (telegram g)) ≤ length out → respelt (reads bs) spells out ≡ record { answer = wrote (length (spells (telegram g))); output = spells (telegram g) ++ drop (length (spells (telegram g))) out }
