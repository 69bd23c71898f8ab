-- How a telegram is written, and what writing leaves behind. Assumes nothing.
use Rattle.std.specs.Prelude.{◌≡◌, ℕ, ◌+◌, ◌-◌, ◌*◌, ◌<◌, ◌≤◌, Bool, true, List, ◌∷◌, ◌++◌, length, take, drop, Ok, Err, Result}
use Rattle.telegram.specs.declared.refusal.Refusal.{Refusal}
use Rattle.telegram.specs.declared.refusal.Reason.TheVariants.{Room}
use Rattle.telegram.specs.Kind.{bytes}
use Rattle.telegram.specs.Refusal.{reason_number}
use Rattle.telegram.specs.Catalogue.{command, name}
use Rattle.telegram.specs.Value.{Value, num, real, text, Good}
use Rattle.layout.specs.Source.{Telegram, Within}
use Rattle.spelling.specs.Spell.{holds, Opens}
use Rattle.spelling.specs.Canon.{Canon, written}

-- an envelope: what stands before a body and behind it, and how many bytes that is for every body
pub record Wrap : Type 0 where
  pub front : List ℕ → List ℕ
  pub behind : List ℕ → List ℕ
  pub before : ℕ
  pub after : ℕ

abbrev pub wrapped : Wrap → List ℕ → List ℕ
wrapped w b = w.front b ++ (b ++ w.behind b)

-- type, one blank, name, and the items
abbrev pub body_of : Canon → Telegram → List ℕ
body_of canon t = command t.row ++ (32 ∷ (name t.row ++ written canon true t.items))

-- the canonical spelling of a telegram
abbrev pub spelled : Canon → Wrap → Telegram → List ℕ
spelled canon w t = wrapped w (body_of canon t)

-- Laws.

-- an envelope is as long as it says, and that is little
pub record Snug (w : Wrap) : Type 0 where
  pub little : w.before + w.after ≤ 16
  pub front_long : (b : List ℕ) → length (w.front b) ≡ w.before
  pub behind_long : (b : List ℕ) → length (w.behind b) ≡ w.after

-- no item is longer than two digits for each byte of a number, or a text's bytes, and its blank
abbrev pub most : Value → ℕ
most (num k v) = 1 + 2 * bytes k
most (real v) = 9
most (text s) = 1 + length s

abbrev pub Slim : Canon → Type 0
Slim canon = (first : Bool) (v : Value) → Good v → length (canon first v) ≤ most v

-- a blank parts the first item from the head
abbrev pub Parted : Canon → Type 0
Parted canon = (v : Value) → (rest : List ℕ) × (canon true v ≡ 32 ∷ rest)

-- the envelope that is put around a telegram's body is opened again
abbrev pub Reopens : Opens → Canon → Wrap → Type 0
Reopens opens canon w =
    (t : Telegram) → Within t → length (spelled canon w t) ≤ 65536
    → opens (spelled canon w t) ≡ holds w.before (w.before + length (body_of canon t))

-- Answers.

-- w was written at p, and r is the place behind it; nothing else changed
pub record Put (old : List ℕ) (p : ℕ) (w : List ℕ) (new : List ℕ) (r : ℕ) : Type 0 where
  pub at : r ≡ p + length w
  pub done : take r new ≡ take p old ++ w
  pub rest : drop r new ≡ drop r old

-- the body that stands in out up to a place has its envelope now
abbrev pub enclosed : Wrap → List ℕ → ℕ → List ℕ
enclosed w out to =
    let b : List ℕ = take (to - w.before) (drop w.before out) in
    w.front b ++ (b ++ (w.behind b ++ drop (to + w.after) out))

-- w stands at the output's start and the rest is as it was; or, exactly where the output is shorter than w, it is refused with w's length, and nothing is altered
abbrev pub Wrote : List ℕ → List ℕ → List ℕ → Result ℕ Refusal → Type 0
Wrote w old new (Ok n) = (n ≡ length w) × (n ≤ length old) × (new ≡ w ++ drop n old)
Wrote w old new (Err e) = (reason_number e.reason ≡ reason_number Room) × (e.place ≡ length w) × (length old < length w) × (new ≡ old)
