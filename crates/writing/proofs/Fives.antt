-- The optional parts one behind the other. Assumes nothing.
use Rattle.std.proofs.Common.{◌≡◌, ℕ, ◌+◌, Bool, false, List, [], ◌∷◌, ◌++◌, length, Some, None, Option, ap, ◌∙◌, arith, length-append, Bor}
use Rattle.layout.specs.declared.records.Position.{Position}
use Rattle.layout.specs.declared.records.Time.{Time}
use Rattle.layout.specs.declared.records.Parts.{Parts}
use Rattle.telegram.specs.Value.{Value}
use Rattle.layout.specs.Passing.{raised, position_items, label_items, time_items, parts_items}
use Rattle.spelling.specs.Canon.{Canon, written}
use Rattle.writing.proofs.Fillings.{written_joined}

module _ (canon : Canon) where
  position_join : (first : Bool) (o : Option Position) (ws : List Value) → written canon first (position_items o ++ ws) ≡ written canon first (position_items o) ++ written canon false ws
  position_join first None ws = written_joined canon first (position_items None) ws (omega arith)
  position_join first (Some p) ws = written_joined canon first (position_items (Some p)) ws (omega arith)

  label_join : (o : Option (Bor (List ℕ))) (ws : List Value) → written canon false (label_items o ++ ws) ≡ written canon false (label_items o) ++ written canon false ws
  label_join None ws = written_joined canon false (label_items None) ws (omega arith)
  label_join (Some s) ws = written_joined canon false (label_items (Some s)) ws (omega arith)

  time_join : (o : Option Time) (ws : List Value) → written canon false (time_items o ++ ws) ≡ written canon false (time_items o) ++ written canon false ws
  time_join None ws = written_joined canon false (time_items None) ws (omega arith)
  time_join (Some t) ws = written_joined canon false (time_items (Some t)) ws (omega arith)

  module _ (first : Bool) (p : Parts) where
    abbrev pub position_bytes : List ℕ
    position_bytes = written canon first (position_items p.position)

    abbrev pub name_bytes : List ℕ
    name_bytes = written canon false (label_items p.name)

    abbrev pub comment_bytes : List ℕ
    comment_bytes = written canon false (label_items p.comment)

    abbrev pub time_bytes : List ℕ
    time_bytes = written canon false (time_items p.time)

    abbrev pub event_bytes : List ℕ
    event_bytes = written canon false (raised 0 ∷ [])

    pub five : written canon first (parts_items p) ≡ position_bytes ++ (name_bytes ++ (comment_bytes ++ (time_bytes ++ event_bytes)))
    five =
        position_join first p.position _
        ∙ ap (λ l. position_bytes ++ l) (label_join p.name _ ∙ ap (λ l. name_bytes ++ l) (label_join p.comment _ ∙ ap (λ l. comment_bytes ++ l) (time_join p.time (raised 0 ∷ []))))

    pub five_long : length (written canon first (parts_items p)) ≡ length position_bytes + (length name_bytes + (length comment_bytes + (length time_bytes + length event_bytes)))
    five_long =
        ap length five
        ∙ omega (arith, length-append position_bytes (name_bytes ++ (comment_bytes ++ (time_bytes ++ event_bytes))), length-append name_bytes (comment_bytes ++ (time_bytes ++ event_bytes)), length-append comment_bytes (time_bytes ++ event_bytes), length-append time_bytes event_bytes)
