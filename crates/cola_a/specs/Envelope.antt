-- The envelope of a text: 02, the body, 03. Assumes nothing.
use Rattle.std.specs.Prelude.{ℕ, ◌+◌, ◌-◌, Bool, cond, ◌||◌, List, [], ◌∷◌, length, Some, None, Option, ◌==◌, slice_index, slice_range}
use Rattle.std.specs.List.{position_from}
use Rattle.spelling.specs.Spell.{Opened, holds, wrong, Opens}
use Rattle.spelling.specs.Write.{Wrap}

-- the bytes of the envelope
abbrev pub marked : ℕ → Bool
marked c = c == 2 || c == 3

-- the place of the first of them in a list, whose first byte stands at i
abbrev pub mark : ℕ → List ℕ → Option ℕ
mark i cs = position_from marked i cs

-- a body up to the last byte, if no mark stands in it
abbrev pub unmarked : ℕ → Option ℕ → Opened
unmarked last None = holds 1 last
unmarked last (Some at) = wrong 2 (1 + at)

-- 02 comes first, then 03 last, then neither between them; an empty input has no first byte
abbrev pub open_text : Opens
open_text bs =
    let last : ℕ = length bs - 1 in
    let body : Opened = unmarked last (mark 0 (slice_range bs 1 last)) in
    cond (slice_index bs 0 == 2) (cond (slice_index bs last == 3) body (wrong 2 last)) (wrong 2 0)

-- what is put around a body
abbrev pub wrap_text : Wrap
wrap_text = record { front = λ b. 2 ∷ []; behind = λ b. 3 ∷ []; before = 1; after = 1 }
