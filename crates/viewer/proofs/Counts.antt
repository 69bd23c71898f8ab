-- A telegram that is accepted has few items. Assumes nothing.
use Rattle.std.proofs.Common.{ℕ, ◌≤◌, List, length, Ok, subst, ap, arith}
use lib.ListN.{length-map}
use Rattle.layout.specs.declared.cursor.Cursor.{Cursor}
use Rattle.layout.specs.Source.{Seen}
use Rattle.spelling.proofs.Reaches.{items_few}
use Rattle.framing.specs.declared.accepted.Accepted.{Accepted}
use Rattle.framing.specs.Items.{items_of}
use Rattle.framing.specs.Read.{Outcome, Keeps, Accepts, telegram, reading_of}

pub few : {F : Type 0} (left : F → List ℕ → Cursor → List Seen) (reads : F → List ℕ → Outcome) (f : F) (bs : List ℕ) (a : Accepted F) → Accepts (λ a. a.framing.now) (λ a. a.head) left reads f bs (Ok a) → Keeps bs (reads f bs) → length (items_of left a) ≤ 10192
few left reads f bs a h k =
    let is = subst (Keeps bs) h.1.1.0 k in
    let t = a.head.text.now in
    omega (arith, ap (λ f. length (left f t a.head.start)) h.0, items_few (telegram (reading_of (left f t) a.head)) is.2, length-map (left f t a.head.start) (λ s. s.value))
