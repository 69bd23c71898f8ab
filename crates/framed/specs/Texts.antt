-- Texts stand in the input as they are. Assumes nothing.
use Rattle.std.specs.Prelude.{◌≡◌, ℕ, zero, suc, ◌+◌, ◌-◌, Bool, false, List, [], ◌∷◌, ◌++◌, length, take, drop, Some, None, Option}
use Rattle.std.proofs.Common.{sym, ap, ◌∙◌, append_assoc, arith, length-append}
use Rattle.std.proofs.Math.Seq.{take-append_seam, drop-append_seam}
use Rattle.std.proofs.lemmas.List.{take-append-drop}
use Rattle.telegram.specs.declared.item.Want.{Want}
use Rattle.telegram.specs.Value.{Value, number}
use Rattle.layout.specs.declared.cursor.Cursor.{Cursor}
use Rattle.layout.specs.Layout.{Layout, State, wanted, advance}
use Rattle.spelling.specs.Spell.{Spelt, found, faulty, Find, Adjoins, Adjoining, verbatim}
use Rattle.spelling.specs.Walk.{Walk, more, closed, asked, taken, fit, seen, walk, left}
use Rattle.framing.specs.Read.{cut, Stands, Verbatim}

-- bytes between others are cut out by their lengths
module _ (t front x rest : List ℕ) (e : t ≡ front ++ (x ++ rest)) where
  sizes : length t ≡ length front + (length x + length rest)
  sizes = ap length e ∙ length-append front (x ++ rest) ∙ ap (λ n. length front + n) (length-append x rest)

  cut_out : (a b : ℕ) → a ≡ length front → b - a ≡ length x → cut t a b ≡ x
  cut_out a b p q =
      ap (λ l. cut l a b) e
      ∙ ap (λ n. take (b - a) (drop n (front ++ (x ++ rest)))) p
      ∙ ap (take (b - a)) (drop-append_seam front (x ++ rest))
      ∙ ap (λ n. take n (x ++ rest)) q
      ∙ take-append_seam x rest

-- an item of bytes at the end of others
module _ (t pre bs : List ℕ) (e : t ≡ pre ++ bs) (v : Value) (rest lead : List ℕ) (f : bs ≡ lead ++ (verbatim v ++ rest)) where
  abbrev x : List ℕ
  x = verbatim v

  whole : t ≡ (pre ++ lead) ++ (x ++ rest)
  whole = e ∙ ap (λ l. pre ++ l) f ∙ sym (append_assoc pre lead (x ++ rest))

  pub behind : t ≡ ((pre ++ lead) ++ x) ++ rest
  behind = whole ∙ sym (append_assoc (pre ++ lead) x rest)

  pub stands : Stands t (seen (length t) v bs rest)
  stands =
      let all = sizes t (pre ++ lead) x rest whole in
      let here : length t ≡ length pre + length bs = ap length e ∙ length-append pre bs in
      let split = length-append pre lead in
      let to : ℕ = length t - length rest in
      (omega arith, cut_out t (pre ++ lead) x rest whole (to - length x) to (omega arith) (omega arith))

closed_verbatim : (t : List ℕ) (n : ℕ) (bs : List ℕ) → Verbatim t (closed n bs).items
closed_verbatim t n [] = tt
closed_verbatim t n (b ∷ bs) = tt

module _ (find : Find) (adjoining : Adjoining find) (t : List ℕ) where
  pub walk_verbatim : (m : ℕ) (first : Bool) (l : Layout) (r : ℕ) (pre bs : List ℕ) → t ≡ pre ++ bs → Verbatim t (walk find m (length t) first l r bs).items
  unfolding walk
  walk_verbatim zero first l r pre bs e = closed_verbatim t (length t) bs
  walk_verbatim (suc m) first l r pre bs e =
      let n : ℕ = length t in
      let next : Value → List ℕ → State → Walk = λ v rest s. more (seen n v bs rest) (walk find m n false s.todo s.room rest) in
      let fits : (v : Value) (rest : List ℕ) (lead : List ℕ) → bs ≡ lead ++ (verbatim v ++ rest) → (o : Option State) → Verbatim t (fit (n - length bs) (next v rest) o).items =
      λ v rest lead f o. elim o as (λ o. Verbatim t (fit (n - length bs) (next v rest) o).items) [
        | None ↦ tt
        | Some s ↦ (stands t pre bs e v rest lead f, walk_verbatim m false s.todo s.room ((pre ++ lead) ++ verbatim v) rest (behind t pre bs e v rest lead f))
      ] in
      let finds : (w : Want) (x : Spelt) → Adjoins bs x → Verbatim t (taken (n - length bs) (λ v rest. fit (n - length bs) (next v rest) (advance l r (number v))) x).items =
      λ w x. elim x as (λ x. Adjoins bs x → Verbatim t (taken (n - length bs) (λ v rest. fit (n - length bs) (next v rest) (advance l r (number v))) x).items) [
        | faulty f ↦ λ h. tt
        | found v rest ↦ λ h. fits v rest h.0 h.1 (advance l r (number v))
      ] in
      let asks : (o : Option Want) → Verbatim t (asked (closed n bs) (λ w. taken (n - length bs) (λ v rest. fit (n - length bs) (next v rest) (advance l r (number v))) (find first w bs)) o).items =
      λ o. elim o as (λ o. Verbatim t (asked (closed n bs) (λ w. taken (n - length bs) (λ v rest. fit (n - length bs) (next v rest) (advance l r (number v))) (find first w bs)) o).items) [
        | None ↦ closed_verbatim t n bs
        | Some w ↦ finds w (find first w bs) (adjoining first w bs)
      ] in
      asks (wanted l)

pub left_verbatim : (find : Find) → Adjoining find → (t : List ℕ) (at : Cursor) → Verbatim t (left find t at)
left_verbatim find adjoining t at = walk_verbatim find adjoining t _ _ _ _ (take at.place t) (drop at.place t) (sym (take-append-drop at.place t))
