-- What reading keeps to. Assumes nothing.
use Rattle.std.specs.Prelude.{◌≡◌, ℕ, zero, suc, ◌+◌, ◌-◌, ◌≤◌, Bool, true, false, cond, ◌||◌, List, [], ◌∷◌, ◌++◌, map, length, take, drop, Some, None, Option, ◌==◌, nat_lt, refl}
use Rattle.std.proofs.Common.{sym, ap, subst, ◌∙◌, arith, take-add}
use Rattle.std.proofs.lemmas.Bool.{eqb-false, ltb-false, or_parts}
use Rattle.std.proofs.lemmas.List.{length-take, length-drop, drop-drop}
use Rattle.telegram.specs.declared.item.Want.{Want}
use Rattle.telegram.specs.declared.refusal.Fault.{Fault}
use Rattle.telegram.specs.declared.refusal.Fault.TheVariants.{Cut, Misspelt}
use Rattle.telegram.specs.declared.row.Row.{Row}
use Rattle.telegram.specs.Value.{Value, number, want, Good}
use Rattle.telegram.specs.Catalogue.{name}
use Rattle.telegram.specs.Refusal.{fault_number}
use Rattle.layout.specs.Layout.{Layout, State, wanted, advance, weight, layout, limit}
use Rattle.layout.specs.Source.{When, Fits, Seen, values}
use Rattle.layout.proofs.Times.{falls, light}
use Rattle.spelling.specs.Spell.{Spelt, found, faulty, Find, Fair, Sound, Opened, holds, wrong, Opens, Inside, Lies}
use Rattle.spelling.specs.Walk.{Ending, whole, halt, Walk, stop, closed, walk}
use Rattle.framing.specs.Read.{refused, head, after_head, without_blank, judged, headed, unwrapped, reads, cut, joined, Keeps}
use Rattle.spelling.proofs.Walks.{turn_end, turn_fault, turn_unfit, turn_more}

-- the items that were passed fit the layout, and follow one another up to the end; a fault has one of the numbers 5 to 8
abbrev pub Chain : ℕ → ℕ → List Seen → Type 0
Chain a b [] = a ≡ b
Chain a b (s ∷ ss) = (s.from ≡ a) × (a ≤ s.to) × (s.to ≤ b) × Chain s.to b ss

abbrev pub EndsWell : ℕ → ℕ → Layout → ℕ → List Seen → Ending → Type 0
EndsWell a n l r ss whole = Fits l r (values ss) × Chain a n ss
EndsWell a n l r ss (halt k p) = (5 ≤ k) × (k ≤ 8)

fault_number_lem : (f : Fault) → (5 ≤ fault_number f) × (fault_number f ≤ 8)
fault_number_lem Cut = (omega arith, omega arith)
fault_number_lem Misspelt = (omega arith, omega arith)

closed_well : (n : ℕ) (l : Layout) (r : ℕ) (bs : List ℕ) → wanted l ≡ None → EndsWell (n - length bs) n l r (closed n bs).items (closed n bs).ending
closed_well n l r [] e = (e, omega arith)
closed_well n l r (b ∷ bs) e = (omega arith, omega arith)

module _ (find : Find) (sound : Sound find) where
  halt_well : (n a : ℕ) (l : Layout) (r k p : ℕ) (w : Walk) → (5 ≤ k) × (k ≤ 8) → stop (halt k p) ≡ w → EndsWell a n l r w.items w.ending
  halt_well n a l r k p w h e = subst (λ x. EndsWell a n l r x.items x.ending) e h

  more_well : (n a b : ℕ) (l : Layout) (r : ℕ) (q : State) (v : Value) (x : Walk) → wanted l ≡ Some (want v) → Good v → advance l r (number v) ≡ Some q → a ≤ b → b ≤ n → EndsWell b n q.todo q.room x.items x.ending → EndsWell a n l r (record { value = v; from = a; to = b } ∷ x.items) x.ending
  more_well n a b l r q v x w good ad le len h =
      let go : (e : Ending) → EndsWell b n q.todo q.room x.items e → EndsWell a n l r (record { value = v; from = a; to = b } ∷ x.items) e =
      λ e. elim e as (λ e. EndsWell b n q.todo q.room x.items e → EndsWell a n l r (record { value = v; from = a; to = b } ∷ x.items) e) [
        | whole ↦ λ h. ((w, good, subst (λ o. When o (λ s. Fits s.todo s.room (values x.items))) (sym ad) h.0), (refl, le, len, h.1))
        | halt k p ↦ λ h. h
      ] in
      go x.ending h

  pub walk_well : (n t : ℕ) (first : Bool) (l : Layout) (r : ℕ) (bs : List ℕ) → weight l + r ≤ t → length bs ≤ n → EndsWell (n - length bs) n l r (walk find t n first l r bs).items (walk find t n first l r bs).ending
  walk_well n zero first l r bs h len =
      let o = light l (omega arith) in
      subst (λ x. EndsWell (n - length bs) n l r x.items x.ending) (sym (turn_end find n first l r bs zero o)) (closed_well n l r bs o)
  walk_well n (suc t) first l r bs h len =
      let Goal : Type 0 = EndsWell (n - length bs) n l r (walk find (suc t) n first l r bs).items (walk find (suc t) n first l r bs).ending in
      let fits : (w : Want) → wanted l ≡ Some w → (v : Value) (rest : List ℕ) → find first w bs ≡ found v rest → (o : Option State) → advance l r (number v) ≡ o → Goal =
      λ w e v rest s o. elim o as (λ o. advance l r (number v) ≡ o → Goal) [
        | None ↦ λ a. halt_well n (n - length bs) l r _ _ _ (omega arith, omega arith) (sym (turn_unfit find n first l r bs (suc t) w v rest (omega arith) e s a))
        | Some q ↦ λ a.
            let f = falls l r (number v) q a in
            let fair = subst (Fair w bs) s (sound first w bs) in
            let x = walk find t n false q.todo q.room rest in
            subst (λ y. EndsWell (n - length bs) n l r y.items y.ending) (sym (turn_more find n first l r bs t w v rest q e s a))
            (more_well n (n - length bs) (n - length rest) l r q v x (e ∙ ap Some (sym fair.0)) fair.1 a (omega (arith, fair.2)) (omega arith) (walk_well n t false q.todo q.room rest (omega arith) (omega (arith, fair.2))))
      ] in
      let finds : (w : Want) → wanted l ≡ Some w → (x : Spelt) → find first w bs ≡ x → Goal =
      λ w e x. elim x as (λ x. find first w bs ≡ x → Goal) [
        | faulty f ↦ λ s. halt_well n (n - length bs) l r _ _ _ (fault_number_lem f) (sym (turn_fault find n first l r bs (suc t) w f (omega arith) e s))
        | found v rest ↦ λ s. fits w e v rest s (advance l r (number v)) refl
      ] in
      let asks : (o : Option Want) → wanted l ≡ o → Goal =
      λ o. elim o as (λ o. wanted l ≡ o → Goal) [
        | None ↦ λ e. subst (λ x. EndsWell (n - length bs) n l r x.items x.ending) (sym (turn_end find n first l r bs (suc t) e)) (closed_well n l r bs e)
        | Some w ↦ λ e. finds w e (find first w bs) refl
      ] in
      asks (wanted l) refl

-- Spans that follow one another join.

cut_cut : (bs : List ℕ) (a m b : ℕ) → a ≤ m → m ≤ b → cut bs a m ++ cut bs m b ≡ cut bs a b
cut_cut bs a m b h k =
    let e : a + (m - a) ≡ m = omega arith in
    let s : (m - a) + (b - m) ≡ b - a = omega arith in
    ap (λ x. cut bs a m ++ take (b - m) x) (ap (λ x. drop x bs) (sym e) ∙ sym (drop-drop (m - a) a bs))
    ∙ sym (take-add (m - a) (b - m) (drop a bs))
    ∙ ap (λ x. take x (drop a bs)) s

cut_none : (bs : List ℕ) (a b : ℕ) → a ≡ b → [] ≡ cut bs a b
cut_none bs a b e = let z : 0 ≡ b - a = omega arith in ap (λ k. take k (drop a bs)) z

chain_ends : (a b : ℕ) (ss : List Seen) → Chain a b ss → a ≤ b
chain_ends a b [] h = omega arith
chain_ends a b (s ∷ ss) h = omega (arith, h.1, h.2)

chain_joins : (bs : List ℕ) (a b : ℕ) (ss : List Seen) → Chain a b ss → joined (map (λ s. cut bs s.from s.to) ss) ≡ cut bs a b
chain_joins bs a b [] h = cut_none bs a b h
chain_joins bs a b (s ∷ ss) h =
    ap (λ x. cut bs x s.to ++ joined (map (λ s. cut bs s.from s.to) ss)) h.0
    ∙ ap (λ x. cut bs a s.to ++ x) (chain_joins bs s.to b ss h.3)
    ∙ cut_cut bs a s.to b h.1 h.2

-- What is behind a head is no longer than what stood there.

shorter : (bs : List ℕ) → length (without_blank bs) ≤ length bs
shorter [] = omega arith
shorter (b ∷ bs) =
    let go : (x : Bool) → length (cond x bs (b ∷ bs)) ≤ length (b ∷ bs) = λ x. elim x as (λ x. length (cond x bs (b ∷ bs)) ≤ length (b ∷ bs)) [ true ↦ omega arith | false ↦ omega arith ] in
    go (b == 32)

behind_head : (spare : Bool) (l : Layout) (bs : List ℕ) → length (after_head spare l bs) ≤ length bs
behind_head spare l bs =
    let go : (x : Bool) → length (cond x (without_blank bs) bs) ≤ length bs = λ x. elim x as (λ x. length (cond x (without_blank bs) bs) ≤ length bs) [ true ↦ shorter bs | false ↦ omega arith ] in
    go _

module _ (opens : Opens) (spare : Bool) (find : Find) (inside : Inside opens) (sound : Sound find) (bs : List ℕ) (least : 1 ≤ length bs) (most : length bs ≤ 65536) where
  judged_keeps : (row : Row) (from n : ℕ) (rest : List ℕ) (ss : List Seen) (e : Ending) → from ≤ n - length rest → EndsWell (n - length rest) n (layout row) limit ss e → Keeps bs (judged (record { row = row; from = from; to = n; behind = n - length rest; items = ss }) e)
  judged_keeps row from n rest ss whole le h =
      (least, most, h.0, ap (λ x. cut bs from (n - length rest) ++ x) (chain_joins bs (n - length rest) n ss h.1) ∙ cut_cut bs from (n - length rest) n le (omega arith))
  judged_keeps row from n rest ss (halt k p) le h = (omega (arith, h.0), h.1)

  headed_keeps : (t : List ℕ) (from : ℕ) (o : Option Row) → from ≤ length t → Keeps bs (headed find spare t from o)
  headed_keeps t from None le = (omega arith, omega arith)
  headed_keeps t from (Some row) le =
      let after = drop (from + (4 + length (name row))) t in
      let rest = after_head spare (layout row) after in
      let short = behind_head spare (layout row) after in
      let long = length-drop (from + (4 + length (name row))) t in
      judged_keeps row from (length t) rest _ _ (omega (arith, short, long)) (walk_well find sound (length t) (weight (layout row) + limit) true (layout row) limit rest (omega arith) (omega (arith, short, long)))

  unwrapped_keeps : (o : Opened) → Lies (length bs) o → Keeps bs (unwrapped find spare bs o)
  unwrapped_keeps (wrong k p) h = (omega (arith, h.0), omega (arith, h.1))
  unwrapped_keeps (holds from to) h = headed_keeps (take to bs) from (head (drop from (take to bs))) (omega (arith, h.0, h.1, length-take to bs))

pub keeps_in : (opens : Opens) (spare : Bool) (find : Find) → Inside opens → Sound find → (bs : List ℕ) → Keeps bs (reads opens spare find bs)
keeps_in opens spare find inside sound bs =
    let go : (x : Bool) → (length bs == 0 || nat_lt 65536 (length bs)) ≡ x → Keeps bs (cond x (refused 1 0) (unwrapped find spare bs (opens bs))) =
    λ x. elim x as (λ x. (length bs == 0 || nat_lt 65536 (length bs)) ≡ x → Keeps bs (cond x (refused 1 0) (unwrapped find spare bs (opens bs)))) [
      | true ↦ λ e. (omega arith, omega arith)
      | false ↦ λ e.
          let p = or_parts _ _ e in
          let some : length bs ≡ 0 → ⊥ = eqb-false (length bs) 0 p.0 in
          unwrapped_keeps opens spare find inside sound bs (omega (arith, some)) (ltb-false 65536 (length bs) p.1) (opens bs) (inside bs)
    ] in
    go _ refl
