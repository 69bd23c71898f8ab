-- One turn of the walk, whatever the spelling. Assumes nothing.
use Rattle.std.proofs.Common.{◌≡◌, ℕ, zero, suc, ◌+◌, ◌-◌, ◌<◌, ◌≤◌, Bool, true, false, ltb, List, [], ◌∷◌, length, drop, Some, None, Option, sym, refl, ap, ◌∙◌, subst, arith}
use Rattle.std.proofs.lemmas.List.{length-drop, drop-drop, at_drop_more, at_drop_all}
use Rattle.std.proofs.lemmas.Bool.{ltb-true, ltb-false}
use Rattle.telegram.specs.declared.refusal.Fault.{Fault}
use Rattle.telegram.specs.declared.item.Want.{Want}
use Rattle.telegram.specs.declared.refusal.Reason.TheVariants.{Limit, Rest}
use Rattle.telegram.specs.declared.refusal.Refusal.{Refusal}
use Rattle.telegram.specs.declared.row.Row.{Row}
use Rattle.layout.specs.declared.stage.Progress.{Progress}
use Rattle.layout.specs.declared.cursor.Cursor.{Cursor}
use Rattle.telegram.specs.Value.{Value, num, real, text, want, Good, number}
use Rattle.telegram.specs.Refusal.{reason_number, fault_number}
use Rattle.layout.specs.Layout.{Layout, State, layout, wanted, advance, weight}
use Rattle.layout.specs.Follow.{todo, stands, Fitting}
use Rattle.layout.specs.Passing.{Begins}
use Rattle.layout.proofs.Times.{falls, light, heavy}
use Rattle.spelling.specs.Spell.{Spelt, found, faulty, Find, Fair}
use Rattle.spelling.specs.Walk.{seen, halt, whole, Walk, stop, more, closed, walk, onward}
use Rattle.spelling.specs.Check.{starting, over, FaultAt}

module _ (find : Find) (n : ℕ) (first : Bool) (l : Layout) (r : ℕ) (bs : List ℕ) where
  pub turn_end : (t : ℕ) → wanted l ≡ None → walk find t n first l r bs ≡ closed n bs
  unfolding walk
  turn_end zero e = refl
  turn_end (suc t) e = rw e

  pub turn_fault : (t : ℕ) (w : Want) (f : Fault) → 0 < t → wanted l ≡ Some w → find first w bs ≡ faulty f → walk find t n first l r bs ≡ stop (halt (fault_number f) (n - length bs))
  unfolding walk
  turn_fault zero w f h e s = absurd (omega arith)
  turn_fault (suc t) w f h e s = rw (e, s)

  pub turn_unfit : (t : ℕ) (w : Want) (v : Value) (rest : List ℕ) → 0 < t → wanted l ≡ Some w → find first w bs ≡ found v rest → advance l r (number v) ≡ None → walk find t n first l r bs ≡ stop (halt (reason_number Limit) (n - length bs))
  unfolding walk
  turn_unfit zero w v rest h e s a = absurd (omega arith)
  turn_unfit (suc t) w v rest h e s a = rw (e, s, a)

  pub turn_more : (t : ℕ) (w : Want) (v : Value) (rest : List ℕ) (q : State) → wanted l ≡ Some w → find first w bs ≡ found v rest → advance l r (number v) ≡ Some q → walk find (suc t) n first l r bs ≡ more (seen n v bs rest) (walk find t n false q.todo q.room rest)
  unfolding walk
  turn_more t w v rest q e s a = rw (e, s, a)

-- more turns than are wanted change nothing
pub steady : (find : Find) (n t u : ℕ) (first : Bool) (l : Layout) (r : ℕ) (bs : List ℕ) → weight l + r ≤ t → weight l + r ≤ u → walk find t n first l r bs ≡ walk find u n first l r bs
steady find n zero u first l r bs h k = let e = light l (omega arith) in turn_end find n first l r bs zero e ∙ sym (turn_end find n first l r bs u e)
steady find n (suc t) zero first l r bs h k = let e = light l (omega arith) in turn_end find n first l r bs (suc t) e ∙ sym (turn_end find n first l r bs zero e)
steady find n (suc t) (suc u) first l r bs h k =
    let Goal : Type 0 = walk find (suc t) n first l r bs ≡ walk find (suc u) n first l r bs in
    let fits : (w : Want) → wanted l ≡ Some w → (v : Value) (rest : List ℕ) → find first w bs ≡ found v rest → (o : Option State) → advance l r (number v) ≡ o → Goal =
    λ w e v rest s o. elim o as (λ o. advance l r (number v) ≡ o → Goal) [
      | None ↦ λ a. turn_unfit find n first l r bs (suc t) w v rest (omega arith) e s a ∙ sym (turn_unfit find n first l r bs (suc u) w v rest (omega arith) e s a)
      | Some q ↦ λ a.
          let f = falls l r (number v) q a in
          turn_more find n first l r bs t w v rest q e s a
          ∙ ap (more (seen n v bs rest)) (steady find n t u false q.todo q.room rest (omega arith) (omega arith))
          ∙ sym (turn_more find n first l r bs u w v rest q e s a)
    ] in
    let finds : (w : Want) → wanted l ≡ Some w → (x : Spelt) → find first w bs ≡ x → Goal =
    λ w e x. elim x as (λ x. find first w bs ≡ x → Goal) [
      | faulty f ↦ λ s. turn_fault find n first l r bs (suc t) w f (omega arith) e s ∙ sym (turn_fault find n first l r bs (suc u) w f (omega arith) e s)
      | found v rest ↦ λ s. fits w e v rest s (advance l r (number v)) refl
    ] in
    let asks : (o : Option Want) → wanted l ≡ o → Goal =
    λ o. elim o as (λ o. wanted l ≡ o → Goal) [
      | None ↦ λ e. turn_end find n first l r bs (suc t) e ∙ sym (turn_end find n first l r bs (suc u) e)
      | Some w ↦ λ e. finds w e (find first w bs) refl
    ] in
    asks (wanted l) refl

-- a turn at a cursor
module _ (find : Find) (t : List ℕ) (at : Cursor) where
  abbrev here : Layout
  here = todo at.progress.stage

  abbrev room : ℕ
  room = at.progress.room

  abbrev rest : List ℕ
  rest = drop at.place t

  pub on_end : wanted here ≡ None → onward find t at ≡ closed (length t) rest
  on_end e = turn_end find (length t) at.first here room rest _ e

  module _ (w : Want) (e : Some w ≡ wanted here) (in_text : at.place ≤ length t) where
    place : length t - length rest ≡ at.place
    place = omega (arith, length-drop at.place t)

    pub on_fault : (f : Fault) → find at.first w rest ≡ faulty f → onward find t at ≡ stop (halt (fault_number f) at.place)
    on_fault f s =
        turn_fault find (length t) at.first here room rest _ w f (omega (arith, heavy here w (sym e))) (sym e) s
        ∙ ap (λ x. stop (halt (fault_number f) x)) place

    pub on_refusal : (e : Refusal) → FaultAt at.place (find at.first w rest) e → onward find t at ≡ stop (halt (reason_number e.reason) e.place)
    on_refusal e h =
        let go : (s : Spelt) → find at.first w rest ≡ s → FaultAt at.place s e → onward find t at ≡ stop (halt (reason_number e.reason) e.place) =
        λ s. elim s as (λ s. find at.first w rest ≡ s → FaultAt at.place s e → onward find t at ≡ stop (halt (reason_number e.reason) e.place)) [
          | found v r ↦ λ is h. absurd h
          | faulty f ↦ λ is h. on_fault f is ∙ ap (λ n. stop (halt n at.place)) (sym h.0) ∙ ap (λ p. stop (halt (reason_number e.reason) p)) (sym h.1)
        ] in
        go (find at.first w rest) refl h

    pub on_unfit : (v : Value) (after : List ℕ) (m : ℕ) → find at.first w rest ≡ found v after → m ≡ number v → advance here room m ≡ None → onward find t at ≡ stop (halt (reason_number Limit) at.place)
    on_unfit v after m s is a =
        turn_unfit find (length t) at.first here room rest _ w v after (omega (arith, heavy here w (sym e))) (sym e) s (ap (advance here room) (sym is) ∙ a)
        ∙ ap (λ x. stop (halt (reason_number Limit) x)) place

    pub on_more : (v : Value) (to : ℕ) (q : Progress) (k : ℕ) → find at.first w rest ≡ found v (drop to t) → to ≤ length t → k ≡ number v → advance here room k ≡ Some (stands q) → onward find t at ≡ more (record { value = v; from = at.place; to = to }) (onward find t (record { place = to; first = false; progress = q }))
    on_more v to q k s le is a =
        let m : ℕ = weight here + room in
        let big = heavy here w (sym e) in
        let fall = falls here room k (stands q) a in
        let up : m ≡ suc (m - 1) = omega arith in
        let after : ℕ → Walk = λ n. walk find n (length t) false (todo q.stage) q.room (drop to t) in
        ap (λ n. walk find n (length t) at.first here room rest) up
        ∙ turn_more find (length t) at.first here room rest (m - 1) w v (drop to t) (stands q) (sym e) s (ap (advance here room) (sym is) ∙ a)
        ∙ ap (λ x. more (record { value = v; from = x; to = length t - length (drop to t) }) (after (m - 1))) place
        ∙ ap (λ x. more (record { value = v; from = at.place; to = x }) (after (m - 1))) (omega (arith, length-drop to t))
        ∙ ap (more (record { value = v; from = at.place; to = to })) (steady find (length t) (m - 1) (weight (todo q.stage) + q.room) false (todo q.stage) q.room (drop to t) (omega arith) (omega arith))

-- what is found at the start of what stands from a place on
module _ (t : List ℕ) (p n : ℕ) where
  pub behind : (v : Value) (s : Spelt) → s ≡ found v (drop n (drop p t)) → s ≡ found v (drop (p + n) t)
  behind v s h = h ∙ ap (found v) (drop-drop n p t)

  pub behind_inside : p ≤ length t → n ≤ length (drop p t) → p + n ≤ length t
  behind_inside h k = omega (arith, h, k, length-drop p t)

pub closed_rest : (t : List ℕ) (at : ℕ) → at < length t → (closed (length t) (drop at t)).ending ≡ halt (reason_number Rest) at
closed_rest t at h = at_drop_more (λ bs. (closed (length t) bs).ending) t at 0 h ∙ ap (halt (reason_number Rest)) (omega (arith, length-drop (at + 1) t))

pub closed_none : (t : List ℕ) (at : ℕ) → length t ≤ at → (closed (length t) (drop at t)).ending ≡ whole
closed_none t at h = at_drop_all (λ bs. (closed (length t) bs).ending) t at h

pub closed_over : (t : List ℕ) (at : ℕ) → (closed (length t) (drop at t)).ending ≡ over at (ltb at (length t))
closed_over t at =
    let go : (b : Bool) → ltb at (length t) ≡ b → (closed (length t) (drop at t)).ending ≡ over at b =
    λ b. elim b as (λ b. ltb at (length t) ≡ b → (closed (length t) (drop at t)).ending ≡ over at b) [
      | true ↦ λ e. closed_rest t at (ltb-true _ _ e)
      | false ↦ λ e. closed_none t at (ltb-false _ _ e)
    ] in
    go (ltb at (length t)) refl

pub closed_items : (n : ℕ) (bs : List ℕ) → (closed n bs).items ≡ []
closed_items n [] = refl
closed_items n (b ∷ bs) = refl

-- at the start of a row
pub begun : (find : Find) (row : Row) (t : List ℕ) (at : ℕ) (p : Progress) → Begins row p → onward find t (record { place = at; first = true; progress = p }) ≡ starting find row t at
begun find row t at p b =
    ap (λ l. walk find (weight l + p.room) (length t) true l p.room (drop at t)) b.lands.at
    ∙ ap (λ r. walk find (weight (layout row) + r) (length t) true (layout row) r (drop at t)) b.all

fit_of : (v : Value) → Good v → Fitting (Some (want v)) (number v)
fit_of (num k x) h = h
fit_of (real x) h = h
fit_of (text s) h = tt

-- what is found is what was wanted
pub fair_want : (w : Want) (bs : List ℕ) (v : Value) (after : List ℕ) (s : Spelt) (o : Option Want) → Fair w bs s → s ≡ found v after → Some w ≡ o → Some (want v) ≡ o
fair_want w bs v after s o fair e is = ap Some (subst (Fair w bs) e fair).0 ∙ is

pub fair_fits : (w : Want) (bs : List ℕ) (v : Value) (after : List ℕ) (s : Spelt) (o : Option Want) → Fair w bs s → s ≡ found v after → Some w ≡ o → Fitting o (number v)
fair_fits w bs v after s o fair e is = subst (λ o. Fitting o (number v)) (fair_want w bs v after s o fair e is) (fit_of v (subst (Fair w bs) e fair).1)
