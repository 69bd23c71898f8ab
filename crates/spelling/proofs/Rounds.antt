-- What is written is read, in every spelling. Assumes nothing.
use Rattle.std.proofs.Common.{◌≡◌, ℕ, zero, suc, ◌+◌, ◌≤◌, Bool, true, false, List, [], ◌∷◌, ◌++◌, length, Some, None, Option, refl, ap, ◌∙◌, arith}
use Rattle.std.proofs.lemmas.List.{drop_at}
use Rattle.telegram.specs.Value.{Value, number, want}
use Rattle.layout.specs.Layout.{Layout, State, layout, limit, advance, weight}
use Rattle.layout.specs.Source.{When, Fits}
use Rattle.layout.proofs.Times.{falls, heavy}
use Rattle.spelling.specs.Spell.{Find}
use Rattle.spelling.specs.Canon.{Canon, written, Back}
use Rattle.spelling.specs.Walk.{whole, more, seen, walk}
use Rattle.spelling.specs.Round.{spans_of, Round}
use Rattle.spelling.proofs.Walks.{turn_end, turn_more}

took : (o : Option State) (P : State → Type 0) → When o P → (s : State) × (o ≡ Some s) × P s
took None P h = absurd h
took (Some s) P h = (s, refl, h)

module _ (find : Find) (canon : Canon) (back : Back find canon) where
  pub walked : (n t : ℕ) (first : Bool) (l : Layout) (r : ℕ) (vs : List Value) → Fits l r vs → weight l + r ≤ t → walk find t n first l r (written canon first vs) ≡ record { items = spans_of canon n first vs; ending = whole }
  walked n t first l r [] h e = turn_end find n first l r [] t h
  walked n zero first l r (v ∷ vs) h e = absurd (omega (arith, heavy l (want v) h.0))
  walked n (suc t) first l r (v ∷ vs) h e =
      let s = took (advance l r (number v)) (λ s. Fits s.todo s.room vs) h.2 in
      let f = falls l r (number v) s.0 s.1 in
      turn_more find n first l r (written canon first (v ∷ vs)) t (want v) v (written canon false vs) s.0 h.0 (back first v vs h.1) s.1
      ∙ ap (more (seen n v (written canon first (v ∷ vs)) (written canon false vs))) (walked n t false s.0.todo s.0.room vs s.2 (omega arith))

  pub round : Round find canon
  round row front vs h =
      let n = length (front ++ written canon true vs) in
      ap (walk find (weight (layout row) + limit) n true (layout row) limit) (drop_at front (written canon true vs) (length front) refl)
      ∙ walked n (weight (layout row) + limit) true (layout row) limit vs h (omega arith)
