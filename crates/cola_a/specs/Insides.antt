-- A body lies within its input. Assumes nothing.
use Rattle.std.specs.Prelude.{◌≡◌, ℕ, zero, suc, ◌+◌, ◌-◌, ◌<◌, ◌≤◌, List, [], ◌∷◌, length, take, drop, Some, None, Option, ◌==◌, slice_index}
use Rattle.std.proofs.Common.{sym, subst, ◌∙◌, arith}
use Rattle.std.proofs.lemmas.Bool.{eqb-true, cond_both}
use Rattle.spelling.specs.Spell.{wrong, Lies, Inside}
use Rattle.cola_a.specs.Envelope.{marked, mark, unmarked, open_text}

-- two bytes that differ stand at two places
apart : (bs : List ℕ) (last : ℕ) → slice_index bs 0 ≡ 2 → slice_index bs last ≡ 3 → 1 ≤ last
apart bs zero e f = let z : 2 ≡ 3 = sym e ∙ f in absurd (omega (arith, z))
apart bs (suc last) e f = omega arith

lies : (n last : ℕ) (m : Option ℕ) → 1 ≤ last → last ≤ n → Lies n (unmarked last m)
lies n last None h l = (h, l)
lies n last (Some at) h l = (omega arith, omega arith)

pub text_inside : Inside open_text
text_inside bs =
    cond_both (slice_index bs 0 == 2) _ (wrong 2 0) (Lies (length bs))
    (λ e. cond_both (slice_index bs (length bs - 1) == 3) (unmarked (length bs - 1) (mark 0 (take (length bs - 1 - 1) (drop 1 bs)))) (wrong 2 (length bs - 1)) (Lies (length bs))
    (λ f. lies (length bs) (length bs - 1) _ (apart bs (length bs - 1) (eqb-true _ 2 e) (eqb-true _ 3 f)) (omega arith))
    (λ f. (omega arith, omega arith)))
    (λ e. (omega arith, omega arith))

-- a mark stands within its list
abbrev pub Below : ℕ → Option ℕ → Type 0
Below m None = Unit {0}
Below m (Some at) = at < m

pub mark_below : (i : ℕ) (bs : List ℕ) → Below (i + length bs) (mark i bs)
mark_below i [] = tt
mark_below i (c ∷ cs) =
    let e : i + 1 + length cs ≡ i + length (c ∷ cs) = omega arith in
    cond_both (marked c) (Some i) (mark (i + 1) cs) (Below (i + length (c ∷ cs))) (λ m. omega arith) (λ m. subst (λ x. Below x (mark (i + 1) cs)) e (mark_below (i + 1) cs))
