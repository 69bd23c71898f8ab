-- What is found behind a blank. Assumes nothing.
use Rattle.std.proofs.Common.{◌≡◌, ℕ, suc, ◌+◌, true, false, cond, ◌==◌, List, [], ◌∷◌, drop, Ok, Err, Result, sym, refl, ap, ◌∙◌, subst, arith}
use Rattle.telegram.specs.declared.item.Item.{Item}
use Rattle.telegram.specs.declared.refusal.Fault.{Fault}
use Rattle.telegram.specs.declared.refusal.Fault.TheVariants.{Cut}
use Rattle.telegram.specs.Value.{value_of}
use Rattle.spelling.specs.Spell.{Spelt, found, faulty, barred, blanked, Finds}
use Rattle.spelling.specs.Blank.{with_blank, without, Behind}

module _ (s : Spelt) (b : ℕ) (bs : List ℕ) where
  taken : (r : Result (Item × ℕ) Fault) → Finds bs s r → Finds (b ∷ bs) s (with_blank r)
  taken (Ok p) h =
      let more : 1 + p.1 ≡ suc p.1 = omega arith in
      (h.0 ∙ ap (λ n. found (value_of p.0) (drop n (b ∷ bs))) (sym more), omega (arith, h.1))
  taken (Err e) h = h

  lost : (r : Result (Item × ℕ) Fault) → Finds bs s r → Finds (b ∷ bs) (barred s) (without r)
  lost (Ok p) h = ap barred h.0
  lost (Err e) h = ap barred h

-- what may be found is what a spelling finds, and so it is behind a blank
pub blanked_found : (f : List ℕ → Spelt) (Found : List ℕ → Result (Item × ℕ) Fault → Type 0) → ((bs : List ℕ) (r : Result (Item × ℕ) Fault) → Found bs r → Finds bs (f bs) r)
    → (bs : List ℕ) (r : Result (Item × ℕ) Fault) → Behind Found bs r → Finds bs (blanked f bs) r
blanked_found f Found finds [] r e = subst (Finds [] (faulty Cut)) (sym e) refl
blanked_found f Found finds (b ∷ bs) r (k, is, e) =
    let h = finds bs k is in
    subst (Finds (b ∷ bs) (blanked f (b ∷ bs))) (sym e)
    (elim (b == 32) as (λ t. Finds (b ∷ bs) (cond t (f bs) (barred (f bs))) (cond t (with_blank k) (without k))) [
      | true ↦ taken (f bs) b bs k h
      | false ↦ lost (f bs) b bs k h
    ])
