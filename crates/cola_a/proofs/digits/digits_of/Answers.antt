use Rattle.std.proofs.Common.{◌≡◌, ℕ, ◌+◌, ◌*◌, ◌^◌, ◌<◌, ◌≤◌, drop, Ok, sym, refl, ap, ◌∙◌, subst, arith}
use Rattle.cola_a.specs.declared.digits.Base.{Base}
use Rattle.cola_a.specs.declared.digits.Base.TheVariants.{Ten, Sixteen}
use Rattle.cola_a.specs.declared.digits.Glyph.{Glyph}
use Rattle.cola_a.specs.Digits.{radix, run, Says}
use Rattle.cola_a.specs.Steps.{grown, small, run_more}
use Rattle.cola_a.proofs.digits.digits_of.Goals as goal

sixteen : (b : Base) → radix b ≤ 16
sixteen Ten = omega arith
sixteen Sixteen = omega arith

-- the number with one digit more
next : (b : Base) (n v d r e : ℕ) → v < 16 ^ n → d < radix b → r ≡ radix b → e ≡ d → v * r + e < 16 ^ (n + 1)
next b n v d r e h l p q = subst (λ x. v * x + e < 16 ^ (n + 1)) (sym p) (grown (radix b) n v e (sixteen b) h (omega (arith, l, q)))

-- what is known of a glyph, once it is seen which it is
said : (b : Base) (most n c : ℕ) (g h : Glyph) → Says (radix b) most n c (Ok g) → g ≡ h → Says (radix b) most n c (Ok h)
said b most n c g h s e = subst (λ g. Says (radix b) most n c (Ok g)) e s

pub overflow_mul-value : goal.overflow_mul-value
overflow_mul-value c =
    let s = said c.args.base _ _ _ _ _ c.in_ok-digit.ensures c.in-Digit.is in
    let g = small _ _ (omega (arith, s.3)) (next c.args.base _ _ _ _ _ c.loop-count.invariant.1 s.2 c.radix.ensures refl) in
    record { fits = omega arith }

pub overflow_add-value : goal.overflow_add-value
overflow_add-value c =
    let s = said c.args.base _ _ _ _ _ c.in_ok-digit.ensures c.in-Digit.is in
    let g = small _ _ (omega (arith, s.3)) (next c.args.base _ _ _ _ _ c.loop-count.invariant.1 s.2 c.radix.ensures c.from.ensures) in
    record { fits = omega arith }

pub loop-count-preserved : goal.loop-count-preserved
loop-count-preserved c =
    let s = said c.args.base _ _ _ _ _ c.in_ok-digit.ensures c.in-Digit.is in (
      omega (arith, s.3),
      next c.args.base _ _ _ _ _ c.loop-count.invariant.1 s.2 c.radix.ensures c.from.ensures,
      ap (λ x. run (radix c.args.base) c.args.most (c.loop-count.count + 1) (c.loop-count.value * x + c.from.result) (drop (c.loop-count.count + 1) c.args.bytes.now)) c.radix.ensures
          ∙ sym (run_more _ _ _ _ _ c.loop-count.count c.from.result c.loop-count-test.true s.0 (c.from.ensures ∙ s.1) (omega (arith, s.2)) s.3)
          ∙ c.loop-count.invariant.2,
    )
