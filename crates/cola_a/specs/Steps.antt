-- One turn of a run of digits. Assumes nothing.
use Rattle.std.specs.Prelude.{◌≡◌, ℕ, ◌+◌, ◌*◌, ◌^◌, ◌<◌, ◌≤◌, false, ◌&&◌, List, length, drop, ◌≢◌, nat_lt, slice_index}
use Rattle.std.proofs.Common.{sym, ap, subst, ◌∙◌, arith, mul-le-mul_left, add-one}
use Rattle.std.proofs.Math.Nat.{pow-succ', pow-le-pow_right}
use Rattle.std.proofs.lemmas.Bool.{ne_eqb, eq-eqb, lt-ltb, and_from, cond-true, cond-false}
use Rattle.std.proofs.lemmas.List.{at_drop_more, at_drop_all}
use Rattle.cola_a.specs.Digits.{ran, broken, run, digit}

-- one digit more, of a base up to 16
pub grown : (base n v d : ℕ) → base ≤ 16 → v < 16 ^ n → d < base → v * base + d < 16 ^ (n + 1)
grown base n v d le h l = rw (add-one, pow-succ' 16 n) (omega (arith, mul-le-mul_left v le))

-- up to ten digits fit 64 bits
pub small : (n v : ℕ) → n ≤ 10 → v < 16 ^ n → v < 2 ^ 40
small n v e l =
    let p : 16 ^ n ≤ 16 ^ 10 = pow-le-pow_right (omega arith) e in
    omega arith

module _ (base most n v : ℕ) (body : List ℕ) (at : ℕ) where
  pub run_more : (d : ℕ) → at < length body → (slice_index body at ≢ 32) → d ≡ digit (slice_index body at) → d < base → n < most → run base most n v (drop at body) ≡ run base most (n + 1) (v * base + d) (drop (at + 1) body)
  run_more d h ne e lt room =
      at_drop_more (run base most n v) body at 0 h ∙ cond-false _ _ _ (ne_eqb _ 32 ne)
      ∙ cond-true _ _ _ (and_from _ _ (lt-ltb _ base (subst (λ x. x < base) e lt)) (lt-ltb n most room))
      ∙ ap (λ x. run base most (n + 1) (v * base + x) (drop (at + 1) body)) (sym e)

  pub run_stop : at < length body → (slice_index body at ≢ 32) → (nat_lt (digit (slice_index body at)) base && nat_lt n most) ≡ false → run base most n v (drop at body) ≡ broken
  run_stop h ne e = at_drop_more (run base most n v) body at 0 h ∙ cond-false _ _ _ (ne_eqb _ 32 ne) ∙ cond-false _ _ _ e

  pub run_blank : at < length body → slice_index body at ≡ 32 → run base most n v (drop at body) ≡ ran n v (drop at body)
  run_blank h e = at_drop_more (run base most n v) body at 0 h ∙ cond-true _ _ _ (eq-eqb _ 32 e) ∙ sym (at_drop_more (ran n v) body at 0 h)

  pub run_end : length body ≤ at → run base most n v (drop at body) ≡ ran n v (drop at body)
  run_end h = at_drop_all (run base most n v) body at h ∙ sym (at_drop_all (ran n v) body at h)
