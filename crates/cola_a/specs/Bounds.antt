-- What a run of digits keeps to. Assumes nothing.
use Rattle.std.specs.Prelude.{◌≡◌, ℕ, ◌+◌, ◌*◌, ◌^◌, ◌<◌, ◌≤◌, cond, ◌&&◌, List, [], ◌∷◌, ◌++◌, length, ◌==◌, nat_lt, refl}
use Rattle.std.proofs.Common.{ap, arith}
use Rattle.std.proofs.lemmas.Bool.{ltb-true, and_parts, cond_both}
use Rattle.cola_a.specs.Digits.{Run, ran, broken, run, digit}
use Rattle.cola_a.specs.Steps.{grown}

-- a number below the power of 16 to the count of its digits, and what is behind it ends the bytes
abbrev pub Kept : List ℕ → Run → Type 0
Kept bs (ran n v rest) = (v < 16 ^ n) × (length rest ≤ length bs) × ((lead : List ℕ) × (bs ≡ lead ++ rest))
Kept bs broken = Unit {0}

widen : (c : ℕ) (cs : List ℕ) (r : Run) → Kept cs r → Kept (c ∷ cs) r
widen c cs (ran n v rest) h = (h.0, omega (arith, h.1), (c ∷ h.2.0, ap (λ l. c ∷ l) h.2.1))
widen c cs broken h = tt

pub run_kept : (base most : ℕ) → base ≤ 16 → (bs : List ℕ) (n v : ℕ) → v < 16 ^ n → Kept bs (run base most n v bs)
run_kept base most le [] n v h = (h, omega arith, ([], refl))
run_kept base most le (c ∷ cs) n v h =
    cond_both (c == 32) (ran n v (c ∷ cs)) (cond (nat_lt (digit c) base && nat_lt n most) (run base most (n + 1) (v * base + digit c) cs) broken) (Kept (c ∷ cs))
    (λ e. (h, omega arith, ([], refl)))
    (λ e. cond_both (nat_lt (digit c) base && nat_lt n most) (run base most (n + 1) (v * base + digit c) cs) broken (Kept (c ∷ cs))
    (λ d. widen c cs _ (run_kept base most le cs (n + 1) (v * base + digit c) (grown base n v (digit c) le h (ltb-true _ _ (and_parts _ _ d).0))))
    (λ d. tt))
