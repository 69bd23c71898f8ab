-- Digits in a base, and the number that they spell. Assumes nothing.
use Rattle.std.proofs.Common.{◌≡◌, ℕ, zero, suc, ◌+◌, ◌*◌, ◌/◌, ◌%◌, ◌^◌, ◌<◌, ◌≤◌, [], ◌∷◌, ◌++◌, length, drop, refl, ap, ◌∙◌, pow-suc, arith}
use native.Mathlib.Nat.{pow-zero}
use Rattle.std.specs.Int.{w16, w32, to_be_bytes}
use Rattle.std.specs.Int.Digits.{number_from_digits, AllBelowBase}
use Rattle.std.proofs.lemmas.Int.Digits.{number_push}
use Rattle.std.proofs.lemmas.Nat.{div_below, mod_below, div-add-mod'}
use Rattle.std.proofs.lemmas.List.{length_push, drop_all, drop-append-le}
use Rattle.std.proofs.ByRecursion.{All-push}
use Rattle.spelling.specs.Canon.{fixed}

pub number_fixed : (b n v : ℕ) → 2 ≤ b → v < b ^ n → number_from_digits b (fixed b n v) ≡ v
number_fixed b zero v h l = omega (arith, pow-zero b)
number_fixed b (suc n) v h l =
    number_push b (fixed b n (v / b)) (v % b)
    ∙ ap (λ x. x * b + v % b) (number_fixed b n (v / b) h (div_below v b (b ^ n) (omega arith) (rw pow-suc at l)))
    ∙ div-add-mod' v b

pub length_fixed : (b n v : ℕ) → length (fixed b n v) ≡ n
length_fixed b zero v = refl
length_fixed b (suc n) v = length_push (fixed b n (v / b)) (v % b) ∙ omega (arith, length_fixed b n (v / b))

pub under_fixed : (b n v : ℕ) → 0 < b → AllBelowBase b (fixed b n v)
under_fixed b zero v h = tt
under_fixed b (suc n) v h = All-push (λ d. d < b) (fixed b n (v / b)) (v % b) (under_fixed b n (v / b) h) (mod_below v b h)

-- the last of some digits are those that stand lowest
pub lowest_fixed : (b n m k v : ℕ) → k ≡ n + m → drop m (fixed b k v) ≡ fixed b n v
lowest_fixed b zero m k v e = drop_all m (fixed b k v) (omega (arith, length_fixed b k v, e))
lowest_fixed b (suc n) m zero v e = absurd (omega arith)
lowest_fixed b (suc n) m (suc k) v e =
    drop-append-le m (fixed b k (v / b)) (v % b ∷ []) (omega (arith, length_fixed b k (v / b), e)) ∙ ap (λ l. l ++ (v % b ∷ [])) (lowest_fixed b n m k (v / b) (omega arith))

-- bytes, the highest first, are digits

pub two_bytes : (v : ℕ) → to_be_bytes w16 v ≡ fixed 256 2 v
two_bytes v = grind arith

pub four_bytes : (v : ℕ) → to_be_bytes w32 v ≡ fixed 256 4 v
four_bytes v = grind arith
