use Rattle.std.proofs.Common.{rules, ◌≡◌, ℕ, ◌^◌, ◌<◌, List, Ok, subst, arith}
use Rattle.cola_a.specs.Digits.{ran, run, Runs}
use Rattle.cola_a.specs.Bounds.{Kept, run_kept}
use Rattle.cola_a.proofs.items.eight.Goals as goal

-- the number of eight digits
low : (bs rest : List ℕ) (n v : ℕ) → run 16 8 0 0 bs ≡ ran n v rest → n ≡ 8 → v < 4294967296
low bs rest n v e l =
    let k : Kept bs (ran n v rest) = subst (Kept bs) e (run_kept 16 8 (omega arith) bs 0 0 (omega arith)) in
    subst (λ x. v < 16 ^ x) l k.0

pub overflow_cast-result : goal.overflow_cast-result
overflow_cast-result c =
    let d : c.digits_of.result ≡ Ok c.in_ok-count.field-0 = search rules in
    let r = subst (Runs c.args.bytes.now (run 16 8 0 0 c.args.bytes.now)) d c.digits_of.ensures in
    let l = low c.args.bytes.now _ _ _ r.0 c.if-count-ne8.false in
    record { fits = omega (arith, l) }
