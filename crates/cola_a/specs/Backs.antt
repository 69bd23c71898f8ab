-- What is written in text is found again. Assumes nothing.
use Rattle.std.specs.Prelude.{◌≡◌, ℕ, ◌+◌, ◌*◌, ◌^◌, ◌<◌, ◌≤◌, max, false, cond, List, [], ◌∷◌, ◌++◌, map, length, ◌==◌, nat_lt, refl}
use Rattle.std.proofs.Common.{sym, ap, subst, ◌∙◌, arith, add-zero, lt_of_lt_of_le}
use Rattle.std.proofs.Math.Nat.{max-le, le-max_left, le-max_right, pow-le-pow_right}
use Rattle.std.specs.Int.Digits.{number_from_digits, number_from_digits_after, AllBelowBase}
use Rattle.std.proofs.lemmas.Bool.{ne_eqb, eq-eqb, lt-ltb, le-leb, and_from, or_from, cond-true, cond-false, cond_both, ltb-true}
use Rattle.std.proofs.lemmas.Bool.Decides.{nat_tests}
use Rattle.telegram.specs.declared.kind.Kind.{Kind}
use Rattle.telegram.specs.declared.kind.Kind.TheVariants.{Bool as Truth, Uint8, Uint16, Uint32, Int8, Int32}
use Rattle.telegram.specs.Kind.{bytes, patterns}
use Rattle.telegram.specs.Value.{Value, num, real, text, Good, want}
use Rattle.telegram.specs.declared.refusal.Fault.TheVariants.{Misspelt}
use Rattle.spelling.specs.Spell.{found, faulty}
use Rattle.spelling.specs.Canon.{fixed, written, Back}
use Rattle.spelling.proofs.Digitals.{number_fixed, length_fixed, under_fixed}
use Rattle.spelling.proofs.Backs.{text_back}
use Rattle.cola_a.specs.Digits.{digit, ran, run}
use Rattle.cola_a.specs.Items.{hexadecimal, number_after, eight, real_after, bare, find_text}
use Rattle.cola_a.specs.Canon.{letter, hex_digits, letters, canon_text}

-- a run ends before a blank and at the end
abbrev Ends : List ℕ → Type 0
Ends [] = Unit {0}
Ends (c ∷ cs) = c ≡ 32

-- what every kind's numbers keep to
pub room : (k : Kind) → (patterns k ≤ 16 ^ (2 * bytes k)) × (1 ≤ 2 * bytes k) × (bytes k ≤ 4)
room Truth = (omega arith, omega arith, omega arith)
room Uint8 = (omega arith, omega arith, omega arith)
room Uint16 = (omega arith, omega arith, omega arith)
room Uint32 = (omega arith, omega arith, omega arith)
room Int8 = (omega arith, omega arith, omega arith)
room Int32 = (omega arith, omega arith, omega arith)

pub letter_digit : (d : ℕ) → d < 16 → (digit (letter d) ≡ d) × (48 ≤ letter d)
letter_digit d h = (grind (arith, nat_tests), grind (arith, nat_tests))

run_digits : (base most n v : ℕ) (ds rest : List ℕ) → base ≤ 16 → AllBelowBase base ds → n + length ds ≤ most → Ends rest → run base most n v (map letter ds ++ rest) ≡ ran (n + length ds) (number_from_digits_after base v ds) rest
run_digits base most n v [] [] le u l e = ap (λ x. ran x v []) (sym (add-zero n))
run_digits base most n v [] (c ∷ cs) le u l e = cond-true _ _ _ (eq-eqb c 32 e) ∙ ap (λ x. ran x v (c ∷ cs)) (sym (add-zero n))
run_digits base most n v (d ∷ ds) rest le u l e =
    let g = letter_digit d (omega (arith, u.0)) in
    cond-false _ _ _ (ne_eqb (letter d) 32 (λ p. omega (arith, g.1)))
    ∙ cond-true _ _ _ (and_from _ _ (lt-ltb _ base (subst (λ x. x < base) (sym g.0) u.0)) (lt-ltb n most (omega arith)))
    ∙ ap (λ x. run base most (n + 1) (v * base + x) (map letter ds ++ rest)) g.0
    ∙ run_digits base most (n + 1) (v * base + d) ds rest le u.1 (omega arith) e
    ∙ ap (λ x. ran x (number_from_digits_after base (v * base + d) ds) rest) (omega arith)

plain_read : (k : Kind) (ds rest : List ℕ) → 1 ≤ length ds → AllBelowBase 16 ds → length ds ≤ 2 * bytes k → number_from_digits 16 ds < patterns k → Ends rest → number_after k (map letter ds ++ rest) ≡ found (num k (number_from_digits 16 ds)) rest
plain_read k [] rest one u l p e = absurd (omega arith)
plain_read k (d ∷ ds) rest one u l p e =
    let g = letter_digit d u.0 in
    let all = run_digits 16 (2 * bytes k) 0 0 (d ∷ ds) rest (omega arith) u (omega arith) e in
    cond-false _ _ _ (or_from _ _ (ne_eqb (letter d) 43 (λ q. omega (arith, g.1))) (ne_eqb (letter d) 45 (λ q. omega (arith, g.1))))
    ∙ ap (hexadecimal k) all
    ∙ cond-true _ _ _ (and_from _ _ (le-leb 1 (0 + length (d ∷ ds)) (omega arith)) (lt-ltb _ _ p))

pub few : (k : Kind) (v : ℕ) → v < patterns k → hex_digits v ≤ 2 * bytes k
few Truth v h = grind (arith, nat_tests)
few Uint8 v h = grind (arith, nat_tests)
few Uint16 v h = grind (arith, nat_tests)
few Uint32 v h = grind (arith, nat_tests)
few Int8 v h = grind (arith, nat_tests)
few Int32 v h = grind (arith, nat_tests)

-- a test that passes at v: v is below 16 ^ n
rung : (v m x y : ℕ) → (v < m → v < 16 ^ x) → v < 16 ^ y → v < 16 ^ cond (nat_lt v m) x y
rung v m x y h l = cond_both (nat_lt v m) x y (λ n. v < 16 ^ n) (λ e. h (ltb-true v m e)) (λ e. l)

own : (v : ℕ) → v < 16 ^ 8 → v < 16 ^ hex_digits v
own v h =
    rung v 1 0 _ (λ l. omega arith) (rung v 0x10 1 _ (λ l. omega arith) (rung v 0x100 2 _ (λ l. omega arith) (rung v 0x1000 3 _ (λ l. omega arith)
    (rung v 0x1_0000 4 _ (λ l. omega arith) (rung v 0x10_0000 5 _ (λ l. omega arith) (rung v 0x100_0000 6 _ (λ l. omega arith) (rung v 0x1000_0000 7 8 (λ l. omega arith) h)))))))

number_back : (k : Kind) (v : ℕ) (rest : List ℕ) → v < patterns k → Ends rest → number_after k (letters (num k v) ++ rest) ≡ found (num k v) rest
number_back k v rest h e =
    let n : ℕ = max 1 (hex_digits v) in
    let f = few k v h in
    let ge = le-max_left 1 (hex_digits v) in
    let le : n ≤ 2 * bytes k = max-le (room k).1 f in
    let e8 : 2 * bytes k ≤ 8 = omega (arith, (room k).2) in
    let up8 : 16 ^ (2 * bytes k) ≤ 16 ^ 8 = pow-le-pow_right (omega arith) e8 in
    let v8 : v < 16 ^ 8 = omega (arith, (room k).0) in
    let up : 16 ^ hex_digits v ≤ 16 ^ n = pow-le-pow_right (omega arith) (le-max_right 1 (hex_digits v)) in
    let vn : v < 16 ^ n = lt_of_lt_of_le (own v v8) up in
    let back = number_fixed 16 n v (omega arith) vn in
    let long = length_fixed 16 n v in
    plain_read k (fixed 16 n v) rest (omega arith) (under_fixed 16 n v (omega arith)) (omega arith) (subst (λ x. x < patterns k) (sym back) h) e
    ∙ ap (λ x. found (num k x) rest) back

real_back : (v : ℕ) (rest : List ℕ) → v < 4294967296 → Ends rest → real_after (letters (real v) ++ rest) ≡ found (real v) rest
real_back v rest h e =
    let long = length_fixed 16 8 v in
    let back = number_fixed 16 8 v (omega arith) (omega arith) in
    ap eight (run_digits 16 8 0 0 (fixed 16 8 v) rest (omega arith) (under_fixed 16 8 v (omega arith)) (omega arith) e)
    ∙ cond-true (0 + length (fixed 16 8 v) == 8) (found (real (number_from_digits 16 (fixed 16 8 v))) rest) (faulty Misspelt) (eq-eqb (0 + length (fixed 16 8 v)) 8 (omega arith))
    ∙ ap (λ x. found (real x) rest) back

bare_back : (v : Value) (rest : List ℕ) → Good v → Ends rest → bare (want v) (letters v ++ rest) ≡ found v rest
bare_back (num k v) rest h e = number_back k v rest h e
bare_back (real v) rest h e = real_back v rest h e
bare_back (text s) rest h e = text_back s rest h

-- what may follow an item begins with a blank
ends : (vs : List Value) → Ends (written canon_text false vs)
ends [] = tt
ends (v ∷ vs) = refl

pub text_written : Back find_text canon_text
text_written first v vs h = bare_back v (written canon_text false vs) h (ends vs)
