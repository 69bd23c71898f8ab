-- How many digits are written, and digits written inside a longer output from the last to the first. Assumes nothing.
use Rattle.std.specs.Prelude.{◌≡◌, ℕ, suc, ◌+◌, ◌/◌, ◌%◌, ◌<◌, ◌≤◌, List, [], ◌∷◌, ◌++◌, map, length, take, drop, slice_set}
use Rattle.std.proofs.Common.{sym, ap, subst, ◌∙◌, arith}
use Rattle.std.proofs.lemmas.List.{map_push, append_assoc, drop-set, take-set, take-take, take-append-drop, length-map}
use Rattle.std.proofs.lemmas.Bool.Decides.{nat_tests}
use Rattle.spelling.specs.Canon.{fixed}
use Rattle.spelling.specs.Write.{Put}
use Rattle.spelling.proofs.Digitals.{length_fixed}
use Rattle.cola_a.specs.Canon.{letter, hexadecimals, hex_digits}

pub length_hexadecimals : (n v : ℕ) → length (hexadecimals n v) ≡ n
length_hexadecimals n v = omega (arith, length-map (fixed 16 n v) letter, length_fixed 16 n v)

pub few_digits : (v : ℕ) → hex_digits v ≤ 8
few_digits v = grind (arith, nat_tests)

-- what stands before the digits is kept
pub kept : (out old : List ℕ) (at i j c : ℕ) → i ≡ j + 1 → take (at + i) out ≡ take (at + i) old → take (at + j) (slice_set out (at + j) c) ≡ take (at + j) old
kept out old at i j c e h =
    take-set out (at + j) c ∙ sym (take-take (at + j) (at + i) out (omega arith)) ∙ ap (take (at + j)) h ∙ take-take (at + j) (at + i) old (omega arith)

-- one digit more is written
pub one_more : (out ys : List ℕ) (at i j v c : ℕ) → i ≡ j + 1 → c ≡ letter (v % 16) → at + j < length out → hexadecimals i v ++ drop (at + i) out ≡ ys → hexadecimals j (v / 16) ++ drop (at + j) (slice_set out (at + j) c) ≡ ys
one_more out ys at i j v c e is h inv =
    let s : i ≡ suc j = omega arith in
    let p : at + j + 1 ≡ at + i = omega arith in
    ap (λ l. map letter (fixed 16 j (v / 16)) ++ l) (drop-set out (at + j) c h)
    ∙ ap (λ x. map letter (fixed 16 j (v / 16)) ++ (c ∷ drop x out)) p
    ∙ ap (λ x. map letter (fixed 16 j (v / 16)) ++ (x ∷ drop (at + i) out)) is
    ∙ sym (append_assoc (map letter (fixed 16 j (v / 16))) (letter (v % 16) ∷ []) (drop (at + i) out))
    ∙ ap (λ l. l ++ drop (at + i) out) (sym (map_push letter (fixed 16 j (v / 16)) (v % 16)))
    ∙ ap (λ x. map letter (fixed 16 x v) ++ drop (at + i) out) (sym s)
    ∙ inv

pub all : (out old ys : List ℕ) (at i v : ℕ) → i ≡ 0 → take (at + i) out ≡ take (at + i) old → hexadecimals i v ++ drop (at + i) out ≡ ys → out ≡ take at old ++ ys
all out old ys at i v e front back =
    let z : at + i ≡ at = omega arith in
    sym (take-append-drop at out)
    ∙ ap (λ l. l ++ drop at out) (subst (λ x. take x out ≡ take x old) z front)
    ∙ ap (λ l. take at old ++ l) (ap (λ x. map letter (fixed 16 x v) ++ drop at out) (sym e) ∙ ap (λ x. map letter (fixed 16 i v) ++ drop x out) (sym z) ∙ back)

-- digits that are put at a place, as one equation on the whole output
pub laid : (old new : List ℕ) (at n v r : ℕ) → Put old at (hexadecimals n v) new r → new ≡ take at old ++ (hexadecimals n v ++ drop (at + n) old)
laid old new at n v r p =
    let is : r ≡ at + n = omega (arith, p.at, length_hexadecimals n v) in
    sym (take-append-drop r new)
    ∙ ap (λ l. l ++ drop r new) p.done
    ∙ ap (λ l. (take at old ++ hexadecimals n v) ++ l) (p.rest ∙ ap (λ x. drop x old) is)
    ∙ append_assoc (take at old) (hexadecimals n v) (drop (at + n) old)
