-- What is found is what was wanted. Assumes nothing.
use Rattle.std.proofs.Common.{ap, subst, arith}
use Rattle.std.specs.Prelude.{ℕ, ◌*◌, ◌^◌, ◌<◌, ◌≤◌, Bool, true, false, ◌&&◌, ◌||◌, List, [], ◌∷◌, ◌==◌, nat_le, nat_lt, refl}
use Rattle.std.proofs.lemmas.Bool.{ltb-true, eqb-true, and_parts}
use Rattle.std.proofs.lemmas.Bool.Decides.{nat_tests}
use Rattle.telegram.specs.declared.kind.Kind.{Kind}
use Rattle.telegram.specs.declared.kind.Kind.TheVariants.{Bool as Truth, Uint8, Uint16, Uint32, Int8, Int32}
use Rattle.telegram.specs.declared.item.Want.{Want}
use Rattle.telegram.specs.declared.item.Want.TheVariants.{Number, Real, Text}
use Rattle.telegram.specs.declared.refusal.Fault.TheVariants.{Misspelt}
use Rattle.telegram.specs.Kind.{bytes, patterns}
use Rattle.telegram.specs.Value.{num, real}
use Rattle.spelling.specs.Spell.{found, faulty, Sound, Adjoining}
use Rattle.spelling.proofs.Fairs.{Exact, sound_by, adjoining_by, fair_cond, text_fair, blanked_fair}
use Rattle.cola_a.specs.Digits.{Run, ran, broken, run}
use Rattle.cola_a.specs.Items.{upward, downward, pattern, hexadecimal, decimal, number_after, eight, bare, find_text}
use Rattle.cola_a.specs.Bounds.{Kept, run_kept}

limits : (k : Kind) → (upward k ≤ patterns k) × (0 < patterns k)
limits Truth = (omega arith, omega arith)
limits Uint8 = (omega arith, omega arith)
limits Uint16 = (omega arith, omega arith)
limits Uint32 = (omega arith, omega arith)
limits Int8 = (omega arith, omega arith)
limits Int32 = (omega arith, omega arith)

hex_fair : (k : Kind) (bs : List ℕ) (r : Run) → Kept bs r → Exact (Number k) bs (hexadecimal k r)
hex_fair k bs (ran n v rest) h =
    fair_cond (Number k) bs (found (num k v) rest) (faulty Misspelt) (nat_le 1 n && nat_lt v (patterns k)) (λ e. (refl, ltb-true v (patterns k) (and_parts _ _ e).1, h.1, h.2)) (λ e. tt)
hex_fair k bs broken h = tt

negated : (k : Kind) (v : ℕ) → pattern k true v < patterns k
negated k v = let l = limits k in grind (arith, nat_tests)

dec_fair : (k : Kind) (minus : Bool) (c : ℕ) (cs : List ℕ) (r : Run) → Kept cs r → Exact (Number k) (c ∷ cs) (decimal k minus r)
dec_fair k true c cs (ran n v rest) h =
    fair_cond (Number k) (c ∷ cs) (found (num k (pattern k true v)) rest) (faulty Misspelt) (nat_le 1 n && nat_lt v (downward k)) (λ e. (refl, negated k v, omega (arith, h.1), (c ∷ h.2.0, ap (λ l. c ∷ l) h.2.1))) (λ e. tt)
dec_fair k false c cs (ran n v rest) h =
    fair_cond (Number k) (c ∷ cs) (found (num k v) rest) (faulty Misspelt) (nat_le 1 n && nat_lt v (upward k))
    (λ e. (refl, omega (arith, limits k, ltb-true v (upward k) (and_parts _ _ e).1), omega (arith, h.1), (c ∷ h.2.0, ap (λ l. c ∷ l) h.2.1))) (λ e. tt)
dec_fair k minus c cs broken h = tt

number_fair : (k : Kind) (bs : List ℕ) → Exact (Number k) bs (number_after k bs)
number_fair k [] = tt
number_fair k (c ∷ cs) =
    fair_cond (Number k) (c ∷ cs) (decimal k (c == 45) (run 10 10 0 0 cs)) (hexadecimal k (run 16 (2 * bytes k) 0 0 (c ∷ cs))) (c == 43 || c == 45)
    (λ e. dec_fair k (c == 45) c cs (run 10 10 0 0 cs) (run_kept 10 10 (omega arith) cs 0 0 (omega arith)))
    (λ e. hex_fair k (c ∷ cs) (run 16 (2 * bytes k) 0 0 (c ∷ cs)) (run_kept 16 (2 * bytes k) (omega arith) (c ∷ cs) 0 0 (omega arith)))

eight_fair : (bs : List ℕ) (r : Run) → Kept bs r → Exact Real bs (eight r)
eight_fair bs (ran n v rest) h =
    fair_cond Real bs (found (real v) rest) (faulty Misspelt) (n == 8) (λ e. (refl, subst (λ x. v < 16 ^ x) (eqb-true n 8 e) h.0, h.1, h.2)) (λ e. tt)
eight_fair bs broken h = tt

bare_fair : (w : Want) (bs : List ℕ) → Exact w bs (bare w bs)
bare_fair (Number k) bs = number_fair k bs
bare_fair Real bs = eight_fair bs (run 16 8 0 0 bs) (run_kept 16 8 (omega arith) bs 0 0 (omega arith))
bare_fair (Text n) bs = text_fair n bs

text_exact : (first : Bool) (w : Want) (bs : List ℕ) → Exact w bs (find_text first w bs)
text_exact first w bs = blanked_fair w (bare w) (bare_fair w) bs

pub text_sound : Sound find_text
text_sound = sound_by find_text text_exact

pub text_adjoining : Adjoining find_text
text_adjoining = adjoining_by find_text text_exact
