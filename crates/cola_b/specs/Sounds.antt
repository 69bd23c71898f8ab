-- What is found is what was wanted, and a body lies within the input. Assumes nothing.
use Rattle.std.specs.Prelude.{◌≡◌, ℕ, ◌-◌, ◌<◌, Bool, true, false, List, [], ◌++◌, length, take, drop, ◌==◌, nat_lt, slice_index, refl}
use Rattle.std.proofs.Common.{sym, ap, ◌∙◌, arith}
use Rattle.std.specs.Int.Digits.{number_from_digits}
use Rattle.std.proofs.lemmas.List.{length-drop, take-append-drop}
use Rattle.std.proofs.lemmas.Bool.{ltb-true, ltb-false, cond_both}
use Rattle.telegram.specs.declared.item.Want.{Want}
use Rattle.telegram.specs.declared.item.Want.TheVariants.{Number, Real, Text}
use Rattle.telegram.specs.declared.refusal.Fault.TheVariants.{Cut, Misspelt}
use Rattle.telegram.specs.Kind.{bytes, patterns}
use Rattle.telegram.specs.Value.{Value, num, real, want, Good}
use Rattle.spelling.specs.Spell.{found, faulty, Sound, Adjoining, verbatim, holds, wrong, Lies, Inside}
use Rattle.spelling.proofs.Fairs.{Exact, sound_by, adjoining_by, fair_cond, text_fair, blanked_fair}
use Rattle.cola_b.specs.Items.{spelt_in, bare, find_binary}
use Rattle.cola_b.specs.Envelope.{header, alike, stated, body, checksum, open_binary}

spelt_fair : (w : Want) (n limit : ℕ) (value : ℕ → Value) → ((v : ℕ) → want (value v) ≡ w) → ((v : ℕ) → v < limit → Good (value v)) → ((v : ℕ) → verbatim (value v) ≡ []) → (bs : List ℕ) → Exact w bs (spelt_in n limit value bs)
spelt_fair w n limit value wanted good plain bs =
    fair_cond w bs (faulty Cut) _ (nat_lt (length bs) n) (λ e. tt)
    (λ e. fair_cond w bs (found (value (number_from_digits 256 (take n bs))) (drop n bs)) (faulty Misspelt) (nat_lt (number_from_digits 256 (take n bs)) limit) (λ l. (wanted _, good _ (ltb-true _ _ l), omega (arith, length-drop n bs), (take n bs, sym (take-append-drop n bs) ∙ ap (λ l. take n bs ++ (l ++ drop n bs)) (sym (plain _))))) (λ l. tt))

bare_fair : (w : Want) (bs : List ℕ) → Exact w bs (bare w bs)
bare_fair (Number k) bs = spelt_fair (Number k) (bytes k) (patterns k) (num k) (λ v. refl) (λ v l. l) (λ v. refl) bs
bare_fair Real bs = spelt_fair Real 4 4294967296 real (λ v. refl) (λ v l. l) (λ v. refl) bs
bare_fair (Text n) bs = text_fair n bs

binary_exact : (first : Bool) (w : Want) (bs : List ℕ) → Exact w bs (find_binary first w bs)
binary_exact true w bs = blanked_fair w (bare w) (bare_fair w) bs
binary_exact false w bs = bare_fair w bs

pub binary_sound : Sound find_binary
binary_sound = sound_by find_binary binary_exact

pub binary_adjoining : Adjoining find_binary
binary_adjoining = adjoining_by find_binary binary_exact

pub binary_inside : Inside open_binary
binary_inside bs =
    cond_both (nat_lt (length bs) 9) _ _ (Lies (length bs)) (λ e. (omega arith, omega arith))
    (λ e. cond_both (nat_lt (alike header bs) 4) _ _ (Lies (length bs)) (λ f. (omega arith, omega arith))
    (λ f. cond_both (stated bs == length bs - 9) _ _ (Lies (length bs))
    (λ g. cond_both (checksum (body bs) == slice_index bs (length bs - 1)) (holds 8 (length bs - 1)) (wrong 3 (length bs - 1)) (Lies (length bs)) (λ h. (omega (arith, ltb-false (length bs) 9 e), omega arith)) (λ h. (omega arith, omega arith)))
    (λ g. (omega arith, omega arith))))
