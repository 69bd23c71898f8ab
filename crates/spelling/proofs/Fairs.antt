-- What is found is what was wanted, and a text stands right before what follows it. Assumes nothing.
use Rattle.std.proofs.Common.{◌≡◌, ℕ, ◌≤◌, Bool, true, false, cond, eqb, ltb, List, [], ◌∷◌, length, take, drop, sym, refl, ap, arith}
use Rattle.std.proofs.lemmas.Bool.{ltb-false}
use Rattle.std.proofs.lemmas.List.{length-take, length-drop, take-append-drop}
use Rattle.telegram.specs.declared.item.Want.{Want}
use Rattle.telegram.specs.declared.item.Want.TheVariants.{Text}
use Rattle.telegram.specs.declared.refusal.Fault.TheVariants.{Cut, Misspelt}
use Rattle.telegram.specs.Value.{text, printable, want, Good}
use Rattle.spelling.specs.Spell.{Spelt, found, faulty, Find, Fair, Sound, Adjoins, Adjoining, Follows, text_of, barred, blanked}

-- both that what is found is what was wanted and that a text stands right before what follows it
abbrev pub Exact : Want → List ℕ → Spelt → Type 0
Exact w bs (found v rest) = (want v ≡ w) × Good v × (length rest ≤ length bs) × Follows bs v rest
Exact w bs (faulty e) = Unit {0}

fair_of : (w : Want) (bs : List ℕ) (s : Spelt) → Exact w bs s → Fair w bs s
fair_of w bs (found v rest) h = (h.0, h.1, h.2)
fair_of w bs (faulty e) h = tt

adjoins_of : (w : Want) (bs : List ℕ) (s : Spelt) → Exact w bs s → Adjoins bs s
adjoins_of w bs (found v rest) h = h.3
adjoins_of w bs (faulty e) h = tt

pub sound_by : (find : Find) → ((first : Bool) (w : Want) (bs : List ℕ) → Exact w bs (find first w bs)) → Sound find
sound_by find h first w bs = fair_of w bs (find first w bs) (h first w bs)

pub adjoining_by : (find : Find) → ((first : Bool) (w : Want) (bs : List ℕ) → Exact w bs (find first w bs)) → Adjoining find
adjoining_by find h first w bs = adjoins_of w bs (find first w bs) (h first w bs)

pub fair_cond : (w : Want) (bs : List ℕ) (x y : Spelt) (b : Bool) → (b ≡ true → Exact w bs x) → (b ≡ false → Exact w bs y) → Exact w bs (cond b x y)
fair_cond w bs x y true h l = h refl
fair_cond w bs x y false h l = l refl

pub text_fair : (n : ℕ) (bs : List ℕ) → Exact (Text n) bs (text_of n bs)
text_fair n bs =
    fair_cond (Text n) bs (faulty Cut) _ (ltb (length bs) n) (λ e. tt)
    (λ e. fair_cond (Text n) bs (found (text (take n bs)) (drop n bs)) (faulty Misspelt) (printable (take n bs)) (λ p. (ap Text (omega (arith, length-take n bs, ltb-false (length bs) n e)), p, omega (arith, length-drop n bs), ([], sym (take-append-drop n bs)))) (λ p. tt))

barred_fair : (w : Want) (bs : List ℕ) (s : Spelt) → Exact w bs (barred s)
barred_fair w bs (found v rest) = tt
barred_fair w bs (faulty e) = tt

wider : (w : Want) (b : ℕ) (bs : List ℕ) (s : Spelt) → Exact w bs s → Exact w (b ∷ bs) s
wider w b bs (found v rest) h = (h.0, h.1, omega (arith, h.2), (b ∷ h.3.0, ap (λ l. b ∷ l) h.3.1))
wider w b bs (faulty e) h = tt

pub blanked_fair : (w : Want) (f : List ℕ → Spelt) → ((bs : List ℕ) → Exact w bs (f bs)) → (bs : List ℕ) → Exact w bs (blanked f bs)
blanked_fair w f h [] = tt
blanked_fair w f h (b ∷ bs) = fair_cond w (b ∷ bs) (f bs) (barred (f bs)) (eqb b 32) (λ e. wider w b bs (f bs) (h bs)) (λ e. barred_fair w (b ∷ bs) (f bs))
