-- A text that is written is found. Assumes nothing.
use Rattle.std.proofs.Common.{◌≡◌, ℕ, true, List, ◌++◌, length, drop, refl, ap, ◌∙◌, arith, length-append}
use Rattle.std.proofs.lemmas.Bool.{le-ltb, cond-true, cond-false}
use Rattle.std.proofs.lemmas.List.{take_at, drop_at}
use Rattle.telegram.specs.Value.{text, printable}
use Rattle.spelling.specs.Spell.{found, text_of}

pub text_back : (s rest : List ℕ) → printable s ≡ true → text_of (length s) (s ++ rest) ≡ found (text s) rest
text_back s rest p =
    cond-false _ _ _ (le-ltb (length (s ++ rest)) (length s) (omega (arith, length-append s rest)))
    ∙ cond-true _ _ _ (ap printable (take_at s rest (length s) refl) ∙ p)
    ∙ ap (λ l. found (text l) (drop (length s) (s ++ rest))) (take_at s rest (length s) refl)
    ∙ ap (found (text s)) (drop_at s rest (length s) refl)
