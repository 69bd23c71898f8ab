-- The envelope that is put around a body, and that one lies within its input. Assumes nothing.
use Rattle.std.specs.Prelude.{◌≡◌, ℕ, ◌+◌, ◌-◌, ◌≤◌, List, [], ◌++◌, length, take, ◌==◌, nat_lt, refl}
use Rattle.std.proofs.Common.{ap, ◌∙◌, arith, length-append}
use Rattle.std.specs.Int.Digits.{number_from_digits}
use Rattle.std.proofs.lemmas.Bool.{eq-eqb, le-ltb, ltb-false, cond-true, cond-false, cond_both}
use Rattle.std.proofs.lemmas.List.{take_at}
use Rattle.spelling.specs.Spell.{holds, wrong, Lies, Inside}
use Rattle.spelling.specs.Canon.{fixed}
use Rattle.spelling.specs.Write.{Snug, Reopens, wrapped, body_of}
use Rattle.spelling.proofs.Digitals.{number_fixed, length_fixed}
use Rattle.cola_b.specs.Canon.{canon_binary}
use Rattle.prefixed.specs.Envelope.{open_prefixed, wrap_prefixed}

pub prefixed_inside : Inside open_prefixed
prefixed_inside bs =
    cond_both (nat_lt (length bs) 2) _ _ (Lies (length bs)) (λ e. (omega arith, omega arith))
    (λ e. cond_both (number_from_digits 256 (take 2 bs) == length bs - 2) (holds 2 (length bs)) (wrong 2 0) (Lies (length bs)) (λ f. (omega (arith, ltb-false (length bs) 2 e), omega arith)) (λ f. (omega arith, omega arith)))

pub prefixed_snug : Snug wrap_prefixed
prefixed_snug = record { little = omega arith; front_long = λ b. length_fixed 256 2 (length b); behind_long = λ b. refl }

module _ (b : List ℕ) (few : length (wrapped wrap_prefixed b) ≤ 65536) where
  abbrev all : List ℕ
  all = wrapped wrap_prefixed b

  long : length all ≡ 2 + length b
  long = omega (arith, length-append (fixed 256 2 (length b)) (b ++ []), length-append b [], length_fixed 256 2 (length b))

  stated_back : number_from_digits 256 (take 2 all) ≡ length all - 2
  stated_back =
      ap (number_from_digits 256) (take_at (fixed 256 2 (length b)) (b ++ []) 2 (length_fixed 256 2 (length b)))
      ∙ number_fixed 256 2 (length b) (omega arith) (omega (arith, long))
      ∙ omega (arith, long)

  opens_back : open_prefixed all ≡ holds 2 (2 + length b)
  opens_back = cond-false _ _ _ (le-ltb (length all) 2 (omega (arith, long))) ∙ cond-true _ _ _ (eq-eqb _ _ stated_back) ∙ ap (holds 2) long

pub prefixed_reopens : Reopens open_prefixed canon_binary wrap_prefixed
prefixed_reopens t h few = opens_back (body_of canon_binary t) few
