-- The envelope that is put around a body in binary, and how long items are. Assumes nothing.
use Rattle.std.specs.Prelude.{◌≡◌, ℕ, ◌+◌, ◌-◌, ◌≤◌, true, false, List, [], ◌∷◌, ◌++◌, length, take, slice_index, slice_index_or, refl}
use Rattle.std.proofs.Common.{sym, ap, ◌∙◌, arith, length-append}
use Rattle.std.specs.Int.Digits.{number_from_digits}
use Rattle.std.proofs.lemmas.Bool.{eq-eqb, le-ltb, cond-true, cond-false}
use Rattle.std.proofs.lemmas.List.{append_assoc, take_at, drop_at, get_or_at}
use Rattle.telegram.specs.Kind.{bytes}
use Rattle.telegram.specs.Value.{Value, num, real, text}
use Rattle.spelling.specs.Spell.{holds}
use Rattle.spelling.specs.Canon.{fixed}
use Rattle.spelling.specs.Write.{Slim, Parted, Snug, Reopens, most, wrapped, body_of}
use Rattle.spelling.proofs.Digitals.{number_fixed, length_fixed}
use Rattle.cola_b.specs.Canon.{octets, canon_binary}
use Rattle.cola_b.specs.Envelope.{header, stated, body, checksum, open_binary, wrap_binary}

octets_slim : (v : Value) → 1 + length (octets v) ≤ most v
octets_slim (num k v) = omega (arith, length_fixed 256 (bytes k) v)
octets_slim (real v) = omega (arith, length_fixed 256 4 v)
octets_slim (text s) = omega arith

pub binary_slim : Slim canon_binary
binary_slim true v h = omega (arith, octets_slim v)
binary_slim false v h = omega (arith, octets_slim v)

pub binary_parted : Parted canon_binary
binary_parted v = (octets v, refl)

front_long : (b : List ℕ) → length (wrap_binary.front b) ≡ 8
front_long b = length-append header (fixed 256 4 (length b)) ∙ omega (arith, length_fixed 256 4 (length b))

pub binary_snug : Snug wrap_binary
binary_snug = record { little = omega arith; front_long = front_long; behind_long = λ b. refl }

module _ (b : List ℕ) (few : length (wrapped wrap_binary b) ≤ 65536) where
  abbrev front : List ℕ
  front = wrap_binary.front b

  abbrev sum : List ℕ
  sum = checksum b ∷ []

  abbrev all : List ℕ
  all = wrapped wrap_binary b

  long : length all ≡ 9 + length b
  long = omega (arith, length-append front (b ++ sum), length-append b sum, front_long b)

  stated_back : stated all ≡ length all - 9
  stated_back =
      ap (number_from_digits 256) (take_at (fixed 256 4 (length b)) (b ++ sum) 4 (length_fixed 256 4 (length b)))
      ∙ number_fixed 256 4 (length b) (omega arith) (omega (arith, long))
      ∙ omega (arith, long)

  body_back : body all ≡ b
  body_back = ap (take (length all - 9)) (drop_at front (b ++ sum) 8 (front_long b)) ∙ take_at b sum (length all - 9) (omega (arith, long))

  last_back : slice_index_or all (length all - 1) 0 ≡ checksum b
  last_back =
      ap (λ l. slice_index l (length all - 1)) (sym (append_assoc front b sum))
      ∙ get_or_at (front ++ b) (checksum b) [] 0 (length all - 1) (omega (arith, length-append front b, front_long b, long))

  opens_back : open_binary all ≡ holds 8 (8 + length b)
  opens_back =
      cond-false _ _ _ (le-ltb (length all) 9 (omega (arith, long)))
      ∙ cond-true _ _ _ (eq-eqb _ _ stated_back)
      ∙ cond-true _ _ _ (eq-eqb _ _ (ap checksum body_back ∙ sym last_back))
      ∙ ap (holds 8) (omega (arith, long))

pub binary_reopens : Reopens open_binary canon_binary wrap_binary
binary_reopens t h few = opens_back (body_of canon_binary t) few
