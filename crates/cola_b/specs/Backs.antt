-- What is written in binary is found again. Assumes nothing.
use Rattle.std.specs.Prelude.{◌≡◌, ℕ, ◌^◌, ◌<◌, ◌≤◌, true, false, List, ◌++◌, length, take, drop}
use Rattle.std.proofs.Common.{sym, ap, subst, ◌∙◌, arith, length-append}
use Rattle.std.specs.Int.Digits.{number_from_digits}
use Rattle.std.proofs.lemmas.Bool.{lt-ltb, le-ltb, cond-true, cond-false}
use Rattle.std.proofs.lemmas.List.{take_at, drop_at}
use Rattle.telegram.specs.declared.kind.Kind.{Kind}
use Rattle.telegram.specs.declared.kind.Kind.TheVariants.{Bool, Uint8, Uint16, Uint32, Int8, Int32}
use Rattle.telegram.specs.Kind.{bytes, patterns}
use Rattle.telegram.specs.Value.{Value, num, real, text, Good, want}
use Rattle.spelling.specs.Spell.{found}
use Rattle.spelling.specs.Canon.{fixed, written, Back}
use Rattle.spelling.proofs.Digitals.{number_fixed, length_fixed}
use Rattle.spelling.proofs.Backs.{text_back}
use Rattle.cola_b.specs.Items.{spelt_in, bare, find_binary}
use Rattle.cola_b.specs.Canon.{octets, canon_binary}

room : (k : Kind) → patterns k ≤ 256 ^ bytes k
room Bool = omega arith
room Uint8 = omega arith
room Uint16 = omega arith
room Uint32 = omega arith
room Int8 = omega arith
room Int32 = omega arith

-- a pattern of a width
spelt_back : (n limit v : ℕ) (value : ℕ → Value) (rest : List ℕ) → v < limit → limit ≤ 256 ^ n → spelt_in n limit value (fixed 256 n v ++ rest) ≡ found (value v) rest
spelt_back n limit v value rest h le =
    let long = length_fixed 256 n v in
    let back : number_from_digits 256 (take n (fixed 256 n v ++ rest)) ≡ v = ap (number_from_digits 256) (take_at (fixed 256 n v) rest n long) ∙ number_fixed 256 n v (omega arith) (omega arith) in
    cond-false _ _ _ (le-ltb (length (fixed 256 n v ++ rest)) n (omega (arith, length-append (fixed 256 n v) rest)))
    ∙ cond-true _ _ _ (lt-ltb _ _ (subst (λ x. x < limit) (sym back) h))
    ∙ ap (λ x. found (value x) (drop n (fixed 256 n v ++ rest))) back
    ∙ ap (found (value v)) (drop_at (fixed 256 n v) rest n long)

bare_back : (v : Value) (rest : List ℕ) → Good v → bare (want v) (octets v ++ rest) ≡ found v rest
bare_back (num k v) rest h = spelt_back (bytes k) (patterns k) v (num k) rest h (room k)
bare_back (real v) rest h = spelt_back 4 4294967296 v real rest h (omega arith)
bare_back (text s) rest h = text_back s rest h

pub binary_written : Back find_binary canon_binary
binary_written true v vs h = bare_back v (written canon_binary false vs) h
binary_written false v vs h = bare_back v (written canon_binary false vs) h
