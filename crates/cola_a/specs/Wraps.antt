-- The envelope that is put around a body in text, and how long items are. Assumes nothing.
use Rattle.std.specs.Prelude.{◌≡◌, ℕ, ◌+◌, ◌-◌, ◌*◌, ◌<◌, ◌≤◌, max, Bool, true, false, List, [], ◌∷◌, ◌++◌, length, Some, None, Option, nat_le, slice_index, refl}
use Rattle.std.proofs.Common.{ap, ◌∙◌, arith, length-append}
use Rattle.std.proofs.Math.Nat.{max-le}
use Rattle.std.specs.List.{AllByRecursion}
use Rattle.std.proofs.ByRecursion.{All-append, All-map, All-weaker}
use Rattle.std.proofs.lemmas.Bool.{ne_eqb, eq-eqb, leb-true, or_from, and_parts, cond-true, cond-false}
use Rattle.std.proofs.lemmas.List.{take_at, get_or_at}
use Rattle.telegram.specs.Kind.{bytes}
use Rattle.telegram.specs.Catalogue.{command, name}
use Rattle.telegram.specs.Value.{Value, num, real, text, textual, printable, number, Good}
use Rattle.layout.specs.Layout.{Layout, State, layout, limit, advance}
use Rattle.layout.specs.Source.{Telegram, When, Fits, Within}
use Rattle.spelling.specs.Spell.{holds}
use Rattle.spelling.specs.Canon.{fixed, written}
use Rattle.spelling.specs.Write.{Slim, Parted, Snug, Reopens, most, wrapped, body_of}
use Rattle.spelling.proofs.Digitals.{under_fixed}
use Rattle.spelling.proofs.Rows.{command_dark, name_dark}
use Rattle.cola_a.specs.Canon.{letter, hex_digits, hexadecimals, letters, canon_text}
use Rattle.cola_a.specs.Envelope.{mark, unmarked, open_text, wrap_text}
use Rattle.cola_a.specs.Writes.{length_hexadecimals}
use Rattle.cola_a.specs.Backs.{room, few, letter_digit}

letters_slim : (v : Value) → Good v → 1 + length (letters v) ≤ most v
letters_slim (num k v) h =
    let n : ℕ = max 1 (hex_digits v) in
    let le : n ≤ 2 * bytes k = max-le (room k).1 (few k v h) in
    omega (arith, length_hexadecimals n v)
letters_slim (real v) h = omega (arith, length_hexadecimals 8 v)
letters_slim (text s) h = omega arith

pub text_slim : Slim canon_text
text_slim first v h = omega (arith, letters_slim v h)

pub text_parted : Parted canon_text
text_parted v = (letters v, refl)

pub text_snug : Snug wrap_text
text_snug = record { little = omega arith; front_long = λ b. refl; behind_long = λ b. refl }

-- No byte of a body is a mark: none is less than a blank.

abbrev Clear : List ℕ → Type 0
Clear bs = AllByRecursion (λ c. 32 ≤ c) bs

darker : (cs : List ℕ) → AllByRecursion (λ c. 32 < c) cs → Clear cs
darker cs h = All-weaker (λ c. 32 < c) (λ c. 32 ≤ c) (λ c l. omega arith) cs h

clear_digits : (n v : ℕ) → Clear (hexadecimals n v)
clear_digits n v =
    All-map (λ c. 32 ≤ c) letter (fixed 16 n v)
    (All-weaker (λ d. d < 16) (λ d. 32 ≤ letter d) (λ d l. omega (arith, (letter_digit d l).1)) (fixed 16 n v) (under_fixed 16 n v (omega arith)))

clear_text : (s : List ℕ) → printable s ≡ true → Clear s
clear_text [] h = tt
clear_text (c ∷ cs) h =
    let p = and_parts (textual c) (printable cs) h in
    (leb-true 32 c (and_parts (nat_le 32 c) (nat_le c 126) p.0).0, clear_text cs p.1)

clear_letters : (v : Value) → Good v → Clear (letters v)
clear_letters (num k v) h = clear_digits (max 1 (hex_digits v)) v
clear_letters (real v) h = clear_digits 8 v
clear_letters (text s) h = clear_text s h

clear_items : (first : Bool) (l : Layout) (r : ℕ) (vs : List Value) → Fits l r vs → Clear (written canon_text first vs)
clear_items first l r [] h = tt
clear_items first l r (v ∷ vs) h =
    let go : (o : Option State) → When o (λ s. Fits s.todo s.room vs) → Clear (written canon_text false vs) =
    λ o. elim o as (λ o. When o (λ s. Fits s.todo s.room vs) → Clear (written canon_text false vs)) [
      | None ↦ λ w. absurd w
      | Some s ↦ λ w. clear_items false s.todo s.room vs w
    ] in
    All-append (λ c. 32 ≤ c) (canon_text first v) (written canon_text false vs) (omega arith, clear_letters v h.1) (go (advance l r (number v)) h.2)

clear_body : (t : Telegram) → Within t → Clear (body_of canon_text t)
clear_body t h =
    All-append (λ c. 32 ≤ c) (command t.row) (32 ∷ (name t.row ++ written canon_text true t.items)) (darker (command t.row) (command_dark t.row))
    (omega arith, All-append (λ c. 32 ≤ c) (name t.row) (written canon_text true t.items) (darker (name t.row) (name_dark t.row)) (clear_items true (layout t.row) limit t.items h))

no_mark : (i : ℕ) (bs : List ℕ) → Clear bs → mark i bs ≡ None
no_mark i [] h = refl
no_mark i (c ∷ cs) h = cond-false _ _ _ (or_from _ _ (ne_eqb c 2 (λ e. omega (arith, h.0))) (ne_eqb c 3 (λ e. omega (arith, h.0)))) ∙ no_mark (i + 1) cs h.1

opens_back : (b : List ℕ) → Clear b → open_text (wrapped wrap_text b) ≡ holds 1 (1 + length b)
opens_back b h =
    let all : List ℕ = wrapped wrap_text b in
    let last : ℕ = length all - 1 in
    let long : last ≡ 1 + length b = omega (arith, length-append b (3 ∷ [])) in
    cond-true _ _ _ (eq-eqb (slice_index all last) 3 (get_or_at (2 ∷ b) 3 [] 0 last (omega (arith, long))))
    ∙ ap (λ l. unmarked last (mark 0 l)) (take_at b (3 ∷ []) (last - 1) (omega (arith, long)))
    ∙ ap (unmarked last) (no_mark 0 b h)
    ∙ ap (holds 1) long

pub text_reopens : Reopens open_text canon_text wrap_text
text_reopens t h few = opens_back (body_of canon_text t) (clear_body t h)
