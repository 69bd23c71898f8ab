-- A byte that is changed is seen. Assumes nothing.
use Rattle.std.proofs.Common.{◌≡◌, ℕ, zero, suc, ◌+◌, ◌-◌, ◌*◌, ◌<◌, ◌≤◌, min, eqb, ltb, List, [], ◌∷◌, length, get_or, take, drop, set, sym, refl, ap, ◌∙◌, subst, ⊎_elim, arith}
use lib.Bits.{bit_xor, xor_self, xor_assoc, xor_comm, xor_zero_l, xor_zero_r}
use lib.Seq.{take-set-lt}
use Rattle.std.specs.Int.Digits.{number_from_digits_after, AllBelowBase}
use Rattle.std.specs.List.{AllByRecursion, fold}
use Rattle.std.proofs.ByRecursion.{All-take, All-drop, All-set}
use Rattle.std.proofs.lemmas.List.{length-set, length-take, length-drop, get_or-set_same, get_or-set_other, get_or-take, get_or-drop, take-set-le, drop-set-add}
use Rattle.std.proofs.lemmas.Bool.{cases_lt, ltb-false, eqb-true, cond_both}
use Rattle.std.proofs.lemmas.Bool.Decides.{nat_tests}
use Rattle.spelling.specs.Spell.{Opened, holds, wrong}
use Rattle.cola_b.specs.Envelope.{header, alike, stated, body, checksum, open_binary}

-- what lists have in common
common : (xs ys : List ℕ) (i : ℕ) → i < alike xs ys → get_or xs i 0 ≡ get_or ys i 0
common [] ys i h = absurd (omega arith)
common (x ∷ xs) [] i h = absurd (omega arith)
common (x ∷ xs) (y ∷ ys) zero h = grind (arith, nat_tests)
common (x ∷ xs) (y ∷ ys) (suc i) h = let l : i < alike xs ys = grind (arith, nat_tests) in common xs ys i l

-- digits below the base are determined by their number
same_after : (m n : ℕ) (xs ys : List ℕ) → length xs ≡ length ys → AllBelowBase 256 xs → AllBelowBase 256 ys → number_from_digits_after 256 m xs ≡ number_from_digits_after 256 n ys → (m ≡ n) × (xs ≡ ys)
same_after m n [] [] l u w e = (e, refl)
same_after m n [] (y ∷ ys) l u w e = absurd (omega arith)
same_after m n (x ∷ xs) [] l u w e = absurd (omega arith)
same_after m n (x ∷ xs) (y ∷ ys) l u w e =
    let r = same_after (m * 256 + x) (n * 256 + y) xs ys (omega arith) u.1 w.1 e in
    let same : m ≡ n = omega (arith, r.0, u.0, w.0) in
    let head : x ≡ y = omega (arith, r.0, u.0, w.0) in
    let tail : xs ≡ ys = r.1 in
    (same, cc)

-- exclusive or can be undone
undone : (a b : ℕ) → bit_xor a (bit_xor a b) ≡ b
undone a b = sym (xor_assoc a a b) ∙ ap (λ x. bit_xor x b) (xor_self a) ∙ xor_zero_l b

cancel_left : (a b c : ℕ) → bit_xor a b ≡ bit_xor a c → b ≡ c
cancel_left a b c e = sym (undone a b) ∙ ap (bit_xor a) e ∙ undone a c

cancel_right : (a b c : ℕ) → bit_xor b a ≡ bit_xor c a → b ≡ c
cancel_right a b c e = cancel_left a b c (xor_comm a b ∙ e ∙ xor_comm c a)

folded : (a : ℕ) (xs : List ℕ) → fold bit_xor a xs ≡ bit_xor a (checksum xs)
folded a [] = sym (xor_zero_r a)
folded a (x ∷ xs) =
    folded (bit_xor a x) xs ∙ xor_assoc a x (checksum xs)
    ∙ ap (bit_xor a) (sym (folded (bit_xor 0 x) xs ∙ ap (λ y. bit_xor y (checksum xs)) (xor_zero_l x)))

-- the first byte's part in a checksum
parted : (x : ℕ) (xs : List ℕ) → checksum (x ∷ xs) ≡ bit_xor x (checksum xs)
parted x xs = folded (bit_xor 0 x) xs ∙ ap (λ y. bit_xor y (checksum xs)) (xor_zero_l x)

summed : (xs : List ℕ) (i v : ℕ) → i < length xs → checksum (set xs i v) ≡ checksum xs → v ≡ get_or xs i 0
summed [] i v h e = absurd (omega arith)
summed (x ∷ xs) zero v h e = cancel_right (checksum xs) v x (sym (parted v xs) ∙ e ∙ parted x xs)
summed (x ∷ xs) (suc i) v h e =
    summed xs i v (omega arith) (cancel_left x (checksum (set xs i v)) (checksum xs) (sym (parted x (set xs i v)) ∙ e ∙ parted x xs))

-- an envelope with nothing wrong
record Whole (bs : List ℕ) : Type 0 where
  enough : 9 ≤ length bs
  begun : 4 ≤ alike header bs
  long : stated bs ≡ length bs - 9
  sum : checksum (body bs) ≡ get_or bs (length bs - 1) 0

abbrev Judged : List ℕ → Opened → Type 0
Judged bs (holds from to) = Whole bs
Judged bs (wrong n p) = Unit {0}

judged : (bs : List ℕ) → Judged bs (open_binary bs)
judged bs =
    cond_both (ltb (length bs) 9) _ _ (Judged bs) (λ e. tt)
    (λ e. cond_both (ltb (alike header bs) 4) _ _ (Judged bs) (λ f. tt)
    (λ f. cond_both (eqb (stated bs) (length bs - 9)) _ _ (Judged bs)
    (λ g. cond_both (eqb (checksum (body bs)) (get_or bs (length bs - 1) 0)) (holds 8 (length bs - 1)) (wrong 3 (length bs - 1)) (Judged bs)
    (λ h. record { enough = ltb-false (length bs) 9 e; begun = ltb-false (alike header bs) 4 f; long = eqb-true _ _ g; sum = eqb-true _ _ h }) (λ h. tt))
    (λ g. tt)))

module _ (bs : List ℕ) (i v : ℕ) (l : i < length bs) (old : Whole bs) (new : Whole (set bs i v)) where
  same_length : length (set bs i v) ≡ length bs
  same_length = length-set bs i v

  here : get_or (set bs i v) i 0 ≡ v
  here = get_or-set_same bs i v 0 l

  in_header : i < 4 → v ≡ get_or bs i 0
  in_header h = sym here ∙ sym (common header (set bs i v) i (omega (arith, new.begun))) ∙ common header bs i (omega (arith, old.begun))

  in_length : AllByRecursion (λ b. b < 256) bs → v < 256 → 4 ≤ i → i < 8 → v ≡ get_or bs i 0
  in_length u small h k =
      let part : List ℕ → List ℕ = λ xs. take 4 (drop 4 xs) in
      let long : (xs : List ℕ) → length (part xs) ≡ min 4 (length xs - 4) = λ xs. length-take 4 (drop 4 xs) ∙ ap (min 4) (length-drop 4 xs) in
      let read : (xs : List ℕ) → get_or (part xs) (i - 4) 0 ≡ get_or xs i 0 = λ xs. get_or-take 4 (drop 4 xs) (i - 4) 0 (omega arith) ∙ get_or-drop 4 xs (i - 4) 0 ∙ ap (λ k. get_or xs k 0) (omega arith) in
      let fits : AllBelowBase 256 (part (set bs i v)) = All-take (λ b. b < 256) 4 (drop 4 (set bs i v)) (All-drop (λ b. b < 256) 4 (set bs i v) (All-set (λ b. b < 256) bs i v small u)) in
      let e = same_after 0 0 (part (set bs i v)) (part bs) (long (set bs i v) ∙ ap (λ n. min 4 (n - 4)) same_length ∙ sym (long bs)) fits (All-take (λ b. b < 256) 4 (drop 4 bs) (All-drop (λ b. b < 256) 4 bs u)) (new.long ∙ ap (λ n. n - 9) same_length ∙ sym old.long) in
      sym here ∙ sym (read (set bs i v)) ∙ ap (λ xs. get_or xs (i - 4) 0) e.1 ∙ read bs

  -- where the body is changed
  body_set : 8 ≤ i → body (set bs i v) ≡ take (length bs - 9) (set (drop 8 bs) (i - 8) v)
  body_set h =
      let e : i ≡ 8 + (i - 8) = omega arith in
      ap (λ n. take (n - 9) (drop 8 (set bs i v))) same_length ∙ ap (λ k. take (length bs - 9) (drop 8 (set bs k v))) e ∙ ap (take (length bs - 9)) (drop-set-add 8 bs (i - 8) v)

  -- the last byte of the changed input is the checksum of its body
  last : checksum (body (set bs i v)) ≡ get_or (set bs i v) (length bs - 1) 0
  last = new.sum ∙ ap (λ n. get_or (set bs i v) (n - 1) 0) same_length

  in_body : 8 ≤ i → i < length bs - 1 → v ≡ get_or bs i 0
  in_body h k =
      let set_body : body (set bs i v) ≡ set (body bs) (i - 8) v = body_set h ∙ take-set-lt (length bs - 9) (drop 8 bs) (i - 8) v (omega arith) in
      let e : checksum (set (body bs) (i - 8) v) ≡ checksum (body bs) = ap checksum (sym set_body) ∙ last ∙ get_or-set_other bs i (length bs - 1) v 0 (λ e. omega arith) ∙ sym old.sum in
      let long : i - 8 < length (body bs) = omega (arith, length-take (length bs - 9) (drop 8 bs), length-drop 8 bs) in
      summed (body bs) (i - 8) v long e
      ∙ get_or-take (length bs - 9) (drop 8 bs) (i - 8) 0 (omega arith) ∙ get_or-drop 8 bs (i - 8) 0 ∙ ap (λ k. get_or bs k 0) (omega arith)

  in_checksum : length bs - 1 ≤ i → v ≡ get_or bs i 0
  in_checksum h =
      let e : i ≡ length bs - 1 = omega arith in
      let kept : body (set bs i v) ≡ body bs = body_set (omega (arith, old.enough)) ∙ take-set-le (length bs - 9) (drop 8 bs) (i - 8) v (omega arith) in
      sym here ∙ ap (λ k. get_or (set bs i v) k 0) e ∙ sym last ∙ ap checksum kept ∙ old.sum ∙ ap (λ k. get_or bs k 0) (sym e)

  unchanged : AllByRecursion (λ b. b < 256) bs → v < 256 → v ≡ get_or bs i 0
  unchanged u small =
      ⊎_elim in_header (λ four. ⊎_elim (in_length u small four) (λ eight. ⊎_elim (in_body eight) in_checksum (cases_lt i (length bs - 1))) (cases_lt i 8)) (cases_lt i 4)

refused : (bs : List ℕ) (o : Opened) → open_binary bs ≡ o → (Whole bs → ⊥) → (n : ℕ) × ((p : ℕ) × (open_binary bs ≡ wrong n p))
refused bs (holds from to) e no_body = absurd (no_body (subst (Judged bs) e (judged bs)))
refused bs (wrong n p) e no_body = (n, (p, e))

-- an input that holds a body, with any one of its bytes changed to another, has a wrong envelope
pub changed :
    (bs : List ℕ) (i v from to : ℕ) → AllByRecursion (λ b. b < 256) bs → i < length bs → v < 256 → (v ≡ get_or bs i 0 → ⊥) → open_binary bs ≡ holds from to
    → (n : ℕ) × ((p : ℕ) × (open_binary (set bs i v) ≡ wrong n p))
changed bs i v from to u l small ne e = refused (set bs i v) (open_binary (set bs i v)) refl (λ new. ne (unchanged bs i v l (subst (Judged bs) e (judged bs)) new u small))
