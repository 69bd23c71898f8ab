-- The head of a body. Assumes nothing.
use Rattle.std.proofs.Common.{◌≡◌, ℕ, ◌+◌, ◌≤◌, Bool, true, false, cond, not, ◌==◌, ltb, suc, ◌&&◌, List, [], ◌∷◌, length, get_or, take, drop, Some, None, Option, sym, refl, ap, ◌∙◌, arith}
use Rattle.std.specs.List.{position, position_or_len}
use Rattle.std.proofs.lemmas.Bool.{eq-eqb, cond-true, ltb-false}
use Rattle.std.proofs.lemmas.List.{take_all, length-take, length-drop}
use Rattle.std.specs.Str.{bytes_eq}
use Rattle.std.specs.List.{find}
use Rattle.std.proofs.lemmas.Slice.Eq.{bytes_eq-Decides}
use Rattle.telegram.specs.declared.row.Row.{Row}
use Rattle.telegram.specs.Catalogue.{command, name, rows, called, listed}
use Rattle.framing.specs.Read.{word, head, Names}

-- the place of the first blank, or the length
abbrev blank_or_end : List ℕ → ℕ
blank_or_end bs = position_or_len (λ b. b == 32) bs

-- what stands before it is the word
word_first : (bs : List ℕ) → take (blank_or_end bs) bs ≡ word bs
word_first [] = refl
word_first (b ∷ bs) =
    elim (b == 32) as (λ t. take (cond (not t) (1 + blank_or_end bs) 0) (b ∷ bs) ≡ cond t [] (b ∷ word bs)) [
      | true ↦ refl
      | false ↦
          let more : 1 + blank_or_end bs ≡ suc (blank_or_end bs) = omega arith in
          ap (λ n. take n (b ∷ bs)) more ∙ ap (λ l. b ∷ l) (word_first bs)
    ]

pub word_within : (bs : List ℕ) → length (word bs) ≤ length bs
word_within bs = omega (arith, ap length (word_first bs), length-take (blank_or_end bs) bs)

-- cut at the first blank, or whole where there is none
module _ (bs : List ℕ) where
  abbrev place : Bool → Option ℕ
  place t = cond t (Some (blank_or_end bs)) None

  pub word_some : (n : ℕ) → Some n ≡ position (λ b. b == 32) bs → take n bs ≡ word bs
  word_some n =
      elim (ltb (blank_or_end bs) (length bs)) as (λ t. Some n ≡ place t → take n bs ≡ word bs) [
        | true ↦ λ e. let same : n ≡ blank_or_end bs = cc in ap (λ m. take m bs) same ∙ word_first bs
        | false ↦ λ e. let z : ◌≡◌ {A = ℕ} 0 1 = cc in absurd (omega arith)
      ]

  pub word_none : None ≡ position (λ b. b == 32) bs → bs ≡ word bs
  word_none e =
      let go : (t : Bool) → ltb (blank_or_end bs) (length bs) ≡ t → None ≡ place t → bs ≡ word bs =
      λ t. elim t as (λ t. ltb (blank_or_end bs) (length bs) ≡ t → None ≡ place t → bs ≡ word bs) [
        | true ↦ λ _ e. let z : ◌≡◌ {A = ℕ} 0 1 = cc in absurd (omega arith)
        | false ↦ λ l e. sym (take_all (blank_or_end bs) bs (ltb-false _ _ l)) ∙ word_first bs
      ] in
      go (ltb (blank_or_end bs) (length bs)) refl e

-- behind three letters and a blank stands a name
pub head_at : (body n : List ℕ) → get_or body 3 0 ≡ 32 → n ≡ word (drop 4 body) → head body ≡ listed (take 3 body) n
head_at body n e w = cond-true _ _ _ (eq-eqb (get_or body 3 0) 32 e) ∙ ap (listed (take 3 body)) (sym w)

-- a row is listed under its own name
found_named : (c n : List ℕ) (rs : List Row) (r : Row) → find (called c n) rs ≡ Some r → n ≡ name r
found_named c n [] r e = let z : ◌≡◌ {A = ℕ} 0 1 = cc in absurd (omega arith)
found_named c n (x ∷ rs) r e =
    let go : (b : Bool) → bytes_eq n (name x) ≡ b → cond (b && bytes_eq c (command x)) (Some x) (find (called c n) rs) ≡ Some r → n ≡ name r =
    λ b. elim b as (λ b. bytes_eq n (name x) ≡ b → cond (b && bytes_eq c (command x)) (Some x) (find (called c n) rs) ≡ Some r → n ≡ name r) [
      | true ↦ λ s f. elim (bytes_eq c (command x)) as (λ b. cond b (Some x) (find (called c n) rs) ≡ Some r → n ≡ name r) [
        | true ↦ λ f. let same : x ≡ r = cc in (bytes_eq-Decides n (name x)).0 s ∙ ap name same
        | false ↦ λ f. found_named c n rs r f
      ] f
      | false ↦ λ s f. found_named c n rs r f
    ] in
    go (bytes_eq n (name x)) refl e

listed_named : (c n : List ℕ) (r : Row) → listed c n ≡ Some r → n ≡ name r
listed_named c n r e = found_named c n rows r e

-- a head that names a row, and how long it is
pub named : (body n : List ℕ) (r : Row) → get_or body 3 0 ≡ 32 → n ≡ word (drop 4 body) → Some r ≡ listed (take 3 body) n → length n ≤ length (drop 4 body) → 4 ≤ length body → Names body (Some (r, 4 + length n))
named body n r e w f le four =
    let same : n ≡ name r = listed_named (take 3 body) n r (sym f) in
    (head_at body n e w ∙ sym f, ap (λ l. 4 + length l) same, omega (arith, le, length-drop 4 body))
