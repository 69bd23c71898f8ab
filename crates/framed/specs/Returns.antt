-- What is written is read, in every framing. Assumes nothing.
use Rattle.std.specs.Prelude.{◌≡◌, ℕ, ◌+◌, ◌-◌, ◌<◌, ◌≤◌, Bool, true, false, cond, ◌&&◌, List, [], ◌∷◌, ◌++◌, length, take, drop, Some, slice_index, refl}
use Rattle.std.proofs.Common.{sym, ap, subst, ◌∙◌, arith, length-append}
use Rattle.std.specs.List.{AllByRecursion}
use Rattle.std.proofs.lemmas.Bool.{ne_eqb, eq-eqb, le-ltb, or_from, and_right, cond-true, cond-false}
use Rattle.std.proofs.lemmas.List.{append_assoc, take_at, drop_at, drop-drop, get_or_at}
use Rattle.telegram.specs.Catalogue.{command, name, listed}
use Rattle.telegram.specs.Value.{Value}
use Rattle.layout.specs.Layout.{Layout, layout, limit, weight, wanted}
use Rattle.layout.specs.Source.{Telegram, Fits, Within, values}
use Rattle.spelling.specs.Spell.{Opens, Find}
use Rattle.spelling.specs.Canon.{Canon, written, Back}
use Rattle.spelling.specs.Write.{Wrap, Snug, Slim, Parted, Reopens, body_of, spelled}
use Rattle.spelling.specs.Round.{spans_of}
use Rattle.spelling.proofs.Rounds.{walked}
use Rattle.spelling.proofs.Rows.{command_long, name_dark, own_row}
use Rattle.spelling.proofs.Reaches.{short}
use Rattle.framing.specs.Read.{Reading, accepted, word, head, after_head, is_none, without_blank, judged, itemized, headed, unwrapped, reads, telegram, Means}

-- A name ends before a blank and at the end.

abbrev Ends : List ℕ → Type 0
Ends [] = Unit {0}
Ends (b ∷ bs) = b ≡ 32

word_back : (n rest : List ℕ) → AllByRecursion (λ c. 32 < c) n → Ends rest → word (n ++ rest) ≡ n
word_back [] [] h e = refl
word_back [] (b ∷ bs) h e = cond-true _ _ _ (eq-eqb b 32 e)
word_back (c ∷ n) rest h e = cond-false _ _ _ (ne_eqb c 32 (λ p. omega (arith, h.0))) ∙ ap (λ l. c ∷ l) (word_back n rest h.1 e)

module _ (canon : Canon) where
  items_end : Parted canon → (vs : List Value) → Ends (written canon true vs)
  items_end parted [] = tt
  items_end parted (v ∷ vs) = subst (λ l. Ends (l ++ written canon false vs)) (sym (parted v).1) refl

  -- the values of the places are those that were written
  values_back : (n : ℕ) (first : Bool) (vs : List Value) → values (spans_of canon n first vs) ≡ vs
  values_back n first [] = refl
  values_back n first (v ∷ vs) = ap (λ l. v ∷ l) (values_back n false vs)

  -- no blank is taken from before the items
  none_taken : (spare : Bool) (l : Layout) (r : ℕ) (vs : List Value) → Fits l r vs → after_head spare l (written canon true vs) ≡ written canon true vs
  none_taken spare l r [] h =
      let go : (b : Bool) → cond b (without_blank []) [] ≡ [] = λ b. elim b as (λ b. cond b (without_blank []) [] ≡ []) [ true ↦ refl | false ↦ refl ] in
      go (spare && is_none (wanted l))
  none_taken spare l r (v ∷ vs) h = cond-false _ _ _ (and_right spare (is_none (wanted l)) (ap is_none h.0))

module _ (find : Find) (canon : Canon) (back : Back find canon) (parted : Parted canon) (spare : Bool) (t : Telegram) (h : Within t) where
  abbrev items : List ℕ
  items = written canon true t.items

  abbrev body : List ℕ
  body = body_of canon t

  behind_blank : drop 4 body ≡ name t.row ++ items
  behind_blank = sym (drop-drop 1 3 body) ∙ ap (drop 1) (drop_at (command t.row) (32 ∷ (name t.row ++ items)) 3 (command_long t.row))

  head_back : head body ≡ Some t.row
  head_back =
      cond-true _ _ _ (eq-eqb (slice_index body 3) 32 (get_or_at (command t.row) 32 (name t.row ++ items) 0 3 (command_long t.row)))
      ∙ ap (λ c. listed c (word (drop 4 body))) (take_at (command t.row) (32 ∷ (name t.row ++ items)) 3 (command_long t.row))
      ∙ ap (λ l. listed (command t.row) (word l)) behind_blank
      ∙ ap (listed (command t.row)) (word_back (name t.row) items (name_dark t.row) (items_end canon parted t.items))
      ∙ own_row t.row

  behind_head : (front : List ℕ) (from : ℕ) → length front ≡ from → drop (from + (4 + length (name t.row))) (front ++ body) ≡ items
  behind_head front from long =
      sym (drop-drop (4 + length (name t.row)) from (front ++ body))
      ∙ ap (drop (4 + length (name t.row))) (drop_at front body from long)
      ∙ sym (drop-drop (length (name t.row)) 4 body)
      ∙ ap (drop (length (name t.row))) behind_blank
      ∙ drop_at (name t.row) items (length (name t.row)) refl

  abbrev reading : ℕ → ℕ → Reading
  reading from n = record { row = t.row; from = from; to = n; behind = n - length items; items = spans_of canon n true t.items }

  items_back : (from n : ℕ) → itemized find t.row from n items ≡ accepted (reading from n)
  items_back from n =
      ap (λ w. judged (record { row = t.row; from = from; to = n; behind = n - length items; items = w.items }) w.ending)
      (walked find canon back n (weight (layout t.row) + limit) true (layout t.row) limit t.items h (omega arith))

  body_back : (front : List ℕ) (from : ℕ) → length front ≡ from → headed find spare (front ++ body) from (head (drop from (front ++ body))) ≡ accepted (reading from (length (front ++ body)))
  body_back front from long =
      ap (λ b. headed find spare (front ++ body) from (head b)) (drop_at front body from long)
      ∙ ap (headed find spare (front ++ body) from) head_back
      ∙ ap (λ l. itemized find t.row from (length (front ++ body)) (after_head spare (layout t.row) l)) (behind_head front from long)
      ∙ ap (itemized find t.row from (length (front ++ body))) (none_taken canon spare (layout t.row) limit t.items h)
      ∙ items_back from (length (front ++ body))

  meant : (from n : ℕ) → telegram (reading from n) ≡ t
  meant from n = ap (λ vs. record { row = t.row; items = vs }) (values_back canon n true t.items)

-- in any spelling, the canonical spelling of a telegram is accepted, and means that telegram
pub returns_in : (opens : Opens) (spare : Bool) (find : Find) (canon : Canon) (wrap : Wrap) → Back find canon → Slim canon → Parted canon → Snug wrap → Reopens opens canon wrap → (t : Telegram) → Within t → Means t (reads opens spare find (spelled canon wrap t))
returns_in opens spare find canon wrap back slim parted snug reopens t h =
    let b : List ℕ = body_of canon t in
    let front : List ℕ = wrap.front b in
    let behind : List ℕ = wrap.behind b in
    let bs : List ℕ = spelled canon wrap t in
    let to : ℕ = wrap.before + length b in
    let few : length bs ≤ 65536 = short canon wrap slim snug t h in
    let some : length bs ≡ 0 → ⊥ = λ e. omega (arith, length-append front (b ++ behind), length-append b behind, length-append (command t.row) (32 ∷ (name t.row ++ written canon true t.items))) in
    let long : length (front ++ b) ≡ to = omega (arith, length-append front b, snug.front_long b) in
    let text : take to bs ≡ front ++ b = ap (take to) (sym (append_assoc front b behind)) ∙ take_at (front ++ b) behind to long in
    let comes : reads opens spare find bs ≡ accepted (reading find canon back parted spare t h wrap.before (length (front ++ b))) =
    cond-false _ _ _ (or_from _ _ (ne_eqb (length bs) 0 some) (le-ltb 65536 (length bs) few))
    ∙ ap (unwrapped find spare bs) (reopens t h few)
    ∙ ap (λ x. headed find spare x wrap.before (head (drop wrap.before x))) text
    ∙ body_back find canon back parted spare t h front wrap.before (snug.front_long b) in
    subst (Means t) (sym comes) (meant find canon back parted spare t h wrap.before (length (front ++ b)))
