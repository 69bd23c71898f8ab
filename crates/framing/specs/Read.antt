-- What bytes come to. Assumes nothing.
use Rattle.std.specs.Prelude.{◌≡◌, ℕ, ◌+◌, ◌-◌, ◌≤◌, Bool, true, false, cond, ◌&&◌, ◌||◌, List, [], ◌∷◌, ◌++◌, map, length, take, drop, Some, None, Ok, Err, Option, Result, ◌==◌, nat_lt, slice_index, slice_range}
use Rattle.telegram.specs.declared.row.Row.{Row}
use Rattle.layout.specs.declared.cursor.Cursor.{Cursor}
use Rattle.telegram.specs.declared.refusal.Refusal.{Refusal}
use Rattle.telegram.specs.declared.refusal.Reason.TheVariants.{Size, Unknown}
use Rattle.telegram.specs.Refusal.{reason_number}
use Rattle.telegram.specs.Catalogue.{name, listed}
use Rattle.layout.specs.Layout.{Layout, layout, limit, weight, wanted, is_scan}
use Rattle.layout.specs.Source.{Telegram, Within, Seen, values, Tells}
use Rattle.framing.specs.declared.head.Head.{Head}
use Rattle.spelling.specs.Spell.{Opened, holds, wrong, Opens, Find, verbatim}
use Rattle.spelling.specs.Walk.{Ending, whole, halt, Walk, walk, left}

-- what is read: the row, where the body begins and ends, where the head's span ends, and the items in order. The head's span begins where the body does
pub record Reading : Type 0 where
  pub row : Row
  pub from : ℕ
  pub to : ℕ
  pub behind : ℕ
  pub items : List Seen

-- bytes are accepted, or refused by a number and a place
pub data Outcome : Type 0 where
  accepted : Reading → Outcome
  refused : ℕ → ℕ → Outcome

abbrev pub refusal_of : Refusal → Outcome
refusal_of e = refused (reason_number e.reason) e.place

-- up to the next blank or the end
abbrev pub word : List ℕ → List ℕ
word [] = []
word (b ∷ bs) =
    let more : List ℕ = b ∷ word bs in
    cond (b == 32) [] more

-- the row that a body's head names: a type of three letters, one blank, and a name up to the next blank or the end
abbrev pub head : List ℕ → Option Row
head body = cond (slice_index body 3 == 32) (listed (take 3 body) (word (drop 4 body))) None

abbrev pub without_blank : List ℕ → List ℕ
without_blank [] = []
without_blank (b ∷ bs) = cond (b == 32) bs (b ∷ bs)

abbrev pub is_none : {A : Type 0} → Option A → Bool
is_none None = true
is_none (Some x) = false

-- what follows the head: where a blank may stand behind a head that has no items, it belongs to the head
abbrev pub after_head : Bool → Layout → List ℕ → List ℕ
after_head spare l bs = cond (spare && is_none (wanted l)) (without_blank bs) bs

-- how a walk along the whole layout of a row ends
abbrev pub judged : Reading → Ending → Outcome
judged g whole = accepted g
judged g (halt n p) = refused n p

-- the items of a row, in n bytes at whose end rest stands
abbrev pub itemized : Find → Row → ℕ → ℕ → List ℕ → Outcome
itemized find row from n rest =
    let w : Walk = walk find (weight (layout row) + limit) n true (layout row) limit rest in
    judged (record { row = row; from = from; to = n; behind = n - length rest; items = w.items }) w.ending

-- a head that names a row, or none
abbrev pub headed : Find → Bool → List ℕ → ℕ → Option Row → Outcome
headed find spare t from None = refused (reason_number Unknown) from
headed find spare t from (Some row) = itemized find row from (length t) (after_head spare (layout row) (drop (from + (4 + length (name row))) t))

-- an envelope that holds a body; t is the input up to the body's end
abbrev pub unwrapped : Find → Bool → List ℕ → Opened → Outcome
unwrapped find spare bs (wrong n p) = refused n p
unwrapped find spare bs (holds from to) = headed find spare (take to bs) from (head (drop from (take to bs)))

-- reading: the size, then the envelope, then the head, then the items
abbrev pub reads : Opens → Bool → Find → List ℕ → Outcome
reads opens spare find bs = cond (length bs == 0 || nat_lt 65536 (length bs)) (refused (reason_number Size) 0) (unwrapped find spare bs (opens bs))

-- Laws.

abbrev pub telegram : Reading → Telegram
telegram g = record { row = g.row; items = values g.items }

-- the bytes from a place up to another
abbrev pub cut : List ℕ → ℕ → ℕ → List ℕ
cut bs from to = slice_range bs from to

-- a text stands in the bytes as it is, at the end of its span
abbrev pub Stands : List ℕ → Seen → Type 0
Stands bs s = (s.from + length (verbatim s.value) ≤ s.to) × (cut bs (s.to - length (verbatim s.value)) s.to ≡ verbatim s.value)

abbrev pub Verbatim : List ℕ → List Seen → Type 0
Verbatim bs [] = Unit {0}
Verbatim bs (s ∷ ss) = Stands bs s × Verbatim bs ss

abbrev pub body : List ℕ → Reading → List ℕ
body bs g = cut bs g.from g.to

-- the head's span and the items'
abbrev pub spans : List ℕ → Reading → List (List ℕ)
spans bs g = cut bs g.from g.behind ∷ map (λ s. cut bs s.from s.to) g.items

abbrev pub joined : List (List ℕ) → List ℕ
joined [] = []
joined (x ∷ xs) = x ++ joined xs

-- what is accepted has 1 to 65,536 bytes and lies within the catalogue and the limits, and its spans join in order to the body; a refusal is one of 1 to 8
abbrev pub Keeps : List ℕ → Outcome → Type 0
Keeps bs (accepted g) = (1 ≤ length bs) × (length bs ≤ 65536) × Within (telegram g) × (joined (spans bs g) ≡ body bs g)
Keeps bs (refused n p) = (1 ≤ n) × (n ≤ 8)

-- these bytes are accepted, and mean a telegram
abbrev pub Means : Telegram → Outcome → Type 0
Means t (accepted g) = telegram g ≡ t
Means t (refused n p) = ⊥

-- Answers.

-- what a head at hand says, given the items from its start on
abbrev pub reading_of : (Cursor → List Seen) → Head → Reading
reading_of left h = record { row = h.row; from = h.from; to = length h.text.now; behind = h.start.place; items = left h.start }

-- the row that a head names, and how long it is
abbrev pub Names : List ℕ → Option (Row × ℕ) → Type 0
Names b None = head b ≡ None
Names b (Some p) = (head b ≡ Some p.0) × (p.1 ≡ 4 + length (name p.0)) × (p.1 ≤ length b)

-- what a head answers of a text that ends where its body does: the outcome, and the records of the optional parts
abbrev pub Heads : (Cursor → List Seen) → Outcome → Head → Type 0
Heads left o h = (o ≡ accepted (reading_of left h)) × Tells (is_scan h.row) (layout h.row) (values (left h.start)) h.parts

abbrev pub Holds : Find → List ℕ → Outcome → Result Head Refusal → Type 0
Holds find t o (Ok h) = (h.text.now ≡ t) × Heads (left find t) o h
Holds find t o (Err e) = o ≡ refusal_of e

-- what reading answers: the head of what is accepted, with the input up to the body's end; or the refusal
abbrev pub Reads : (List ℕ → Cursor → List Seen) → List ℕ → Outcome → Result Head Refusal → Type 0
Reads left bs o (Ok h) = (h.text.now ≡ take (length h.text.now) bs) × Heads (left h.text.now) o h
Reads left bs o (Err e) = o ≡ refusal_of e

-- what accepting answers: the framing, and what reading in it answers
abbrev pub Accepts : {A F : Type 0} → (A → F) → (A → Head) → (F → List ℕ → Cursor → List Seen) → (F → List ℕ → Outcome) → F → List ℕ → Result A Refusal → Type 0
Accepts framing_of head_of left reads f bs (Ok a) = (framing_of a ≡ f) × Reads (left f) bs (reads f bs) (Ok (head_of a))
Accepts framing_of head_of left reads f bs (Err e) = Reads (left f) bs (reads f bs) (Err e)
