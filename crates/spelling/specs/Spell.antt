-- How an envelope is opened and an item found: the words, and what every spelling keeps to. Assumes nothing.
use Rattle.std.specs.Prelude.{◌≡◌, ℕ, ◌≤◌, Bool, cond, List, [], ◌∷◌, ◌++◌, length, take, drop, Ok, Err, Result, ◌==◌, nat_lt}
use Rattle.telegram.specs.declared.item.Want.{Want}
use Rattle.telegram.specs.declared.item.Item.{Item}
use Rattle.telegram.specs.declared.refusal.Fault.{Fault}
use Rattle.telegram.specs.declared.refusal.Fault.TheVariants.{Cut, Misspelt}
use Rattle.telegram.specs.declared.refusal.Refusal.{Refusal}
use Rattle.telegram.specs.Value.{Value, num, real, text, want, Good, printable, value_of}
use Rattle.telegram.specs.Refusal.{reason_number}
use Rattle.spelling.specs.declared.terms.Extent.{Extent}

-- an envelope: the body stands from a place up to another; or it is wrong, by the number of a refusal, at a place
pub data Opened : Type 0 where
  holds : ℕ → ℕ → Opened
  wrong : ℕ → ℕ → Opened

abbrev pub Opens : Type 0
Opens = List ℕ → Opened

-- a body lies within the input; a wrong envelope is refused with 2 or 3
abbrev pub Lies : ℕ → Opened → Type 0
Lies n (holds from to) = (from ≤ to) × (to ≤ n)
Lies n (wrong number place) = (2 ≤ number) × (number ≤ 3)

abbrev pub Inside : Opens → Type 0
Inside opens = (bs : List ℕ) → Lies (length bs) (opens bs)

-- the answer that opening gives
abbrev pub Opening : Opened → Result Extent Refusal → Type 0
Opening o (Ok x) = o ≡ holds x.from x.to
Opening o (Err e) = o ≡ wrong (reason_number e.reason) e.place

-- an item: its value and what follows it, or what is wrong with it
pub data Spelt : Type 0 where
  found : Value → List ℕ → Spelt
  faulty : Fault → Spelt

-- how an item is found at the start of a list: whether it is the first of its telegram, and what is wanted
abbrev pub Find : Type 0
Find = Bool → Want → List ℕ → Spelt

-- the bytes that stand in a telegram as they are: those of a text
abbrev pub verbatim : Value → List ℕ
verbatim (num k v) = []
verbatim (real v) = []
verbatim (text s) = s

-- something, then these bytes, then what follows
abbrev pub Follows : List ℕ → Value → List ℕ → Type 0
Follows bs v rest = (lead : List ℕ) × (bs ≡ lead ++ (verbatim v ++ rest))

-- what is found is what was wanted, and good; what follows it is no longer than all
abbrev pub Fair : Want → List ℕ → Spelt → Type 0
Fair w bs (found v rest) = (want v ≡ w) × Good v × (length rest ≤ length bs)
Fair w bs (faulty e) = Unit {0}

abbrev pub Sound : Find → Type 0
Sound find = (first : Bool) (w : Want) (bs : List ℕ) → Fair w bs (find first w bs)

-- a text that is found stands right before what follows it
abbrev pub Adjoins : List ℕ → Spelt → Type 0
Adjoins bs (found v rest) = Follows bs v rest
Adjoins bs (faulty e) = Unit {0}

abbrev pub Adjoining : Find → Type 0
Adjoining find = (first : Bool) (w : Want) (bs : List ℕ) → Adjoins bs (find first w bs)

-- the answer that finding gives, in a text of which the item's bytes are a part
abbrev pub Finds : List ℕ → Spelt → Result (Item × ℕ) Fault → Type 0
Finds t s (Ok p) = (s ≡ found (value_of p.0) (drop p.1 t)) × (p.1 ≤ length t)
Finds t s (Err e) = s ≡ faulty e

-- a text of a stated length, which stands alike in every spelling
abbrev pub text_of : ℕ → List ℕ → Spelt
text_of n bs = cond (nat_lt (length bs) n) (faulty Cut) (cond (printable (take n bs)) (found (text (take n bs)) (drop n bs)) (faulty Misspelt))

-- an item behind a blank: that the bytes end comes first, then that the blank is missing
abbrev pub barred : Spelt → Spelt
barred (found v rest) = faulty Misspelt
barred (faulty e) = faulty e

abbrev pub blanked : (List ℕ → Spelt) → List ℕ → Spelt
blanked f [] = faulty Cut
blanked f (b ∷ bs) =
    let r : Spelt = f bs in
    cond (b == 32) r (barred r)
