-- Digits of a number, hexadecimal and decimal alike. Assumes nothing.
use Rattle.std.specs.Prelude.{◌≡◌, ℕ, ◌+◌, ◌-◌, ◌*◌, ◌<◌, ◌≤◌, false, cond, ◌&&◌, List, [], ◌∷◌, length, drop, Ok, Err, Result, ◌==◌, ◌≢◌, nat_le, nat_lt}
use Rattle.telegram.specs.declared.refusal.Fault.{Fault}
use Rattle.telegram.specs.declared.refusal.Fault.TheVariants.{Misspelt}
use Rattle.cola_a.specs.declared.digits.Base.{Base}
use Rattle.cola_a.specs.declared.digits.Base.TheVariants.{Ten, Sixteen}
use Rattle.cola_a.specs.declared.digits.Glyph.{Glyph}
use Rattle.cola_a.specs.declared.digits.Glyph.TheVariants.{Digit, Blank}
use Rattle.cola_a.specs.declared.digits.Digits.{Digits}

-- the number that a digit stands for, 0 to 9 and A to F, and 16 for any other byte
abbrev pub digit : ℕ → ℕ
digit c = cond (nat_le 48 c && nat_le c 57) (c - 48) (cond (nat_le 65 c && nat_le c 70) (c - 55) 16)

-- how many digits a base has
abbrev pub radix : Base → ℕ
radix Ten = 10
radix Sixteen = 16

-- a run of digits: how many, their number, and what follows; or a byte that does not belong there
pub data Run : Type 0 where
  ran : ℕ → ℕ → List ℕ → Run
  broken : Run

-- digits of a base up to the next blank or the end, at most `most`; n of them, with the number v, came before
abbrev pub run : ℕ → ℕ → ℕ → ℕ → List ℕ → Run
run base most n v [] = ran n v []
run base most n v (c ∷ cs) =
    let more : Run = run base most (n + 1) (v * base + digit c) cs in
    cond (c == 32) (ran n v (c ∷ cs)) (cond (nat_lt (digit c) base && nat_lt n most) more broken)

-- what a byte is after n digits of a base: one more, the blank behind them, or neither
abbrev pub Says : ℕ → ℕ → ℕ → ℕ → Result Glyph Fault → Type 0
Says base most n c (Ok (Digit d)) = (c ≢ 32) × (d ≡ digit c) × (d < base) × (n < most)
Says base most n c (Ok Blank) = c ≡ 32
Says base most n c (Err e) = (e ≡ Misspelt) × (c ≢ 32) × ((nat_lt (digit c) base && nat_lt n most) ≡ false)

-- the answer that reading the run at the start of bytes gives
abbrev pub Runs : List ℕ → Run → Result Digits Fault → Type 0
Runs bs r (Ok d) = (r ≡ ran d.count d.value (drop d.count bs)) × (d.count ≤ length bs)
Runs bs r (Err e) = (e ≡ Misspelt) × (r ≡ broken)
