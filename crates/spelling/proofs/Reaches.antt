-- How long a telegram's spelling is at most. Assumes nothing.
use Rattle.std.proofs.Common.{◌≡◌, ℕ, zero, suc, ◌+◌, ◌*◌, ◌≤◌, Bool, true, false, cond, leb, List, [], ◌∷◌, ◌++◌, length, Some, None, Option, refl, mul-le-mul_right, suc-mul, mul-le-mul_left, arith, length-append}
use Rattle.std.proofs.lemmas.Bool.{leb-true}
use Rattle.telegram.specs.declared.item.Want.{Want}
use Rattle.telegram.specs.declared.item.Want.TheVariants.{Number, Real, Text}
use Rattle.telegram.specs.declared.row.Row.{Row}
use Rattle.telegram.specs.declared.row.Row.TheVariants.{SsnScanData, SraScanData, SrnScanData, SenScanData, SeaScanData, SmnRun, SanRun, SmnSetAccessMode, SanSetAccessMode, SmnStoreAll, SanStoreAll, SmnResetOutputs, SanResetOutputs, SrnDeviceState, SraDeviceState, SrnSensorState, SraSensorState, SrnDeviceIdent, SraDeviceIdent, SwnParticle, SwaParticle, SwnMeanFilter, SwaMeanFilter, SwnOneOfN, SwaOneOfN, SwnGate, SwaGate}
use Rattle.telegram.specs.Kind.{bytes}
use Rattle.telegram.specs.Catalogue.{command, name}
use Rattle.telegram.specs.Value.{Value, num, real, text, want, number}
use Rattle.layout.specs.Layout.{Layout, end, item, sized, count, amount, join, times, State, advance, wanted, weight, layout, limit}
use Rattle.layout.specs.Source.{Telegram, When, Fits, Within}
use Rattle.layout.proofs.Times.{falls}
use Rattle.spelling.specs.Canon.{Canon, written}
use Rattle.spelling.specs.Write.{Wrap, Snug, Slim, most, body_of, spelled}
use Rattle.spelling.proofs.Rows.{command_long, name_long}

-- the most bytes of an item that is wanted
abbrev cost : Want → ℕ
cost (Number k) = 1 + 2 * bytes k
cost Real = 9
cost (Text n) = 1 + n

most_cost : (v : Value) → most v ≡ cost (want v)
most_cost (num k v) = refl
most_cost (real v) = refl
most_cost (text s) = refl

-- the most bytes of the items that may come, those of amounts aside
abbrev reach : Layout → ℕ
reach end = 0
reach (item w rest) = cost w + reach rest
reach (sized k top rest) = cost (Number k) + ((1 + top) + reach rest)
reach (count k top part rest) = cost (Number k) + (top * reach part + reach rest)
reach (amount k of rest) = cost (Number k) + reach rest

-- the values of every amount have two bytes at most, so that five are the most that one is written in
abbrev Narrow : Layout → Type 0
Narrow end = Unit {0}
Narrow (item w rest) = Narrow rest
Narrow (sized k top rest) = Narrow rest
Narrow (count k top part rest) = Narrow part × Narrow rest
Narrow (amount k of rest) = (bytes of ≤ 2) × Narrow rest

reach_join : (p q : Layout) → reach (join p q) ≡ reach p + reach q
reach_join end q = omega arith
reach_join (item w p) q = omega (arith, reach_join p q)
reach_join (sized k m p) q = omega (arith, reach_join p q)
reach_join (count k m part p) q = omega (arith, reach_join p q)
reach_join (amount k of p) q = omega (arith, reach_join p q)

reach_times : (n : ℕ) (p q : Layout) → reach (times n p q) ≡ n * reach p + reach q
reach_times zero p q = omega arith
reach_times (suc n) p q = omega (arith, reach_join p (times n p q), reach_times n p q, suc-mul n (reach p))

narrow_join : (p q : Layout) → Narrow p → Narrow q → Narrow (join p q)
narrow_join end q h l = l
narrow_join (item w p) q h l = narrow_join p q h l
narrow_join (sized k m p) q h l = narrow_join p q h l
narrow_join (count k m part p) q h l = (h.0, narrow_join p q h.1 l)
narrow_join (amount k of p) q h l = (h.0, narrow_join p q h.1 l)

narrow_times : (n : ℕ) (p q : Layout) → Narrow p → Narrow q → Narrow (times n p q)
narrow_times zero p q h l = l
narrow_times (suc n) p q h l = narrow_join p (times n p q) h (narrow_times n p q h l)

-- an item of so many bytes leaves room for s, if it comes
abbrev Held : ℕ → ℕ → Option State → Type 0
Held c m None = Unit {0}
Held c m (Some s) = (c + (reach s.todo + 5 * s.room) ≤ m) × Narrow s.todo

held_cond : (c m v top : ℕ) (s : State) → (v ≤ top → Held c m (Some s)) → Held c m (cond (leb v top) (Some s) None)
held_cond c m v top s h =
    let go : (b : Bool) → leb v top ≡ b → Held c m (cond b (Some s) None) = λ b. elim b as (λ b. leb v top ≡ b → Held c m (cond b (Some s) None)) [ true ↦ λ e. h (leb-true v top e) | false ↦ λ e. tt ] in
    go (leb v top) refl

held : (l : Layout) (r v : ℕ) (w : Want) → Narrow l → wanted l ≡ Some w → Held (cost w) (reach l + 5 * r) (advance l r v)
held end r v w n e = tt
held (item x rest) r v w n e = let same : cost x ≡ cost w = cc in (omega arith, n)
held (sized k top rest) r v w n e =
    let same : cost (Number k) ≡ cost w = cc in
    held_cond (cost w) _ v top _ (λ h. (omega arith, n))
held (count k top part rest) r v w n e =
    let same : cost (Number k) ≡ cost w = cc in
    held_cond (cost w) _ v top _ (λ h. (omega (arith, reach_times v part rest, mul-le-mul_right (reach part) h), narrow_times v part rest n.0 n.1))
held (amount k of rest) r v w n e =
    let same : cost (Number k) ≡ cost w = cc in
    let five : reach (item (Number of) end) ≤ 5 = omega (arith, n.0) in
    held_cond (cost w) _ v r _ (λ h. (omega (arith, reach_times v (item (Number of) end) rest, mul-le-mul_left v five), narrow_times v (item (Number of) end) rest tt n.1))

module _ (canon : Canon) (slim : Slim canon) where
  reaches : (first : Bool) (l : Layout) (r : ℕ) (vs : List Value) → Narrow l → Fits l r vs → length (written canon first vs) ≤ reach l + 5 * r
  reaches first l r [] n h = omega arith
  reaches first l r (v ∷ vs) n h =
      let go : (o : Option State) → Held (cost (want v)) (reach l + 5 * r) o → When o (λ s. Fits s.todo s.room vs) → length (written canon first (v ∷ vs)) ≤ reach l + 5 * r =
      λ o. elim o as (λ o. Held (cost (want v)) (reach l + 5 * r) o → When o (λ s. Fits s.todo s.room vs) → length (written canon first (v ∷ vs)) ≤ reach l + 5 * r) [
        | None ↦ λ a b. absurd b
        | Some s ↦ λ a b. omega (arith, reaches false s.todo s.room vs a.1 b, a.0, slim first v h.1, most_cost v, length-append (canon first v) (written canon false vs))
      ] in
      go (advance l r (number v)) (held l r (number v) (want v) n h.0) h.2

-- the layout of every row
bounded : (row : Row) → (reach (layout row) ≤ 2000) × Narrow (layout row)
bounded SsnScanData = (omega arith, (tt, ((omega arith, tt), ((omega arith, tt), (tt, (tt, (tt, (tt, (tt, tt)))))))))
bounded SraScanData = (omega arith, (tt, ((omega arith, tt), ((omega arith, tt), (tt, (tt, (tt, (tt, (tt, tt)))))))))
bounded SrnScanData = (omega arith, tt)
bounded SenScanData = (omega arith, tt)
bounded SeaScanData = (omega arith, tt)
bounded SmnRun = (omega arith, tt)
bounded SanRun = (omega arith, tt)
bounded SmnSetAccessMode = (omega arith, tt)
bounded SanSetAccessMode = (omega arith, tt)
bounded SmnStoreAll = (omega arith, tt)
bounded SanStoreAll = (omega arith, tt)
bounded SmnResetOutputs = (omega arith, tt)
bounded SanResetOutputs = (omega arith, tt)
bounded SrnDeviceState = (omega arith, tt)
bounded SraDeviceState = (omega arith, tt)
bounded SrnSensorState = (omega arith, tt)
bounded SraSensorState = (omega arith, tt)
bounded SrnDeviceIdent = (omega arith, tt)
bounded SraDeviceIdent = (omega arith, tt)
bounded SwnParticle = (omega arith, tt)
bounded SwaParticle = (omega arith, tt)
bounded SwnMeanFilter = (omega arith, tt)
bounded SwaMeanFilter = (omega arith, tt)
bounded SwnOneOfN = (omega arith, tt)
bounded SwaOneOfN = (omega arith, tt)
bounded SwnGate = (omega arith, tt)
bounded SwaGate = (omega arith, tt)

-- every item takes a byte at least, so that there are no more items than bytes are allowed for
weighs : (l : Layout) → weight l ≤ reach l
weighs end = omega arith
weighs (item (Number k) rest) = omega (arith, weighs rest)
weighs (item Real rest) = omega (arith, weighs rest)
weighs (item (Text n) rest) = omega (arith, weighs rest)
weighs (sized k top rest) = omega (arith, weighs rest)
weighs (count k top part rest) = omega (arith, weighs rest, mul-le-mul_left top (weighs part))
weighs (amount k of rest) = omega (arith, weighs rest)

fits_few : (l : Layout) (r : ℕ) (vs : List Value) → Fits l r vs → length vs ≤ weight l + r
fits_few l r [] h = omega arith
fits_few l r (v ∷ vs) h =
    let go : (o : Option State) → advance l r (number v) ≡ o → When o (λ s. Fits s.todo s.room vs) → length (v ∷ vs) ≤ weight l + r =
    λ o. elim o as (λ o. advance l r (number v) ≡ o → When o (λ s. Fits s.todo s.room vs) → length (v ∷ vs) ≤ weight l + r) [
      | None ↦ λ a b. absurd b
      | Some s ↦ λ a b. omega (arith, falls l r (number v) s a, fits_few s.todo s.room vs b)
    ] in
    go (advance l r (number v)) refl h.2

pub items_few : (t : Telegram) → Within t → length t.items ≤ 10192
items_few t h = omega (arith, fits_few (layout t.row) limit t.items h, weighs (layout t.row), (bounded t.row).0)

module _ (canon : Canon) (slim : Slim canon) (t : Telegram) (h : Within t) where
  pub items_short : length (written canon true t.items) ≤ 42960
  items_short = omega (arith, reaches canon slim true (layout t.row) limit t.items (bounded t.row).1 h, (bounded t.row).0)

  pub body_short : length (body_of canon t) ≤ 42977
  body_short =
      omega (arith, items_short, command_long t.row, name_long t.row, length-append (command t.row) (32 ∷ (name t.row ++ written canon true t.items)), length-append (name t.row) (written canon true t.items))

-- a telegram's whole spelling is no longer than what may be read
pub short : (canon : Canon) (wrap : Wrap) → Slim canon → Snug wrap → (t : Telegram) → Within t → length (spelled canon wrap t) ≤ 65536
short canon wrap slim snug t h =
    let b : List ℕ = body_of canon t in
    omega (arith, body_short canon slim t h, snug.little, snug.front_long b, snug.behind_long b, length-append (wrap.front b) (b ++ wrap.behind b), length-append b (wrap.behind b))
