-- A telegram's body from its head, its first items and its optional parts. Assumes nothing.
use Rattle.std.proofs.Common.{◌≡◌, ℕ, ◌+◌, ◌-◌, ◌≤◌, Bool, true, false, eqb, List, [], ◌∷◌, ◌++◌, length, take, Some, None, Option, sym, ap, ◌∙◌, subst, append_assoc, arith, length-append, Bor}
use Rattle.std.specs.List.{AllByRecursion}
use Rattle.std.proofs.lemmas.List.{take_at}
use Rattle.std.proofs.Math.Logic.{∥∥₁_elim, ∥∥₁_map₂}
use Rattle.std.proofs.Props.{props}
use Rattle.std.specs.Coded.{×_prop, Unit-prop, le_prop}
use Rattle.telegram.specs.declared.row.Row.{Row}
use Rattle.telegram.specs.Catalogue.{command, name}
use Rattle.telegram.specs.Value.{Value, number, Good}
use Rattle.layout.specs.declared.records.Parts.{Parts}
use Rattle.layout.specs.Layout.{Layout, State, advance, layout, limit, is_scan}
use Rattle.layout.specs.Passing.{position_items, label_items, parts_items}
use Rattle.layout.specs.Source.{Telegram, When, Fits, Within, EndsIn, Tells, Told}
use Rattle.spelling.specs.Canon.{Canon, written}
use Rattle.spelling.specs.Write.{Wrap, Slim, Snug, body_of, spelled}
use Rattle.spelling.proofs.Reaches.{items_few, items_short, short}
use Rattle.writing.specs.Parts.{Sized, Labelled}
use Rattle.writing.proofs.Fillings.{written_behind}

module _ (canon : Canon) (t : Telegram) where
  abbrev pub headed : List ℕ
  headed = command t.row ++ (32 ∷ name t.row)

  pub body_joined : headed ++ written canon true t.items ≡ body_of canon t
  body_joined = append_assoc (command t.row) (32 ∷ name t.row) (written canon true t.items)

  pub body_long : length (body_of canon t) ≡ length headed + length (written canon true t.items)
  body_long = ap length (sym body_joined) ∙ length-append headed (written canon true t.items)

-- the items before the optional parts are as many as there are without them
pub split : (canon : Canon) (l : Layout) (vs : List Value) (p : Parts) (n : ℕ) → EndsIn l vs p → n ≡ length vs - length (parts_items p) → written canon true vs ≡ written canon true (take n vs) ++ written canon (eqb n 0) (parts_items p)
split canon l vs p n e is =
    let k : length e.lead ≡ n = omega (arith, ap length e.all, length-append e.lead (parts_items p)) in
    let front : take n vs ≡ e.lead = ap (take n) e.all ∙ take_at e.lead (parts_items p) n k in
    ap (written canon true) e.all
    ∙ written_behind canon e.lead (parts_items p)
    ∙ ap (λ x. written canon true x ++ written canon (eqb (length e.lead) 0) (parts_items p)) (sym front)
    ∙ ap (λ x. written canon true (take n vs) ++ written canon (eqb x 0) (parts_items p)) k

pub split_few : (l : Layout) (vs : List Value) (p : Parts) → EndsIn l vs p → length (parts_items p) ≤ length vs
split_few l vs p e = omega (arith, ap length e.all, length-append e.lead (parts_items p))

-- Every item of a telegram is good; so are the lengths of its texts.

fits_good : (l : Layout) (r : ℕ) (vs : List Value) → Fits l r vs → AllByRecursion Good vs
fits_good l r [] h = tt
fits_good l r (v ∷ vs) h =
    let go : (o : Option State) → When o (λ s. Fits s.todo s.room vs) → AllByRecursion Good vs = λ o. elim o as (λ o. When o (λ s. Fits s.todo s.room vs) → AllByRecursion Good vs) [ None ↦ λ b. absurd b | Some s ↦ λ b. fits_good s.todo s.room vs b ] in
    (h.1, go (advance l r (number v)) h.2)

all_right : (xs ys : List Value) → AllByRecursion Good (xs ++ ys) → AllByRecursion Good ys
all_right [] ys h = h
all_right (x ∷ xs) ys h = all_right xs ys h.1

label_sized : (o : Option (Bor (List ℕ))) (ws : List Value) → AllByRecursion Good (label_items o ++ ws) → Sized o
label_sized None ws h = tt
label_sized (Some s) ws h = h.1.0

parts_labelled : (p : Parts) → AllByRecursion Good (parts_items p) → Labelled p
parts_labelled p h =
    let a = all_right (position_items p.position) _ h in
    let b = all_right (label_items p.name) _ a in
    (label_sized p.name _ a, label_sized p.comment _ b)

tells_labelled : (b : Bool) (l : Layout) (vs : List Value) (p : Parts) → AllByRecursion Good vs → Tells b l vs p → Labelled p
tells_labelled true l vs p h e = parts_labelled p (all_right e.lead (parts_items p) (subst (AllByRecursion Good) e.all h))
tells_labelled false l vs p h e = subst Labelled (sym e) (tt, tt)

sized_prop : (o : Option (Bor (List ℕ))) → IsProp (Sized o)
sized_prop None = Unit-prop
sized_prop (Some s) = le_prop

pub told_labelled : (t : Telegram) (p : Parts) → ∥ Within t ∥₁ → ∥ Told t p ∥₁ → Labelled p
told_labelled t p h e =
    ∥∥₁_elim (∥∥₁_map₂ h e (λ w x. tells_labelled (is_scan t.row) (layout t.row) t.items p (fits_good (layout t.row) limit t.items w) x)) (×_prop (sized_prop p.name) (sized_prop p.comment)) (λ l. l)

pub scan_ends : (t : Telegram) (p : Parts) (row : Row) → row ≡ t.row → true ≡ is_scan row → Told t p → EndsIn (layout t.row) t.items p
scan_ends t p row e s h = subst (λ b. Tells b (layout t.row) t.items p) (sym (s ∙ ap is_scan e)) h

-- what is told of scan data, as far as its writing goes
module _ (t : Telegram) (p : Parts) (row : Row) (e : row ≡ t.row) (s : true ≡ is_scan row) (h : ∥ Told t p ∥₁) where
  pub told_few : length (parts_items p) ≤ length t.items
  told_few = ∥∥₁_elim h le_prop (λ x. split_few (layout t.row) t.items p (scan_ends t p row e s x))

  module _ (canon : Canon) (n : ℕ) (is : n ≡ length t.items - length (parts_items p)) where
    pub told_split : written canon true t.items ≡ written canon true (take n t.items) ++ written canon (eqb n 0) (parts_items p)
    told_split = ∥∥₁_elim h (Prim.hlevel props) (λ x. split canon (layout t.row) t.items p n (scan_ends t p row e s x) is)

    pub told_long : length (written canon true t.items) ≡ length (written canon true (take n t.items)) + length (written canon (eqb n 0) (parts_items p))
    told_long = ap length told_split ∙ length-append (written canon true (take n t.items)) (written canon (eqb n 0) (parts_items p))

-- how long the whole is
pub whole_long : (canon : Canon) (w : Wrap) → Snug w → (t : Telegram) (row : Row) (bytes : ℕ) → row ≡ t.row → bytes ≡ length (written canon true t.items) → w.before + (length (command row ++ (32 ∷ name row)) + bytes + w.after) ≡ length (spelled canon w t)
whole_long canon w snug t row bytes e is =
    let b : List ℕ = body_of canon t in
    omega (arith, ap (λ r. length (command r ++ (32 ∷ name r))) e, is, body_long canon t, snug.front_long b, snug.behind_long b, length-append (w.front b) (b ++ w.behind b), length-append b (w.behind b))

pub spelled_long : (canon : Canon) (w : Wrap) → Snug w → (t : Telegram) → length (spelled canon w t) ≡ w.before + (length (body_of canon t) + w.after)
spelled_long canon w snug t =
    let b : List ℕ = body_of canon t in
    omega (arith, snug.front_long b, snug.behind_long b, length-append (w.front b) (b ++ w.behind b), length-append b (w.behind b))

-- how little there is of a telegram within the limits
module _ (t : Telegram) (h : ∥ Within t ∥₁) where
  pub few : length t.items ≤ 10192
  few = ∥∥₁_elim h le_prop (items_few t)

  module _ (canon : Canon) (slim : Slim canon) where
    pub items_little : length (written canon true t.items) ≤ 42960
    items_little = ∥∥₁_elim h le_prop (items_short canon slim t)

    pub spelled_little : (w : Wrap) → Snug w → length (spelled canon w t) ≤ 65536
    spelled_little w snug = ∥∥₁_elim h le_prop (short canon w slim snug t)
