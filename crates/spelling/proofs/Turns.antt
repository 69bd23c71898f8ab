-- The turns of a check: what was passed, and what is still to come. Assumes nothing.
use Rattle.std.proofs.Common.{◌≡◌, ℕ, ◌+◌, ◌<◌, ◌≤◌, true, List, [], length, None, Ok, sym, refl, ap, ◌∙◌, subst}
use Rattle.std.proofs.lemmas.Bool.{lt-ltb, le-ltb}
use Rattle.layout.specs.declared.cursor.Cursor.{Cursor}
use Rattle.telegram.specs.declared.item.Item.{Item}
use Rattle.telegram.specs.declared.item.Placed.{Placed}
use Rattle.telegram.specs.declared.row.Row.{Row}
use Rattle.layout.specs.declared.records.Parts.{Parts}
use Rattle.telegram.specs.declared.refusal.Reason.TheVariants.{Rest}
use Rattle.layout.specs.declared.stage.Progress.{Progress}
use Rattle.telegram.specs.Refusal.{reason_number}
use Rattle.layout.specs.Layout.{layout, is_scan, wanted, weight}
use Rattle.layout.specs.Follow.{todo, stands}
use Rattle.layout.specs.Passing.{Begins, Lands, scanning, no_parts}
use Rattle.layout.specs.Source.{values, Tells}
use Rattle.layout.proofs.Times.{falls}
use Rattle.layout.proofs.Tellings.{Tale, tale_none, turn, told, kept_scan}
use Rattle.spelling.specs.Spell.{Find}
use Rattle.spelling.specs.Walk.{halt, stop, onward}
use Rattle.spelling.specs.Check.{Passed, Stepped, Walks, Checks, over, starting}
use Rattle.spelling.proofs.Walks.{on_end, begun, closed_over, closed_items}

-- a check that began at a cursor has come to another, with the parts so far
pub record Passing (find : Find) (t : List ℕ) (from at : Cursor) (parts : Parts) : Type 0 where
  pub inside : at.place ≤ length t
  pub ending : (onward find t at).ending ≡ (onward find t from).ending
  pub scan : scanning at.progress.stage ≡ scanning from.progress.stage
  pub tale : Tale (scanning from.progress.stage) (todo from.progress.stage) (values (onward find t from).items) (values (onward find t at).items) at.progress.stage at.progress.room parts

module _ (find : Find) (t : List ℕ) (row : Row) (start : ℕ) (p : Progress) (b : Begins row p) where
  abbrev from : Cursor
  from = record { place = start; first = true; progress = p }

  pub passing_none : (parts : Parts) → start ≤ length t → parts ≡ no_parts → Passing find t from from parts
  passing_none parts h e =
      let l : Lands (todo p.stage) (scanning p.stage) p.stage = record { at = refl; nothing_yet = b.lands.nothing_yet; early = b.lands.early; scan = refl } in
      record { inside = h; ending = refl; scan = refl; tale = tale_none (scanning p.stage) (todo p.stage) _ p.stage p.room parts l b.all e }

  begins : onward find t from ≡ starting find row t start
  begins = begun find row t start p b

  module _ (at : Cursor) (parts : Parts) (h : Passing find t from at parts) where
    pub passing_fault : (n place : ℕ) → onward find t at ≡ stop (halt n place) → (starting find row t start).ending ≡ halt n place
    passing_fault n place e = ap (λ w. w.ending) (sym begins) ∙ sym h.ending ∙ ap (λ w. w.ending) e

    pub passing_walks : None ≡ wanted (todo at.progress.stage) → Walks find row t start (Ok (at.place, parts))
    passing_walks w =
        let e = on_end find t at (sym w) in
        let none : values (onward find t at).items ≡ [] = ap (λ w. values w.items) e ∙ ap values (closed_items (length t) _) in
        let tells = told (scanning p.stage) (todo p.stage) (values (onward find t from).items) (values (onward find t at).items) at.progress.stage at.progress.room parts h.scan (sym w) none h.tale in (
          ap (λ w. w.ending) (sym begins) ∙ sym h.ending ∙ ap (λ w. w.ending) e ∙ closed_over t at.place,
          subst (λ x. Tells (is_scan row) (layout row) (values x.items) parts) begins
              (subst (λ x. Tells x (layout row) (values (onward find t from).items) parts) b.lands.scan
              (subst (λ x. Tells (scanning p.stage) x (values (onward find t from).items) parts) b.lands.at tells)),
        )

    pub passing_rest : None ≡ wanted (todo at.progress.stage) → at.place < length t → (starting find row t start).ending ≡ halt (reason_number Rest) at.place
    passing_rest w l = (passing_walks w).0 ∙ ap (over at.place) (lt-ltb at.place (length t) l)

    pub passing_all : None ≡ wanted (todo at.progress.stage) → length t ≤ at.place → Checks find row t start (Ok parts)
    passing_all w l = let all = passing_walks w in (all.0 ∙ ap (over at.place) (le-ltb at.place (length t) l), all.1)

pub passing_more : (find : Find) (t : List ℕ) (from at next : Cursor) (parts after : Parts) → Passing find t from at parts → Passed find t at parts next after → Passing find t from next after
passing_more find t from at next parts after h x =
    let all = values (onward find t from).items in
    let here : values (onward find t at).items ≡ _ = ap (λ w. values w.items) x.on.goes_on in
    record {
      inside = x.on.inside;
      ending = sym (ap (λ w. w.ending) x.on.goes_on) ∙ h.ending;
      scan = kept_scan at.progress.stage _ next.progress.stage x.on.goes ∙ h.scan;
      tale =
          subst (Tale (scanning from.progress.stage) (todo from.progress.stage) all (values (onward find t next).items) next.progress.stage next.progress.room) (sym x.has)
          (turn (todo from.progress.stage) all (values (onward find t next).items) at.progress.room next.progress.room parts next.progress.stage (scanning from.progress.stage) at.progress.stage x.item.value h.scan x.on.asked x.on.stepped x.on.goes
          (subst (λ l. Tale (scanning from.progress.stage) (todo from.progress.stage) all l at.progress.stage at.progress.room parts) here h.tale));
    }

pub stepped_less : (find : Find) (t : List ℕ) (at next : Cursor) (item : Placed Item) → Stepped find t at item next → weight (todo next.progress.stage) + next.progress.room < weight (todo at.progress.stage) + at.progress.room
stepped_less find t at next item x = falls (todo at.progress.stage) at.progress.room _ (stands next.progress) x.stepped
