use Rattle.std.proofs.Common.{sym, ap, ◌∙◌, subst}
use Rattle.layout.specs.Source.{Pulled}
use Rattle.spelling.specs.Walk.{left}
use Rattle.spelling.proofs.Walks.{on_end, closed_items}
use Rattle.spelling.proofs.walk.next.Goals as goal

pub returns-in_err-want : goal.returns-in_err-want
returns-in_err-want g c =
    subst (Pulled (left g.S.Spelling.finds c.args.text.now) c.args.at) (sym c.from_residual.ensures)
    (ap (λ w. w.items) (on_end g.S.Spelling.finds c.args.text.now c.args.at (sym c.in_err-want.ensures)) ∙ closed_items _ _)
