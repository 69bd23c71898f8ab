use Rattle.std.proofs.Common.{sym, refl, ap, ◌∙◌, subst}
use Rattle.layout.specs.declared.stage.Stage.TheVariants.{Optional}
use Rattle.layout.specs.Layout.{advance}
use Rattle.layout.specs.Follow.{todo}
use Rattle.layout.specs.Passing.{Goes, Reaches}
use Rattle.layout.proofs.Onwards.{arrived, onward_ways}
use Rattle.layout.proofs.stage.Progress.next.Goals as goal

pub returns-in_ok-next-in-Optional : goal.returns-in_ok-next-in-Optional
returns-in_ok-next-in-Optional c =
    let o = c.in-Optional.stage in
    let q = c.in_ok-next-in-Optional.field-0 in
    let v = c.args.value in
    let r = c.args.self.room in (
      ap (λ s. advance (todo s) r v) c.in-Optional.is ∙ onward_ways o r v ∙ ap (arrived r) (sym c.in_ok-next-in-Optional.ensures),
      subst (λ s. Goes s v (Optional q)) (sym c.in-Optional.is) (subst (λ x. Reaches x (Optional q)) c.in_ok-next-in-Optional.ensures refl),
    )
