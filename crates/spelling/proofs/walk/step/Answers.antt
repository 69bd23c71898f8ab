use Rattle.std.proofs.Common.{rules, drop, ◌≡◌, ◌+◌, Some, None, sym, ap, ◌∙◌, subst}
use Rattle.std.proofs.lemmas.Result.{err_from_is_err_and}
use Rattle.telegram.specs.Value.{value_of}
use Rattle.layout.specs.Layout.{wanted, advance}
use Rattle.layout.specs.Follow.{todo}
use Rattle.layout.specs.Passing.{Goes, Steps}
use Rattle.spelling.specs.Walk.{stop, halt}
use Rattle.spelling.proofs.Walks.{on_refusal, on_unfit, on_more, behind, behind_inside, fair_want, fair_fits}
use Rattle.spelling.proofs.walk.step.Goals as goal

pub returns-in_err-value : goal.returns-in_err-value
returns-in_err-value g c =
    let p = err_from_is_err_and c.from_residual.result c.from_residual.ensures.1 in
    rw (p.1, p.2) (on_refusal g.S.Spelling.finds c.args.text.now c.args.at c.args.want c.requires.asked c.requires.inside _ c.in_err-value.ensures)

pub returns-in_err-progress : goal.returns-in_err-progress
returns-in_err-progress g c =
    let p = err_from_is_err_and c.from_residual-in_err-progress.result c.from_residual-in_err-progress.ensures.1 in
    let n : c.next.result ≡ None = search rules in
    let found = behind c.args.text.now c.args.at.place c.in_ok-value.taken (value_of c.in_ok-value.value) _ c.in_ok-value.ensures.0 in
    let unfit = on_unfit g.S.Spelling.finds c.args.text.now c.args.at c.args.want c.requires.asked c.requires.inside _ _ c.number.result found c.number.ensures (subst (Steps c.args.at.progress c.number.result) n c.next.ensures) in
    let why : p.0 ≡ c.at.result = search rules in
    rw (p.1, why, c.at.ensures) unfit

pub returns : goal.returns
returns g c =
    let n : c.next.result ≡ Some c.in_ok-progress.progress = search rules in
    let f = c.in_ok-value.ensures in
    let i = c.in_ok-value.value in
    let p = c.args.at.progress in
    let q = c.in_ok-progress.progress in
    let found = behind c.args.text.now c.args.at.place c.in_ok-value.taken (value_of i) _ f.0 in
    let inside = behind_inside c.args.text.now c.args.at.place c.in_ok-value.taken c.requires.inside f.1 in
    let goes = subst (Steps p c.number.result) n c.next.ensures in
    let sound = g.met.S.Spelling.sound c.args.at.first c.args.want (drop c.args.at.place c.args.text.now) in
    record {
      goes_on = on_more g.S.Spelling.finds c.args.text.now c.args.at c.args.want c.requires.asked c.requires.inside (value_of i) (c.args.at.place + c.in_ok-value.taken) q c.number.result found inside c.number.ensures goes.0;
      inside = inside;
      asked = fair_want c.args.want _ (value_of i) _ _ (wanted (todo p.stage)) sound f.0 c.requires.asked;
      fits = fair_fits c.args.want _ (value_of i) _ _ (wanted (todo p.stage)) sound f.0 c.requires.asked;
      stepped = ap (advance (todo p.stage) p.room) (sym c.number.ensures) ∙ goes.0;
      goes = subst (λ x. Goes p.stage x q.stage) c.number.ensures goes.1;
    }
