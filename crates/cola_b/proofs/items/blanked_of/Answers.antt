use Rattle.std.proofs.Common.{rules}
use Rattle.spelling.proofs.Blanks.{blanked_found}
use Rattle.cola_b.specs.Items.{bare}
use Rattle.cola_b.proofs.items.blanked_of.Goals as goal

pub returns : goal.returns
returns c = blanked_found (bare c.args.want) _ (λ bs r k. search rules) c.args.bytes.now _ c.behind_blank.ensures
