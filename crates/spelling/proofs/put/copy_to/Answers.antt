use Rattle.spelling.proofs.Puts.{put_mid_lem}
use Rattle.spelling.proofs.put.copy_to.Goals as goal

pub returns : goal.returns
returns c = put_mid_lem c.args.out.now _ _ c.args.at c.requires c.copy_from_slice.ensures.after
