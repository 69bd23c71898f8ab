use Rattle.spelling.proofs.Puts.{puts_puts, puts_room}
use Rattle.cola_b.proofs.items.put_blanked.Goals as goal

pub put_bare-requires : goal.put_bare-requires
put_bare-requires c = puts_room _ c.put_blank.ensures c.requires

pub returns : goal.returns
returns c = puts_puts c.put_blank.ensures c.put_bare.ensures
