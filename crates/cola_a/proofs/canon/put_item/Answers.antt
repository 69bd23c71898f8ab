use Rattle.spelling.proofs.Puts.{puts_puts, puts_room}
use Rattle.cola_a.proofs.canon.put_item.Goals as goal

pub put_letters-requires : goal.put_letters-requires
put_letters-requires c = puts_room _ c.put_blank.ensures c.requires

pub returns : goal.returns
returns c = puts_puts c.put_blank.ensures c.put_letters.ensures
