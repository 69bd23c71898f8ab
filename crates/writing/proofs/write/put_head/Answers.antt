use Rattle.std.proofs.Common.{length, ap, subst, [], ◌∷◌, length-append, arith}
use Rattle.telegram.specs.Catalogue.{command, name}
use Rattle.spelling.specs.Output.{Puts}
use Rattle.spelling.proofs.Puts.{puts_puts, puts_room}
use Rattle.writing.proofs.write.put_head.Goals as goal

pub put-requires-2 : goal.put-requires-2
put-requires-2 c =
    puts_room (length c.name.result.now) (puts_puts c.put.ensures c.put_blank.ensures)
    (omega (arith, length-append (command c.args.row) (32 ∷ name c.args.row), length-append c.command.result.now (32 ∷ []), ap length c.command.ensures, ap length c.name.ensures, c.requires))

pub returns : goal.returns
returns c =
    puts_puts (subst (λ w. Puts c.args.out.now w c.put.new.self) c.command.ensures c.put.ensures)
    (puts_puts c.put_blank.ensures (subst (λ w. Puts c.put_blank.new.self w c.put-2.new.self) c.name.ensures c.put-2.ensures))
