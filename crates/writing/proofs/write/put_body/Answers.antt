use Rattle.std.proofs.Common.{◌≡◌, ℕ, ◌-◌, true, ◌∷◌, ◌++◌, length, sym, ap, ◌∙◌, subst, arith}
use Rattle.std.proofs.lemmas.List.{take_all}
use Rattle.telegram.specs.Catalogue.{command, name}
use Rattle.layout.specs.Passing.{parts_items}
use Rattle.layout.specs.Source.{Telegram}
use Rattle.spelling.specs.Canon.{written}
use Rattle.spelling.specs.Output.{Puts}
use Rattle.spelling.proofs.Puts.{puts_puts, puts_room}
use Rattle.writing.proofs.Wholes.{headed, body_joined, body_long, told_labelled, told_few, told_split, told_long}
use Rattle.writing.proofs.write.put_body.Goals as goal

pub overflow_sub-lead : goal.overflow_sub-lead
overflow_sub-lead g c =
    let t : Telegram = g.T.Source.telegram c.args.telling.now.telegram.now in
    omega (arith, told_few t c.args.telling.now.parts c.row-row.result c.row-row.ensures c.if-is_scan.ensures c.args.telling.now.told, c.count.ensures, c.requires.counted)

pub put_items-requires : goal.put_items-requires
put_items-requires g c =
    let t : Telegram = g.T.Source.telegram c.args.telling.now.telegram.now in
    let lead : c.args.items - c.count.result ≡ length t.items - length (parts_items c.args.telling.now.parts) = omega (arith, c.count.ensures, c.requires.counted) in
    let long = told_long t c.args.telling.now.parts c.row-row.result c.row-row.ensures c.if-is_scan.ensures c.args.telling.now.told g.S.Spelling.canon (c.args.items - c.count.result) lead in
    let left = puts_room (length (written g.S.Spelling.canon true t.items)) c.put_head.ensures (omega (arith, ap (λ r. length (command r ++ (32 ∷ name r))) c.row-row.ensures, body_long g.S.Spelling.canon t, c.requires.room)) in
    omega (arith, left, long)

pub put_parts-requires : goal.put_parts-requires
put_parts-requires g c =
    let t : Telegram = g.T.Source.telegram c.args.telling.now.telegram.now in
    let lead : c.args.items - c.count.result ≡ length t.items - length (parts_items c.args.telling.now.parts) = omega (arith, c.count.ensures, c.requires.counted) in
    let long = told_long t c.args.telling.now.parts c.row-row.result c.row-row.ensures c.if-is_scan.ensures c.args.telling.now.told g.S.Spelling.canon (c.args.items - c.count.result) lead in
    let left = puts_room (length (written g.S.Spelling.canon true t.items)) c.put_head.ensures (omega (arith, ap (λ r. length (command r ++ (32 ∷ name r))) c.row-row.ensures, body_long g.S.Spelling.canon t, c.requires.room)) in
    (record { labelled = told_labelled t c.args.telling.now.parts c.args.telling.now.within c.args.telling.now.told; room = puts_room _ c.put_items.ensures (omega (arith, left, long)) })

pub put_items-requires-else-is_scan : goal.put_items-requires-else-is_scan
put_items-requires-else-is_scan g c =
    let t : Telegram = g.T.Source.telegram c.args.telling.now.telegram.now in
    let left = puts_room (length (written g.S.Spelling.canon true t.items)) c.put_head.ensures (omega (arith, ap (λ r. length (command r ++ (32 ∷ name r))) c.row-row.ensures, body_long g.S.Spelling.canon t, c.requires.room)) in
    omega (arith, left, ap (λ vs. length (written g.S.Spelling.canon true vs)) (take_all c.args.items t.items (omega (arith, c.requires.counted))))

pub returns-then-is_scan : goal.returns-then-is_scan
returns-then-is_scan g c =
    let t : Telegram = g.T.Source.telegram c.args.telling.now.telegram.now in
    let n : ℕ = c.args.items - c.count.result in
    let lead : n ≡ length t.items - length (parts_items c.args.telling.now.parts) = omega (arith, c.count.ensures, c.requires.counted) in
    let head : Puts c.args.out.now (headed g.S.Spelling.canon t) c.put_head.new.out = subst (λ r. Puts c.args.out.now (command r ++ (32 ∷ name r)) c.put_head.new.out) c.row-row.ensures c.put_head.ensures in
    subst (λ w. Puts c.args.out.now w c.put_parts.new.out) (ap (λ w. headed g.S.Spelling.canon t ++ w) (sym (told_split t c.args.telling.now.parts c.row-row.result c.row-row.ensures c.if-is_scan.ensures c.args.telling.now.told g.S.Spelling.canon n lead)) ∙ body_joined g.S.Spelling.canon t)
    (puts_puts head (puts_puts c.put_items.ensures c.put_parts.ensures))

pub returns-else-is_scan : goal.returns-else-is_scan
returns-else-is_scan g c =
    let t : Telegram = g.T.Source.telegram c.args.telling.now.telegram.now in
    let head : Puts c.args.out.now (headed g.S.Spelling.canon t) c.put_head.new.out = subst (λ r. Puts c.args.out.now (command r ++ (32 ∷ name r)) c.put_head.new.out) c.row-row.ensures c.put_head.ensures in
    subst (λ w. Puts c.args.out.now w c.put_items-else-is_scan.new.out) (ap (λ vs. headed g.S.Spelling.canon t ++ written g.S.Spelling.canon true vs) (take_all c.args.items t.items (omega (arith, c.requires.counted))) ∙ body_joined g.S.Spelling.canon t)
    (puts_puts head c.put_items-else-is_scan.ensures)
