use Rattle.std.proofs.Common.{rules, ◌≡◌, ◌≤◌, length, drop, get_or, ap, ◌∙◌, arith}
use Rattle.framing.specs.Read.{word}
use Rattle.framed.proofs.Heads.{named, word_within}
use Rattle.framed.proofs.read.row_of.Goals as goal

pub returns : goal.returns
returns c =
    let blank : get_or c.args.body.now 3 0 ≡ 32 = search rules in
    let four : 4 ≤ length c.args.body.now = search rules in
    let w = c.word-name.ensures ∙ ap word c.tail.ensures in
    named c.args.body.now c.word-name.result.now c.in_ok-row.row blank w c.in_ok-row.ensures (omega (arith, ap length w, word_within (drop 4 c.args.body.now))) four
