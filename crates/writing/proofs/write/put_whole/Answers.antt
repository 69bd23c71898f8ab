use Rattle.std.proofs.Common.{rules, ◌≡◌, ◌∙◌, subst, arith}
use Rattle.layout.specs.Source.{Telegram}
use Rattle.spelling.specs.Write.{Put, body_of, enclosed}
use Rattle.spelling.proofs.Puts.{put_enclosed}
use Rattle.writing.proofs.Wholes.{spelled_long, spelled_little}
use Rattle.writing.proofs.write.put_whole.Goals as goal

pub enclose-requires-clause-short : goal.enclose-requires-clause-short
enclose-requires-clause-short g c =
    let t : Telegram = g.T.Source.telegram c.args.telling.now.telegram.now in
    omega (arith, c.put_body.ensures.put.at, c.margins-before.ensures.before, spelled_long g.S.Spelling.canon g.S.FullSpelling.wrap g.met.S.FullSpelling.snug t, spelled_little t c.args.telling.now.within g.S.Spelling.canon g.met.S.FullSpelling.slim g.S.FullSpelling.wrap g.met.S.FullSpelling.snug)

pub returns : goal.returns
returns g c =
    let t : Telegram = g.T.Source.telegram c.args.telling.now.telegram.now in
    let put = subst (λ p. Put c.args.out.now p (body_of g.S.Spelling.canon t) c.put_body.new.out.bytes.now c.put_body.new.out.at) c.margins-before.ensures.before c.put_body.ensures.put in
    let held : c.enclose.new.out ≡ enclosed g.S.FullSpelling.wrap c.put_body.new.out.bytes.now c.put_body.new.out.at = search rules in
    held
    ∙ put_enclosed g.S.FullSpelling.wrap g.met.S.FullSpelling.snug c.args.out.now c.put_body.new.out.bytes.now (body_of g.S.Spelling.canon t) c.put_body.new.out.at put (omega (arith, c.requires.room, spelled_long g.S.Spelling.canon g.S.FullSpelling.wrap g.met.S.FullSpelling.snug t))
