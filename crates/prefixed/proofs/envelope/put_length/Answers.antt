use Rattle.std.proofs.Common.{◌≡◌, ℕ, ◌-◌, List, ◌++◌, length, take, drop, refl, ap, ◌∙◌, arith}
use Rattle.std.proofs.lemmas.List.{length-take, length-drop}
use Rattle.spelling.specs.Canon.{fixed}
use Rattle.spelling.specs.Write.{Put}
use Rattle.spelling.proofs.Digitals.{two_bytes}
use Rattle.spelling.proofs.Puts.{put_is, put_nothing, enclosed_by}
use Rattle.prefixed.specs.Envelope.{wrap_prefixed}
use Rattle.prefixed.proofs.envelope.put_length.Goals as goal

pub returns : goal.returns
returns c =
    let old : List ℕ = c.args.out.now in
    let long : c.args.to - 2 ≡ length (take (c.args.to - 2) (drop 2 old)) = omega (arith, length-take (c.args.to - 2) (drop 2 old), length-drop 2 old, c.requires.room) in
    let new : List ℕ = c.copy_from_slice.new.self ++ drop 2 old in
    let written : c.copy_from_slice.new.self ≡ fixed 256 2 (length (take (c.args.to - 2) (drop 2 old))) = c.copy_from_slice.ensures.after ∙ c.to_be_bytes.ensures ∙ two_bytes (c.args.to - 2) ∙ ap (fixed 256 2) long in
    let put : Put old 0 (fixed 256 2 (length (take (c.args.to - 2) (drop 2 old)))) new 2 = put_is old new _ 0 2 refl (omega (arith, c.requires.room, c.requires.front)) (ap (λ l. l ++ drop 2 old) written) in
    enclosed_by wrap_prefixed old new new c.args.to 2 c.args.to c.requires.front refl refl put (put_nothing new c.args.to)
