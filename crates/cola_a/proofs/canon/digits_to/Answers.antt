use Rattle.std.proofs.Common.{◌≡◌, ◌+◌, ◌-◌, length, take, drop, ap, ◌∙◌, subst, arith}
use borrow.Rule.Slice.PartMut.{put_mid}
use Rattle.std.proofs.lemmas.List.{length-take, length-drop}
use Rattle.spelling.specs.Write.{Put}
use Rattle.spelling.proofs.Puts.{put_mid_lem}
use Rattle.cola_a.specs.Canon.{hexadecimals}
use Rattle.cola_a.specs.Writes.{length_hexadecimals}
use Rattle.cola_a.proofs.canon.digits_to.Goals as goal

pub returns : goal.returns
returns c =
    let long : length (hexadecimals c.args.n c.args.value) ≡ c.args.n = length_hexadecimals c.args.n c.args.value in
    let part : length (take (c.args.at + c.args.n - c.args.at) (drop c.args.at c.args.out.now)) ≡ c.args.n = omega (arith, length-take (c.args.at + c.args.n - c.args.at) (drop c.args.at c.args.out.now), length-drop c.args.at c.args.out.now, c.requires) in
    let same : c.write_digits.new.digits ≡ hexadecimals c.args.n c.args.value = c.write_digits.ensures ∙ ap (λ k. hexadecimals k c.args.value) part in
    subst (λ k. Put c.args.out.now c.args.at (hexadecimals c.args.n c.args.value) (put_mid c.args.at (c.args.at + k - c.args.at) c.args.out.now c.write_digits.new.digits) (c.args.at + k)) long (put_mid_lem c.args.out.now c.write_digits.new.digits (hexadecimals c.args.n c.args.value) c.args.at (omega (arith, long, c.requires)) same)
