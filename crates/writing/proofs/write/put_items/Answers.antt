use Rattle.std.proofs.Common.{rules, ◌+◌, ◌^◌, ◌<◌, eqb, ap, sym, arith, inl}
use Rattle.std.proofs.lemmas.Bool.{ne_eqb}
use Rattle.telegram.specs.Value.{value_of}
use Rattle.layout.specs.Source.{values}
use Rattle.writing.proofs.Fillings.{filling_as, filling_room, filling_more, filling_all, take_one, take_none}
use Rattle.writing.proofs.write.put_items.Goals as goal

pub put-requires : goal.put-requires
put-requires g c =
    let steps = c.in-Some.ensures.steps in
    filling_room _ _ _ _ _ (value_of c.in-Some.item.value) _ _ (filling_as (ap (λ i. eqb i 0) (sym steps.1)) c.loop-i.invariant.3) (take_one c.loop-i.i-iterator.iter.n c.next.new.self.iter.n _ _ _ steps.0.1 (ap values steps.0.0)) c.requires

pub loop-i-preserved : goal.loop-i-preserved
loop-i-preserved g c =
    let steps = c.in-Some.ensures.steps in
    let small : c.next.new.self.count + c.next.new.self.iter.n < 2 ^ 64 = omega (arith, steps.0.1, steps.2, c.loop-i.invariant.2) in
    let filling =
    filling_more _ _ _ _ _ (value_of c.in-Some.item.value) _ _ (filling_as (ap (λ i. eqb i 0) (sym steps.1)) c.loop-i.invariant.3) (take_one c.loop-i.i-iterator.iter.n c.next.new.self.iter.n _ _ _ steps.0.1 (ap values steps.0.0)) _ c.put.ensures in
    ((tt, tt, inl (search rules)), tt, small, filling_as (sym (ne_eqb c.next.new.self.count 0 (λ e. omega (arith, steps.2)))) filling)

pub returns : goal.returns
returns g c = filling_all _ _ _ _ _ _ c.loop-i.invariant.3 (take_none c.loop-i.i-iterator.iter.n _ (λ h. ap values (c.in-None.ensures.steps.0 h).0))
