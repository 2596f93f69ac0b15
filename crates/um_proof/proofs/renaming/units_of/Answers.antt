use Rattle.std.proofs.Common.{◌<◌, ◌++◌, [], ◌∷◌, length, get_or, take, sym, ap, ◌∙◌, arith}
use Rattle.std.proofs.lemmas.List.{take_more}
use Rattle.um_units.specs.PowerMap.{one}
use Rattle.um_proof.proofs.WayBackSteps.{number_at, numbers_long}
use Rattle.um_proof.proofs.renaming.units_of.Goals as goal

pub unit_of_type-requires : goal.unit_of_type-requires
unit_of_type-requires c =
    let us = c.requires.0 in
    (get_or us c.loop-ty.ty-index one, number_at c.args.types.now us c.loop-ty.ty-index c.ty-item.result c.requires.1 c.loop-ty-test.true c.ty-item.is)

pub loop-ty-preserved : goal.loop-ty-preserved
loop-ty-preserved c = λ us e.
    let i = c.loop-ty.ty-index in
    let low = c.loop-ty-test.true in
    let long = numbers_long c.args.types.now us e in
    let inside : i < length us = omega (arith, low, long) in
    let made = c.in_ok-unit_of_type.ensures (get_or us i one) (number_at c.args.types.now us i c.ty-item.result e low c.ty-item.is) in
    c.in_ok-push.ensures.items ∙ ap (λ xs. xs ++ c.in_ok-unit_of_type.field-0 ∷ []) (c.loop-ty.invariant us e) ∙ ap (λ u. take i us ++ u ∷ []) made ∙ sym (take_more us i one inside)
