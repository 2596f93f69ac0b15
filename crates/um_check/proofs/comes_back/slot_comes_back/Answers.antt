use Rattle.std.proofs.Common.{◌∙◌, sym, subst, to_z, of_z, w64}
use Rattle.std.proofs.lemmas.Int.{to_z-of_z}
use Rattle.um_wide.specs.Room.{IsNarrow}
use Rattle.um_equal_types.specs.Steps.{units_of}
use Rattle.um_check.proofs.YesTests.{slot_judged}
use Rattle.um_check.proofs.comes_back.slot_comes_back.Goals as goal

pub returns-then-not-is_narrow : goal.returns-then-not-is_narrow
returns-then-not-is_narrow c = ((λ g. cc), (λ s. sym c.if-not-is_narrow.true ∙ c.is_narrow.ensures.narrow.1 (subst IsNarrow (sym c.in_ok-over.ensures) s.narrow)))

pub returns : goal.returns
returns c =
    let k = to_z w64 (of_z w64 c.args.divisor) in
    let j = slot_judged (units_of c.args.rows.now) c.args.back.now c.args.slot.now.unit.now c.args.slot.now.number c.args.divisor k c.args.slot.now.parts.now c.in_ok-over.over c.in_ok-power.power c.in_ok-product.product c.in_ok-over.ensures
    (c.is_narrow.ensures.narrow.0 c.if-not-is_narrow.false) (to_z-of_z w64 c.args.divisor c.ranges.divisor) c.in_ok-power.ensures.exact c.in_ok-product.ensures.product in
    ((λ g. j.0 (c.same.ensures.same.0 g)), (λ s. c.same.ensures.same.1 (j.1 s)))
