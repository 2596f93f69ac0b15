use Rattle.std.proofs.Common.{◌∙◌, sym}
use Rattle.um_check.proofs.ApartTests.{apart_from, slots_by, base_by}
use Rattle.um_check.proofs.refutation.is_apart.Goals as goal

pub returns-then-slots_are_divided : goal.returns-then-slots_are_divided
returns-then-slots_are_divided c =
    let d = c.args.congruence.now in
    let ws = c.terms-terms.result.now in
    let e = c.terms-terms.ensures.terms in (
      (λ g. apart_from d.modulus d.proper d.bases d.parameters d.product.now ws e (sym c.slots_are_divided.ensures ∙ c.if-slots_are_divided.true) (sym c.base_unit_is_left.ensures ∙ g)),
      (λ a. c.base_unit_is_left.ensures ∙ base_by d.modulus d.proper d.bases d.parameters d.product.now ws e a),
    )

pub returns-else-slots_are_divided : goal.returns-else-slots_are_divided
returns-else-slots_are_divided c =
    let d = c.args.congruence.now in
    let ws = c.terms-terms.result.now in
    let e = c.terms-terms.ensures.terms in ((λ g. cc), (λ a. c.slots_are_divided.ensures ∙ slots_by d.modulus d.proper d.bases d.parameters d.product.now ws e a))
