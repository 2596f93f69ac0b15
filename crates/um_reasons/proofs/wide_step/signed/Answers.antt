use Rattle.std.proofs.Common.{◌≡◌, ◌∙◌, ap, subst, to_z, of_z, w64}
use Rattle.std.specs.Int.{w128}
use Rattle.std.specs.Prelude.{IfOk}
use Rattle.std.proofs.lemmas.Int.{to_z-of_z}
use Rattle.um_units.specs.PowerMap.{PowerMap, pow}
use Rattle.um_reasons.specs.Wide.{sign_of}
use Rattle.um_reasons.proofs.WideProducts.{signed_is}
use Rattle.um_reasons.proofs.wide_step.signed.Goals as goal

pub returns-clause-exact : goal.returns-clause-exact
returns-clause-exact c =
    let sign : to_z w64 (of_z w64 c.sign_of-sign.result) ≡ sign_of c.args.power =
    to_z-of_z w64 c.sign_of-sign.result (record { sfits = c.sign_of-sign.type_inv }) ∙ c.sign_of-sign.ensures ∙ ap sign_of (to_z-of_z w128 c.args.power c.ranges.power) in
    subst (λ (u : PowerMap). IfOk c.narrowed.result (λ made. made ≡ u))
    (c.in_ok-made.ensures.exact ∙ ap (pow c.args.unit.now) sign ∙ signed_is c.args.power c.args.unit.now)
    c.narrowed.ensures.exact
