use Rattle.std.proofs.Common.{◌≡◌, ap, ◌∙◌}
use Rattle.std.proofs.lemmas.Result.{IfOk-weaker}
use Rattle.um_units.specs.PowerMap.{PowerMap, inv, replace, nth}
use Rattle.um_units.proofs.Replacement.{replace-inv}
use Rattle.um_elim.proofs.VariablesKept.{unit_all}
use Rattle.um_rows.specs.Generalised.{generalised_unit}
use Rattle.um_kept.proofs.kept.inverse_image.Goals as goal

pub generalised_unit-requires-clause-variables : goal.generalised_unit-requires-clause-variables
generalised_unit-requires-clause-variables c = unit_all c.args.head.slots c.args.unit.now c.requires.below

pub returns-clause-exact : goal.returns-clause-exact
returns-clause-exact c =
    let bs = c.args.back.now in
    let h = c.args.head in
    let u = generalised_unit h.bases h.parameters h.slots c.args.unit.now in
    IfOk-weaker c.replaced.result (λ (image : PowerMap). image ≡ replace (nth bs) c.in_ok-inverse.inverse) (λ (image : PowerMap). image ≡ inv (replace (nth bs) u))
    (λ image e. e ∙ ap (replace (nth bs)) (c.in_ok-inverse.ensures.exact ∙ ap inv c.in_ok-in_place.ensures) ∙ replace-inv (nth bs) u) c.replaced.ensures.exact
