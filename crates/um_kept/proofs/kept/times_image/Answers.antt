use Rattle.std.proofs.Common.{◌≡◌, ap, subst, ◌∙◌}
use Rattle.std.specs.Prelude.{MatchResult}
use Rattle.um_units.specs.PowerMap.{PowerMap, mul}
use Rattle.um_units.proofs.Group.{pow-one}
use Rattle.um_kept.specs.Answers.{CarriesPower}
use Rattle.um_kept.proofs.kept.times_image.Goals as goal

pub returns : goal.returns
returns c =
    let product = c.in_ok-product.ensures.exact ∙ ap (λ v. mul v c.args.image.now) (c.in_ok-own.ensures.exact ∙ pow-one c.args.unit.now) in
    subst (λ (v : PowerMap). MatchResult c.unit_of.result (λ made. made ≡ v) (CarriesPower 2147483647 v)) product c.unit_of.ensures
