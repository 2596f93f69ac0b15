use Rattle.std.proofs.Common.{◌∙◌}
use Rattle.um_verify.specs.Rules.{fit_two}
use Rattle.um_verifier.specs.KnownImages.{known_heights, lowered}
use Rattle.um_verifier.specs.Points.{arriving}
use Rattle.um_verifier.proofs.rules.on_numbers.Goals as goal

pub returns : goal.returns
returns c =
    let p = c.args.point.now in
    c.on_two.ensures ∙ (λ i. lowered (known_heights p.known.now) (fit_two p.at (arriving p) (c.of-number.ensures i) (c.of.ensures i)))
