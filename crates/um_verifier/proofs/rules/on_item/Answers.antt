use Rattle.std.proofs.Common.{ap, ◌∙◌}
use Rattle.um_verify.specs.StackShape.{StackShape}
use Rattle.um_verify.specs.Rules.{fit_one}
use Rattle.um_verifier.specs.KnownImages.{known_heights, lowered}
use Rattle.um_verifier.specs.Points.{arriving}
use Rattle.um_verifier.proofs.rules.on_item.Goals as goal

pub returns : goal.returns
returns c =
    let p = c.args.point.now in
    c.on_one.ensures ∙ ap (λ (s : StackShape). lowered (known_heights p.known.now) (fit_one p.at (arriving p) s s)) c.of-shape.ensures
