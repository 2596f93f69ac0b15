use Rattle.std.proofs.Common.{ap, ◌∙◌, ◌+◌, ◌++◌, ◌∷◌, []}
use Rattle.um_verify.specs.StackShape.{StackShape}
use Rattle.um_verify.specs.Rules.{to}
use Rattle.um_verifier.specs.KnownImages.{known_heights, lowered}
use Rattle.um_verifier.specs.Points.{arriving}
use Rattle.um_verifier.proofs.rules.push_item.Goals as goal

pub returns : goal.returns
returns c =
    let p = c.args.point.now in
    c.pushed.ensures ∙ ap (λ (s : StackShape). lowered (known_heights p.known.now) (to (p.at + 1) (arriving p ++ s ∷ []))) c.of.ensures
