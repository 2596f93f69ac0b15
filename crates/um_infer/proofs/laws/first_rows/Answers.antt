use Rattle.um_infer.proofs.PrincipalSchemes.{have_schemes}
use Rattle.um_infer.proofs.AnySchemes.{same_first_row, same_solvable}
use Rattle.um_infer.proofs.laws.first_rows.Goals as goal

pub returns-clause-row : goal.returns-clause-row
returns-clause-row c = λ p schemes others i f have also k at.
    (same_first_row p schemes others i f have also k at, same_first_row p others schemes i f also have k at)

pub returns-clause-solvable : goal.returns-clause-solvable
returns-clause-solvable c = λ p schemes others i f have also k.
    (same_solvable p schemes others i f have also k, same_solvable p others schemes i f also have k)

pub returns-clause-untyped : goal.returns-clause-untyped
returns-clause-untyped c = λ p i row at h others principal.
    same_first_row p h.schemes others i h.function (have_schemes p i h.schemes h.principal) (have_schemes p i others principal) row at h.first_row
