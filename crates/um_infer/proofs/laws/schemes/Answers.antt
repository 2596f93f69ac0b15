use Rattle.um_infer.proofs.InferenceLaws.{given_schemes_are_principal, schemes_are_given_to_typed}
use Rattle.um_infer.proofs.SmallSchemes.{given_schemes_are_small}
use Rattle.um_infer.proofs.laws.schemes.Goals as goal

pub returns : goal.returns
returns c = record { principal = given_schemes_are_principal; exact = schemes_are_given_to_typed; small = given_schemes_are_small }
