use Rattle.um_proof.proofs.CertifiedTypings.{certified_schemes_are_principal, refuted_functions_have_no_typing}
use Rattle.um_proof.proofs.laws.certified_typings.Goals as goal

pub returns : goal.returns
returns c = record { principal = certified_schemes_are_principal; none = refuted_functions_have_no_typing }
