use Rattle.um_proof.proofs.Certified.{certified_over_declared_units, certificates_show_principal_schemes}
use Rattle.um_proof.proofs.laws.certified_schemes.Goals as goal

pub returns-clause-declared : goal.returns-clause-declared
returns-clause-declared c = certified_over_declared_units

pub returns-clause-inferred : goal.returns-clause-inferred
returns-clause-inferred c = certificates_show_principal_schemes c.literals_of_formed_programs.ensures.closed c.equations.ensures.rows c.equations.ensures.types
