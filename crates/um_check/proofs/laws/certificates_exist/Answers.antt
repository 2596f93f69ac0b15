use Rattle.um_check.proofs.CertificatesExist.{solved_have_inverses, refused_have_refutations}
use Rattle.um_check.proofs.laws.certificates_exist.Goals as goal

pub returns : goal.returns
returns c = record { solved = solved_have_inverses; refused = refused_have_refutations }
