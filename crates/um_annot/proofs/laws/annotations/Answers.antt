use Rattle.um_annot.proofs.PrincipalNodes.{annotations_are_principal}
use Rattle.um_annot.proofs.laws.annotations.Goals as goal

pub returns : goal.returns
returns c = record { principal = annotations_are_principal }
