use Rattle.um_proof.proofs.Inferred.{rows_hold_declared_units, types_hold_declared_units, schemes_hold_declared_units, rows_are_few}
use Rattle.um_proof.proofs.laws.equations.Goals as goal

pub returns : goal.returns
returns c = record { rows = rows_hold_declared_units; types = types_hold_declared_units; schemes = schemes_hold_declared_units; few = rows_are_few }
