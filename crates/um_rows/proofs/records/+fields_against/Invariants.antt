use Rattle.std.proofs.Common.{length}
use Rattle.um_rows.proofs.records.+fields_against.Given as goal

abbrev pub decreases-fields_against : goal.decreases-fields_against
decreases-fields_against l = length l.fields.now
