use Rattle.um_names.proofs.RecordsFound.{record_has_these_fields, record_is_found}
use Rattle.um_names.proofs.laws.records_by_their_fields.Goals as goal

pub returns : goal.returns
returns c = record { fields = record_has_these_fields; found = record_is_found }
