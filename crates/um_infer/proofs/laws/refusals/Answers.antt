use Rattle.um_infer.proofs.InferenceLaws.{units_stop_at_first_untyped, not_general_stops_at_first_untyped, typed_stop_for_limits}
use Rattle.um_infer.proofs.laws.refusals.Goals as goal

pub returns : goal.returns
returns c = record { untyped = units_stop_at_first_untyped; not_general = not_general_stops_at_first_untyped; typed = typed_stop_for_limits }
