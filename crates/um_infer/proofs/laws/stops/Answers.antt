use Rattle.um_infer.proofs.InferenceLaws.{slot_stops_are_exact, range_stops_are_exact, unit_stops_are_exact, not_general_stops_are_exact}
use Rattle.um_infer.proofs.ManySlots.{many_slots_are_counted}
use Rattle.um_infer.proofs.laws.stops.Goals as goal

pub returns : goal.returns
returns c = record { slots = slot_stops_are_exact; range = range_stops_are_exact; units = unit_stops_are_exact; not_general = not_general_stops_are_exact; counted = many_slots_are_counted }
