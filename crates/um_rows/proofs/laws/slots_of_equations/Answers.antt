use Rattle.um_rows.proofs.Solved.{rows_hold_slots, types_hold_slots}
use Rattle.um_rows.proofs.NodesBelow.{nodes_hold_slots}
use Rattle.um_rows.proofs.laws.slots_of_equations.Goals as goal

pub returns : goal.returns
returns c = record { rows = rows_hold_slots; types = types_hold_slots; nodes = nodes_hold_slots }
