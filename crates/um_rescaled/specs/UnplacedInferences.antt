-- What the inference of a program comes to, without the place at which it stops.
-- Source: this project's own.
use Rattle.um_infer.specs.Inference.{Inference, all_schemes, stops_at_slots, stops_at_range, stops_at_units}
use Rattle.um_infer.specs.Inference.{stops_at_not_general}

-- the schemes; or the function that is the first without one, why, and the number of its first unsolvable row
abbrev pub unplaced_inference : Inference → Inference
unplaced_inference (all_schemes schemes) = all_schemes schemes
unplaced_inference (stops_at_slots i) = stops_at_slots i
unplaced_inference (stops_at_range i at) = stops_at_range i 0
unplaced_inference (stops_at_units i row at) = stops_at_units i row 0
unplaced_inference (stops_at_not_general i row at) = stops_at_not_general i row 0
