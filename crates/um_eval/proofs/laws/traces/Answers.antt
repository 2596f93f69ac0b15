use Rattle.um_eval.proofs.Traced.{traces_are_stops}
use Rattle.um_eval.proofs.OneTrace.{traces_are_unique}
use Rattle.um_eval.proofs.SomeTrace.{stops_have_traces}
use Rattle.um_eval.proofs.Bodies.{bodies_stop}
use Rattle.um_eval.proofs.laws.traces.Goals as goal

pub returns : goal.returns
returns c = record { stops = traces_are_stops; exist = stops_have_traces; unique = traces_are_unique; bodies = bodies_stop }
