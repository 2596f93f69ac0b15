-- What stops the first part stops the whole.
use Rattle.std.proofs.Common.{ap, Result}
use Rattle.um_shape.specs.FirstFault.{ShapeFault, then}
use Rattle.um_shape.specs.declared.stop.ShapeStop.{ShapeStop}
use Rattle.um_shape.specs.declared.stop.ShapeStop.TheVariants as stop
use Rattle.um_shape.specs.Stops.{IsFoundFault}

pub stops_first : {A B : Type 0} (m : Result A ShapeFault) (go : A → Result B ShapeFault) (s : ShapeStop) → IsFoundFault m s → IsFoundFault (then m go) s
stops_first m go (stop.Shape at) h = ap (λ m. then m go) h
stops_first m go (stop.Depth at) h = ap (λ m. then m go) h
stops_first m go stop.NoMemory h = tt
