-- What stops the first part stops the whole.
use Rattle.std.proofs.Common.{ap, Result}
use Rattle.um_mismatch.specs.declared.mismatch.Stop.{Stop}
use Rattle.um_mismatch.specs.declared.mismatch.Stop.TheVariants as stop
use Rattle.um_mismatch.specs.Mismatch.{Told}
use Rattle.um_mismatch.specs.ShapeDetails.{then}
use Rattle.um_mismatch.specs.Answers.{IsTold}

pub stops_first : {A B : Type 0} (m : Result A Told) (go : A → Result B Told) (s : Stop) → IsTold m s → IsTold (then m go) s
stops_first m go (stop.Told t) h = ap (λ m. then m go) h
stops_first m go stop.NoMemory h = tt
