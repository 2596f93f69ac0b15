use Rattle.um_run.proofs.ImageCallLaws.{calls_are_shaped, calls_are_unique}
use Rattle.um_run.proofs.laws.image_calls.Goals as goal

pub returns : goal.returns
returns c = record { shaped = calls_are_shaped; unique = calls_are_unique }
