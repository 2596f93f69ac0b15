use Rattle.um_image.proofs.Accepted.{generated_is_verified}
use Rattle.um_image.proofs.laws.image_of_generated_code.Goals as goal

pub returns : goal.returns
returns c = record { verified = generated_is_verified }
