use Rattle.um_image.proofs.ReadLaws.{places_unique}
use Rattle.um_image.proofs.Decoded.{bad_is_none, one_image, bytes_are_answered}
use Rattle.um_image.proofs.laws.bytes_of_images.Goals as goal

pub returns : goal.returns
returns c = record { one_image = one_image; one_place = places_unique; none = bad_is_none; answered = bytes_are_answered }
