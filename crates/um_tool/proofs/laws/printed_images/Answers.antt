use Rattle.um_tool.proofs.PrintedImages.{printed_images_are_verified, printed_images_run_as_meant}
use Rattle.um_tool.proofs.laws.printed_images.Goals as goal

pub returns : goal.returns
returns c = record {
  verified = printed_images_are_verified c.image_of_generated_code.ensures.verified;
  runs = printed_images_run_as_meant c.image_calls.ensures.shaped c.answers_of_images.ensures.runs;
}
