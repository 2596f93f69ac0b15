use Rattle.std.proofs.lemmas.Simd.{length-chunk}
use lib.Lanes.{chunk}
use Rattle.um_tidy.proofs.Whites.{others_are}
use Rattle.um_tidy.proofs.white.others.Goals as goal

pub returns : goal.returns
returns c = others_are (chunk c.args.at 16 c.args.bytes.now) (length-chunk c.args.at 16 c.args.bytes.now c.requires)
