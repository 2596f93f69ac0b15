use Rattle.std.proofs.lemmas.Simd.{length-chunk}
use lib.Lanes.{chunk}
use Rattle.um_tidy.proofs.LineMargins.{ends_are}
use Rattle.um_tidy.proofs.columns.near_ends.Goals as goal

pub returns : goal.returns
returns c = ends_are (chunk c.args.at 16 c.args.bytes.now) (length-chunk c.args.at 16 c.args.bytes.now c.requires)
