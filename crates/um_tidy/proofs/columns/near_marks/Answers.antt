use Rattle.std.proofs.Common.{◌==◌, ◌||◌, sym, subst, ◌<◌}
use Rattle.std.proofs.lemmas.Simd.{length-chunk}
use lib.Lanes.{chunk}
use Rattle.um_tidy.proofs.LineMargins.{marks_are, mask_short}
use Rattle.um_tidy.proofs.columns.near_marks.Goals as goal

pub returns-clause-few : goal.returns-clause-few
returns-clause-few c =
    let part = chunk c.args.at 16 c.args.bytes.now in
    let long = length-chunk c.args.at 16 c.args.bytes.now c.requires in
    subst (λ n. n < 65536) (sym (marks_are part long)) (mask_short (λ b. b == 9 || b == 13) part long)

pub returns-clause-mask : goal.returns-clause-mask
returns-clause-mask c = marks_are (chunk c.args.at 16 c.args.bytes.now) (length-chunk c.args.at 16 c.args.bytes.now c.requires)
