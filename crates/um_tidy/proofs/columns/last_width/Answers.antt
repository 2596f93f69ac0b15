use Rattle.std.proofs.Common.{◌∙◌, arith}
use Rattle.um_tidy.proofs.TabColumns.{width_one}
use Rattle.um_tidy.proofs.columns.last_width.Goals as goal

pub loop-i-preserved : goal.loop-i-preserved
loop-i-preserved c =
    let l = c.loop-i in
    record {
      narrow = omega (arith, c.past_byte-width.ensures.few, l.invariant.narrow);
      so_far = width_one c.args.space.now l.i l.width c.past_byte-width.result (omega arith) c.past_byte-width.ensures.column ∙ l.invariant.so_far;
    }
