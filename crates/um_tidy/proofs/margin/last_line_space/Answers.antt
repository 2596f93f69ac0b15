use Rattle.std.proofs.Common.{◌∙◌, sym, refl, arith}
use Rattle.um_tidy.proofs.LineMargins.{byte_more, space_more}
use Rattle.um_tidy.proofs.margin.last_line_space.Goals as goal

pub loop-width-preserved : goal.loop-width-preserved
loop-width-preserved c =
    let gap = c.args.gap.now in
    let l = c.loop-width in
    let some = c.loop-width-test.ensures.within refl in
    record {
      after = omega (arith, l.invariant.after);
      within = omega (arith, some);
      narrow = omega (arith, c.past_byte-width.ensures.few, l.invariant.narrow);
      space = space_more gap c.args.from l.end l.invariant.space (sym c.has_line_space.ensures.here ∙ c.loop-width-test.true);
      width = byte_more gap c.args.from c.args.column l.end l.width c.past_byte-width.result l.invariant.after some l.invariant.width c.past_byte-width.ensures.column;
    }
