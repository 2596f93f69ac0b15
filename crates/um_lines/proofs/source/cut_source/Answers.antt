use Rattle.std.proofs.Common.{sym, ◌∙◌}
use Rattle.um_lines.proofs.Lines.{passed, marked}
use Rattle.um_lines.proofs.source.cut_source.Goals as goal

pub returns-then-is_ended_mark-clause-text : goal.returns-then-is_ended_mark-clause-text
returns-then-is_ended_mark-clause-text c =
    let e = c.in-Some.ensures in
    (marked c.args.bytes.now c.lines.rest.now c.in-Some.line.now c.in-Some.after.now c.lines.invariant.at
    (record { lines = e.lines; whole = e.whole; size = e.size }) (sym c.is_ended_mark.ensures ∙ c.if-is_ended_mark.true)).0

pub lines-preserved : goal.lines-preserved
lines-preserved c =
    let e = c.in-Some.ensures in
    record {
      at =
          passed c.args.bytes.now c.lines.rest.now c.in-Some.line.now c.in-Some.after.now c.lines.invariant.at
          (record { lines = e.lines; whole = e.whole; size = e.size }) (sym c.is_ended_mark.ensures ∙ c.if-is_ended_mark.false);
    }
