use Rattle.std.proofs.Common.{arith, sym, ◌∙◌}
use Rattle.um_syntax.specs.declared.pending.Pending.TheVariants as pending
use Rattle.um_syntax.proofs.Kept.{kept_more}
use Rattle.um_syntax.proofs.pending.comment_len.Goals as goal

pub loop-len-preserved : goal.loop-len-preserved
loop-len-preserved c = record {
  within = omega arith;
  kept = kept_more pending.Comment c.args.bytes.now c.loop-len.len 0 c.loop-len.invariant.kept c.loop-len-test.true (sym c.keeps_comment.ensures ∙ c.if-keeps_comment.true);
}
