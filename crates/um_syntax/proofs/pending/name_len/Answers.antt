use Rattle.std.proofs.Common.{arith, sym, ◌∙◌}
use Rattle.um_syntax.specs.declared.pending.Pending.TheVariants as pending
use Rattle.um_syntax.proofs.Kept.{first_kept, kept_more}
use Rattle.um_syntax.proofs.pending.name_len.Goals as goal

pub loop-len-init : goal.loop-len-init
loop-len-init c =
    let first = first_kept c.args.bytes.now c.requires in
    record { some = omega arith; within = first.0; kept = first.1 }

pub loop-len-preserved : goal.loop-len-preserved
loop-len-preserved c = record {
  some = omega arith;
  within = omega arith;
  kept = kept_more (pending.Identifier 0) c.args.bytes.now c.loop-len.len 0 c.loop-len.invariant.kept c.loop-len-test.true (sym c.keeps_name.ensures ∙ c.if-not-keeps_name.false);
}
