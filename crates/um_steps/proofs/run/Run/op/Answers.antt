use Rattle.std.proofs.Common.{arith}
use Rattle.um_steps.proofs.Acted.{end_of_run}
use Rattle.um_steps.proofs.run.Run.op.Goals as goal

pub item_at-requires : goal.item_at-requires
item_at-requires c =
    let ends = end_of_run c.args.self.now in
    omega (arith, ends)
