use Rattle.std.proofs.Common.{sym}
use Rattle.um_tree.specs.RawTree.{expr_syntax}
use Rattle.um_sites.proofs.Counts.{count_is}
use Rattle.um_sites.proofs.expr.argument_count.Goals as goal

pub returns : goal.returns
returns c = sym (count_is expr_syntax c.args.items.now)
