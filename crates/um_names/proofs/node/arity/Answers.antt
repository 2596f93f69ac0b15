use Rattle.std.proofs.Common.{sym}
use Rattle.um_tree.specs.RawTree.{expr_syntax}
use Rattle.um_names.proofs.FieldNames.{length_of-in_order}
use Rattle.um_names.proofs.node.arity.Goals as goal

pub returns : goal.returns
returns c = sym (length_of-in_order expr_syntax c.args.items.now)
