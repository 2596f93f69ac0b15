use Rattle.std.proofs.Common.{◌≡◌, length, map}
use Rattle.um_tree.specs.ExprTree.{expr_tree}
use Rattle.um_tree.specs.RawTree.{expr_syntax}
use Rattle.um_names.specs.Bodies.{resolved_in}
use Rattle.um_measures.proofs.Stages.{Stage}
use Rattle.um_names.proofs.body.parts.Given as goal

abbrev pub invariant-loop-item : goal.invariant-loop-item
invariant-loop-item l = record {
  done : Stage (resolved_in l.lookup.tables.now l.lookup.body.now l.fn.scope) expr_syntax l.fn.items.items (map expr_tree l.es.items) (length l.yielded);
  scope : l.scope ≡ l.fn.scope;
}
