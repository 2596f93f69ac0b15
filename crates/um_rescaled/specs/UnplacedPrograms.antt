-- Programs without their places: each place is 0.
-- Source: this project's own.
use Rattle.std.specs.Prelude.{map}
use Rattle.um_tree.specs.ExprTree.{ExprTree, ExprTrees, truth, number, local, call, negate, not_expr, pown, arith}
use Rattle.um_tree.specs.ExprTree.{compare, both, either, if, bind, split, nil, list_expr, cons, record_expr, field}
use Rattle.um_tree.specs.ExprTree.{none, more}
use Rattle.um_tree.specs.ProgramTree.{RecordTree, FunctionTree, ProgramTree}

abbrev mutual
  pub unplaced_expr : ExprTree → ExprTree
  unplaced_expr (truth at b) = truth 0 b
  unplaced_expr (number at c n) = number 0 c n
  unplaced_expr (local at k) = local 0 k
  unplaced_expr (call at j es) = call 0 j (unplaced_exprs es)
  unplaced_expr (negate at a) = negate 0 (unplaced_expr a)
  unplaced_expr (not_expr at a) = not_expr 0 (unplaced_expr a)
  unplaced_expr (pown at a k) = pown 0 (unplaced_expr a) k
  unplaced_expr (arith at op a b) = arith 0 op (unplaced_expr a) (unplaced_expr b)
  unplaced_expr (compare at sign a b) = compare 0 sign (unplaced_expr a) (unplaced_expr b)
  unplaced_expr (both at a b) = both 0 (unplaced_expr a) (unplaced_expr b)
  unplaced_expr (either at a b) = either 0 (unplaced_expr a) (unplaced_expr b)
  unplaced_expr (if at c a b) = if 0 (unplaced_expr c) (unplaced_expr a) (unplaced_expr b)
  unplaced_expr (bind at a b) = bind 0 (unplaced_expr a) (unplaced_expr b)
  unplaced_expr (split at l a b) = split 0 (unplaced_expr l) (unplaced_expr a) (unplaced_expr b)
  unplaced_expr (nil at n) = nil 0 n
  unplaced_expr (list_expr at es) = list_expr 0 (unplaced_exprs es)
  unplaced_expr (cons at a b) = cons 0 (unplaced_expr a) (unplaced_expr b)
  unplaced_expr (record_expr at r es) = record_expr 0 r (unplaced_exprs es)
  unplaced_expr (field at r k a) = field 0 r k (unplaced_expr a)

  pub unplaced_exprs : ExprTrees → ExprTrees
  unplaced_exprs none = none
  unplaced_exprs (more e es) = more (unplaced_expr e) (unplaced_exprs es)

abbrev pub unplaced_record : RecordTree → RecordTree
unplaced_record d = record { name = d.name; at = 0; units = d.units; fields = d.fields }

abbrev pub unplaced_function : FunctionTree → FunctionTree
unplaced_function f = record {
  name = f.name;
  at = 0;
  recursive = f.recursive;
  units = f.units;
  params = f.params;
  named = f.named;
  result = f.result;
  body = unplaced_expr f.body;
}

abbrev pub unplaced_program : ProgramTree → ProgramTree
unplaced_program p = record {
  bases = p.bases;
  records = map unplaced_record p.records;
  functions = map unplaced_function p.functions;
}
