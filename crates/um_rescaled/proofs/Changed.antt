-- A program with other places, and with other numbers.
use Rattle.std.proofs.Common.{ℕ, map}
use Rattle.um_frac.specs.declared.number.Frac.{Frac}
use Rattle.um_tree.specs.declared.note.UnitNote.{UnitNote}
use Rattle.um_tree.specs.ExprTree.{ExprTree, ExprTrees, truth, number, local, call, negate, not_expr, pown, arith, compare, both, either, if, bind, split, nil, list_expr, cons, record_expr, field, none, more}
use Rattle.um_tree.specs.ProgramTree.{RecordTree, FunctionTree, ProgramTree}

abbrev pub changed_record : (ℕ → ℕ) → RecordTree → RecordTree
changed_record place d = record { name = d.name; at = place d.at; units = d.units; fields = d.fields }

module _ (place : ℕ → ℕ) (number_of : Frac → UnitNote → Frac) where
  abbrev mutual
    pub changed : ExprTree → ExprTree
    changed (truth at b) = truth (place at) b
    changed (number at c n) = number (place at) (number_of c n) n
    changed (local at k) = local (place at) k
    changed (call at j es) = call (place at) j (all_changed es)
    changed (negate at a) = negate (place at) (changed a)
    changed (not_expr at a) = not_expr (place at) (changed a)
    changed (pown at a k) = pown (place at) (changed a) k
    changed (arith at op a b) = arith (place at) op (changed a) (changed b)
    changed (compare at sign a b) = compare (place at) sign (changed a) (changed b)
    changed (both at a b) = both (place at) (changed a) (changed b)
    changed (either at a b) = either (place at) (changed a) (changed b)
    changed (if at c a b) = if (place at) (changed c) (changed a) (changed b)
    changed (bind at a b) = bind (place at) (changed a) (changed b)
    changed (split at l a b) = split (place at) (changed l) (changed a) (changed b)
    changed (nil at n) = nil (place at) n
    changed (list_expr at es) = list_expr (place at) (all_changed es)
    changed (cons at a b) = cons (place at) (changed a) (changed b)
    changed (record_expr at r es) = record_expr (place at) r (all_changed es)
    changed (field at r k a) = field (place at) r k (changed a)

    pub all_changed : ExprTrees → ExprTrees
    all_changed none = none
    all_changed (more e es) = more (changed e) (all_changed es)

  abbrev pub changed_function : FunctionTree → FunctionTree
  changed_function f = record {
    name = f.name;
    at = place f.at;
    recursive = f.recursive;
    units = f.units;
    params = f.params;
    named = f.named;
    result = f.result;
    body = changed f.body;
  }

  abbrev pub changed_program : ProgramTree → ProgramTree
  changed_program p = record {
    bases = p.bases;
    records = map (changed_record place) p.records;
    functions = map changed_function p.functions;
  }
