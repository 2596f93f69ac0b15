-- The derivation of an expression's type over slots: the typing rules followed from left to right, each node after its
-- parts.
-- Source: Kennedy (1996), the inference of units: a unit that is left open is a new variable.
use Rattle.std.specs.Prelude.{ℕ, zero, suc, ◌+◌, List, [], ◌∷◌, ◌++◌, Option, Some, None, slice_get}
use Rattle.um_units.specs.PowerMap.{PowerMap}
use Rattle.um_tree.specs.TypeTree.{TypeTree, bool_type}
use Rattle.um_tree.specs.ExprTree.{ExprTree, ExprTrees, truth, number, local, call, negate, not_expr, pown, arith}
use Rattle.um_tree.specs.ExprTree.{compare, both, either, if, bind, split, nil, list_expr, cons, record_expr, field}
use Rattle.um_tree.specs.ExprTree.{none, more}
use Rattle.um_tree.specs.ProgramTree.{RecordTree, Signature}
use Rattle.um_tree.specs.Typing.{put_signature}
use Rattle.um_slots.specs.Holes.{Callee, known_by, itself, nobody, callee_holes, record_holes, expr_holes}
use Rattle.um_slots.specs.Noted.{noted_unit, noted_type}
use Rattle.um_rows.specs.Rules.{Derived, AllDerived, after, formed, item, number_rule, local_rule, call_rule}
use Rattle.um_rows.specs.Rules.{negate_rule, not_rule, pown_rule, truths_rule, arith_rule, compare_rule, if_rule}
use Rattle.um_rows.specs.Rules.{split_rule, nil_rule, list_rule, cons_rule, record_rule, field_rule}

-- the units f 0, f 1 and so on up to f (m - 1)
abbrev pub first_units : ℕ → (ℕ → PowerMap) → List PowerMap
first_units zero f = []
first_units (suc m) f = f 0 ∷ first_units m (λ k. f (suc k))

-- holes: the unit of each hole, by its number in the order of the text. names: the unit of each named variable. The
-- holes of an expression are numbered from n on, a node before its parts
module _
    (holes names : ℕ → PowerMap) (records : List RecordTree) (self : Signature) (callee : ℕ → Callee)
  where
    -- an earlier function at a new instance of its scheme, the function itself at its one signature
    abbrev pub offered : ℕ → Callee → Option Signature
    offered n (known_by s) = Some (put_signature (λ k. holes (n + k)) s.signature)
    offered n itself = Some self
    offered n nobody = None

    abbrev mutual
      pub derive : ℕ → List TypeTree → ExprTree → Derived
      derive n vars (truth at b) = formed at [] bool_type
      derive n vars (number at c m) = number_rule at c m (noted_unit holes names n m)
      derive n vars (local at k) = local_rule at (slice_get vars k)
      derive n vars (call at j es) =
          let ds = derive_all (n + callee_holes (callee j)) vars es in
          after ds.steps (call_rule at (offered n (callee j)) ds.types)
      derive n vars (negate at a) =
          let x = derive n vars a in
          after x.steps (negate_rule at x.type)
      derive n vars (not_expr at a) =
          let x = derive n vars a in
          after x.steps (not_rule at x.type)
      derive n vars (pown at a k) =
          let x = derive n vars a in
          after x.steps (pown_rule at k x.type)
      derive n vars (arith at op a b) =
          let x = derive n vars a in
          let y = derive (n + expr_holes records callee a) vars b in
          after (x.steps ++ y.steps) (arith_rule at op x.type y.type)
      derive n vars (compare at sign a b) =
          let x = derive n vars a in
          let y = derive (n + expr_holes records callee a) vars b in
          after (x.steps ++ y.steps) (compare_rule at x.type y.type)
      derive n vars (both at a b) =
          let x = derive n vars a in
          let y = derive (n + expr_holes records callee a) vars b in
          after (x.steps ++ y.steps) (truths_rule at x.type y.type)
      derive n vars (either at a b) =
          let x = derive n vars a in
          let y = derive (n + expr_holes records callee a) vars b in
          after (x.steps ++ y.steps) (truths_rule at x.type y.type)
      derive n vars (if at c a b) =
          let z = derive n vars c in
          let x = derive (n + expr_holes records callee c) vars a in
          let y = derive (n + expr_holes records callee c + expr_holes records callee a) vars b in
          after (z.steps ++ (x.steps ++ y.steps)) (if_rule at z.type x.type y.type)
      derive n vars (bind at a b) =
          let x = derive n vars a in
          let y = derive (n + expr_holes records callee a) (vars ++ x.type ∷ []) b in
          after (x.steps ++ y.steps) (formed at [] y.type)
      derive n vars (split at l a b) =
          let z = derive n vars l in
          let x = derive (n + expr_holes records callee l) vars a in
          let y = derive (n + expr_holes records callee l + expr_holes records callee a)
          (vars ++ item z.type ∷ z.type ∷ []) b in
          after (z.steps ++ (x.steps ++ y.steps)) (split_rule at z.type x.type y.type)
      derive n vars (nil at m) = nil_rule at (noted_type holes names n m)
      derive n vars (list_expr at es) =
          let ds = derive_all n vars es in
          after ds.steps (list_rule at ds.types)
      derive n vars (cons at a b) =
          let x = derive n vars a in
          let y = derive (n + expr_holes records callee a) vars b in
          after (x.steps ++ y.steps) (cons_rule at x.type y.type)
      derive n vars (record_expr at r es) =
          let m = record_holes (slice_get records r) in
          let ds = derive_all (n + m) vars es in
          after ds.steps (record_rule at r (first_units m (λ k. holes (n + k))) (slice_get records r) ds.types)
      derive n vars (field at r k a) =
          let x = derive n vars a in
          after x.steps (field_rule at r k (slice_get records r) x.type)

      pub derive_all : ℕ → List TypeTree → ExprTrees → AllDerived
      derive_all n vars none = record { types = []; steps = [] }
      derive_all n vars (more e es) =
          let x = derive n vars e in
          let ds = derive_all (n + expr_holes records callee e) vars es in
          record { types = x.type ∷ ds.types; steps = x.steps ++ ds.steps }
