-- The types of nodes that a walk keeps, as the code makes it: those of a node's parts, and then its own.
-- Source: this project's own; they are the nodes of the derivation again, and no public clause rests on it.
use Rattle.std.specs.Prelude.{◌≡◌, ℕ, ◌+◌, Bool, cond, List, [], ◌∷◌, ◌++◌, map, Result, Ok, Err, slice_get}
use Rattle.um_units.specs.PowerMap.{PowerMap, nth}
use Rattle.um_tree.specs.declared.program.Record.{Record}
use Rattle.um_tree.specs.declared.program.Scheme.{Scheme}
use Rattle.um_tree.specs.TypeTree.{TypeTree, type_tree}
use Rattle.um_tree.specs.ExprTree.{ExprTree, ExprTrees, truth, number, local, call, negate, not_expr, pown, arith}
use Rattle.um_tree.specs.ExprTree.{compare, both, either, if, bind, split, nil, list_expr, cons, record_expr, field}
use Rattle.um_tree.specs.ExprTree.{none, more}
use Rattle.um_tree.specs.ProgramTree.{RecordTree, Signature, record_tree}
use Rattle.um_slots.specs.Holes.{Callee, callee_holes, record_holes}
use Rattle.um_slots.specs.declared.context.Context.{Context}
use Rattle.um_equal_types.specs.declared.row.Row.{Row}
use Rattle.um_rows.specs.declared.walker.Walk.{Walk as Walker}
use Rattle.um_rows.specs.declared.progress.State.{State}
use Rattle.um_rows.specs.NodeTypes.{TypedNode, typed_node}
use Rattle.um_rows.specs.Rules.{item}
use Rattle.um_rows.specs.Walk.{Walked, pair, walk}
use Rattle.um_rows.specs.Body.{noted_signature, called}

-- the place of an expression
abbrev pub place : ExprTree → ℕ
place (truth at b) = at
place (number at c n) = at
place (local at k) = at
place (call at j es) = at
place (negate at a) = at
place (not_expr at a) = at
place (pown at a k) = at
place (arith at op a b) = at
place (compare at sign a b) = at
place (both at a b) = at
place (either at a b) = at
place (if at c a b) = at
place (bind at a b) = at
place (split at l a b) = at
place (nil at n) = at
place (list_expr at es) = at
place (cons at a b) = at
place (record_expr at r es) = at
place (field at r k a) = at

-- one node, if it is asked for
abbrev pub kept : Bool → ℕ → TypeTree → List TypedNode
kept asked at t = cond asked (record { at = at; type = t } ∷ []) []

-- the node that a walk ends with
abbrev pub last_kept : Bool → ℕ → Result Walked ℕ → List TypedNode
last_kept asked at (Ok w) = kept asked at w.type
last_kept asked at (Err stop) = []

-- after a stop nothing is kept
abbrev pub kept_then : {A : Type 0} → Result A ℕ → (A → List TypedNode) → List TypedNode
kept_then (Ok x) go = go x
kept_then (Err stop) go = []

module _
    (asked : Bool) (holes names : ℕ → PowerMap) (records : List RecordTree) (self : Signature) (callee : ℕ → Callee)
  where
    abbrev walked : List Row → ℕ → List TypeTree → ExprTree → Result Walked ℕ
    walked rows n vars e = walk holes names records self callee rows n vars e

    -- these are the nodes of the parts of the expression: its own comes after them
    abbrev pub and_own : List Row → ℕ → List TypeTree → ExprTree → List TypedNode → List TypedNode
    and_own rows n vars e parts = parts ++ last_kept asked (place e) (walked rows n vars e)

    abbrev mutual
      pub parts_kept : List Row → ℕ → List TypeTree → ExprTree → List TypedNode
      parts_kept rows n vars (truth at b) = []
      parts_kept rows n vars (number at c m) = []
      parts_kept rows n vars (local at k) = []
      parts_kept rows n vars (call at j es) = all_kept rows (n + callee_holes (callee j)) vars es
      parts_kept rows n vars (negate at a) = and_own rows n vars a (parts_kept rows n vars a)
      parts_kept rows n vars (not_expr at a) = and_own rows n vars a (parts_kept rows n vars a)
      parts_kept rows n vars (pown at a k) = and_own rows n vars a (parts_kept rows n vars a)
      parts_kept rows n vars (arith at op a b) =
          and_own rows n vars a (parts_kept rows n vars a)
          ++ kept_then (walked rows n vars a) (λ x. and_own x.rows x.holes vars b (parts_kept x.rows x.holes vars b))
      parts_kept rows n vars (compare at sign a b) =
          and_own rows n vars a (parts_kept rows n vars a)
          ++ kept_then (walked rows n vars a) (λ x. and_own x.rows x.holes vars b (parts_kept x.rows x.holes vars b))
      parts_kept rows n vars (both at a b) =
          and_own rows n vars a (parts_kept rows n vars a)
          ++ kept_then (walked rows n vars a) (λ x. and_own x.rows x.holes vars b (parts_kept x.rows x.holes vars b))
      parts_kept rows n vars (either at a b) =
          and_own rows n vars a (parts_kept rows n vars a)
          ++ kept_then (walked rows n vars a) (λ x. and_own x.rows x.holes vars b (parts_kept x.rows x.holes vars b))
      parts_kept rows n vars (if at c a b) =
          and_own rows n vars c (parts_kept rows n vars c)
          ++ kept_then (walked rows n vars c) (λ z.
          and_own z.rows z.holes vars a (parts_kept z.rows z.holes vars a)
          ++ kept_then (walked z.rows z.holes vars a) (λ x.
          and_own x.rows x.holes vars b (parts_kept x.rows x.holes vars b)))
      parts_kept rows n vars (bind at a b) =
          and_own rows n vars a (parts_kept rows n vars a)
          ++ kept_then (walked rows n vars a) (λ x.
          and_own x.rows x.holes (vars ++ x.type ∷ []) b (parts_kept x.rows x.holes (vars ++ x.type ∷ []) b))
      parts_kept rows n vars (split at l a b) =
          (and_own rows n vars l (parts_kept rows n vars l)
          ++ kept_then (walked rows n vars l) (λ z. and_own z.rows z.holes vars a (parts_kept z.rows z.holes vars a)))
          ++ kept_then (pair (walked rows n vars l) (λ z. walked z.rows z.holes vars a)) (λ w.
          and_own w.rows w.holes (vars ++ item w.first ∷ w.first ∷ []) b
          (parts_kept w.rows w.holes (vars ++ item w.first ∷ w.first ∷ []) b))
      parts_kept rows n vars (nil at m) = []
      parts_kept rows n vars (list_expr at es) = all_kept rows n vars es
      parts_kept rows n vars (cons at a b) =
          and_own rows n vars a (parts_kept rows n vars a)
          ++ kept_then (walked rows n vars a) (λ x. and_own x.rows x.holes vars b (parts_kept x.rows x.holes vars b))
      parts_kept rows n vars (record_expr at r es) = all_kept rows (n + record_holes (slice_get records r)) vars es
      parts_kept rows n vars (field at r k a) = and_own rows n vars a (parts_kept rows n vars a)

      pub all_kept : List Row → ℕ → List TypeTree → ExprTrees → List TypedNode
      all_kept rows n vars none = []
      all_kept rows n vars (more e es) =
          and_own rows n vars e (parts_kept rows n vars e)
          ++ kept_then (walked rows n vars e) (λ x. all_kept x.rows x.holes vars es)

    -- of an expression, and of two parts one after the other
    abbrev pub node_kept : List Row → ℕ → List TypeTree → ExprTree → List TypedNode
    node_kept rows n vars e = and_own rows n vars e (parts_kept rows n vars e)

    abbrev pub pair_kept : List Row → ℕ → List TypeTree → ExprTree → ExprTree → List TypedNode
    pair_kept rows n vars a b =
        node_kept rows n vars a ++ kept_then (walked rows n vars a) (λ x. node_kept x.rows x.holes vars b)

-- ---- as the code knows a body
abbrev pub body_parts_kept : Bool → List Record → List Scheme → Context → List Row → ℕ → List TypeTree → ExprTree
    → List TypedNode
body_parts_kept asked records schemes c =
    parts_kept asked (nth c.holes.items) (nth c.names.items) (map record_tree records) (noted_signature c)
    (called schemes c)

abbrev pub body_kept : Bool → List Record → List Scheme → Context → List Row → ℕ → List TypeTree → ExprTree
    → List TypedNode
body_kept asked records schemes c =
    node_kept asked (nth c.holes.items) (nth c.names.items) (map record_tree records) (noted_signature c)
    (called schemes c)

abbrev pub body_pair_kept : Bool → List Record → List Scheme → Context → List Row → ℕ → List TypeTree → ExprTree
    → ExprTree → List TypedNode
body_pair_kept asked records schemes c =
    pair_kept asked (nth c.holes.items) (nth c.names.items) (map record_tree records) (noted_signature c)
    (called schemes c)

abbrev pub body_all_kept : Bool → List Record → List Scheme → Context → List Row → ℕ → List TypeTree → ExprTrees
    → List TypedNode
body_all_kept asked records schemes c =
    all_kept asked (nth c.holes.items) (nth c.names.items) (map record_tree records) (noted_signature c)
    (called schemes c)

-- ---- a walk that goes on from a state
abbrev pub parts_kept_from : Walker → State → ExprTree → List TypedNode
parts_kept_from w s =
    body_parts_kept w.keep w.records.now w.schemes.now w.context s.progress.rows.items s.progress.holes
    (map type_tree s.scope.items)

abbrev pub kept_from : Walker → State → ExprTree → List TypedNode
kept_from w s =
    body_kept w.keep w.records.now w.schemes.now w.context s.progress.rows.items s.progress.holes
    (map type_tree s.scope.items)

abbrev pub pair_kept_from : Walker → State → ExprTree → ExprTree → List TypedNode
pair_kept_from w s =
    body_pair_kept w.keep w.records.now w.schemes.now w.context s.progress.rows.items s.progress.holes
    (map type_tree s.scope.items)

abbrev pub all_kept_from : Walker → State → ExprTrees → List TypedNode
all_kept_from w s =
    body_all_kept w.keep w.records.now w.schemes.now w.context s.progress.rows.items s.progress.holes
    (map type_tree s.scope.items)

-- these nodes come after the old ones
abbrev pub Keeps : State → State → List TypedNode → Type 0
Keeps old new nodes = map typed_node new.kept.items ≡ map typed_node old.kept.items ++ nodes
