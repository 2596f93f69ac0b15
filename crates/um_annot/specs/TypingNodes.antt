-- The types of the nodes in a derivation: they are read off it node by node, each node after its parts.
-- Source: Kennedy (1996): a typing is a derivation by one rule a node. The order is this project's own.
use Rattle.std.specs.Prelude.{ℕ, List, [], ◌∷◌, ◌++◌, map}
use Rattle.um_units.specs.PowerMap.{PowerMap}
use Rattle.um_tree.specs.TypeTree.{TypeTree, bool_type, num_type, list_type, record_type}
use Rattle.um_tree.specs.ExprTree.{ExprTree, ExprTrees, truth, number, local, call, negate, not_expr, pown, arith}
use Rattle.um_tree.specs.ExprTree.{compare, both, either, if, bind, split, nil, list_expr, cons, record_expr, field}
use Rattle.um_tree.specs.ExprTree.{none, more}
use Rattle.um_tree.specs.ProgramTree.{RecordTree, Signature}
use Rattle.um_tree.specs.Typing.{Typed, AllTyped, put, unit_at, field_types}
use Rattle.um_rows.specs.NodeTypes.{TypedNode}

-- one node, at this place
abbrev pub one : ℕ → TypeTree → List TypedNode
one at t = record { at = at; type = t } ∷ []

module _ (records : List RecordTree) (calls : ℕ → Signature → Type 0) (choice : ℕ → PowerMap) where
  abbrev mutual
    pub typing_nodes :
        (vars : List TypeTree) (e : ExprTree) (t : TypeTree) → Typed records calls choice vars e t → List TypedNode
    typing_nodes vars (truth at b) t h = one at t
    typing_nodes vars (number at c n) t h = one at t
    typing_nodes vars (local at k) t h = one at t
    typing_nodes vars (call at j es) t (ts, h, used) = all_nodes vars es ts h ++ one at t
    typing_nodes vars (negate at a) t (u, h, is) = typing_nodes vars a (num_type u) h ++ one at t
    typing_nodes vars (not_expr at a) t (h, is) = typing_nodes vars a bool_type h ++ one at t
    typing_nodes vars (pown at a k) t (u, h, is) = typing_nodes vars a (num_type u) h ++ one at t
    typing_nodes vars (arith at op a b) t (u, v, w, g, h, of, is) =
        (typing_nodes vars a (num_type u) g ++ typing_nodes vars b (num_type v) h) ++ one at t
    typing_nodes vars (compare at sign a b) t (u, g, h, is) =
        (typing_nodes vars a (num_type u) g ++ typing_nodes vars b (num_type u) h) ++ one at t
    typing_nodes vars (both at a b) t (g, h, is) =
        (typing_nodes vars a bool_type g ++ typing_nodes vars b bool_type h) ++ one at t
    typing_nodes vars (either at a b) t (g, h, is) =
        (typing_nodes vars a bool_type g ++ typing_nodes vars b bool_type h) ++ one at t
    typing_nodes vars (if at c a b) t (f, g, h) =
        (typing_nodes vars c bool_type f ++ (typing_nodes vars a t g ++ typing_nodes vars b t h)) ++ one at t
    typing_nodes vars (bind at a b) t (s, g, h) =
        (typing_nodes vars a s g ++ typing_nodes (vars ++ s ∷ []) b t h) ++ one at t
    typing_nodes vars (split at l a b) t (s, f, g, h) =
        (typing_nodes vars l (list_type s) f
        ++ (typing_nodes vars a t g ++ typing_nodes (vars ++ s ∷ list_type s ∷ []) b t h)) ++ one at t
    typing_nodes vars (nil at n) t h = one at t
    typing_nodes vars (list_expr at es) t (s, rest, h, each, is) = all_nodes vars es (s ∷ rest) h ++ one at t
    typing_nodes vars (cons at a b) t (s, g, h, is) =
        (typing_nodes vars a s g ++ typing_nodes vars b (list_type s) h) ++ one at t
    typing_nodes vars (record_expr at r es) t (us, d, known, h, is) =
        all_nodes vars es (map (put (unit_at us)) (field_types d)) h ++ one at t
    typing_nodes vars (field at r k a) t (us, d, declared, known, of, h, is) =
        typing_nodes vars a (record_type r us) h ++ one at t

    pub all_nodes :
        (vars : List TypeTree) (es : ExprTrees) (ts : List TypeTree) → AllTyped records calls choice vars es ts
        → List TypedNode
    all_nodes vars none ts h = []
    all_nodes vars (more e es) ts (s, rest, g, h, is) = typing_nodes vars e s g ++ all_nodes vars es rest h
