-- The derivation node by node, as the code makes it: the rows so far and the holes so far are carried along, and the
-- first step that is out of range ends it.
-- Source: this project's own; it is the derivation of the equations again, and no public clause rests on it.
use Rattle.std.specs.Prelude.{ℕ, ◌+◌, List, [], ◌∷◌, ◌++◌, Option, Some, None, Result, Ok, Err, slice_get}
use Rattle.um_units.specs.PowerMap.{PowerMap}
use Rattle.um_tree.specs.TypeTree.{TypeTree, bool_type}
use Rattle.um_tree.specs.ExprTree.{ExprTree, ExprTrees, truth, number, local, call, negate, not_expr, pown, arith}
use Rattle.um_tree.specs.ExprTree.{compare, both, either, if, bind, split, nil, list_expr, cons, record_expr, field}
use Rattle.um_tree.specs.ExprTree.{none, more}
use Rattle.um_tree.specs.ProgramTree.{RecordTree, Signature}
use Rattle.um_equal_types.specs.declared.row.Row.{Row}
use Rattle.um_equal_types.specs.Steps.{first_past, rows_of}
use Rattle.um_slots.specs.Holes.{unit_holes, note_holes, Callee, callee_holes, record_holes}
use Rattle.um_rows.specs.Rules.{Derived, formed, item, number_rule, local_rule, call_rule, negate_rule, not_rule}
use Rattle.um_rows.specs.Rules.{pown_rule, truths_rule, arith_rule, compare_rule, if_rule, split_rule, nil_rule}
use Rattle.um_rows.specs.Rules.{list_rule, cons_rule, record_rule, field_rule}
use Rattle.um_rows.specs.Derivation.{first_units, offered}
use Rattle.um_slots.specs.Noted.{noted_unit, noted_type}

-- the type of the last node, and where the walk stands
pub record Walked : Type 0 where
  pub type : TypeTree
  pub rows : List Row
  pub holes : ℕ

pub record AllWalked : Type 0 where
  pub types : List TypeTree
  pub rows : List Row
  pub holes : ℕ

-- the types of two parts, and where the walk stands after them
pub record PairWalked : Type 0 where
  pub first : TypeTree
  pub second : TypeTree
  pub rows : List Row
  pub holes : ℕ

-- the first part that ends the walk ends the whole
abbrev pub then : {A B : Type 0} → Result A ℕ → (A → Result B ℕ) → Result B ℕ
then (Ok x) go = go x
then (Err at) go = Err at

abbrev pub unless_past : Option ℕ → Walked → Result Walked ℕ
unless_past None w = Ok w
unless_past (Some at) w = Err at

-- the rows of a node follow those before
abbrev pub node : List Row → ℕ → Derived → Result Walked ℕ
node rows n d = unless_past (first_past d.steps) (record { type = d.type; rows = rows ++ rows_of d.steps; holes = n })

-- a node of one part
abbrev pub part_node : Result Walked ℕ → (TypeTree → Derived) → Result Walked ℕ
part_node m d = then m (λ x. node x.rows x.holes (d x.type))

-- the second part is walked from where the first ends
abbrev pub pair : Result Walked ℕ → (Walked → Result Walked ℕ) → Result PairWalked ℕ
pair m go =
    then m (λ x. then (go x) (λ y. Ok (record { first = x.type; second = y.type; rows = y.rows; holes = y.holes })))

-- a node of two parts
abbrev pub pair_node : Result PairWalked ℕ → (TypeTree → TypeTree → Derived) → Result Walked ℕ
pair_node m d = then m (λ w. node w.rows w.holes (d w.first w.second))

module _ (holes names : ℕ → PowerMap) (records : List RecordTree) (self : Signature) (callee : ℕ → Callee) where
  abbrev mutual
    pub walk : List Row → ℕ → List TypeTree → ExprTree → Result Walked ℕ
    walk rows n vars (truth at b) = node rows n (formed at [] bool_type)
    walk rows n vars (number at c m) = node rows (n + unit_holes m) (number_rule at c m (noted_unit holes names n m))
    walk rows n vars (local at k) = node rows n (local_rule at (slice_get vars k))
    walk rows n vars (call at j es) =
        then (walk_all rows (n + callee_holes (callee j)) vars es)
        (λ w. node w.rows w.holes (call_rule at (offered holes names records self callee n (callee j)) w.types))
    walk rows n vars (negate at a) = part_node (walk rows n vars a) (λ t. negate_rule at t)
    walk rows n vars (not_expr at a) = part_node (walk rows n vars a) (λ t. not_rule at t)
    walk rows n vars (pown at a k) = part_node (walk rows n vars a) (λ t. pown_rule at k t)
    walk rows n vars (arith at op a b) =
        pair_node (pair (walk rows n vars a) (λ x. walk x.rows x.holes vars b)) (λ s t. arith_rule at op s t)
    walk rows n vars (compare at sign a b) =
        pair_node (pair (walk rows n vars a) (λ x. walk x.rows x.holes vars b)) (λ s t. compare_rule at s t)
    walk rows n vars (both at a b) =
        pair_node (pair (walk rows n vars a) (λ x. walk x.rows x.holes vars b)) (λ s t. truths_rule at s t)
    walk rows n vars (either at a b) =
        pair_node (pair (walk rows n vars a) (λ x. walk x.rows x.holes vars b)) (λ s t. truths_rule at s t)
    walk rows n vars (if at c a b) =
        then (walk rows n vars c) (λ z. pair_node (pair (walk z.rows z.holes vars a) (λ x. walk x.rows x.holes vars b))
        (λ s t. if_rule at z.type s t))
    walk rows n vars (bind at a b) =
        then (walk rows n vars a) (λ x. then (walk x.rows x.holes (vars ++ x.type ∷ []) b)
        (λ y. node y.rows y.holes (formed at [] y.type)))
    walk rows n vars (split at l a b) =
        then (pair (walk rows n vars l) (λ z. walk z.rows z.holes vars a))
        (λ w. then (walk w.rows w.holes (vars ++ item w.first ∷ w.first ∷ []) b)
        (λ y. node y.rows y.holes (split_rule at w.first w.second y.type)))
    walk rows n vars (nil at m) = node rows (n + note_holes m) (nil_rule at (noted_type holes names n m))
    walk rows n vars (list_expr at es) =
        then (walk_all rows n vars es) (λ w. node w.rows w.holes (list_rule at w.types))
    walk rows n vars (cons at a b) =
        pair_node (pair (walk rows n vars a) (λ x. walk x.rows x.holes vars b)) (λ s t. cons_rule at s t)
    walk rows n vars (record_expr at r es) =
        let m = record_holes (slice_get records r) in
        then (walk_all rows (n + m) vars es) (λ w.
        node w.rows w.holes (record_rule at r (first_units m (λ k. holes (n + k))) (slice_get records r) w.types))
    walk rows n vars (field at r k a) =
        part_node (walk rows n vars a) (λ t. field_rule at r k (slice_get records r) t)

    pub walk_all : List Row → ℕ → List TypeTree → ExprTrees → Result AllWalked ℕ
    walk_all rows n vars none = Ok (record { types = []; rows = rows; holes = n })
    walk_all rows n vars (more e es) =
        then (walk rows n vars e) (λ x. then (walk_all x.rows x.holes vars es)
        (λ w. Ok (record { types = x.type ∷ w.types; rows = w.rows; holes = w.holes })))
