-- The agreements of a function, in the order of its derivation: those of a node after those of its parts, and at last
-- that of the result's note.
-- Source: Kennedy (1996), the inference of units.
use Rattle.std.specs.Prelude.{ℕ, ◌+◌, List, [], ◌∷◌, ◌++◌, Option, Some, None, slice_get}
use Rattle.um_units.specs.PowerMap.{PowerMap}
use Rattle.um_tree.specs.TypeTree.{TypeTree, NoteTree}
use Rattle.um_tree.specs.ExprTree.{ExprTree, ExprTrees, truth, number, local, call, negate, not_expr, pown, arith}
use Rattle.um_tree.specs.ExprTree.{compare, both, either, if, bind, split, nil, list_expr, cons, record_expr, field}
use Rattle.um_tree.specs.ExprTree.{none, more}
use Rattle.um_tree.specs.ProgramTree.{RecordTree, FunctionTree, Signature, SchemeTree}
use Rattle.um_slots.specs.Holes.{Callee, callee_holes, record_holes, expr_holes, notes_holes}
use Rattle.um_slots.specs.Callees.{callee, head_holes}
use Rattle.um_slots.specs.Keys.{hole, name}
use Rattle.um_slots.specs.Slots.{function_slots, slot_unit}
use Rattle.um_slots.specs.Noted.{noted_type, noted_types}
use Rattle.um_rows.specs.Rules.{item}
use Rattle.um_rows.specs.Derivation.{first_units, offered, derive, derive_all}
use Rattle.um_rows.specs.Equations.{own_signature}
use Rattle.um_agree.specs.declared.rule.Rule.TheVariants as asks
use Rattle.um_agree.specs.Agreements.{Agreement}
use Rattle.um_agree.specs.NodeAgreements.{agree, arith_agreements, call_agreements, list_agreements, cons_agreements}
use Rattle.um_agree.specs.NodeAgreements.{record_agreements}

-- holes: the unit of each hole. names: the unit of each named variable. The holes of an expression are numbered from n
-- on
module _
    (holes names : ℕ → PowerMap) (records : List RecordTree) (self : Signature) (callee : ℕ → Callee)
  where
    -- the type of an expression over slots
    abbrev pub type_of : ℕ → List TypeTree → ExprTree → TypeTree
    type_of n vars e = let d = derive holes names records self callee n vars e in d.type

    abbrev pub types_of : ℕ → List TypeTree → ExprTrees → List TypeTree
    types_of n vars es = let d = derive_all holes names records self callee n vars es in d.types

    -- where the holes of what follows an expression begin
    abbrev pub past : ℕ → ExprTree → ℕ
    past n e = n + expr_holes records callee e

    abbrev mutual
      pub agreements : ℕ → List TypeTree → ExprTree → List Agreement
      agreements n vars (truth at b) = []
      agreements n vars (number at c m) = []
      agreements n vars (local at k) = []
      agreements n vars (call at j es) =
          let first = n + callee_holes (callee j) in
          all_agreements first vars es
          ++ call_agreements at j (offered holes names records self callee n (callee j)) (types_of first vars es)
      agreements n vars (negate at a) = agreements n vars a
      agreements n vars (not_expr at a) = agreements n vars a
      agreements n vars (pown at a k) = agreements n vars a
      agreements n vars (arith at op a b) =
          agreements n vars a ++ agreements (past n a) vars b
          ++ arith_agreements at op (type_of n vars a) (type_of (past n a) vars b)
      agreements n vars (compare at sign a b) =
          agreements n vars a ++ agreements (past n a) vars b
          ++ agree asks.Comparison at (type_of n vars a) (type_of (past n a) vars b) ∷ []
      agreements n vars (both at a b) = agreements n vars a ++ agreements (past n a) vars b
      agreements n vars (either at a b) = agreements n vars a ++ agreements (past n a) vars b
      agreements n vars (if at c a b) =
          agreements n vars c ++ agreements (past n c) vars a ++ agreements (past (past n c) a) vars b
          ++ agree asks.Branches at (type_of (past n c) vars a) (type_of (past (past n c) a) vars b) ∷ []
      agreements n vars (bind at a b) =
          agreements n vars a ++ agreements (past n a) (vars ++ type_of n vars a ∷ []) b
      agreements n vars (split at l a b) =
          let t = type_of n vars l in
          let inner = vars ++ item t ∷ t ∷ [] in
          agreements n vars l ++ agreements (past n l) vars a ++ agreements (past (past n l) a) inner b
          ++ agree asks.Arms at (type_of (past n l) vars a) (type_of (past (past n l) a) inner b) ∷ []
      agreements n vars (nil at m) = []
      agreements n vars (list_expr at es) = all_agreements n vars es ++ list_agreements at (types_of n vars es)
      agreements n vars (cons at a b) =
          agreements n vars a ++ agreements (past n a) vars b
          ++ cons_agreements at (type_of n vars a) (type_of (past n a) vars b)
      agreements n vars (record_expr at r es) =
          let m = record_holes (slice_get records r) in
          let us = first_units m (λ k. holes (n + k)) in
          all_agreements (n + m) vars es
          ++ record_agreements at r us (slice_get records r) (types_of (n + m) vars es)
      agreements n vars (field at r k a) = agreements n vars a

      pub all_agreements : ℕ → List TypeTree → ExprTrees → List Agreement
      all_agreements n vars none = []
      all_agreements n vars (more e es) = agreements n vars e ++ all_agreements (past n e) vars es

-- ---- of a function

module _ (holes names : ℕ → PowerMap) where
  -- the body's type and that of the result's note, at the function's name
  abbrev pub result_agreements : ℕ → TypeTree → ℕ → Option NoteTree → List Agreement
  result_agreements at t n (Some m) = agree asks.ResultNote at t (noted_type holes names n m) ∷ []
  result_agreements at t n None = []

  abbrev pub body_agreements : List RecordTree → List SchemeTree → ℕ → FunctionTree → List Agreement
  body_agreements records schemes i f =
      let params = noted_types holes names 0 f.params in
      agreements holes names records (own_signature holes names f) (callee schemes i f) (head_holes f) params f.body
      ++ result_agreements f.at
      (type_of holes names records (own_signature holes names f) (callee schemes i f) (head_holes f) params f.body)
      (notes_holes f.params) f.result

-- over the slots, given the schemes of the functions before
abbrev pub function_agreements : List RecordTree → List SchemeTree → ℕ → FunctionTree → List Agreement
function_agreements records schemes i f =
    let order = function_slots records schemes i f in
    body_agreements (λ k. slot_unit order (hole k)) (λ k. slot_unit order (name k)) records schemes i f
