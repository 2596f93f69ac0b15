-- The equations of a function over its slots, given the schemes of the functions before it.
-- Source: Kennedy (1996): a recursive use has one type, an earlier function is used at any instance of its scheme.
use Rattle.std.specs.Prelude.{ℕ, List, [], ◌∷◌, ◌++◌, Option, Some, None}
use Rattle.um_units.specs.PowerMap.{PowerMap}
use Rattle.um_tree.specs.TypeTree.{TypeTree, NoteTree}
use Rattle.um_tree.specs.ProgramTree.{RecordTree, FunctionTree, Signature, SchemeTree}
use Rattle.um_slots.specs.Holes.{notes_holes}
use Rattle.um_slots.specs.Callees.{callee, head_holes}
use Rattle.um_slots.specs.Keys.{hole, name}
use Rattle.um_slots.specs.Slots.{function_slots, slot_unit}
use Rattle.um_slots.specs.Noted.{noted_type, noted_types, noted_result}
use Rattle.um_equal_types.specs.Steps.{Step, types_at}
use Rattle.um_equal_types.specs.Against.{against}
use Rattle.um_rows.specs.Derivation.{derive}

-- ---- the equations

-- the types over slots of the parameters and of the body, and the steps that lead to them
pub record Equations : Type 0 where
  pub params : List TypeTree
  pub result : TypeTree
  pub steps : List Step

-- holes: the unit of each hole. names: the unit of each named variable
module _ (holes names : ℕ → PowerMap) where
  -- the body's type against the result's note, at the function's name
  abbrev pub result_rows : ℕ → TypeTree → ℕ → Option NoteTree → List Step
  result_rows at t n (Some m) = against at t (noted_type holes names n m)
  result_rows at t n None = []

  -- what calls of the function itself are used at
  abbrev pub own_signature : FunctionTree → Signature
  own_signature f = record {
    params = noted_types holes names 0 f.params;
    result = noted_result holes names (notes_holes f.params) f.result;
  }

  -- the types of the parameters and of the result's note, at the function's name
  abbrev pub head_steps : FunctionTree → List Step
  head_steps f =
      types_at f.at
      (noted_types holes names 0 f.params ++ noted_result holes names (notes_holes f.params) f.result ∷ [])

  abbrev pub equations : List RecordTree → List SchemeTree → ℕ → FunctionTree → Equations
  equations records schemes i f =
      let params = noted_types holes names 0 f.params in
      let body = derive holes names records (own_signature f) (callee schemes i f) (head_holes f) params f.body in
      record {
        params = params;
        result = body.type;
        steps = head_steps f ++ (body.steps ++ result_rows f.at body.type (notes_holes f.params) f.result);
      }

-- ---- over the slots
abbrev pub slot_equations : List RecordTree → List SchemeTree → ℕ → FunctionTree → Equations
slot_equations records schemes i f =
    let order = function_slots records schemes i f in
    equations (λ k. slot_unit order (hole k)) (λ k. slot_unit order (name k)) records schemes i f
