-- The variables of types as a list, against what is said of each unit.
use Rattle.std.proofs.Common.{ℕ, ◌<◌, List, [], ◌∷◌, ◌++◌}
use Rattle.std.specs.Prelude.{All}
use Rattle.std.specs.List.{flat_map}
use Rattle.std.proofs.lemmas.List.Elements.{All-nil, All-cons, All-head, All-tail, All-append}
use Rattle.um_units.specs.declared.Atom.TheVariants.{Base}
use Rattle.um_units.specs.PowerMap.{PowerMap, atom}
use Rattle.um_units.specs.Variables.{VariablesBelow}
use Rattle.um_units.proofs.Variables.{variables_below-from_VariablesBelow}
use Rattle.um_tree.specs.TypeTree.{TypeTree, bool_type, num_type, list_type, record_type}
use Rattle.um_tree.specs.ProgramTree.{Signature}
use Rattle.um_tree.specs.Scheme.{unit_variables, type_variables, variables, signature_types}
use Rattle.um_elim.proofs.GrowingOrder.{All-front, All-back, All-member, All-from_below}
use Rattle.um_elim.proofs.RenamedUnits.{held-member}
use Rattle.um_equal_types.specs.Steps.{Step, row_at, wrong_shape_at, type_at, row_units}
use Rattle.um_rows.proofs.Variables.{TypeBelow, TypesBelow, SignatureBelow, StepsBelow}

module _ (n : ℕ) where
  -- ---- from the list
  unit_below_from : (u : PowerMap) → All (λ k. k < n) (unit_variables u) → VariablesBelow n u
  unit_below_from u all k held = All-member (λ i. i < n) (unit_variables u) k all (held-member u k held)

  units_below_from : (us : List PowerMap) → All (λ k. k < n) (flat_map unit_variables us) → All (VariablesBelow n) us
  units_below_from [] all = All-nil (VariablesBelow n)
  units_below_from (u ∷ us) all =
      All-cons (VariablesBelow n) u us
      (unit_below_from u (All-front (λ k. k < n) (unit_variables u) (flat_map unit_variables us) all))
      (units_below_from us (All-back (λ k. k < n) (unit_variables u) (flat_map unit_variables us) all))

  type_below_from : (t : TypeTree) → All (λ k. k < n) (type_variables t) → TypeBelow n t
  type_below_from bool_type all = tt
  type_below_from (num_type u) all = unit_below_from u all
  type_below_from (list_type t) all = type_below_from t all
  type_below_from (record_type r us) all = units_below_from us all

  pub signature_below_from : (g : Signature) → All (λ k. k < n) (variables (signature_types g)) → SignatureBelow n g
  signature_below_from g all = each g.params all
    where
      each : (ts : List TypeTree) → All (λ k. k < n) (variables (ts ++ g.result ∷ [])) → TypesBelow n ts × TypeBelow n g.result
      each [] all = (tt, type_below_from g.result (All-front (λ k. k < n) (type_variables g.result) [] all))
      each (t ∷ ts) all =
          let rest = each ts (All-back (λ k. k < n) (type_variables t) (variables (ts ++ g.result ∷ [])) all) in
          ((type_below_from t (All-front (λ k. k < n) (type_variables t) (variables (ts ++ g.result ∷ [])) all), rest.0), rest.1)

  -- ---- to the list
  unit_all : (u : PowerMap) → VariablesBelow n u → All (λ k. k < n) (unit_variables u)
  unit_all u low = All-from_below n u.terms (variables_below-from_VariablesBelow n u low)

  units_all : (us : List PowerMap) → All (VariablesBelow n) us → All (λ k. k < n) (flat_map unit_variables us)
  units_all [] low = All-nil (λ k. k < n)
  units_all (u ∷ us) low =
      All-append (λ k. k < n) (unit_variables u) (flat_map unit_variables us) (unit_all u (All-head (VariablesBelow n) u us low)) (units_all us (All-tail (VariablesBelow n) u us low))

  type_all : (t : TypeTree) → TypeBelow n t → All (λ k. k < n) (type_variables t)
  type_all bool_type low = All-nil (λ k. k < n)
  type_all (num_type u) low = unit_all u low
  type_all (list_type t) low = type_all t low
  type_all (record_type r us) low = units_all us low

  pub types_all : (ts : List TypeTree) → TypesBelow n ts → All (λ k. k < n) (variables ts)
  types_all [] low = All-nil (λ k. k < n)
  types_all (t ∷ ts) low = All-append (λ k. k < n) (type_variables t) (variables ts) (type_all t low.0) (types_all ts low.1)

  pub signature_all : (g : Signature) → SignatureBelow n g → All (λ k. k < n) (variables (signature_types g))
  signature_all g low = each g.params low.0
    where
      each : (ts : List TypeTree) → TypesBelow n ts → All (λ k. k < n) (variables (ts ++ g.result ∷ []))
      each [] h = All-append (λ k. k < n) (type_variables g.result) [] (type_all g.result low.1) (All-nil (λ k. k < n))
      each (t ∷ ts) h = All-append (λ k. k < n) (type_variables t) (variables (ts ++ g.result ∷ [])) (type_all t h.0) (each ts h.1)

  pub rows_all : (ss : List Step) → StepsBelow n ss → All (VariablesBelow n) (row_units ss)
  rows_all [] low = All-nil (VariablesBelow n)
  rows_all (row_at at u ∷ ss) low = All-cons (VariablesBelow n) u (row_units ss) low.0 (rows_all ss low.1)
  rows_all (wrong_shape_at at ∷ ss) low = All-cons (VariablesBelow n) (atom (Base 0)) (row_units ss) low.0 (rows_all ss low.1)
  rows_all (type_at at t ∷ ss) low = rows_all ss low.1
