-- The tests of types and of their variables.
use Rattle.std.proofs.Common.{◌≡◌, ℕ, ◌<◌, Bool, true, ◌&&◌, List, [], ◌∷◌, ◌++◌, map, refl, ap}
use Rattle.std.specs.Prelude.{All}
use Rattle.std.specs.List.{list_all, flat_map}
use Rattle.std.proofs.lemmas.Bool.{and_parts, and_from}
use Rattle.std.proofs.lemmas.List.Elements.{All-nil, All-cons, All-head, All-tail, All-append}
use Rattle.um_units.specs.PowerMap.{PowerMap, replace}
use Rattle.um_units.specs.Variables.{VariablesBelow, variables_below}
use Rattle.um_units.proofs.Variables.{variables_below-from_VariablesBelow, VariablesBelow-from_terms}
use Rattle.um_tree.specs.declared.types.Ty.{Ty}
use Rattle.um_tree.specs.TypeTree.{TypeTree, bool_type, num_type, list_type, record_type, type_tree}
use Rattle.um_tree.specs.Typing.{put}
use Rattle.um_tree.specs.Scheme.{unit_variables, type_variables, variables}
use Rattle.um_elim.proofs.GrowingOrder.{All-front, All-back}
use Rattle.um_elim.proofs.VariablesKept.{unit_all, unit_below}
use Rattle.um_check.specs.Tests.{Becomes, units_below, type_below}

-- ---- a type with units put in
pub becomes-put : (s : ℕ → PowerMap) (t w : TypeTree) → Becomes s t w → put s t ≡ w
becomes-put s bool_type bool_type h = refl
becomes-put s (num_type u) (num_type v) h = ap num_type h
becomes-put s (list_type t) (list_type w) h = ap list_type (becomes-put s t w h)
becomes-put s (record_type r us) (record_type q vs) h = λ i. record_type (h.0 i) (h.1 i)
becomes-put s t w h = absurd h

pub put-becomes : (s : ℕ → PowerMap) (t w : TypeTree) → put s t ≡ w → Becomes s t w
put-becomes s bool_type bool_type e = tt
put-becomes s (num_type u) (num_type v) e = cc e
put-becomes s (list_type t) (list_type w) e = let inner : put s t ≡ w = cc e in put-becomes s t w inner
put-becomes s (record_type r us) (record_type q vs) e =
    let number : r ≡ q = cc e in
    let units : map (replace s) us ≡ vs = cc e in
    (number, units)
put-becomes s t w e = absurd (cc e)

-- ---- variables below a number
pub units_below-all : (n : ℕ) (us : List PowerMap) → units_below n us ≡ true → All (VariablesBelow n) us
units_below-all n [] h = All-nil (VariablesBelow n)
units_below-all n (u ∷ us) h = let p = and_parts (variables_below n u.terms) (units_below n us) h in All-cons (VariablesBelow n) u us (VariablesBelow-from_terms n u p.0) (units_below-all n us p.1)

pub all-units_below : (n : ℕ) (us : List PowerMap) → All (VariablesBelow n) us → units_below n us ≡ true
all-units_below n [] h = refl
all-units_below n (u ∷ us) h = and_from _ _ (variables_below-from_VariablesBelow n u (All-head (VariablesBelow n) u us h)) (all-units_below n us (All-tail (VariablesBelow n) u us h))

module _ (n : ℕ) where
  abbrev IsLow : ℕ → Type 0
  IsLow k = k < n

  units_all : (us : List PowerMap) → units_below n us ≡ true → All IsLow (flat_map unit_variables us)
  units_all [] h = All-nil IsLow
  units_all (u ∷ us) h =
      let p = and_parts (variables_below n u.terms) (units_below n us) h in
      All-append IsLow (unit_variables u) (flat_map unit_variables us) (unit_all n u (VariablesBelow-from_terms n u p.0)) (units_all us p.1)

  all_units : (us : List PowerMap) → All IsLow (flat_map unit_variables us) → units_below n us ≡ true
  all_units [] h = refl
  all_units (u ∷ us) h =
      and_from _ _ (variables_below-from_VariablesBelow n u (unit_below n u (All-front IsLow (unit_variables u) (flat_map unit_variables us) h)))
      (all_units us (All-back IsLow (unit_variables u) (flat_map unit_variables us) h))

  type_all : (t : TypeTree) → type_below n t ≡ true → All IsLow (type_variables t)
  type_all bool_type h = All-nil IsLow
  type_all (num_type u) h = unit_all n u (VariablesBelow-from_terms n u h)
  type_all (list_type t) h = type_all t h
  type_all (record_type r us) h = units_all us h

  all_type : (t : TypeTree) → All IsLow (type_variables t) → type_below n t ≡ true
  all_type bool_type h = refl
  all_type (num_type u) h = variables_below-from_VariablesBelow n u (unit_below n u h)
  all_type (list_type t) h = all_type t h
  all_type (record_type r us) h = all_units us h

  -- some types and one more
  abbrev types_test : List Ty → Bool
  types_test ts = list_all (λ ty. type_below n (type_tree ty)) ts

  pub types_all : (ts : List Ty) (t : TypeTree) → (types_test ts && type_below n t) ≡ true → All IsLow (variables (map type_tree ts ++ t ∷ []))
  types_all [] t h = All-append IsLow (type_variables t) [] (type_all t h) (All-nil IsLow)
  types_all (x ∷ xs) t h =
      let p = and_parts (types_test (x ∷ xs)) (type_below n t) h in
      let q = and_parts (type_below n (type_tree x)) (types_test xs) p.0 in
      All-append IsLow (type_variables (type_tree x)) (variables (map type_tree xs ++ t ∷ [])) (type_all (type_tree x) q.0) (types_all xs t (and_from _ _ q.1 p.1))

  pub all_types : (ts : List Ty) (t : TypeTree) → All IsLow (variables (map type_tree ts ++ t ∷ [])) → (types_test ts && type_below n t) ≡ true
  all_types [] t h = all_type t (All-front IsLow (type_variables t) [] h)
  all_types (x ∷ xs) t h =
      let rest = all_types xs t (All-back IsLow (type_variables (type_tree x)) (variables (map type_tree xs ++ t ∷ [])) h) in
      let p = and_parts (types_test xs) (type_below n t) rest in
      and_from _ _ (and_from _ _ (all_type (type_tree x) (All-front IsLow (type_variables (type_tree x)) (variables (map type_tree xs ++ t ∷ [])) h)) p.0) p.1
