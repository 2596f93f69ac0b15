-- Types whose unit parameters become variables hold the variables of the slots and of the parameters alone, and are as
-- they were where there are no parameters.
use Rattle.std.proofs.Common.{◌≡◌, false, cond, ℕ, ◌+◌, ◌-◌, ◌<◌, List, [], ◌∷◌, map, refl, sym, ap, ◌∙◌, arith}
use Rattle.std.proofs.lemmas.Bool.Decides.{nat_tests}
use Rattle.std.specs.Prelude.{All}
use Rattle.std.specs.List.{flat_map}
use Rattle.std.proofs.lemmas.List.Elements.{All-nil, All-append}
use Rattle.um_units.specs.declared.Atom.{Atom}
use Rattle.um_units.specs.declared.Atom.TheVariants.{Base, Var}
use Rattle.um_units.specs.declared.Term.{Term}
use Rattle.um_units.specs.PowerMap.{PowerMap, product}
use Rattle.um_units.proofs.Equality.{product-of_terms}
use Rattle.um_tree.specs.TypeTree.{TypeTree, bool_type, num_type, list_type, record_type}
use Rattle.um_tree.specs.ProgramTree.{Signature}
use Rattle.um_tree.specs.Typing.{moved}
use Rattle.um_tree.proofs.Instantiations.{signature_alike, signature_left}
use Rattle.um_tree.specs.Scheme.{unit_variables, type_variables, variables}
use Rattle.um_elim.proofs.GrowingOrder.{All-front, All-back}
use Rattle.um_elim.proofs.VariablesKept.{unit_all, unit_below}
use Rattle.um_rows.specs.Generalised.{is_parameter, generalised_atom, generalised_term, generalised_unit}
use Rattle.um_rows.proofs.GeneralisedUnits.{variables-generalised, product-generalised}

module _ (bases parameters slots : ℕ) where
  abbrev general : PowerMap → PowerMap
  general = generalised_unit bases parameters slots

  unit_stays : (u : PowerMap) → All (λ k. k < slots) (unit_variables u) → All (λ k. k < slots + parameters) (unit_variables (general u))
  unit_stays u low = unit_all (slots + parameters) (general u) (variables-generalised bases parameters slots u (unit_below slots u low))

  units_stay : (us : List PowerMap) → All (λ k. k < slots) (flat_map unit_variables us) → All (λ k. k < slots + parameters) (flat_map unit_variables (map general us))
  units_stay [] low = All-nil (λ k. k < slots + parameters)
  units_stay (u ∷ us) low =
      All-append (λ k. k < slots + parameters) (unit_variables (general u)) (flat_map unit_variables (map general us))
      (unit_stays u (All-front (λ k. k < slots) (unit_variables u) (flat_map unit_variables us) low))
      (units_stay us (All-back (λ k. k < slots) (unit_variables u) (flat_map unit_variables us) low))

  type_stays : (t : TypeTree) → All (λ k. k < slots) (type_variables t) → All (λ k. k < slots + parameters) (type_variables (moved general t))
  type_stays bool_type low = All-nil (λ k. k < slots + parameters)
  type_stays (num_type u) low = unit_stays u low
  type_stays (list_type t) low = type_stays t low
  type_stays (record_type r us) low = units_stay us low

  pub types_stay : (ts : List TypeTree) → All (λ k. k < slots) (variables ts) → All (λ k. k < slots + parameters) (variables (map (moved general) ts))
  types_stay [] low = All-nil (λ k. k < slots + parameters)
  types_stay (t ∷ ts) low =
      All-append (λ k. k < slots + parameters) (type_variables (moved general t)) (variables (map (moved general) ts))
      (type_stays t (All-front (λ k. k < slots) (type_variables t) (variables ts) low))
      (types_stay ts (All-back (λ k. k < slots) (type_variables t) (variables ts) low))

pub types_same : (bases slots : ℕ) (ts : List TypeTree) → map (moved (generalised_unit bases 0 slots)) ts ≡ ts
types_same bases slots ts = ap (λ (g : Signature). g.params) (signature_alike (generalised_unit bases 0 slots) (λ u. u) same made ∙ signature_left made)
  where
    made : Signature
    made = record { params = ts; result = bool_type }

    at : (x : Atom) → generalised_atom bases 0 slots x ≡ x
    at (Base m) = let none : is_parameter bases 0 slots m ≡ false = grind (arith, nat_tests) in ap (λ b. cond b (Var (slots + (m - bases))) (Base m)) none
    at (Var k) = refl

    terms_same : (ts : List Term) → map (generalised_term bases 0 slots) ts ≡ ts
    terms_same [] = refl
    terms_same (t ∷ ts) = λ i. record { atom = at t.atom i; power = t.power } ∷ terms_same ts i

    same : (u : PowerMap) → generalised_unit bases 0 slots u ≡ u
    same u = sym (product-generalised bases 0 slots u) ∙ ap product (terms_same u.terms) ∙ product-of_terms u
