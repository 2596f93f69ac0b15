-- Unit parameters as variables in units for slots: what the units then give for rows and types, in which no parameter's
-- base unit stands.
use Rattle.std.proofs.Common.{◌≡◌, ℕ, ◌+◌, ◌-◌, ◌<◌, true, cond, List, [], ◌∷◌, ◌++◌, map, length, refl, sym, ap, ◌∙◌, subst, arith}
use Rattle.std.specs.Prelude.{All, IsTrue}
use Rattle.std.specs.List.{flat_map, list_all}
use Rattle.std.proofs.lemmas.Bool.{and_parts, and_from}
use Rattle.std.proofs.lemmas.Bool.Decides.{nat_tests}
use Rattle.std.proofs.lemmas.List.{length-map}
use Rattle.std.proofs.lemmas.List.Elements.{All-nil, All-cons, All-head, All-tail}
use Rattle.um_units.specs.declared.Atom.{Atom}
use Rattle.um_units.specs.declared.Atom.TheVariants.{Base, Var}
use Rattle.um_units.specs.PowerMap.{PowerMap, power_of, one, atom, replace, nth}
use Rattle.um_units.specs.Range.{fits}
use Rattle.um_units.specs.Variables.{VariablesBelow}
use Rattle.um_units.specs.Solutions.{Solves, IsJointSolution}
use Rattle.um_units.proofs.Replacement.{extension-mul, extension-atom, replace_alike, nth-map}
use Rattle.um_units.proofs.Variables.{VariablesBelow-replace_nth}
use Rattle.um_tree.specs.TypeTree.{TypeTree, bool_type, num_type, list_type, record_type}
use Rattle.um_tree.specs.ProgramTree.{Signature}
use Rattle.um_tree.specs.Typing.{put, put_signature, moved}
use Rattle.um_tree.specs.Scheme.{unit_variables, type_variables, variables, signature_types}
use Rattle.um_tree.specs.Laws.{Leaves, TypeHas}
use Rattle.um_tree.proofs.Homomorphisms.{h-one, h-replace}
use Rattle.um_elim.specs.Application.{type_fits}
use Rattle.um_elim.proofs.Cases.{on_test}
use Rattle.um_elim.proofs.GrowingOrder.{All-front, All-back}
use Rattle.um_elim.proofs.VariablesKept.{unit_below}
use Rattle.um_rows.specs.Generalised.{is_parameter, generalised_atom, generalised_unit, generalised}
use Rattle.um_rows.specs.Judgement.{signature_fits}
use Rattle.um_rows.proofs.GeneralisedUnits.{fits-generalised, variables-generalised}
use Rattle.um_kept.specs.Answers.{HoldsNoParameter}

module _ (bases parameters slots : ℕ) (units : List PowerMap) (count : length units ≡ slots) (below : All (VariablesBelow slots) units) where
  abbrev pub in_place : PowerMap → PowerMap
  in_place = generalised_unit bases parameters slots

  abbrev pub general : List PowerMap
  general = map in_place units

  abbrev at_atom : Atom → PowerMap
  at_atom x = atom (generalised_atom bases parameters slots x)

  abbrev IsSlot : ℕ → Type 0
  IsSlot k = k < slots

  left : (u : PowerMap) → HoldsNoParameter bases parameters u → Leaves in_place u
  left u none n held =
      extension-atom at_atom (Base n)
      ∙ on_test (is_parameter bases parameters slots n)
      (λ e.
      let low : n - bases < parameters = grind (arith, nat_tests) in
      let same : bases + (n - bases) ≡ n = grind (arith, nat_tests) in
      absurd (held (ap (λ m. power_of u (Base m)) (sym same) ∙ none (n - bases) low)))
      (λ e. ap (λ b. atom (cond b (Var (slots + (n - bases))) (Base n))) e)

  -- ---- in a unit
  pub unit_put : (u : PowerMap) → HoldsNoParameter bases parameters u → VariablesBelow slots u → replace (nth general) u ≡ in_place (replace (nth units) u)
  unit_put u none low =
      replace_alike (nth general) (λ k. in_place (nth units k)) u (λ k held. nth-map in_place units k (subst (λ n. k < n) (sym count) (low k held)))
      ∙ sym (h-replace in_place (extension-mul at_atom) u (left u none) (nth units))

  unit_fits : (u : PowerMap) → HoldsNoParameter bases parameters u → VariablesBelow slots u → IsTrue (fits (replace (nth units) u)) → IsTrue (fits (replace (nth general) u))
  unit_fits u none low f =
      subst (λ v. IsTrue (fits v)) (sym (unit_put u none low))
      (fits-generalised bases parameters slots (replace (nth units) u) (VariablesBelow-replace_nth slots units u below (subst (λ n. VariablesBelow n u) (sym count) low)) f)

  -- ---- in rows
  solves : (rows : List PowerMap) → All (HoldsNoParameter bases parameters) rows → All (VariablesBelow slots) rows → Solves (nth units) rows → Solves (nth general) rows
  solves [] none low h = All-nil (λ row. replace (nth general) row ≡ one)
  solves (r ∷ rows) none low h =
      All-cons (λ row. replace (nth general) row ≡ one) r rows
      (unit_put r (All-head (HoldsNoParameter bases parameters) r rows none) (All-head (VariablesBelow slots) r rows low)
      ∙ ap in_place (All-head (λ row. replace (nth units) row ≡ one) r rows h) ∙ h-one in_place (extension-mul at_atom))
      (solves rows (All-tail (HoldsNoParameter bases parameters) r rows none) (All-tail (VariablesBelow slots) r rows low) (All-tail (λ row. replace (nth units) row ≡ one) r rows h))

  pub general_solution : (rows : List PowerMap) → All (HoldsNoParameter bases parameters) rows → All (VariablesBelow slots) rows → IsJointSolution slots rows units → IsJointSolution slots rows general
  general_solution rows none low h = record { per_slot = length-map units in_place ∙ count; solves = solves rows none low h.solves }

  -- ---- in types: what is put in, and that it fits
  abbrev AreMoved : List PowerMap → Type 0
  AreMoved us = (map (replace (nth general)) us ≡ map in_place (map (replace (nth units)) us)) × (IsTrue (list_all fits (map (replace (nth units)) us)) → IsTrue (list_all fits (map (replace (nth general)) us)))

  units_moved : (us : List PowerMap) → All (HoldsNoParameter bases parameters) us → All IsSlot (flat_map unit_variables us) → AreMoved us
  units_moved [] none low = (refl, λ f. f)
  units_moved (u ∷ us) none low =
      let own = All-head (HoldsNoParameter bases parameters) u us none in
      let inside = unit_below slots u (All-front IsSlot (unit_variables u) (flat_map unit_variables us) low) in
      let first = unit_put u own inside in
      let rest = units_moved us (All-tail (HoldsNoParameter bases parameters) u us none) (All-back IsSlot (unit_variables u) (flat_map unit_variables us) low) in (
        (λ i. first i ∷ rest.0 i),
        λ f.
            let parts = and_parts (fits (replace (nth units) u)) (list_all fits (map (replace (nth units)) us)) f in
            and_from (fits (replace (nth general) u)) (list_all fits (map (replace (nth general)) us)) (unit_fits u own inside parts.0) (rest.1 parts.1),
      )

  abbrev IsMoved : TypeTree → Type 0
  IsMoved t = (put (nth general) t ≡ moved in_place (put (nth units) t)) × (IsTrue (type_fits (put (nth units) t)) → IsTrue (type_fits (put (nth general) t)))

  type_moved : (t : TypeTree) → TypeHas (HoldsNoParameter bases parameters) t → All IsSlot (type_variables t) → IsMoved t
  type_moved bool_type none low = (refl, λ f. f)
  type_moved (num_type u) none low = let inside = unit_below slots u low in (ap num_type (unit_put u none inside), unit_fits u none inside)
  type_moved (list_type t) none low = let rest = type_moved t none low in (ap list_type rest.0, rest.1)
  type_moved (record_type r us) none low = let rest = units_moved us none low in (ap (record_type r) rest.0, rest.1)

  types_moved : (ts : List TypeTree) (t : TypeTree) → All (TypeHas (HoldsNoParameter bases parameters)) (ts ++ t ∷ []) → All IsSlot (variables (ts ++ t ∷ [])) →
      (map (put (nth general)) ts ≡ map (moved in_place) (map (put (nth units)) ts)) × (put (nth general) t ≡ moved in_place (put (nth units) t))
      × (IsTrue (list_all type_fits (map (put (nth units)) ts ++ put (nth units) t ∷ [])) → IsTrue (list_all type_fits (map (put (nth general)) ts ++ put (nth general) t ∷ [])))
  types_moved [] t none low =
      let last = type_moved t (All-head (TypeHas (HoldsNoParameter bases parameters)) t [] none) (All-front IsSlot (type_variables t) [] low) in
      (refl, last.0, λ f. and_from (type_fits (put (nth general) t)) true (last.1 (and_parts (type_fits (put (nth units) t)) true f).0) refl)
  types_moved (x ∷ xs) t none low =
      let first = type_moved x (All-head (TypeHas (HoldsNoParameter bases parameters)) x (xs ++ t ∷ []) none) (All-front IsSlot (type_variables x) (variables (xs ++ t ∷ [])) low) in
      let rest = types_moved xs t (All-tail (TypeHas (HoldsNoParameter bases parameters)) x (xs ++ t ∷ []) none) (All-back IsSlot (type_variables x) (variables (xs ++ t ∷ [])) low) in
      let same = first.0 in
      let more = rest.0 in (
        (λ i. same i ∷ more i),
        rest.1,
        λ f.
            let parts = and_parts (type_fits (put (nth units) x)) (list_all type_fits (map (put (nth units)) xs ++ put (nth units) t ∷ [])) f in
            and_from (type_fits (put (nth general) x)) (list_all type_fits (map (put (nth general)) xs ++ put (nth general) t ∷ [])) (first.1 parts.0) (rest.2 parts.1),
      )

  module _ (g : Signature) (none : All (TypeHas (HoldsNoParameter bases parameters)) (signature_types g)) (low : All IsSlot (variables (signature_types g))) where
    pub signature_moved : put_signature (nth general) g ≡ generalised bases parameters slots (put_signature (nth units) g)
    signature_moved = let w = types_moved g.params g.result none low in let params = w.0 in let result = w.1 in λ i. record { params = params i; result = result i }

    pub signature_fits_in_place : IsTrue (signature_fits (put_signature (nth units) g)) → IsTrue (signature_fits (put_signature (nth general) g))
    signature_fits_in_place f = (types_moved g.params g.result none low).2 f

  -- ---- variables
  general_below : (us : List PowerMap) → All (VariablesBelow slots) us → All (VariablesBelow (slots + parameters)) (map in_place us)
  general_below [] low = All-nil (VariablesBelow (slots + parameters))
  general_below (u ∷ us) low =
      All-cons (VariablesBelow (slots + parameters)) (in_place u) (map in_place us) (variables-generalised bases parameters slots u (All-head (VariablesBelow slots) u us low)) (general_below us (All-tail (VariablesBelow slots) u us low))

  pub all_general_below : All (VariablesBelow (slots + parameters)) general
  all_general_below = general_below units below
