-- A valid Yes: the instances of its solution are exactly the joint solutions of the rows, and so those of its scheme what
-- they give.
use Rattle.std.proofs.Common.{◌≡◌, ℕ, zero, suc, ◌<◌, List, [], ◌∷◌, ◌++◌, map, length, get_or, ℤ, pos, refl, sym, ap, ◌∙◌, subst, arith}
use Rattle.std.specs.Prelude.{All, slice_index_or}
use Rattle.std.specs.List.{flat_map}
use Rattle.std.specs.Int.Signed.{◌<ℤ◌, <ℤ_irrefl}
use Rattle.std.proofs.lemmas.List.{length-map, ext_get_or, get_or-map, get_or_default}
use Rattle.std.proofs.lemmas.List.Elements.{All-get_or}
use Rattle.um_units.specs.declared.Atom.TheVariants.{Var}
use Rattle.um_units.specs.PowerMap.{PowerMap, one, atom, mul, inv, pow, replace, nth}
use Rattle.um_units.specs.Solutions.{IsSubstitutionInstance, IsJointSolution}
use Rattle.um_units.proofs.Group.{pow-torsion_free, same_from_quotient}
use Rattle.um_units.proofs.Replacement.{replace-inv, replace-mul, replace-pow, replace-variable, replace-replace, replace-nth_map}
use Rattle.um_units.proofs.Solutions.{IsJointSolution-instance}
use Rattle.um_tree.specs.TypeTree.{TypeTree, bool_type, num_type, list_type, record_type}
use Rattle.um_tree.specs.ProgramTree.{Signature}
use Rattle.um_tree.specs.Typing.{put, put_signature}
use Rattle.um_tree.specs.Scheme.{unit_variables, type_variables, variables, signature_types}
use Rattle.um_elim.proofs.GrowingOrder.{All-front, All-back}
use Rattle.um_elim.proofs.VariablesKept.{unit_below}
use Rattle.um_check.specs.declared.certificate.Part.{Part}
use Rattle.um_check.specs.Combination.{combined, NamesRowsBelow}
use Rattle.um_check.specs.Validity.{returned, ComesBack}
use Rattle.um_check.specs.Laws.{ValidYesIsExact, ValidYesIsGeneral}
use Rattle.um_check.proofs.Combinations.{combined-solved}

-- where the product of rows is 1, the slot's unit comes back
came_back : (v solution back : List PowerMap) (j : ℕ) (divisor : ℤ) (u : PowerMap) → pos 0 <ℤ divisor → pow (returned solution back j) divisor ≡ u → replace (nth v) u ≡ one →
    replace (λ k. replace (nth v) (nth back k)) (nth solution j) ≡ nth v j
came_back v solution back j divisor u positive e solved =
    sym (replace-replace (nth back) (nth v) (nth solution j))
    ∙ same_from_quotient _ _
    (ap (mul (replace (nth v) (replace (nth back) (nth solution j)))) (ap inv (sym (replace-variable (nth v) j)) ∙ sym (replace-inv (nth v) (atom (Var j))))
    ∙ sym (replace-mul (nth v) (replace (nth back) (nth solution j)) (inv (atom (Var j))))
    ∙ pow-torsion_free (replace (nth v) (returned solution back j)) divisor
    (λ z. <ℤ_irrefl (subst (λ d. pos 0 <ℤ d) z positive))
    (sym (replace-pow (nth v) (returned solution back j) divisor) ∙ ap (replace (nth v)) e ∙ solved))

-- each joint solution is an instance
every_solution : (slots : ℕ) (rows solution back : List PowerMap) (divisor : ℤ) (parts : List (List Part)) (v : List PowerMap) → length solution ≡ slots →
    ComesBack slots rows solution back divisor parts → IsJointSolution slots rows v → IsSubstitutionInstance solution v
every_solution slots rows solution back divisor parts v l c joint =
    ((λ k. replace (nth v) (nth back k)), ext_get_or one (map (replace (λ k. replace (nth v) (nth back k))) solution) v (length-map solution (replace (λ k. replace (nth v) (nth back k))) ∙ l ∙ sym joint.per_slot) at)
  where
    at : (i : ℕ) → i < length (map (replace (λ k. replace (nth v) (nth back k))) solution) → get_or (map (replace (λ k. replace (nth v) (nth back k))) solution) i one ≡ get_or v i one
    at i h =
        let k : i < length solution = subst (λ m. i < m) (length-map solution (replace (λ k. replace (nth v) (nth back k)))) h in
        let j : i < slots = subst (λ m. i < m) l k in
        let b : NamesRowsBelow (length rows) (slice_index_or parts i []) = All-get_or (NamesRowsBelow (length rows)) parts i [] (subst (λ m. i < m) (sym c.per_slot) j) c.named in
        get_or-map (replace (λ k. replace (nth v) (nth back k))) solution i (atom (Var i)) one k
        ∙ came_back v solution back i divisor (combined rows (slice_index_or parts i [])) c.positive (c.by_rows i j) (combined-solved (nth v) rows (slice_index_or parts i []) joint.solves b)
        ∙ get_or_default v i (atom (Var i)) one (subst (λ m. i < m) (sym joint.per_slot) j)

-- ---- an instance of units, put for the variables of a type
module _ (s : ℕ → PowerMap) (us : List PowerMap) where
  abbrev IsSlot : ℕ → Type 0
  IsSlot k = k < length us

  units_put : (vs : List PowerMap) → All IsSlot (flat_map unit_variables vs) → map (replace (nth (map (replace s) us))) vs ≡ map (replace s) (map (replace (nth us)) vs)
  units_put [] below = refl
  units_put (v ∷ vs) below =
      λ i. replace-nth_map s us v (unit_below (length us) v (All-front IsSlot (unit_variables v) (flat_map unit_variables vs) below)) i
      ∷ units_put vs (All-back IsSlot (unit_variables v) (flat_map unit_variables vs) below) i

  type_put : (t : TypeTree) → All IsSlot (type_variables t) → put (nth (map (replace s) us)) t ≡ put s (put (nth us) t)
  type_put bool_type below = refl
  type_put (num_type u) below = ap num_type (replace-nth_map s us u (unit_below (length us) u below))
  type_put (list_type t) below = ap list_type (type_put t below)
  type_put (record_type r vs) below = ap (record_type r) (units_put vs below)

  types_put : (ts : List TypeTree) (t : TypeTree) → All IsSlot (variables (ts ++ t ∷ [])) →
      (map (put (nth (map (replace s) us))) ts ≡ map (put s) (map (put (nth us)) ts)) × (put (nth (map (replace s) us)) t ≡ put s (put (nth us) t))
  types_put [] t below = (refl, type_put t (All-front IsSlot (type_variables t) [] below))
  types_put (x ∷ xs) t below =
      let first = type_put x (All-front IsSlot (type_variables x) (variables (xs ++ t ∷ [])) below) in
      let rest = types_put xs t (All-back IsSlot (type_variables x) (variables (xs ++ t ∷ [])) below) in
      ((λ i. first i ∷ rest.0 i), rest.1)

  pub signature_put : (g : Signature) → All IsSlot (variables (signature_types g)) → put_signature (nth (map (replace s) us)) g ≡ put_signature s (put_signature (nth us) g)
  signature_put g below = let p = types_put g.params g.result below in λ i. record { params = p.0 i; result = p.1 i }

-- ---- the laws
pub valid_yes_is_exact : ValidYesIsExact
valid_yes_is_exact bases parameters slots rows g s c rows_below types_below valid h = (
  (λ i. (
    map (replace i.0) c.solution,
    IsJointSolution-instance slots rows c.solution (map (replace i.0) c.solution) rows_below valid.solves (i.0, refl),
    i.1 ∙ ap (put_signature i.0) (sym valid.gives) ∙ sym (signature_put i.0 c.solution g in_solution),
  )),
  (λ j.
      let i = every_solution slots rows c.solution c.back c.divisor c.parts j.0 valid.solves.per_slot valid.comes_back j.1 in
      (i.0, j.2 ∙ ap (λ us. put_signature (nth us) g) (sym i.1) ∙ signature_put i.0 c.solution g in_solution ∙ ap (put_signature i.0) valid.gives)),
)
  where
    in_solution : All (λ k. k < length c.solution) (variables (signature_types g))
    in_solution = subst (λ n. All (λ k. k < n) (variables (signature_types g))) (sym valid.solves.per_slot) types_below

pub valid_yes_is_general : ValidYesIsGeneral
valid_yes_is_general bases zero slots rows g s c some valid = absurd (omega (arith, some))
valid_yes_is_general bases (suc n) slots rows g s c some valid = (c.rigid, valid.general.0, valid.general.1)
