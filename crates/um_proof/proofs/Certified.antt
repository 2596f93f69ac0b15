-- From a valid certificate of a scheme to typings, with unit parameters.
use Rattle.std.proofs.Common.{◌≡◌, sym, ap, ◌∙◌, inl, ℕ, zero, suc, ◌<◌, ◌≤◌, List, [], ◌∷◌, map, length, slice_get, Some, refl, subst, arith}
use Rattle.std.specs.Prelude.{All}
use Rattle.std.proofs.lemmas.List.{length-map}
use Rattle.std.proofs.lemmas.List.Elements.{All-nil, All-cons, All-head, All-tail}
use Rattle.um_units.specs.PowerMap.{PowerMap, one, replace, nth}
use Rattle.um_units.specs.Variables.{VariablesBelow}
use Rattle.um_units.specs.Solutions.{Solves, IsJointSolution}
use Rattle.um_units.proofs.Replacement.{nth-map}
use Rattle.um_tree.specs.ProgramTree.{FunctionTree, ProgramTree, Signature, SchemeTree}
use Rattle.um_tree.specs.Typing.{put_signature, moved_signature, IsInstantiation, IsTypingOf, TypingAt, typings_below, Typing}
use Rattle.um_tree.specs.Scheme.{IsInstance}
use Rattle.um_tree.specs.Formed.{BasesBelow}
use Rattle.um_tree.specs.Laws.{LiteralsAreClosed, FormedLiteralsAreClosed}
use Rattle.um_tree.proofs.Homomorphisms.{h-one}
use Rattle.um_slots.specs.Slots.{slot_count}
use Rattle.um_rows.specs.Solutions.{HaveSchemes, function_rows, slot_signature, IsRigid}
use Rattle.um_rows.proofs.Variables.{replace_alike_below, signature_put_alike_below}
use Rattle.um_rows.proofs.Solved.{slots_below, parameters_in_slots, all_fit, rigid_typings_are_solutions, rows_hold_slots, types_hold_slots}
use Rattle.um_infer.proofs.InferenceLaws.{first_are_principal}
use Rattle.um_infer.proofs.PrincipalSchemes.{have_schemes}
use Rattle.um_check.specs.declared.certificate.Yes.{Yes}
use Rattle.um_check.specs.Validity.{ShowsGeneral}
use Rattle.um_check.specs.Laws.{Gives}
use Rattle.um_check.proofs.Returns.{valid_yes_is_exact}
use Rattle.um_proof.specs.EquationLaws.{RowsHoldDeclaredUnits, TypesHoldDeclaredUnits}
use Rattle.um_proof.specs.Proving.{IsYesOf}
use Rattle.um_proof.specs.Laws.{HoldDeclaredUnits, CertifiedOverDeclaredUnits, CertificatesShowPrincipalSchemes}
use Rattle.um_proof.proofs.Instantiated.{given_is}
use Rattle.um_proof.proofs.MovedTypes.{unit_moved, signature_moved}
use Rattle.um_proof.proofs.Rigid.{put_back, apart_units, gives_back, apart_rigid, apart_joint}

module _ (p : ProgramTree) (schemes : List SchemeTree) (i : ℕ) (f : FunctionTree) (declared : slice_get p.functions i ≡ Some f) (closed : LiteralsAreClosed f.body) (have : HaveSchemes p schemes i) (holds : HoldDeclaredUnits p schemes i f) where
  abbrev bases : ℕ
  bases = length p.bases

  abbrev slots : ℕ
  slots = slot_count p.records schemes i f

  abbrev rows : List PowerMap
  rows = function_rows p.records schemes i f

  abbrev types : Signature
  types = slot_signature p.records schemes i f

  rows_below : All (VariablesBelow slots) rows
  rows_below = rows_hold_slots p schemes i f have

  types_alike : (s t : ℕ → PowerMap) → ((k : ℕ) → k < slots → s k ≡ t k) → put_signature s types ≡ put_signature t types
  types_alike s t alike = signature_put_alike_below slots s t alike types (slots_below (typings_below p i) schemes i (all_fit p schemes i have) p.records f).0

  within : f.units ≤ slots
  within = parameters_in_slots (typings_below p i) schemes i (all_fit p schemes i have) p.records f

  -- ---- a joint solution after an instantiation
  module _ (change : PowerMap → PowerMap) (is : IsInstantiation bases f.units change) (us : List PowerMap) where
    moved_at : length us ≡ slots → (k : ℕ) → k < slots → nth (map change us) k ≡ change (nth us k)
    moved_at count k low = nth-map change us k (subst (λ n. k < n) (sym count) low)

    solved_after : (rs : List PowerMap) → length us ≡ slots → All (VariablesBelow slots) rs → All (BasesBelow bases) rs → Solves (nth us) rs → Solves (nth (map change us)) rs
    solved_after [] count low held solved = All-nil (λ row. replace (nth (map change us)) row ≡ one)
    solved_after (r ∷ rs) count low held solved =
        let Ours = λ (s : ℕ → PowerMap) (u : PowerMap). replace s u ≡ one in
        All-cons (Ours (nth (map change us))) r rs
        (replace_alike_below slots (nth (map change us)) (λ k. change (nth us k)) (moved_at count) r (All-head (VariablesBelow slots) r rs low)
        ∙ sym (unit_moved change is.homomorphism bases (λ k below. is.others k (inl below)) (nth us) r (All-head (BasesBelow bases) r rs held))
        ∙ ap change (All-head (Ours (nth us)) r rs solved) ∙ h-one change is.homomorphism)
        (solved_after rs count (All-tail (VariablesBelow slots) r rs low) (All-tail (BasesBelow bases) r rs held) (All-tail (Ours (nth us)) r rs solved))

    types_after : length us ≡ slots → moved_signature change (put_signature (nth us) types) ≡ put_signature (nth (map change us)) types
    types_after count =
        signature_moved change is.homomorphism bases (λ k below. is.others k (inl below)) (nth us) types holds.types
        ∙ sym (types_alike (nth (map change us)) (λ k. change (nth us k)) (moved_at count))

  -- a typing comes from a joint solution
  solution_of : (g : Signature) → IsTypingOf bases p.records (typings_below p i) i f g → Gives slots rows types g
  solution_of g m =
      let w = (rigid_typings_are_solutions p schemes i f closed have m.signature).0 m.typing in (
        map m.change w.0,
        record {
          per_slot = length-map w.0 m.change ∙ w.1.per_slot;
          solves = solved_after m.change m.instantiates w.0 rows w.1.per_slot rows_below holds.rows w.1.solves;
        },
        m.given ∙ ap (moved_signature m.change) w.3 ∙ types_after m.change m.instantiates w.0 w.1.per_slot,
      )

  -- and a joint solution gives a typing, if some joint solution has a unit of its own for each unit parameter
  typing_of : (g : Signature) (us rs : List PowerMap) → IsJointSolution slots rows us → IsJointSolution slots rows rs → IsRigid bases f.units rs → g ≡ put_signature (nth us) types → IsTypingOf bases p.records (typings_below p i) i f g
  typing_of g us rs joint also rigid given =
      let ws = apart_units bases f.units slots us rs rigid within in
      let change = put_back bases f.units slots us rs rigid within in
      let is : IsInstantiation bases f.units change = given_is bases f.units us in
      let back : put_signature (nth us) types ≡ moved_signature change (put_signature (nth ws) types) =
      types_alike (nth us) (λ k. change (nth ws k)) (λ k low. sym (gives_back bases f.units slots us rs rigid within k low))
      ∙ sym (signature_moved change is.homomorphism bases (λ k below. is.others k (inl below)) (nth ws) types holds.types) in
      record {
        signature = put_signature (nth ws) types;
        typing = (rigid_typings_are_solutions p schemes i f closed have (put_signature (nth ws) types)).1
            (ws, apart_joint bases f.units slots us rs rigid within rows rows_below holds.rows joint also, apart_rigid bases f.units slots us rs rigid within, refl);
        change = change;
        instantiates = is;
        given = given ∙ back;
      }

  rigid_solution : (n : ℕ) (us others : List PowerMap) → IsJointSolution slots rows us → ShowsGeneral bases slots n rows others → (rs : List PowerMap) × IsJointSolution slots rows rs × IsRigid bases n rs
  rigid_solution zero us others joint general = (us, joint, λ k low. absurd (omega (arith, low)))
  rigid_solution (suc n) us others joint general = (others, general.0, general.1)

  module _ (s : SchemeTree) (c : Yes) (valid : IsYesOf p schemes i f s c) where
    exact : (g : Signature) → (IsInstance s g → Gives slots rows types g) × (Gives slots rows types g → IsInstance s g)
    exact g = valid_yes_is_exact bases f.units slots rows types s c rows_below (types_hold_slots p schemes i f have) valid g

    typed_instance : (g : Signature) → Typing p i g → IsInstance s g
    typed_instance g typed = (exact g).1 (solution_of g (subst (λ o. TypingAt bases p.records (typings_below p i) i o g) declared typed))

    instance_typed : (g : Signature) → IsInstance s g → Typing p i g
    instance_typed g instance =
        let w = (exact g).0 instance in
        let r = rigid_solution f.units w.0 c.rigid w.1 valid.general in
        subst (λ o. TypingAt bases p.records (typings_below p i) i o g) (sym declared) (typing_of g w.0 r.0 w.1 r.1 r.2 w.2)

pub certified_over_declared_units : CertifiedOverDeclaredUnits
certified_over_declared_units p schemes i f declared closed have holds s c valid = record {
  below = valid.own;
  instances = λ g. (typed_instance p schemes i f declared closed have holds s c valid g, instance_typed p schemes i f declared closed have holds s c valid g);
}

pub certificates_show_principal_schemes : FormedLiteralsAreClosed → RowsHoldDeclaredUnits → TypesHoldDeclaredUnits → CertificatesShowPrincipalSchemes
certificates_show_principal_schemes literals rows types p n schemes i f formed shaped few inferred within declared s c valid =
    let all = have_schemes p n schemes (first_are_principal p formed n schemes few inferred) in
    let have : HaveSchemes p schemes i = λ j below. all j (omega (arith, below, within)) in
    let holds : HoldDeclaredUnits p schemes i f = record { rows = rows p n schemes i f formed shaped few inferred within declared; types = types p n schemes i f formed shaped few inferred within declared } in
    certified_over_declared_units p schemes i f declared (literals p i formed i f (omega arith) declared) have holds s c valid
