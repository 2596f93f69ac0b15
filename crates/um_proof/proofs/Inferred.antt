-- The schemes that the inference of a formed program gives, and the equations of its functions with them.
use Rattle.std.proofs.Common.{◌≡◌, ℕ, zero, suc, ◌<◌, ◌≤◌, inl, inr, cond, nat_lt, Option, Some, None, List, [], ◌∷◌, length, slice_get, refl, sym, subst, arith}
use Rattle.std.specs.Prelude.{All, ◌==◌, ◌&&◌}
use Rattle.std.proofs.lemmas.List.{length-map}
use Rattle.std.proofs.lemmas.List.Elements.{All-nil, All-cons}
use Rattle.um_tree.specs.ProgramTree.{FunctionTree, ProgramTree, SchemeTree}
use Rattle.um_tree.specs.Formed.{IsFormed}
use Rattle.um_tree.specs.Shapes.{IsShaped}
use Rattle.um_elim.proofs.Cases.{on_test}
use Rattle.um_equal_types.specs.declared.row.Row.{Row}
use Rattle.um_equal_types.specs.Steps.{Step, row_at, wrong_shape_at, type_at, rows_of, row_units, first_past}
use Rattle.um_slots.specs.Holes.{itself, nobody}
use Rattle.um_slots.specs.Keys.{hole, name}
use Rattle.um_slots.specs.Callees.{known_function, may_recur, callee}
use Rattle.um_slots.specs.Slots.{slot, slot_unit, function_slots, slot_count}
use Rattle.um_rows.specs.Equations.{slot_equations}
use Rattle.um_rows.specs.Solutions.{function_rows, slot_signature, HaveSchemes}
use Rattle.um_rows.specs.Judgement.{Judgement, has_scheme, too_many_slots, passes_range, has_no_typing, not_general, judge}
use Rattle.um_rows.specs.RightShapes.{HaveRightShapes}
use Rattle.um_rows.proofs.TypedShapes.{shaped_functions_form_no_wrong_shape}
use Rattle.um_infer.specs.Inference.{Inference, all_schemes, stops_at_slots, stops_at_range, stops_at_units, stops_at_not_general, with_judgement, with_function, and_then, infer_first}
use Rattle.um_infer.proofs.SchemeLists.{item_at, item_or_last}
use Rattle.um_infer.proofs.PrincipalSchemes.{have_schemes}
use Rattle.um_infer.proofs.InferenceLaws.{first_are_principal}
use Rattle.um_proof.specs.EquationLaws.{RowsHoldDeclaredUnits, TypesHoldDeclaredUnits, SchemesHoldDeclaredUnits, RowsAreFew}
use Rattle.um_proof.proofs.Lacks.{Lacks, variable_lacks, SignatureLacks, all_bases_below, signature_bases_below}
use Rattle.um_proof.proofs.NodeRules.{StepsLack}
use Rattle.um_proof.proofs.Derivations.{CalleeLacks, EquationsLack, equations_lack}
use Rattle.um_proof.proofs.Elimination.{JudgementLacks, limited_lacks}

-- ---- given the schemes of the functions before
module _ (m : ℕ) where
  abbrev SchemesLack : List SchemeTree → Type 0
  SchemesLack schemes = (j : ℕ) (s : SchemeTree) → slice_get schemes j ≡ Some s → SignatureLacks m s.signature

  known_lacks : (o : Option SchemeTree) → ((s : SchemeTree) → o ≡ Some s → SignatureLacks m s.signature) → CalleeLacks m (known_function o)
  known_lacks None h = tt
  known_lacks (Some s) h = h s refl

  callee_lacks : (schemes : List SchemeTree) → SchemesLack schemes → (i : ℕ) (f : FunctionTree) (j : ℕ) → CalleeLacks m (callee schemes i f j)
  callee_lacks schemes h i f j =
      on_test (nat_lt j i)
      (λ t. subst (λ b. CalleeLacks m (cond b (known_function (slice_get schemes j)) (cond (j == i && may_recur f) itself nobody))) (sym t) (known_lacks (slice_get schemes j) (h j)))
      (λ t. subst (λ b. CalleeLacks m (cond b (known_function (slice_get schemes j)) (cond (j == i && may_recur f) itself nobody))) (sym t)
      (on_test (j == i && may_recur f)
      (λ q. subst (λ b. CalleeLacks m (cond b itself nobody)) (sym q) tt)
      (λ q. subst (λ b. CalleeLacks m (cond b itself nobody)) (sym q) tt)))

  -- the rows among steps that stand for no wrong shape
  rows_lack : (ss : List Step) → StepsLack m ss → HaveRightShapes ss → All (Lacks m) (row_units ss)
  rows_lack [] h right = All-nil (Lacks m)
  rows_lack (row_at at u ∷ ss) h right = All-cons (Lacks m) u (row_units ss) h.0 (rows_lack ss h.1 right)
  rows_lack (wrong_shape_at at ∷ ss) h right = absurd right
  rows_lack (type_at at t ∷ ss) h right = rows_lack ss h right

  module _ (p : ProgramTree) (formed : IsFormed p) (shaped : IsShaped p) (undeclared : length p.bases ≤ m) where
    module _ (schemes : List SchemeTree) (lack : SchemesLack schemes) (i : ℕ) (f : FunctionTree) (declared : slice_get p.functions i ≡ Some f) where
      function_lacks : EquationsLack m f (slot_equations p.records schemes i f)
      function_lacks =
          let order = function_slots p.records schemes i f in
          equations_lack m (λ k. slot_unit order (hole k)) (λ k. slot_unit order (name k)) (λ k. variable_lacks m (slot order (hole k))) (λ k. variable_lacks m (slot order (name k))) p formed undeclared schemes i f (formed.functions i f declared) (callee_lacks schemes lack i f)

      function_rows_lack : HaveSchemes p schemes i → All (Lacks m) (function_rows p.records schemes i f)
      function_rows_lack have =
          let w = shaped i f declared in
          rows_lack (slot_equations p.records schemes i f).steps function_lacks.lack (shaped_functions_form_no_wrong_shape p schemes i f w.0 formed declared w.1 have)

      judged_lacks : HaveSchemes p schemes i → JudgementLacks m (judge (length p.bases) p.records schemes i f)
      judged_lacks have =
          let e = slot_equations p.records schemes i f in
          limited_lacks m (length p.bases) f.units (slot_count p.records schemes i f) f.at undeclared (slot_signature p.records schemes i f) (function_lacks.params, function_lacks.result) (rows_of e.steps) (function_rows_lack have) (first_past e.steps)

    -- ---- all functions
    abbrev HaveLacking : Inference → Type 0
    HaveLacking (all_schemes schemes) = SchemesLack schemes
    HaveLacking (stops_at_slots i) = Unit {0}
    HaveLacking (stops_at_range i at) = Unit {0}
    HaveLacking (stops_at_units i row at) = Unit {0}
    HaveLacking (stops_at_not_general i row at) = Unit {0}

    one_more_lacks : (n : ℕ) (schemes : List SchemeTree) (j : Judgement) → SchemesLack schemes → JudgementLacks m j → HaveLacking (with_judgement schemes n j)
    one_more_lacks n schemes (has_scheme s) h own = λ i t e. elim (item_or_last schemes s i t e) [
      | inl there ↦ h i t there
      | inr last ↦ subst (λ (x : SchemeTree). SignatureLacks m x.signature) last.1 own
    ]
    one_more_lacks n schemes too_many_slots h own = tt
    one_more_lacks n schemes (passes_range at) h own = tt
    one_more_lacks n schemes (has_no_typing k at) h own = tt
    one_more_lacks n schemes (not_general k at) h own = tt

    next_lacks : (n : ℕ) → n < length p.functions → (r : Inference) → infer_first p n ≡ r → HaveLacking r → HaveLacking (and_then r (λ schemes. with_function (length p.bases) p.records schemes n (slice_get p.functions n)))
    next_lacks n l (all_schemes schemes) is h =
        let w = item_at p.functions n l in
        let have = have_schemes p n schemes (first_are_principal p formed n schemes (omega (arith, l)) is) in
        subst (λ o. HaveLacking (with_function (length p.bases) p.records schemes n o)) (sym w.1)
        (one_more_lacks n schemes (judge (length p.bases) p.records schemes n w.0) h (judged_lacks schemes h n w.0 w.1 have))
    next_lacks n l (stops_at_slots i) is h = tt
    next_lacks n l (stops_at_range i at) is h = tt
    next_lacks n l (stops_at_units i row at) is h = tt
    next_lacks n l (stops_at_not_general i row at) is h = tt

    first_lack : (n : ℕ) → n ≤ length p.functions → HaveLacking (infer_first p n)
    first_lack zero l = λ i s e. absurd (cc e)
    first_lack (suc n) l = next_lacks n (omega arith) (infer_first p n) refl (first_lack n (omega arith))

    schemes_lack : (n : ℕ) (schemes : List SchemeTree) → n ≤ length p.functions → infer_first p n ≡ all_schemes schemes → SchemesLack schemes
    schemes_lack n schemes l is = subst HaveLacking is (first_lack n l)

-- ---- the laws
pub schemes_hold_declared_units : SchemesHoldDeclaredUnits
schemes_hold_declared_units p n schemes formed shaped l is j s at =
    signature_bases_below (length p.bases) s.signature (λ m u. schemes_lack m p formed shaped u n schemes l is j s at)

pub types_hold_declared_units : TypesHoldDeclaredUnits
types_hold_declared_units p n schemes i f formed shaped l is within declared =
    signature_bases_below (length p.bases) (slot_signature p.records schemes i f) (λ m u.
    let own = function_lacks m p formed shaped u schemes (schemes_lack m p formed shaped u n schemes l is) i f declared in
    (own.params, own.result))

pub rows_hold_declared_units : RowsHoldDeclaredUnits
rows_hold_declared_units p n schemes i f formed shaped l is within declared =
    let all = have_schemes p n schemes (first_are_principal p formed n schemes l is) in
    all_bases_below (length p.bases) (function_rows p.records schemes i f) (λ m u.
    function_rows_lack m p formed shaped u schemes (schemes_lack m p formed shaped u n schemes l is) i f declared (λ j k. all j (omega (arith, k, within))))

pub rows_are_few : RowsAreFew
rows_are_few p n schemes i f formed shaped l is declared =
    let b = length p.bases in
    let own = function_lacks b p formed shaped (omega arith) schemes (schemes_lack b p formed shaped (omega arith) n schemes l is) i f declared in
    let few = own.few in
    let nodes = (formed.functions i f declared).nodes in
    let same = length-map (rows_of (slot_equations p.records schemes i f).steps) (λ (r : Row). r.unit) in
    omega (arith, few, nodes, same)
