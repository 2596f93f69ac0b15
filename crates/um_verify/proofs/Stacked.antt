-- A value has a shape exactly where it has that shape on the stack.
use Rattle.std.proofs.Common.{◌≡◌, refl, sym, subst, ap, ◌∙◌, ℕ, List, [], ◌∷◌, map, Option, Some, None, slice_get}
use Rattle.std.specs.Prelude.{option_map}
use Rattle.std.proofs.lemmas.Option.{slice_get-map}
use Rattle.um_tree.specs.TypeTree.{ShapeTree, bool_shape, num_shape, list_shape, record_shape}
use Rattle.um_tree.specs.ValueTree.{ValueTree, ValueTrees, truth_value, number_value, list_value, record_value, no_values, more_values, values_in_order}
use Rattle.um_tree.specs.ProgramTree.{RecordTree}
use Rattle.um_tree.specs.Typing.{field_types}
use Rattle.um_tree.specs.Shapes.{type_shape}
use Rattle.um_tree.specs.InputType.{ValueHas, EachValueHas, ValuesHave}
use Rattle.um_verify.specs.StackShape.{StackShape, on_stack}
use Rattle.um_verify.specs.Rules.{fields_on_stack}
use Rattle.um_verify.proofs.Fits.{HasIt, EachHas, FieldsHave, Have}

module _ (records : List RecordTree) where
  abbrev pub fields : List (List StackShape)
  fields = map fields_on_stack records

  mutual
    pub has_stacked : (v : ValueTree) (s : ShapeTree) → ValueHas records v s → HasIt fields v (on_stack s)
    has_stacked (truth_value b) s h = subst (λ (t : ShapeTree). HasIt fields (truth_value b) (on_stack t)) (sym h) tt
    has_stacked (number_value c) s h = subst (λ (t : ShapeTree). HasIt fields (number_value c) (on_stack t)) (sym h) tt
    has_stacked (list_value vs) s h = subst (λ (t : ShapeTree). HasIt fields (list_value vs) (on_stack t)) (sym h.2) (each_stacked vs h.0 h.1)
    has_stacked (record_value r vs) s h =
        subst (λ (t : ShapeTree). HasIt fields (record_value r vs) (on_stack t)) (sym h.3)
        (refl, fields_on_stack h.0, slice_get-map fields_on_stack records r ∙ ap (option_map fields_on_stack) h.1, fields_stacked vs (map type_shape (field_types h.0)) h.2)

    each_stacked : (vs : ValueTrees) (s : ShapeTree) → EachValueHas records vs s → EachHas fields vs (on_stack s)
    each_stacked no_values s h = tt
    each_stacked (more_values v vs) s h = (has_stacked v s h.0, each_stacked vs s h.1)

    fields_stacked : (vs : ValueTrees) (ss : List ShapeTree) → ValuesHave records vs ss → FieldsHave fields vs (map on_stack ss)
    fields_stacked no_values ss h = subst (λ (ts : List ShapeTree). FieldsHave fields no_values (map on_stack ts)) (sym h) tt
    fields_stacked (more_values v vs) ss h =
        subst (λ (ts : List ShapeTree). FieldsHave fields (more_values v vs) (map on_stack ts)) (sym h.4) (has_stacked v h.0 h.2, fields_stacked vs h.1 h.3)

  pub all_stacked : (vs : List ValueTree) (ss : List ShapeTree) → ValuesHave records (values_in_order vs) ss → Have fields vs (map on_stack ss)
  all_stacked [] ss h = subst (λ (ts : List ShapeTree). Have fields [] (map on_stack ts)) (sym h) tt
  all_stacked (v ∷ vs) ss h = subst (λ (ts : List ShapeTree). Have fields (v ∷ vs) (map on_stack ts)) (sym h.4) (has_stacked v h.0 h.2, all_stacked vs h.1 h.3)

  abbrev Declared : ℕ → List StackShape → Type 0
  Declared r ss = (d : RecordTree) × (slice_get records r ≡ Some d) × (fields_on_stack d ≡ ss)

  declared : (r : ℕ) (ss : List StackShape) → slice_get fields r ≡ Some ss → Declared r ss
  declared r ss h = by_record (slice_get records r) refl (sym (slice_get-map fields_on_stack records r) ∙ h) where
    by_record : (o : Option RecordTree) → slice_get records r ≡ o → option_map fields_on_stack o ≡ Some ss → Declared r ss
    by_record None e k = absurd cc
    by_record (Some d) e k = (d, e, cc)

  mutual
    pub has_unstacked : (v : ValueTree) (s : ShapeTree) → HasIt fields v (on_stack s) → ValueHas records v s
    has_unstacked (truth_value b) bool_shape h = refl
    has_unstacked (number_value c) num_shape h = refl
    has_unstacked (list_value vs) (list_shape s) h = (s, each_unstacked vs s h, refl)
    has_unstacked (record_value r vs) (record_shape q) h =
        let d = declared r h.1 h.2 in
        (d.0, d.1, fields_unstacked vs (map type_shape (field_types d.0)) (subst (FieldsHave fields vs) (sym d.2) h.3), ap record_shape h.0)
    has_unstacked v s h = absurd h

    each_unstacked : (vs : ValueTrees) (s : ShapeTree) → EachHas fields vs (on_stack s) → EachValueHas records vs s
    each_unstacked no_values s h = tt
    each_unstacked (more_values v vs) s h = (has_unstacked v s h.0, each_unstacked vs s h.1)

    fields_unstacked : (vs : ValueTrees) (ss : List ShapeTree) → FieldsHave fields vs (map on_stack ss) → ValuesHave records vs ss
    fields_unstacked no_values [] h = refl
    fields_unstacked (more_values v vs) (s ∷ ss) h = (s, ss, has_unstacked v s h.0, fields_unstacked vs ss h.1, refl)
    fields_unstacked no_values (s ∷ ss) h = absurd h
    fields_unstacked (more_values v vs) [] h = absurd h
