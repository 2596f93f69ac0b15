-- The values of rescaled inputs are rescaled, at each type at which the inputs stand.
use Rattle.std.proofs.Common.{◌≡◌, refl, sym, subst, List, [], ◌∷◌, map}
use Rattle.um_tree.specs.TypeTree.{TypeTree, bool_type, num_type, list_type, record_type}
use Rattle.um_tree.specs.ValueTree.{ValueTree, ValueTrees, truth_value, number_value, list_value, record_value, no_values, values_in_order, InputTree, InputTrees, truth_input, number_input, list_input, record_input, no_inputs, more_inputs, without_units, without_units_each}
use Rattle.um_tree.specs.ProgramTree.{RecordTree}
use Rattle.um_tree.specs.Typing.{put, unit_at, field_types}
use Rattle.um_tree.specs.InputType.{InputHas, EachInputHas, InputsHave}
use Rattle.um_scaling.specs.Rescaling.{Rescaling}
use Rattle.um_scaling.specs.ScaledValues.{Scaled, EachScaled, FieldsScaled, AllScaled}
use Rattle.um_scaling.specs.RescaledInput.{RescaledInput, RescaledInputs}
use Rattle.um_scaling.specs.Laws.{RescaledInputsAreScaled}
use Rattle.um_scaling.proofs.Numbers.{literal_scaled}

module _ (records : List RecordTree) (r : Rescaling) where
  -- at an equal type, of an equal input
  carried : (s t : TypeTree) (v : ValueTree) (i j : InputTree) → t ≡ s → j ≡ i → Scaled records r v s (without_units i) → Scaled records r v t (without_units j)
  carried s t v i j e f h =
      subst (λ (x : TypeTree). Scaled records r v x (without_units j)) (sym e)
      (subst (λ (x : InputTree). Scaled records r v s (without_units x)) (sym f) h)

  mutual
    input_scaled : (i j : InputTree) (t : TypeTree) → RescaledInput r i j → InputHas records i t → Scaled records r (without_units i) t (without_units j)
    input_scaled (truth_input b) j t q h = carried bool_type t (truth_value b) (truth_input b) j h q refl
    input_scaled (number_input c n) j t q h = carried (num_type h.0) t (number_value c) (number_input q.0 n) j h.2 q.2 (literal_scaled r c n h.0 q.0 q.1 h.1)
    input_scaled (list_input is) j t q h =
        carried (list_type h.0) t (list_value (without_units_each is)) (list_input q.0) j h.2 q.2 (each_scaled is q.0 h.0 q.1 h.1)
    input_scaled (record_input m is) j t q h =
        carried (record_type m h.0) t (record_value m (without_units_each is)) (record_input m q.0) j h.4 q.2
        (h.1, h.2, refl, refl, fields_scaled is q.0 (map (put (unit_at h.0)) (field_types h.1)) q.1 h.3)

    each_scaled : (is js : InputTrees) (t : TypeTree) → RescaledInputs r is js → EachInputHas records is t → EachScaled records r (without_units_each is) t (without_units_each js)
    each_scaled no_inputs js t q h = subst (λ (x : InputTrees). EachScaled records r no_values t (without_units_each x)) (sym q) tt
    each_scaled (more_inputs i is) js t q h =
        subst (λ (x : InputTrees). EachScaled records r (without_units_each (more_inputs i is)) t (without_units_each x)) (sym q.4)
        (input_scaled i q.0 t q.2 h.0, each_scaled is q.1 t q.3 h.1)

    fields_scaled : (is js : InputTrees) (ts : List TypeTree) → RescaledInputs r is js → InputsHave records is ts → FieldsScaled records r (without_units_each is) ts (without_units_each js)
    fields_scaled no_inputs js ts q h =
        subst (λ (xs : List TypeTree). FieldsScaled records r no_values xs (without_units_each js)) (sym h)
        (subst (λ (x : InputTrees). FieldsScaled records r no_values [] (without_units_each x)) (sym q) tt)
    fields_scaled (more_inputs i is) js ts q h =
        subst (λ (xs : List TypeTree). FieldsScaled records r (without_units_each (more_inputs i is)) xs (without_units_each js)) (sym h.4)
        (subst (λ (x : InputTrees). FieldsScaled records r (without_units_each (more_inputs i is)) (h.0 ∷ h.1) (without_units_each x)) (sym q.4)
        (input_scaled i q.0 h.0 q.2 h.2, fields_scaled is q.1 h.1 q.3 h.3))

  arguments_of : (vs : List ValueTree) (ts : List TypeTree) (ws : List ValueTree) → FieldsScaled records r (values_in_order vs) ts (values_in_order ws) → AllScaled records r vs ts ws
  arguments_of [] [] [] h = tt
  arguments_of (v ∷ vs) (t ∷ ts) (w ∷ ws) h = (h.0, arguments_of vs ts ws h.1)
  arguments_of vs ts ws h = absurd h

pub inputs_scaled : RescaledInputsAreScaled
inputs_scaled records r is js ts vs ws q h e f =
    arguments_of records r vs ts ws
    (subst (λ (x : ValueTrees). FieldsScaled records r x ts (values_in_order ws)) (sym e)
    (subst (λ (x : ValueTrees). FieldsScaled records r (without_units_each is) ts x) (sym f) (fields_scaled records r is js ts q h)))
