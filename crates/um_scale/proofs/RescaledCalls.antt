-- Calls of a rescaled program on rescaled inputs.
use Rattle.std.proofs.Common.{◌≡◌, refl, sym, ap, subst, ◌∙◌, ℕ, All, List, [], ◌∷◌, map, Some, None}
use Rattle.std.proofs.lemmas.List.Elements.{All-head, All-tail}
use Rattle.um_frac.specs.declared.number.Frac.{Frac}
use Rattle.um_units.specs.declared.Atom.TheVariants.{Var}
use Rattle.um_units.specs.PowerMap.{PowerMap, atom, replace}
use Rattle.um_units.proofs.Replacement.{replace-same}
use Rattle.um_tree.specs.TypeTree.{TypeTree, bool_type, num_type, list_type, record_type, ShapeTree}
use Rattle.um_tree.specs.ValueTree.{ValueTree, ValueTrees, truth_value, number_value, list_value, record_value, no_values, more_values, values_in_order, InputTree, InputTrees, truth_input, number_input, list_input, record_input, no_inputs, more_inputs, inputs_in_order, without_units, without_units_each, value_outcome}
use Rattle.um_tree.specs.ProgramTree.{RecordTree, ProgramTree}
use Rattle.um_tree.specs.Typing.{put, unit_at, field_types, IsRecordAt}
use Rattle.um_tree.specs.InputType.{ValueHas, EachValueHas, ValuesHave, IsResultOfCall, IsTypeOfCall}
use Rattle.um_tree.specs.Shapes.{type_shape, note_shape}
use Rattle.um_scaling.specs.Rescaling.{Rescaling, ArePositive, factor}
use Rattle.um_scaling.specs.ScaledValues.{Scaled, EachScaled, FieldsScaled}
use Rattle.um_scaling.specs.RescaledInput.{RescaledInput, RescaledInputs}
use Rattle.um_scaling.specs.FreeNumbers.{IsFreeZero, EachFreeZero, FieldsFreeZero}
use Rattle.um_scaling.proofs.Factors.{factor_positive}
use Rattle.um_scaling.proofs.FreeZeroLaws.{free_zeros_of_calls}
use Rattle.um_scaling.proofs.Inputs.{inputs_scaled}
use Rattle.um_scaling.proofs.Numbers.{zero_after}
use Rattle.um_scaling.proofs.ScalingLaw.{function_at, scaling_law}
use Rattle.um_scale.specs.Sizes.{AreSizes, sizes}
use Rattle.um_scale.specs.RescaledInputs.{input_misfit, rescaled_input}
use Rattle.um_scale.specs.Laws.{RescaledArguments, TwinsAreScaled, TwinsHaveFreeZeros}
use Rattle.um_scale.proofs.RescaledInputs.{input_rescaled}

pub values_of : (is : List InputTree) → values_in_order (map without_units is) ≡ without_units_each (inputs_in_order is)
values_of [] = refl
values_of (i ∷ is) = ap (more_values (without_units i)) (values_of is)

-- inputs that all fit are rescaled one by one
pub all_rescaled : (cs : List Frac) → AreSizes cs → (is : List InputTree) → All (λ i. input_misfit cs i ≡ None) is → RescaledInputs (sizes cs) (inputs_in_order is) (inputs_in_order (map (rescaled_input cs) is))
all_rescaled cs above [] fit = refl
all_rescaled cs above (i ∷ is) fit =
    (rescaled_input cs i, inputs_in_order (map (rescaled_input cs) is), input_rescaled cs above i (All-head (λ i. input_misfit cs i ≡ None) i is fit), all_rescaled cs above is (All-tail (λ i. input_misfit cs i ≡ None) i is fit), refl)

-- ---- shapes of values
module _ (records : List RecordTree) (r : Rescaling) where
  mutual
    value_has : (i j : InputTree) (s : ShapeTree) → RescaledInput r i j → ValueHas records (without_units i) s → ValueHas records (without_units j) s
    value_has (truth_input b) j s q h = subst (λ (x : InputTree). ValueHas records (without_units x) s) (sym q) h
    value_has (number_input c n) j s q h = subst (λ (x : InputTree). ValueHas records (without_units x) s) (sym q.2) h
    value_has (list_input is) j s q h =
        subst (λ (x : InputTree). ValueHas records (without_units x) s) (sym q.2) (h.0, each_has is q.0 h.0 q.1 h.1, h.2)
    value_has (record_input m is) j s q h =
        subst (λ (x : InputTree). ValueHas records (without_units x) s) (sym q.2)
        (h.0, h.1, values_have is q.0 (map type_shape (field_types h.0)) q.1 h.2, h.3)

    each_has : (is js : InputTrees) (s : ShapeTree) → RescaledInputs r is js → EachValueHas records (without_units_each is) s → EachValueHas records (without_units_each js) s
    each_has no_inputs js s q h = subst (λ (x : InputTrees). EachValueHas records (without_units_each x) s) (sym q) tt
    each_has (more_inputs i is) js s q h =
        subst (λ (x : InputTrees). EachValueHas records (without_units_each x) s) (sym q.4) (value_has i q.0 s q.2 h.0, each_has is q.1 s q.3 h.1)

    values_have : (is js : InputTrees) (ss : List ShapeTree) → RescaledInputs r is js → ValuesHave records (without_units_each is) ss → ValuesHave records (without_units_each js) ss
    values_have no_inputs js ss q h = subst (λ (x : InputTrees). ValuesHave records (without_units_each x) ss) (sym q) h
    values_have (more_inputs i is) js ss q h =
        subst (λ (x : InputTrees). ValuesHave records (without_units_each x) ss) (sym q.4)
        (h.0, h.1, value_has i q.0 h.0 q.2 h.2, values_have is q.1 h.1 q.3 h.3, h.4)

pub rescaled_arguments : RescaledArguments
rescaled_arguments p q r f is js h inputs (g, declared, values) =
    let found = function_at r p.functions q.functions f g h.functions declared in
    let shapes = map note_shape g.params in
    let before = subst (λ (vs : ValueTrees). ValuesHave p.records vs shapes) (values_of is) values in
    let after = values_have p.records r (inputs_in_order is) (inputs_in_order js) shapes inputs before in (
      record g { body = found.0 },
      found.2,
      subst (λ (ds : List RecordTree). ValuesHave ds (values_in_order (map without_units js)) shapes) (sym h.records)
          (subst (λ (vs : ValueTrees). ValuesHave p.records vs shapes) (sym (values_of js)) after),
    )

-- ---- the type of a call is one of its results
units_same : (us : List PowerMap) → map (λ u. replace (λ k. atom (Var k)) u) us ≡ us
units_same [] = refl
units_same (u ∷ us) = λ i. replace-same u i ∷ units_same us i

put_same : (t : TypeTree) → put (λ k. atom (Var k)) t ≡ t
put_same bool_type = refl
put_same (num_type u) = ap num_type (replace-same u)
put_same (list_type t) = ap list_type (put_same t)
put_same (record_type m us) = ap (record_type m) (units_same us)

pub type_is_result : (p : ProgramTree) (f : ℕ) (is : InputTrees) (t : TypeTree) → IsTypeOfCall p f is t → IsResultOfCall p f is t
type_is_result p f is t typed =
    let units : ℕ → PowerMap = λ k. atom (Var k) in
    (typed.instances t).1 (units, sym (put_same t))

pub twins_are_scaled : TwinsAreScaled
twins_are_scaled p q r f is js t o o' formed rescaled inputs typed twins =
    let result = type_is_result p f (inputs_in_order is) t typed in
    twins formed rescaled (record { params = result.0; result = t }) result.2
    (inputs_scaled p.records r (inputs_in_order is) (inputs_in_order js) result.0 (map without_units is) (map without_units js) inputs result.1 (values_of is) (values_of js))

-- ---- numbers at open units
module _ (records : List RecordTree) (r : Rescaling) (positive : ArePositive r) where
  -- the record of a number is one
  at_one_record : (vs : ValueTrees) (k : ℕ) (us : List PowerMap) (d e : RecordTree) → IsRecordAt records k us d → IsRecordAt records k us e → FieldsFreeZero records vs (map (put (unit_at us)) (field_types d)) → FieldsFreeZero records vs (map (put (unit_at us)) (field_types e))
  at_one_record vs k us d e f g h =
      let same : d ≡ e = (let s : Some d ≡ Some e = sym f.declared ∙ g.declared in cc) in
      subst (λ (x : RecordTree). FieldsFreeZero records vs (map (put (unit_at us)) (field_types x))) same h

  mutual
    zero_kept : (v : ValueTree) (t : TypeTree) (w : ValueTree) → Scaled records r v t w → IsFreeZero records v t → IsFreeZero records w t
    zero_kept (truth_value b) bool_type (truth_value c) h z = tt
    zero_kept (number_value c) (num_type u) (number_value d) h z = λ is_open. zero_after (factor r u) (factor_positive r positive u) c d h (z is_open)
    zero_kept (list_value vs) (list_type t) (list_value ws) h z = each_zero_kept vs t ws h z
    zero_kept (record_value m vs) (record_type k us) (record_value n ws) h z =
        (h.0, h.1, h.3, fields_zero_kept vs (map (put (unit_at us)) (field_types h.0)) ws h.4 (at_one_record vs k us z.0 h.0 z.1 h.1 z.3))
    zero_kept v t w h z = absurd h

    each_zero_kept : (vs : ValueTrees) (t : TypeTree) (ws : ValueTrees) → EachScaled records r vs t ws → EachFreeZero records vs t → EachFreeZero records ws t
    each_zero_kept no_values t no_values h z = tt
    each_zero_kept (more_values v vs) t (more_values w ws) h z = (zero_kept v t w h.0 z.0, each_zero_kept vs t ws h.1 z.1)
    each_zero_kept vs t ws h z = absurd h

    fields_zero_kept : (vs : ValueTrees) (ts : List TypeTree) (ws : ValueTrees) → FieldsScaled records r vs ts ws → FieldsFreeZero records vs ts → FieldsFreeZero records ws ts
    fields_zero_kept no_values [] no_values h z = tt
    fields_zero_kept (more_values v vs) (t ∷ ts) (more_values w ws) h z = (zero_kept v t w h.0 z.0, fields_zero_kept vs ts ws h.1 z.1)
    fields_zero_kept vs ts ws h z = absurd h

pub twins_have_free_zeros : TwinsHaveFreeZeros
twins_have_free_zeros p q r f is js t b v w positive formed rescaled inputs_formed inputs typed first second =
    let result = type_is_result p f (inputs_in_order is) t typed in
    let zero = free_zeros_of_calls p f (inputs_in_order is) (map without_units is) t b v formed inputs_formed (values_of is) typed first in
    let scaled = scaling_law p q r f (record { params = result.0; result = t }) (map without_units is) (map without_units js) b (value_outcome v) (value_outcome w) formed positive rescaled result.2
    (inputs_scaled p.records r (inputs_in_order is) (inputs_in_order js) result.0 (map without_units is) (map without_units js) inputs result.1 (values_of is) (values_of js)) first second in
    (zero, zero_kept p.records r positive v t w scaled zero)
