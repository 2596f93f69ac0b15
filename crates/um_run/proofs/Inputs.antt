-- What texts that are inputs of shapes come to, one by one.
use Rattle.std.proofs.Common.{◌≡◌, ℕ, zero, suc, List, [], ◌∷◌, map, length, Some, slice_get, refl, sym, ap, subst}
use Rattle.um_tree.specs.TypeTree.{ShapeTree}
use Rattle.um_tree.specs.ValueTree.{InputTree, inputs_in_order, values_in_order, without_units}
use Rattle.um_tree.specs.InputType.{ValueHas, ValuesHave}
use Rattle.um_tree.specs.Formed.{IsFormedInput, AreFormedInputs}
use Rattle.um_measures.specs.Known.{Known, measure_unit}
use Rattle.um_value.proofs.ValueShapes.{has_shape}
use Rattle.um_value.proofs.ValueFormed.{input_formed, measures_closed}
use Rattle.um_run.specs.Calls.{AreClosedUnits, IsInput, AreInputs}

module _ (known : Known) where
  value_has : (s : ShapeTree) (text : List ℕ) (input : InputTree) → IsInput known s text input → ValueHas known.program.records (without_units input) s
  value_has s text input h =
      subst (λ (i : InputTree). ValueHas known.program.records (without_units i) s) (sym h.4)
      (has_shape known.program.records (measure_unit known) h.0 s h.1.tokens [] h.1.is)

  -- the values have the shapes
  pub values_have : (shapes : List ShapeTree) (texts : List (List ℕ)) (inputs : List InputTree) → AreInputs known shapes texts inputs → ValuesHave known.program.records (values_in_order (map without_units inputs)) shapes
  values_have [] [] [] h = refl
  values_have [] [] (i ∷ inputs) h = absurd h
  values_have [] (t ∷ texts) inputs h = absurd h
  values_have (s ∷ shapes) [] inputs h = absurd h
  values_have (s ∷ shapes) (t ∷ texts) [] h = absurd h
  values_have (s ∷ shapes) (t ∷ texts) (i ∷ inputs) h = (s, shapes, value_has s t i h.0, values_have shapes texts inputs h.1, refl)

  -- the inputs are formed
  pub inputs_formed : AreClosedUnits (length known.program.bases) known.shorts → (shapes : List ShapeTree) (texts : List (List ℕ)) (inputs : List InputTree) → AreInputs known shapes texts inputs
      → AreFormedInputs (length known.program.bases) (inputs_in_order inputs)
  inputs_formed closed [] [] [] h = tt
  inputs_formed closed [] [] (i ∷ inputs) h = absurd h
  inputs_formed closed [] (t ∷ texts) inputs h = absurd h
  inputs_formed closed (s ∷ shapes) [] inputs h = absurd h
  inputs_formed closed (s ∷ shapes) (t ∷ texts) [] h = absurd h
  inputs_formed closed (s ∷ shapes) (t ∷ texts) (i ∷ inputs) h =
      let n = length known.program.bases in
      (subst (λ (j : InputTree). IsFormedInput n j) (sym h.0.4) (input_formed (measure_unit known) n (measures_closed known closed) h.0.0 h.0.2 h.0.3), inputs_formed closed shapes texts inputs h.1)

  -- there are as many texts as shapes
  pub same_count : (shapes : List ShapeTree) (texts : List (List ℕ)) (inputs : List InputTree) → AreInputs known shapes texts inputs → length texts ≡ length shapes
  same_count [] [] inputs h = refl
  same_count [] (t ∷ texts) inputs h = absurd h
  same_count (s ∷ shapes) [] inputs h = absurd h
  same_count (s ∷ shapes) (t ∷ texts) [] h = absurd h
  same_count (s ∷ shapes) (t ∷ texts) (i ∷ inputs) h = ap suc (same_count shapes texts inputs h.1)

  -- the input of one of them
  pub input_at : (shapes : List ShapeTree) (texts : List (List ℕ)) (inputs : List InputTree) (k : ℕ) (s : ShapeTree) (text : List ℕ) → AreInputs known shapes texts inputs → slice_get shapes k ≡ Some s → slice_get texts k ≡ Some text
      → (input : InputTree) × IsInput known s text input
  input_at [] texts inputs k s text h e g = absurd cc
  input_at (r ∷ shapes) [] inputs k s text h e g = absurd cc
  input_at (r ∷ shapes) (t ∷ texts) [] k s text h e g = absurd h
  input_at (r ∷ shapes) (t ∷ texts) (i ∷ inputs) zero s text h e g =
      let same : r ≡ s = cc e in
      let own : t ≡ text = cc g in
      (i, subst (λ (x : List ℕ). IsInput known s x i) own (subst (λ (z : ShapeTree). IsInput known z t i) same h.0))
  input_at (r ∷ shapes) (t ∷ texts) (i ∷ inputs) (suc k) s text h e g = input_at shapes texts inputs k s text h.1 e g
