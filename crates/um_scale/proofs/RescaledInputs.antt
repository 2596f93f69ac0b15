-- An input whose numbers all fit and the input with its numbers rescaled: the second is the first one rescaled.
use Rattle.std.proofs.Common.{◌≡◌, refl, ap, ◌∙◌, ℕ, cond, List, [], ◌∷◌, map, Option, Some, None}
use Rattle.std.specs.List.{position_from}
use Rattle.std.specs.Prelude.{is_none}
use Rattle.std.specs.Option.{unwrap_or}
use Rattle.um_frac.specs.declared.number.Frac.{Frac}
use Rattle.um_tree.specs.declared.note.UnitNote.{UnitNote}
use Rattle.um_tree.specs.declared.note.UnitNote.TheVariants.{Hole, Written}
use Rattle.um_tree.specs.ValueTree.{InputTree, InputTrees, truth_input, number_input, list_input, record_input, no_inputs, more_inputs, inputs_in_order}
use Rattle.um_tree.specs.Formed.{IsLiteral, IsFormedInput, AreFormedInputs}
use Rattle.um_scaling.specs.RescaledProgram.{RescaledNumber}
use Rattle.um_scaling.specs.RescaledInput.{RescaledInput, RescaledInputs}
use Rattle.um_scale.specs.Sizes.{AreSizes, sizes}
use Rattle.um_scale.specs.RescaledLiterals.{rescaled_number, misfit_at}
use Rattle.um_scale.specs.RescaledInputs.{input_numbers, inputs_numbers, is_misfit, input_misfit, rescaled_input, rescaled_inputs}
use Rattle.um_scale.proofs.PassedNumbers.{none_before, none_behind}
use Rattle.um_scale.proofs.Rescaled.{number_scaled}

module _ (cs : List Frac) where
  abbrev Fit : List (Frac × UnitNote) → ℕ → Type 0
  Fit numbers k = position_from (is_misfit cs) k numbers ≡ None

  module _ (above : AreSizes cs) where
    misfit_at_is : (o : Option Frac) (k : ℕ) → misfit_at k o ≡ cond (is_none o) (Some k) None
    misfit_at_is None k = refl
    misfit_at_is (Some d) k = refl

    number_is : (c : Frac) (n : UnitNote) (k : ℕ) → Fit ((c, n) ∷ []) k → RescaledNumber (sizes cs) c n (unwrap_or (rescaled_number cs c n) c)
    number_is c n k h = let o = rescaled_number cs c n in number_scaled cs above k c n o refl (misfit_at_is o k ∙ h)

    mutual
      input_is : (i : InputTree) (k : ℕ) → Fit (input_numbers i) k → RescaledInput (sizes cs) i (rescaled_input cs i)
      input_is (truth_input b) k h = refl
      input_is (number_input c n) k h = (unwrap_or (rescaled_number cs c n) c, number_is c n k h, refl)
      input_is (list_input is) k h = (rescaled_inputs cs is, inputs_are is k h, refl)
      input_is (record_input r is) k h = (rescaled_inputs cs is, inputs_are is k h, refl)

      inputs_are : (is : InputTrees) (k : ℕ) → Fit (inputs_numbers is) k → RescaledInputs (sizes cs) is (rescaled_inputs cs is)
      inputs_are no_inputs k h = refl
      inputs_are (more_inputs i is) k h =
          let first = none_before (is_misfit cs) (input_numbers i) (inputs_numbers is) k h in
          let rest = none_behind (is_misfit cs) (input_numbers i) (inputs_numbers is) k h in
          (rescaled_input cs i, rescaled_inputs cs is, input_is i k first, inputs_are is _ rest, refl)

    pub input_rescaled : (i : InputTree) → input_misfit cs i ≡ None → RescaledInput (sizes cs) i (rescaled_input cs i)
    input_rescaled i h = input_is i 0 h

  -- ---- a formed input stays formed
  literal_formed : (bases : ℕ) (c : Frac) (n : UnitNote) → IsLiteral bases c n → IsLiteral bases (unwrap_or (rescaled_number cs c n) c) n
  literal_formed bases c Hole w = w
  literal_formed bases c (Written u) w = w

  mutual
    pub input_formed : (bases : ℕ) (i : InputTree) → IsFormedInput bases i → IsFormedInput bases (rescaled_input cs i)
    input_formed bases (truth_input b) w = tt
    input_formed bases (number_input c n) w = literal_formed bases c n w
    input_formed bases (list_input is) w = inputs_formed bases is w
    input_formed bases (record_input r is) w = inputs_formed bases is w

    inputs_formed : (bases : ℕ) (is : InputTrees) → AreFormedInputs bases is → AreFormedInputs bases (rescaled_inputs cs is)
    inputs_formed bases no_inputs w = tt
    inputs_formed bases (more_inputs i is) w = (input_formed bases i w.0, inputs_formed bases is w.1)

-- inputs one after another
pub rescaled_inputs-in_order : {A : Type 0} (cs : List Frac) (f : A → InputTree) (xs : List A) → rescaled_inputs cs (inputs_in_order (map f xs)) ≡ inputs_in_order (map (λ x. rescaled_input cs (f x)) xs)
rescaled_inputs-in_order cs f [] = refl
rescaled_inputs-in_order cs f (x ∷ xs) = ap (more_inputs (rescaled_input cs (f x))) (rescaled_inputs-in_order cs f xs)
