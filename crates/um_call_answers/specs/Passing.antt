-- What is asked of a call so that its answer is done.
-- Source: this project's own.
use Rattle.std.specs.Prelude.{ℕ, ◌≡◌, IsTrue, List, map, None, Some, Ok}
use Rattle.um_frac.specs.declared.number.Frac.{Frac}
use Rattle.um_tree.specs.ValueTree.{ValueTree, value_outcome, without_units}
use Rattle.um_tree.specs.Meaning.{outcome_of_call}
use Rattle.um_show.specs.ValueText.{parts_fit}
use Rattle.um_run.specs.Calls.{CallTree}
use Rattle.um_run.specs.Laws.{FitsTyping}
use Rattle.um_scale.specs.RescaledLiterals.{misfit_in, rescaled_program}
use Rattle.um_scale.specs.RescaledInputs.{rescaled_input}
use Rattle.um_sizes.specs.BaseSizes.{AreScalesRead}
use Rattle.um_front.specs.Stages.{CheckedTree}
use Rattle.um_call_answers.specs.AskedCall.{AskedCall}
use Rattle.um_call_answers.specs.OfCall.{IsAskedCall}
use Rattle.um_call_answers.specs.TwinAnswer.{misfit_among}

-- the arguments of the call fit a typing of its function, and the call passes no limit of slots or powers; its meaning
-- gives a value within the budget, and the types of the value's parts have their powers in range
pub record GivesValue (asked : AskedCall) (c : CheckedTree) : Type 0 where
  pub fits : FitsTyping c.text.program c.text.abbreviations c.schemes asked.name asked.texts
  pub value : ValueTree
  pub gives :
      outcome_of_call c.text.program fits.number (map without_units fits.inputs) asked.budget
      ≡ Some (value_outcome value)
  pub in_range : (call : CallTree) → IsAskedCall asked c call → IsTrue (parts_fit c.text.program value call.type)

-- the word states sizes of base units of the program; each literal and each number of the arguments has a rescaled
-- number in range; the arguments fit a typing of the function without passing a limit; both calls give values within
-- the budget, and the types of their parts have their powers in range
pub record GivesTwins (word : List ℕ) (asked : AskedCall) (c : CheckedTree) : Type 0 where
  pub scales : List Frac
  pub read : AreScalesRead c.text.program.bases word (Ok scales)
  pub literals : misfit_in scales c.text.program.functions ≡ None
  pub fits : FitsTyping c.text.program c.text.abbreviations c.schemes asked.name asked.texts
  pub arguments : misfit_among scales fits.inputs ≡ None
  pub first : ValueTree
  pub gives :
      outcome_of_call c.text.program fits.number (map without_units fits.inputs) asked.budget
      ≡ Some (value_outcome first)
  pub second : ValueTree
  pub also_gives :
      outcome_of_call (rescaled_program scales c.text.program) fits.number
      (map without_units (map (rescaled_input scales) fits.inputs)) asked.budget ≡ Some (value_outcome second)
  pub in_range :
      (call : CallTree) → IsAskedCall asked c call →
      IsTrue (parts_fit c.text.program first call.type) × IsTrue (parts_fit c.text.program second call.type)
