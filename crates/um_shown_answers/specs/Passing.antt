-- What is asked of a call whose value is displayed, so that its answer is done.
-- Source: this project's own.
use Rattle.std.specs.Prelude.{◌≡◌, ℕ, List, Ok}
use Rattle.um_measures.specs.ClosedUnits.{given}
use Rattle.um_display.specs.declared.unit.DisplayUnit.{DisplayUnit}
use Rattle.um_display.specs.UnitWords.{PartSyntax, IsUnitWord}
use Rattle.um_display.specs.DisplayUnits.{display_units}
use Rattle.um_front.specs.Stages.{CheckedTree}
use Rattle.um_call_answers.specs.AskedCall.{AskedCall}
use Rattle.um_call_answers.specs.Passing.{GivesValue}

-- each part of the word has a unit in the program, and the call gives a value that can be printed
pub record GivesDisplay (word : List ℕ) (asked : AskedCall) (c : CheckedTree) : Type 0 where
  pub parts : List PartSyntax
  pub stated : IsUnitWord word parts
  pub units : List DisplayUnit
  pub resolved : display_units (given c.text.program c.text.abbreviations) parts ≡ Ok units
  pub value : GivesValue asked c
