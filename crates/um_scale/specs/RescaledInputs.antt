-- An input with its numbers rescaled, by numbers in range; and the position of its first number that is not.
-- Source: Kennedy (1997). The range is this project's own. That such an input is the rescaled one is a clause of
-- `rescale_input`.
use Rattle.std.specs.Prelude.{ℕ, Bool, List, [], ◌∷◌, ◌++◌, Option, is_none}
use Rattle.std.specs.List.{position_from}
use Rattle.std.specs.Option.{unwrap_or}
use Rattle.um_frac.specs.declared.number.Frac.{Frac}
use Rattle.um_tree.specs.declared.note.UnitNote.{UnitNote}
use Rattle.um_tree.specs.ValueTree.{InputTree, InputTrees, truth_input, number_input, list_input, record_input}
use Rattle.um_tree.specs.ValueTree.{no_inputs, more_inputs}
use Rattle.um_scale.specs.RescaledLiterals.{rescaled_number}

-- the numbers with their units, in the order of the text
abbrev mutual
  pub input_numbers : InputTree → List (Frac × UnitNote)
  input_numbers (truth_input b) = []
  input_numbers (number_input c n) = (c, n) ∷ []
  input_numbers (list_input is) = inputs_numbers is
  input_numbers (record_input r is) = inputs_numbers is

  pub inputs_numbers : InputTrees → List (Frac × UnitNote)
  inputs_numbers no_inputs = []
  inputs_numbers (more_inputs i is) = input_numbers i ++ inputs_numbers is

module _ (cs : List Frac) where
  -- no rescaled number is in range
  abbrev pub is_misfit : Frac × UnitNote → Bool
  is_misfit x = is_none (rescaled_number cs x.0 x.1)

  -- the position, from 0, of the first number of which no rescaled number is in range
  abbrev pub input_misfit : InputTree → Option ℕ
  input_misfit i = position_from is_misfit 0 (input_numbers i)

  abbrev mutual
    -- each number rescaled, if that is in range
    pub rescaled_input : InputTree → InputTree
    rescaled_input (truth_input b) = truth_input b
    rescaled_input (number_input c n) = number_input (unwrap_or (rescaled_number cs c n) c) n
    rescaled_input (list_input is) = list_input (rescaled_inputs is)
    rescaled_input (record_input r is) = record_input r (rescaled_inputs is)

    pub rescaled_inputs : InputTrees → InputTrees
    rescaled_inputs no_inputs = no_inputs
    rescaled_inputs (more_inputs i is) = more_inputs (rescaled_input i) (rescaled_inputs is)
