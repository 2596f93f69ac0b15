-- When an input is another one rescaled: both are equal but for the numbers with a written unit.
-- Source: Kennedy (1997).
use Rattle.std.specs.Prelude.{◌≡◌}
use Rattle.um_frac.specs.declared.number.Frac.{Frac}
use Rattle.um_tree.specs.ValueTree.{InputTree, InputTrees, truth_input, number_input, list_input, record_input}
use Rattle.um_tree.specs.ValueTree.{no_inputs, more_inputs}
use Rattle.um_scaling.specs.Rescaling.{Rescaling}
use Rattle.um_scaling.specs.RescaledProgram.{RescaledNumber}

module _ (r : Rescaling) where
  abbrev mutual
    pub RescaledInput : InputTree → InputTree → Type 0
    RescaledInput (truth_input b) j = j ≡ truth_input b
    RescaledInput (number_input c n) j = (d : Frac) × RescaledNumber r c n d × (j ≡ number_input d n)
    RescaledInput (list_input is) j = (js : InputTrees) × RescaledInputs is js × (j ≡ list_input js)
    RescaledInput (record_input m is) j = (js : InputTrees) × RescaledInputs is js × (j ≡ record_input m js)

    -- input by input
    pub RescaledInputs : InputTrees → InputTrees → Type 0
    RescaledInputs no_inputs js = js ≡ no_inputs
    RescaledInputs (more_inputs i is) js =
        (k : InputTree) × (ks : InputTrees) × RescaledInput i k × RescaledInputs is ks × (js ≡ more_inputs k ks)
