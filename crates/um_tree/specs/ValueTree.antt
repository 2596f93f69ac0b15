-- Values and inputs as pure trees.
-- Source: this project's own values.
use Rattle.std.specs.Prelude.{ℕ, Bool, List, [], ◌∷◌}
use Rattle.um_frac.specs.declared.number.Frac.{Frac}
use Rattle.um_frac.specs.declared.number.Trap.{Trap}
use Rattle.um_tree.specs.declared.note.UnitNote.{UnitNote}
use Rattle.um_tree.specs.declared.value.Value.{Value}
use Rattle.um_tree.specs.declared.value.Value.TheOpen.{Value-F, Values-F}
use Rattle.um_tree.specs.declared.value.Value.TheFolds.{fold-Value, fold-Values}
use Rattle.um_tree.specs.declared.value.Values.{Values}
use Rattle.um_tree.specs.declared.value.Input.{Input}
use Rattle.um_tree.specs.declared.value.Input.TheOpen.{Input-F, Inputs-F}
use Rattle.um_tree.specs.declared.value.Input.TheFolds.{fold-Input, fold-Inputs}
use Rattle.um_tree.specs.declared.value.Inputs.{Inputs}
use Rattle.um_tree.specs.declared.value.Outcome.{Outcome}
use Rattle.um_tree.specs.declared.value.Outcome.TheVariants.{Value as Value-outcome, Trap as Trap-outcome}
use Rattle.um_tree.specs.declared.value.Outcome.TheVariants.{BudgetEnd as Budget-outcome}

mutual
  pub data ValueTree : Type 0 where
    truth_value : Bool → ValueTree
    number_value : Frac → ValueTree
    list_value : ValueTrees → ValueTree
    -- a value of the record of this number, field by field
    record_value : ℕ → ValueTrees → ValueTree

  pub data ValueTrees : Type 0 where
    no_values : ValueTrees
    more_values : ValueTree → ValueTrees → ValueTrees

mutual
  pub data InputTree : Type 0 where
    truth_input : Bool → InputTree
    number_input : Frac → UnitNote → InputTree
    list_input : InputTrees → InputTree
    record_input : ℕ → InputTrees → InputTree

  pub data InputTrees : Type 0 where
    no_inputs : InputTrees
    more_inputs : InputTree → InputTrees → InputTrees

-- how a call ends
pub data OutcomeTree : Type 0 where
  value_outcome : ValueTree → OutcomeTree
  trap_outcome : Trap → OutcomeTree
  budget_outcome : OutcomeTree

abbrev pub values_in_order : List ValueTree → ValueTrees
values_in_order [] = no_values
values_in_order (v ∷ vs) = more_values v (values_in_order vs)

abbrev pub listed_value : Value-F ValueTree ValueTrees → ValueTree
listed_value (Value-F.Bool b) = truth_value b
listed_value (Value-F.Num c) = number_value c
listed_value (Value-F.List vs) = list_value vs
listed_value (Value-F.Rec r vs) = record_value r vs

abbrev pub listed_values : Values-F ValueTree ValueTrees → ValueTrees
listed_values vs = values_in_order vs.items.items

-- the tree that a value stands for
abbrev pub value_tree : Value → ValueTree
value_tree = fold-Value ValueTree ValueTrees listed_value listed_values

abbrev pub value_trees : Values → ValueTrees
value_trees = fold-Values ValueTree ValueTrees listed_value listed_values

abbrev pub inputs_in_order : List InputTree → InputTrees
inputs_in_order [] = no_inputs
inputs_in_order (i ∷ is) = more_inputs i (inputs_in_order is)

abbrev pub listed_input : Input-F InputTree InputTrees → InputTree
listed_input (Input-F.Bool b) = truth_input b
listed_input (Input-F.Num c n) = number_input c n
listed_input (Input-F.List is) = list_input is
listed_input (Input-F.Rec r is) = record_input r is

abbrev pub listed_inputs : Inputs-F InputTree InputTrees → InputTrees
listed_inputs is = inputs_in_order is.items.items

-- the tree that an input stands for
abbrev pub input_tree : Input → InputTree
input_tree = fold-Input InputTree InputTrees listed_input listed_inputs

abbrev pub input_trees : Inputs → InputTrees
input_trees = fold-Inputs InputTree InputTrees listed_input listed_inputs

-- the value of an input: its units are left out
abbrev mutual
  pub without_units : InputTree → ValueTree
  without_units (truth_input b) = truth_value b
  without_units (number_input c n) = number_value c
  without_units (list_input is) = list_value (without_units_each is)
  without_units (record_input r is) = record_value r (without_units_each is)

  pub without_units_each : InputTrees → ValueTrees
  without_units_each no_inputs = no_values
  without_units_each (more_inputs i is) = more_values (without_units i) (without_units_each is)

-- the tree that an outcome stands for
abbrev pub outcome_tree : Outcome → OutcomeTree
outcome_tree (Value-outcome v) = value_outcome (value_tree v)
outcome_tree (Trap-outcome t) = trap_outcome t
outcome_tree Budget-outcome = budget_outcome
