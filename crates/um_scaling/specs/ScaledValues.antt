-- Values and outcomes at a type, in other sizes of the units.
-- Source: Kennedy's scaling relation (1997): numbers differ by their unit's factor, and the rest follows the type.
use Rattle.std.specs.Prelude.{◌≡◌, List, [], ◌∷◌, map}
use Rattle.um_frac.specs.declared.number.Trap.TheVariants.{Overflow, DivZero}
use Rattle.um_tree.specs.TypeTree.{TypeTree, bool_type, num_type, list_type, record_type}
use Rattle.um_tree.specs.ValueTree.{ValueTree, ValueTrees, truth_value, number_value, list_value, record_value}
use Rattle.um_tree.specs.ValueTree.{no_values, more_values, OutcomeTree, value_outcome, trap_outcome, budget_outcome}
use Rattle.um_tree.specs.ProgramTree.{RecordTree}
use Rattle.um_tree.specs.Typing.{put, unit_at, field_types, IsRecordAt}
use Rattle.um_scaling.specs.Rescaling.{Rescaling, factor, IsScaled}

module _ (records : List RecordTree) (r : Rescaling) where
  abbrev mutual
    -- both values stand at the type, and the second is the first one rescaled
    pub Scaled : ValueTree → TypeTree → ValueTree → Type 0
    Scaled (truth_value b) bool_type (truth_value c) = c ≡ b
    Scaled (number_value c) (num_type u) (number_value d) = IsScaled (factor r u) c d
    Scaled (list_value vs) (list_type t) (list_value ws) = EachScaled vs t ws
    Scaled (record_value m vs) (record_type k us) (record_value n ws) =
        (d : RecordTree) × IsRecordAt records k us d × (m ≡ k) × (n ≡ k)
        × FieldsScaled vs (map (put (unit_at us)) (field_types d)) ws
    Scaled v t w = ⊥

    -- item by item, all at one type
    pub EachScaled : ValueTrees → TypeTree → ValueTrees → Type 0
    EachScaled no_values t no_values = Unit {0}
    EachScaled (more_values v vs) t (more_values w ws) = Scaled v t w × EachScaled vs t ws
    EachScaled vs t ws = ⊥

    -- field by field, each at its type
    pub FieldsScaled : ValueTrees → List TypeTree → ValueTrees → Type 0
    FieldsScaled no_values [] no_values = Unit {0}
    FieldsScaled (more_values v vs) (t ∷ ts) (more_values w ws) = Scaled v t w × FieldsScaled vs ts ws
    FieldsScaled vs ts ws = ⊥

  -- lists of values, as of arguments, each at its type
  abbrev pub AllScaled : List ValueTree → List TypeTree → List ValueTree → Type 0
  AllScaled [] [] [] = Unit {0}
  AllScaled (v ∷ vs) (t ∷ ts) (w ∷ ws) = Scaled v t w × AllScaled vs ts ws
  AllScaled vs ts ws = ⊥

  -- both use the budget up, or both divide by 0, or both give values, at the type and the second rescaled; nothing is
  -- said if one overflows
  abbrev pub OutcomesScaled : OutcomeTree → TypeTree → OutcomeTree → Type 0
  OutcomesScaled (trap_outcome Overflow) t o = Unit {0}
  OutcomesScaled o t (trap_outcome Overflow) = Unit {0}
  OutcomesScaled (trap_outcome DivZero) t (trap_outcome DivZero) = Unit {0}
  OutcomesScaled budget_outcome t budget_outcome = Unit {0}
  OutcomesScaled (value_outcome v) t (value_outcome w) = Scaled v t w
  OutcomesScaled o t q = ⊥
