use Rattle.std.proofs.Common.{◌≡◌, ◌++◌, take, codes}
use Rattle.std.specs.List.{flat_map}
use Rattle.um_show.specs.UnitText.{named_unit_text, variable_by}
use Rattle.um_show.proofs.printed_type.push_units.Given as goal

abbrev pub invariant-loop-unit : goal.invariant-loop-unit
invariant-loop-unit l = l.text.items ≡ l.initial.text.items ++ flat_map (λ u. codes ", " ++ named_unit_text (variable_by l.texts.variables) l.texts.bases.now u) (take l.unit-index l.rest)
