use Rattle.std.proofs.Common.{◌≡◌}
use Rattle.um_measures.specs.Known.{short_unit}
use Rattle.um_value.specs.ValueSyntax.{value_syntax}
use Rattle.um_value.specs.ValueNames.{name_fault_among}
use Rattle.um_value.proofs.RawLoops.{raws_from}
use Rattle.um_value.proofs.names.+name_fault.Given as goal

abbrev pub invariant-name_fault_among-loop-i : goal.invariant-name_fault_among-loop-i
invariant-name_fault_among-loop-i l = name_fault_among (short_unit l.measures) (raws_from value_syntax l.raws 0) ≡ name_fault_among (short_unit l.measures) (raws_from value_syntax l.raws l.i)
