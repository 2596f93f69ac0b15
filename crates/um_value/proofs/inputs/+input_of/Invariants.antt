use Rattle.std.proofs.Common.{◌≡◌, map}
use Rattle.um_tree.specs.ValueTree.{input_tree}
use Rattle.um_measures.specs.Known.{short_unit}
use Rattle.um_value.specs.ValueSyntax.{value_syntax}
use Rattle.um_value.specs.ValueNames.{range_fault_among, inputs_of}
use Rattle.um_value.proofs.RawLoops.{raws_from}
use Rattle.um_value.proofs.InputLoops.{inputs_behind}
use Rattle.um_value.proofs.inputs.+input_of.Given as goal

abbrev pub invariant-each_input_of-loop-i : goal.invariant-each_input_of-loop-i
invariant-each_input_of-loop-i l = record {
  value : inputs_of (short_unit l.measures) (raws_from value_syntax l.raws 0) ≡ inputs_behind (map input_tree l.inputs.items) (inputs_of (short_unit l.measures) (raws_from value_syntax l.raws l.i));
  range : range_fault_among (short_unit l.measures) (raws_from value_syntax l.raws 0) ≡ range_fault_among (short_unit l.measures) (raws_from value_syntax l.raws l.i);
}
