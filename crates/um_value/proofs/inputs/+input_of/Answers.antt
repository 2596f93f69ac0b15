use Rattle.std.proofs.Common.{◌≡◌, ◌+◌, map, sym, ap, ◌∙◌}
use Rattle.um_tree.specs.ValueTree.{input_tree}
use Rattle.um_measures.specs.Known.{short_unit}
use Rattle.um_measures.specs.UnitNames.{or_else}
use Rattle.um_value.specs.ValueSyntax.{ValueSyntaxes, raw_more, value_syntax}
use Rattle.um_value.specs.ValueNames.{range_fault_among, input_of, inputs_of}
use Rattle.um_value.proofs.RawLoops.{raws_from, raws_from_more, raws_from-end}
use Rattle.um_value.proofs.InputLoops.{inputs_behind, behind_none, input_made}
use Rattle.um_value.proofs.inputs.+input_of.Goals as goal

pub each_input_of-loop-i-preserved : goal.each_input_of-loop-i-preserved
each_input_of-loop-i-preserved t c =
    let m = short_unit c.args.measures.now in
    let raws = c.args.raws.now in
    let x = c.index-raws-i.result in
    let rest = raws_from value_syntax raws (c.loop-i.i + 1) in
    let old = map input_tree c.loop-i.inputs.items in
    let next : raws_from value_syntax raws c.loop-i.i ≡ raw_more (value_syntax x) rest = raws_from_more value_syntax raws c.loop-i.i x c.loop-i-test.true c.index-raws-i.is in
    record {
      value =
          input_made (inputs_of m (raws_from value_syntax raws 0)) (inputs_of m rest) old (map input_tree c.in_ok-inputs-in-Ok.inputs.items) (input_tree c.in-Ok.input) (input_of m (value_syntax x))
          (c.loop-i.invariant.value ∙ ap (λ (vs : ValueSyntaxes). inputs_behind old (inputs_of m vs)) next) c.in-Ok.ensures.exact c.in_ok-inputs-in-Ok.ensures.exact;
      range = c.loop-i.invariant.range ∙ ap (range_fault_among m) next ∙ ap (λ o. or_else o (range_fault_among m rest)) c.in-Ok.ensures.ok;
    }

pub each_input_of-returns-clause-exact : goal.each_input_of-returns-clause-exact
each_input_of-returns-clause-exact t c =
    let m = short_unit c.args.measures.now in
    let made = map input_tree c.loop-i.inputs.items in
    sym
    (c.loop-i.invariant.value ∙ ap (λ (vs : ValueSyntaxes). inputs_behind made (inputs_of m vs)) (raws_from-end value_syntax c.args.raws.now c.loop-i.i c.loop-i-test.false)
    ∙ behind_none made)
