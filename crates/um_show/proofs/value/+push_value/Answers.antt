use Rattle.std.proofs.Common.{◌≡◌, ◌≤◌, List, [], ◌++◌, length, sym, ap, ◌∙◌}
use Rattle.std.proofs.lemmas.List.{append-nil}
use Rattle.um_tree.specs.ProgramTree.{FieldTree}
use Rattle.um_tree.specs.ValueTree.{value_tree}
use Rattle.um_show.specs.Lists.{gap_before}
use Rattle.um_show.specs.ValueText.{separator, fields_by, fields_fit}
use Rattle.um_show.proofs.ValueTexts.{values_from, fields_from, fields_from-end, no_fields, no_fields_fit}
use Rattle.um_show.proofs.value.+push_value.Goals as goal

pub push_fields-returns-in_default-clause-exact : goal.push_fields-returns-in_default-clause-exact
push_fields-returns-in_default-clause-exact g t c =
    let number = g.P.ValuePrinter.number c.args.printer.now in
    let p = g.P.ValuePrinter.tree c.args.printer.now in
    let text = c.loop-i.text.items in
    let gap = gap_before c.loop-i.i separator in
    let vs = values_from value_tree c.args.values.now c.loop-i.i in
    let past : length c.args.fields.now ≤ c.loop-i.i = rw c.in_default.is at c.get.ensures.lookup.3 in
    let end : fields_from c.args.units.now c.args.fields.now c.loop-i.i ≡ [] = fields_from-end c.args.units.now c.args.fields.now c.loop-i.i past in
    sym (c.loop-i.invariant.written ∙ ap (λ (fs : List FieldTree). text ++ fields_by number p gap vs fs) end ∙ ap (λ s. text ++ s) (no_fields number p gap vs) ∙ append-nil text)

pub push_fields-returns-in_default-clause-range : goal.push_fields-returns-in_default-clause-range
push_fields-returns-in_default-clause-range g t c =
    let p = g.P.ValuePrinter.tree c.args.printer.now in
    let vs = values_from value_tree c.args.values.now c.loop-i.i in
    let past : length c.args.fields.now ≤ c.loop-i.i = rw c.in_default.is at c.get.ensures.lookup.3 in
    let end : fields_from c.args.units.now c.args.fields.now c.loop-i.i ≡ [] = fields_from-end c.args.units.now c.args.fields.now c.loop-i.i past in
    c.loop-i.invariant.fit ∙ ap (fields_fit p vs) end ∙ no_fields_fit p vs
