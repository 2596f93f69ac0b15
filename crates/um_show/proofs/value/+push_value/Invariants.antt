use Rattle.std.proofs.Common.{◌≡◌, ◌++◌, []}
use Rattle.um_tree.specs.TypeTree.{type_tree}
use Rattle.um_tree.specs.ValueTree.{value_tree}
use Rattle.um_show.specs.Lists.{gap_before}
use Rattle.um_show.specs.ValueText.{separator, items_by, fields_by, items_fit, fields_fit}
use Rattle.um_show.proofs.ValueTexts.{values_from, fields_from}
use Rattle.um_show.proofs.value.+push_value.Given as goal

abbrev pub invariant-push_items-loop-i : goal.invariant-push_items-loop-i
invariant-push_items-loop-i g l = record {
  written :
      l.initial.text.items ++ items_by (g.P.ValuePrinter.number l.printer) (g.P.ValuePrinter.tree l.printer) [] (values_from value_tree l.values 0) (type_tree l.ty)
      ≡ l.text.items ++ items_by (g.P.ValuePrinter.number l.printer) (g.P.ValuePrinter.tree l.printer) (gap_before l.i separator) (values_from value_tree l.values l.i) (type_tree l.ty);
  fit : items_fit (g.P.ValuePrinter.tree l.printer) (values_from value_tree l.values 0) (type_tree l.ty) ≡ items_fit (g.P.ValuePrinter.tree l.printer) (values_from value_tree l.values l.i) (type_tree l.ty);
}

abbrev pub invariant-push_fields-loop-i : goal.invariant-push_fields-loop-i
invariant-push_fields-loop-i g l = record {
  written :
      l.initial.text.items ++ fields_by (g.P.ValuePrinter.number l.printer) (g.P.ValuePrinter.tree l.printer) [] (values_from value_tree l.values 0) (fields_from l.units l.fields 0)
      ≡ l.text.items ++ fields_by (g.P.ValuePrinter.number l.printer) (g.P.ValuePrinter.tree l.printer) (gap_before l.i separator) (values_from value_tree l.values l.i) (fields_from l.units l.fields l.i);
  fit : fields_fit (g.P.ValuePrinter.tree l.printer) (values_from value_tree l.values 0) (fields_from l.units l.fields 0) ≡ fields_fit (g.P.ValuePrinter.tree l.printer) (values_from value_tree l.values l.i) (fields_from l.units l.fields l.i);
}
