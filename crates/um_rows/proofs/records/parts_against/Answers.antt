use Rattle.std.proofs.Common.{length, map, sym, subst}
use Rattle.std.specs.Prelude.{All}
use Rattle.um_units.specs.PowerMap.{nth}
use Rattle.um_units.specs.Variables.{VariablesBelow}
use Rattle.um_tree.specs.declared.program.FieldDecl.{FieldDecl}
use Rattle.um_tree.specs.TypeTree.{type_tree}
use Rattle.um_tree.specs.Typing.{put}
use Rattle.um_tree.specs.Laws.{TypeHas}
use Rattle.um_equal_types.specs.Against.{types_against as types_against_steps}
use Rattle.um_equal_types.specs.Pushed.{ArePushed}
use Rattle.um_rows.specs.Closed.{declared_types}
use Rattle.um_rows.proofs.OfferLaws.{fields_at_units}
use Rattle.um_rows.proofs.records.parts_against.Goals as goal

pub fields_against-requires-clause-below : goal.fields_against-requires-clause-below
fields_against-requires-clause-below c =
    let value = c.args.value.now in
    subst (λ fs. All (λ (f : FieldDecl). TypeHas (VariablesBelow (length value.units.now)) (type_tree f.ty)) fs) (sym c.deref-fields.ensures.value)
    (subst (λ n. All (λ (f : FieldDecl). TypeHas (VariablesBelow n) (type_tree f.ty)) value.declaration.now.fields.items.items) (sym value.many) value.closed.fields)

pub returns : goal.returns
returns c =
    let value = c.args.value.now in
    let by = value.units.now in
    let old = c.args.rows.now.items in
    let new = c.fields_against.new.rows.items in
    let parts = map type_tree c.args.parts.now in
    let fields = subst (λ fs. ArePushed (types_against_steps c.args.at (map (put (nth by)) (declared_types fs)) parts) old new c.fields_against.result) c.deref-fields.ensures.value c.fields_against.ensures in
    subst (λ ts. ArePushed (types_against_steps c.args.at ts parts) old new c.fields_against.result) (fields_at_units by value.declaration.now value.many value.closed) fields
