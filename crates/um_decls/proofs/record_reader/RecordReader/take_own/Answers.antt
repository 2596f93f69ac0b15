use Rattle.std.proofs.Common.{◌≡◌, subst}
use Rattle.um_types.specs.TypeView.{type_state}
use Rattle.um_decls.specs.DeclViews.{read_fields, field_state}
use Rattle.um_decls.specs.DeclTakes.{IsLow}
use Rattle.um_decls.specs.declared.record_reader.FieldExpected.{FieldExpected}
use Rattle.um_decls.specs.declared.record_reader.FieldExpected.TheVariants as field
use Rattle.um_decls.proofs.record_reader.RecordReader.take_own.Goals as goal

pub end_field-requires-clause-low : goal.end_field-requires-clause-low
end_field-requires-clause-low c =
    let old = c.args.self.now in
    let is : old.expected ≡ field.Type c.in-Type.at c.in-Type.name = cc in
    subst (λ (e : FieldExpected). IsLow (field_state old.head (read_fields old) (type_state old.ty) e)) is c.requires.low
