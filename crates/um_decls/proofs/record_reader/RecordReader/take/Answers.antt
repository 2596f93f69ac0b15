use Rattle.std.proofs.Common.{◌≤◌, sym, subst, arith}
use Rattle.um_unit_texts.specs.UnitStops.{greatest_height}
use Rattle.um_types.specs.TypeView.{type_state}
use Rattle.um_decls.specs.DeclLeast.{decl_least}
use Rattle.um_decls.specs.DeclViews.{read_fields, field_state}
use Rattle.um_decls.specs.DeclTakes.{IsLow}
use Rattle.um_decls.specs.declared.record_reader.FieldExpected.{FieldExpected}
use Rattle.um_decls.proofs.DeclTokens.{type_low}
use Rattle.um_decls.proofs.record_reader.RecordReader.take.Goals as goal

pub take_own-requires : goal.take_own-requires
take_own-requires c =
    let old = c.args.self.now in
    let mid = type_state c.take_in_type.new.ty in
    let low = subst (λ (e : FieldExpected). decl_least (field_state old.head (read_fields old) (type_state old.ty) e) ≤ greatest_height) c.in-Type.is c.requires.low in
    record {
      low = subst (λ (e : FieldExpected). IsLow (field_state old.head (read_fields old) mid e)) (sym c.in-Type.is) (type_low (type_state old.ty) mid c.args.token.now (omega (arith, low)) (rw c.in-Stops.is at c.in_ok-take_in_type-in-Type.ensures.taken));
    }
