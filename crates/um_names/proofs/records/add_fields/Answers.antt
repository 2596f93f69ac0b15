use Rattle.std.proofs.Common.{◌≡◌, ◌∙◌, ℕ, List, ap, sym, subst}
use Rattle.um_tree.specs.declared.program.FieldDecl.{FieldDecl}
use Rattle.um_measures.specs.Known.{number_of}
use Rattle.um_names.specs.Parts.{field_else, field_if}
use Rattle.um_names.specs.Tables.{numbered_field}
use Rattle.um_names.proofs.FieldNumbers.{fields_more, else_none}
use Rattle.um_names.proofs.records.add_fields.Goals as goal

pub loop-i-init : goal.loop-i-init
loop-i-init c = record {
  counts = c.requires.counts;
  fields = λ x. else_none (numbered_field c.args.numbers.now.items (number_of c.args.names.now x));
}

pub loop-i-preserved : goal.loop-i-preserved
loop-i-preserved c = record {
  counts = c.in_ok-add_field.ensures.counts;
  fields = fields_more c.args.record_number c.args.fields.now c.loop-i.i c.index-fields-i.result
      (λ x. numbered_field c.args.numbers.now.items (number_of c.args.names.now x))
      (λ x. numbered_field c.loop-i.numbers.items (number_of c.loop-i.names x))
      (λ x. numbered_field c.add_field.new.numbers.items (number_of c.add_field.new.names x))
      c.loop-i.invariant.fields c.loop-i-test.true c.index-fields-i.is
      (subst (λ (n : List ℕ). (y : List ℕ) → numbered_field c.add_field.new.numbers.items (number_of c.add_field.new.names y) ≡ field_else (numbered_field c.loop-i.numbers.items (number_of c.loop-i.names y)) (field_if y n (record { record_number = c.args.record_number; field_number = c.loop-i.i }))) (c.as_slice.ensures ∙ ap (λ (f : FieldDecl). f.name) (sym c.index-fields-i.is)) c.in_ok-add_field.ensures.fields);
}
