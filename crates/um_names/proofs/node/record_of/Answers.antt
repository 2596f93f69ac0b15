use Rattle.std.proofs.Common.{◌≡◌, ◌<◌, ◌+◌, map, drop, length, rules, sym, ap, ◌∙◌, arith}
use Rattle.std.specs.Prelude.{Some, slice_get}
use Rattle.um_tree.specs.declared.raw.RawNode.{the_lemmas}
use Rattle.um_tree.specs.RawTree.{field_part}
use Rattle.um_names.specs.Tables.{known_of}
use Rattle.um_names.specs.ExprNames.{field_of, found_record}
use Rattle.um_measures.proofs.Stages.{map_from_more}
use Rattle.um_names.proofs.FieldNames.{record_text_is, found_number, no_number}
use Rattle.um_names.proofs.node.record_of.Goals as goal

pub returns-clause-exact : goal.returns-clause-exact
returns-clause-exact c =
    let fs = c.args.fields.now in
    let first = c.first-item.result in
    let records = (known_of c.args.tables.now).program.records in
    let field = c.in-Some.field in
    let names = map (λ g. g.name) (map field_part fs) in
    let below : 0 < length fs = omega arith in
    let first_cut = map_from_more field_part fs 0 first below c.first-item.is in
    let named : c.as_slice.result.now ≡ (field_part first).name = search (rules, the_lemmas) in
    let declared : field_of records (field_part first).name ≡ Some field = sym (c.in-Some.ensures ∙ ap (field_of records) named) in
    let is = record_text_is records (map field_part fs) (field_part first) (map field_part (drop (0 + 1) fs)) c.in_ok-known_fields.field-0 (Some field) c.args.at first_cut c.in_ok-known_fields.ensures.exact declared in
    is ∙ ap (λ r. found_record r c.args.at) (found_number (slice_get records field.record_number) field.record_number names (sym c.has_fields.ensures ∙ c.if-not-has_fields.false))

pub returns-then-not-has_fields-clause-faults : goal.returns-then-not-has_fields-clause-faults
returns-then-not-has_fields-clause-faults c =
    let fs = c.args.fields.now in
    let first = c.first-item.result in
    let records = (known_of c.args.tables.now).program.records in
    let field = c.in-Some.field in
    let names = map (λ g. g.name) (map field_part fs) in
    let below : 0 < length fs = omega arith in
    let first_cut = map_from_more field_part fs 0 first below c.first-item.is in
    let named : c.as_slice.result.now ≡ (field_part first).name = search (rules, the_lemmas) in
    let declared : field_of records (field_part first).name ≡ Some field = sym (c.in-Some.ensures ∙ ap (field_of records) named) in
    let is = record_text_is records (map field_part fs) (field_part first) (map field_part (drop (0 + 1) fs)) c.in_ok-known_fields.field-0 (Some field) c.args.at first_cut c.in_ok-known_fields.ensures.exact declared in
    is ∙ ap (λ r. found_record r c.args.at) (no_number (slice_get records field.record_number) field.record_number names (sym c.has_fields.ensures ∙ c.if-not-has_fields.true))
