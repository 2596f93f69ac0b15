use Rattle.std.proofs.Common.{rules, ◌≡◌, map, ap, arith, ◌∙◌}
use Rattle.um_tree.specs.declared.raw.RawField.{RawField, roll-RawField, the_lemmas}
use Rattle.um_tree.specs.RawTree.{FieldPart, expr_syntax, field_part, fields_in_order}
use Rattle.um_tree.specs.Heights.{expr_height, tallest_field}
use Rattle.um_operands.specs.ExprHeights.{notes_in, notes_in_fields}
use Rattle.um_operands.specs.ExprBegun.{with_field}
use Rattle.um_operands.proofs.ExprLists.{fields_more, fields_put}
use Rattle.um_operands.proofs.operands.ReadFields.with.Goals as goal

pub invariant_of-result : goal.invariant_of-result
invariant_of-result c =
    let f : RawField = roll-RawField (record { at = c.args.at; name = c.args.name; value = c.into_inner.result }) in
    let part : FieldPart = record { at = c.args.at; name = c.args.name; part = expr_syntax c.into_inner.result } in
    let seen : field_part f ≡ part = search (rules, the_lemmas) in
    let more = fields_more c.args.self.items.items f in
    record {
      exact =
          omega (
            arith,
            c.higher.ensures,
            c.args.self.exact,
            c.args.last.exact,
            more.0,
            ap (λ (p : FieldPart). expr_height p.part) seen,
            ap (λ e. expr_height (expr_syntax e)) c.into_inner.ensures,
            ap (λ w. tallest_field (fields_in_order (map field_part w))) c.in_ok-items.ensures,
          );
      low =
          omega (
            arith,
            c.args.self.low,
            c.args.last.low,
            more.1,
            ap (λ (p : FieldPart). notes_in p.part) seen,
            ap (λ e. notes_in (expr_syntax e)) c.into_inner.ensures,
            ap (λ w. notes_in_fields (fields_in_order (map field_part w))) c.in_ok-items.ensures,
          );
    }

pub returns : goal.returns
returns c =
    let f : RawField = roll-RawField (record { at = c.args.at; name = c.args.name; value = c.into_inner.result }) in
    let part : FieldPart = record { at = c.args.at; name = c.args.name; part = expr_syntax c.into_inner.result } in
    let seen : field_part f ≡ part = search (rules, the_lemmas) in
    ap (map field_part) c.in_ok-items.ensures ∙ fields_put c.args.self.items.items f part seen
    ∙ ap (λ e. with_field (map field_part c.args.self.items.items) c.args.at c.args.name (expr_syntax e)) c.into_inner.ensures
