use Rattle.std.proofs.Common.{◌≡◌, ℕ, List, [], ◌∷◌, ◌++◌, true, false, cond, sym, ap, ◌∙◌}
use Rattle.um_names.specs.declared.callable.FieldNumber.{FieldNumber}
use Rattle.um_measures.specs.Known.{number_of, is_among}
use Rattle.um_names.specs.Tables.{numbered_field}
use Rattle.um_names.proofs.FieldNumbers.{field_added, field_hidden}
use Rattle.um_names.proofs.records.add_field.Goals as goal

pub returns-then-has-clause-fields : goal.returns-then-has-clause-fields
returns-then-has-clause-fields c =
    let known : is_among c.args.names.now c.args.name.now ≡ true = sym c.has.ensures ∙ c.if-has.true in
    field_hidden c.args.names.now c.args.numbers.now.items c.args.name.now c.args.number c.requires.counts known

pub returns-clause-fields : goal.returns-clause-fields
returns-clause-fields c =
    let x = c.args.name.now in
    let absent : is_among c.args.names.now x ≡ false = sym c.has.ensures ∙ c.if-has.false in
    let names : c.add.new.self ≡ c.args.names.now ++ x ∷ [] = c.in_ok-add.ensures ∙ ap (λ b. cond b c.args.names.now (c.args.names.now ++ x ∷ [])) absent in
    λ y. ap (λ (ns : List FieldNumber). numbered_field ns (number_of c.add.new.self y)) c.in_ok-push.ensures.items
    ∙ ap (λ (xs : List (List ℕ)). numbered_field (c.args.numbers.now.items ++ c.args.number ∷ []) (number_of xs y)) names
    ∙ field_added c.args.names.now c.args.numbers.now.items x c.args.number c.requires.counts y
