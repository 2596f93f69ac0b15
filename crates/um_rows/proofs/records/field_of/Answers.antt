use Rattle.std.proofs.Common.{◌≡◌, ◌<◌, ◌≤◌, true, length, get_or, slice_get, sym, subst}
use Rattle.std.proofs.lemmas.Bool.{ltb-true, eq-eqb}
use Rattle.um_tree.specs.ProgramTree.{record_tree}
use Rattle.um_tree.specs.Typing.{field_types}
use Rattle.um_rows.specs.Rules.{declared_rule}
use Rattle.um_rows.specs.Walk.{node}
use Rattle.um_rows.specs.Reached.{IsReached}
use Rattle.um_rows.proofs.OfferLaws.{field_found, field_past}
use Rattle.um_rows.proofs.records.field_of.Goals as goal

pub returns-in-Some-clause-reached : goal.returns-in-Some-clause-reached
returns-in-Some-clause-reached c =
    let progress = c.args.progress.now in
    let us = c.args.units.now in
    let d = c.args.declaration.now in
    let found = subst (λ fs. (c.args.k < length fs) × (c.in-Some.field.now ≡ get_or fs c.args.k c.in-Some.field.now)) c.deref.ensures.value (ltb-true c.args.k (length c.deref.result.now) (sym c.in-Some.ensures.lookup.0), c.in-Some.ensures.lookup.1) in
    let field = field_found d c.args.k c.in-Some.field.now found.0 found.1 in
    let count = eq-eqb (length us) d.units c.if-units-declaration.false in
    subst (λ b. IsReached (node progress.rows.items progress.holes (declared_rule c.args.at us b (slice_get (field_types (record_tree d)) c.args.k))) c.declared.new.progress c.declared.result) (sym count)
    (subst (λ o. IsReached (node progress.rows.items progress.holes (declared_rule c.args.at us true o)) c.declared.new.progress c.declared.result) (sym field) c.declared.ensures.reached)

pub returns-in-None-clause-reached : goal.returns-in-None-clause-reached
returns-in-None-clause-reached c =
    let progress = c.args.progress.now in
    let us = c.args.units.now in
    let d = c.args.declaration.now in
    let past = subst (λ fs. length fs ≤ c.args.k) c.deref.ensures.value c.in-None.ensures.lookup.3 in
    let count = eq-eqb (length us) d.units c.if-units-declaration.false in
    subst (λ b. IsReached (node progress.rows.items progress.holes (declared_rule c.args.at us b (slice_get (field_types (record_tree d)) c.args.k))) c.mismatch-in-None.new.progress c.mismatch-in-None.result) (sym count)
    (subst (λ o. IsReached (node progress.rows.items progress.holes (declared_rule c.args.at us true o)) c.mismatch-in-None.new.progress c.mismatch-in-None.result) (sym (field_past d c.args.k past)) c.mismatch-in-None.ensures.reached)
