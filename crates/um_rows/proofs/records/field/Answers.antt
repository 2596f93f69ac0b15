use Rattle.std.proofs.Common.{◌≡◌, true, length, map, Some, slice_get, sym, ap, subst}
use Rattle.std.proofs.lemmas.Bool.{ltb-true, eq-eqb}
use Rattle.um_tree.specs.TypeTree.{type_tree, record_type}
use Rattle.um_tree.specs.ProgramTree.{record_tree}
use Rattle.um_rows.specs.Rules.{found_rule, field_rule}
use Rattle.um_rows.specs.Walk.{node}
use Rattle.um_rows.specs.Reached.{IsReached}
use Rattle.um_rows.specs.Closed.{IsClosedRecord}
use Rattle.um_rows.proofs.NodeLaws.{mapped_found, mapped_past}
use Rattle.um_rows.proofs.records.field.Goals as goal

pub field_of-requires : goal.field_of-requires
field_of-requires c =
    let walk = c.args.walk.now in
    let found = c.in-Some.ensures.lookup in
    let low = ltb-true c.args.r (length walk.records.now) (sym found.0) in
    record { closed = subst IsClosedRecord (sym found.1) (walk.closed_records c.args.r c.in-Some.record.now low) }

pub returns-in-Some-clause-reached : goal.returns-in-Some-clause-reached
returns-in-Some-clause-reached c =
    let walk = c.args.walk.now in
    let progress = c.args.progress.now in
    let found = c.in-Some.ensures.lookup in
    let new = c.field_of.new.progress in
    let r = c.field_of.result in
    let low = ltb-true c.args.r (length walk.records.now) (sym found.0) in
    let seen : type_tree c.args.part.now ≡ record_type c.in-Rec.q c.in-Rec.units = ap type_tree c.in-Rec.is in
    let record_is = mapped_found record_tree walk.records.now c.args.r c.in-Some.record.now low found.1 in
    let at_units = subst (λ us. IsReached (node progress.rows.items progress.holes (found_rule c.args.at c.args.k us true (Some (record_tree c.in-Some.record.now)))) new r) c.as_slice.ensures.items c.field_of.ensures.reached in
    subst (λ t. IsReached (node progress.rows.items progress.holes (field_rule c.args.at c.args.r c.args.k (slice_get (map record_tree walk.records.now) c.args.r) t)) new r) (sym seen)
    (subst (λ b. IsReached (node progress.rows.items progress.holes (found_rule c.args.at c.args.k c.in-Rec.units b (slice_get (map record_tree walk.records.now) c.args.r))) new r) (sym (eq-eqb c.in-Rec.q c.args.r c.if-q-r.true))
    (subst (λ o. IsReached (node progress.rows.items progress.holes (found_rule c.args.at c.args.k c.in-Rec.units true o)) new r) (sym record_is) at_units))

pub returns-in-None-clause-reached : goal.returns-in-None-clause-reached
returns-in-None-clause-reached c =
    let walk = c.args.walk.now in
    let progress = c.args.progress.now in
    let new = c.mismatch.new.progress in
    let r = c.mismatch.result in
    let seen : type_tree c.args.part.now ≡ record_type c.in-Rec.q c.in-Rec.units = ap type_tree c.in-Rec.is in
    let past = mapped_past record_tree walk.records.now c.args.r c.in-None.ensures.lookup.3 in
    subst (λ t. IsReached (node progress.rows.items progress.holes (field_rule c.args.at c.args.r c.args.k (slice_get (map record_tree walk.records.now) c.args.r) t)) new r) (sym seen)
    (subst (λ b. IsReached (node progress.rows.items progress.holes (found_rule c.args.at c.args.k c.in-Rec.units b (slice_get (map record_tree walk.records.now) c.args.r))) new r) (sym (eq-eqb c.in-Rec.q c.args.r c.if-q-r.true))
    (subst (λ o. IsReached (node progress.rows.items progress.holes (found_rule c.args.at c.args.k c.in-Rec.units true o)) new r) (sym past) c.mismatch.ensures.reached))
