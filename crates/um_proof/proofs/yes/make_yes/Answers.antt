use Rattle.std.proofs.Common.{length, sym, subst}
use Rattle.std.specs.Prelude.{All}
use Rattle.um_units.specs.Variables.{VariablesBelow}
use Rattle.um_tree.specs.ProgramTree.{scheme_tree}
use Rattle.um_equal_types.specs.declared.row.Row.{Row}
use Rattle.um_equal_types.specs.Steps.{units_of}
use Rattle.um_kept.specs.Kept.{IsReached, first}
use Rattle.um_kept.specs.Answers.{AreRefused, CarriesInRows}
use Rattle.um_proof.proofs.Judged.{rows_low}
use Rattle.um_proof.proofs.ValidYes.{rows_pass, never_refused}
use Rattle.um_proof.proofs.yes.make_yes.Goals as goal

pub make_rows-requires-clause-rows : goal.make_rows-requires-clause-rows
make_rows-requires-clause-rows c =
    let r = c.args.rows.now in
    subst (All (λ (row : Row). VariablesBelow r.slots row.unit)) (sym c.deref.ensures.value) (rows_low r.slots r.list.items.items c.requires.rows.rows)

pub certificate-made-requires-clause-reached : goal.certificate-made-requires-clause-reached
certificate-made-requires-clause-reached c =
    let r = c.args.rows.now in
    let made = rw c.in-Ok-Made.field-0-is at c.in-Ok-Made.ensures in
    (made.0, subst (λ rs. IsReached (units_of rs) (first c.args.bases c.args.units r.slots) (length rs) made.0) c.deref.ensures.value made.1, made.2)

pub certificate-made-requires-clause-judged : goal.certificate-made-requires-clause-judged
certificate-made-requires-clause-judged c = (c.requires.judged.0, scheme_tree c.args.scheme.now, c.requires.judged.1)

pub returns-in-Ok-Made-clause-made : goal.returns-in-Ok-Made-clause-made
returns-in-Ok-Made-clause-made c = c.certificate-made.ensures.made c.requires.judged.0 (scheme_tree c.args.scheme.now) c.requires.judged.1

pub returns-in-Err-clause-made : goal.returns-in-Err-clause-made
returns-in-Err-clause-made c =
    let r = c.args.rows.now in
    rows_pass c.args.bases c.args.units r c.requires.rows (scheme_tree c.args.scheme.now) c.in-Err.stop
    (subst (λ rs. CarriesInRows (record { slots = r.slots; parameters = c.args.units; bases = c.args.bases }) rs c.in-Err.stop) c.deref.ensures.value c.in-Err.ensures)

pub unreachable-requires : goal.unreachable-requires
unreachable-requires c =
    let r = c.args.rows.now in
    let made = rw c.in-Ok-Refused.field-0-is at c.in-Ok-Refused.ensures in
    never_refused c.args.bases c.args.units r c.requires.rows c.requires.judged.0 (scheme_tree c.args.scheme.now) c.in-Ok-Refused.field-0-0 c.in-Ok-Refused.refused c.requires.judged.1
    (subst (λ rs. AreRefused (record { slots = r.slots; parameters = c.args.units; bases = c.args.bases }) rs c.in-Ok-Refused.field-0-0 c.in-Ok-Refused.refused) c.deref.ensures.value made)
