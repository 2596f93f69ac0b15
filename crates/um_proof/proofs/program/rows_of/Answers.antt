use Rattle.std.proofs.Common.{length, sym, ◌∙◌, subst, arith}
use Rattle.std.specs.Prelude.{All}
use Rattle.um_tree.specs.Formed.{BasesBelow}
use Rattle.um_proof.proofs.Inferred.{rows_hold_declared_units}
use Rattle.um_tree.specs.ProgramTree.{program_tree}
use Rattle.um_infer.specs.Answers.{scheme_trees}
use Rattle.um_infer.proofs.SchemeLists.{item_at}
use Rattle.um_infer.proofs.Judged.{own_variables_alone}
use Rattle.um_infer.proofs.SchemeJudgements.{same_rows, schemes_until}
use Rattle.um_proof.proofs.FunctionRows.{are_function_rows}
use Rattle.um_proof.proofs.program.rows_of.Goals as goal

pub rows-requires-clause-schemes : goal.rows-requires-clause-schemes
rows-requires-clause-schemes c =
    let p = program_tree c.args.shaped.now in
    let w = c.requires.inferred in
    own_variables_alone p (scheme_trees c.args.schemes.now) c.args.i (schemes_until p c.requires.formed w.0 c.args.i (scheme_trees c.args.schemes.now) w.2 w.1 w.3)

pub returns-in-Ok-clause-rows : goal.returns-in-Ok-clause-rows
returns-in-Ok-clause-rows c = λ f e.
    let p = program_tree c.args.shaped.now in
    let schemes = scheme_trees c.args.schemes.now in
    let w = c.requires.inferred in
    are_function_rows p schemes c.args.i f c.in-Ok.rows c.requires.formed c.requires.shapes (schemes_until p c.requires.formed w.0 c.args.i schemes w.2 w.1 w.3) w e (c.in-Ok.ensures.equations f e)

pub returns-in-Ok-clause-declared : goal.returns-in-Ok-clause-declared
returns-in-Ok-clause-declared c =
    let p = program_tree c.args.shaped.now in
    let w = c.requires.inferred in
    let f = item_at p.functions c.args.i c.requires.function in
    subst (All (BasesBelow (length p.bases))) (sym (same_rows (length p.bases) p.records (scheme_trees c.args.schemes.now) c.args.i f.0 c.in-Ok.rows (c.in-Ok.ensures.equations f.0 f.1)))
    (rows_hold_declared_units p w.0 (scheme_trees c.args.schemes.now) c.args.i f.0 c.requires.formed c.requires.shapes w.2 w.3 w.1 f.1)

pub unreachable-requires : goal.unreachable-requires
unreachable-requires c =
    let p = program_tree c.args.shaped.now in
    let w = item_at p.functions c.args.i c.requires.function in
    let many = (rw c.in-Err-Slots.field-0-is at c.in-Err-Slots.ensures.stops) w.0 w.1 in
    let few = (c.requires.limits w.0 w.1).0 in
    omega (arith, many, few)

pub unreachable-requires-in-Err-Range : goal.unreachable-requires-in-Err-Range
unreachable-requires-in-Err-Range c =
    let p = program_tree c.args.shaped.now in
    let w = item_at p.functions c.args.i c.requires.function in
    let past = (rw c.in-Err-Range.field-0-is at c.in-Err-Range.ensures.stops) w.0 w.1 in
    let none = (c.requires.limits w.0 w.1).1 in
    cc (sym past.1 ∙ none)
