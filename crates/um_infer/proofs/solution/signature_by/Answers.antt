use Rattle.std.proofs.Common.{subst}
use Rattle.um_rows.specs.Answers.{rows_signature}
use Rattle.um_solving.specs.Solving.{IsRefusal}
use Rattle.um_infer.proofs.FormingSteps.{past_is_judged}
use Rattle.um_infer.proofs.solution.signature_by.Goals as goal

pub solved_types-requires : goal.solved_types-requires
solved_types-requires c = c.requires.3.unspent

pub memory_alone-requires : goal.memory_alone-requires
memory_alone-requires c =
    let rows = c.args.rows.now in
    let h = c.requires in
    let refused = past_is_judged h.0 h.1 rows.slots c.args.at (rows_signature rows) rows.list.items.items c.args.solver.now.units h.3.solves c.in-Err.refusal c.in-Err.ensures.range in
    (h.2, subst (λ j. IsRefusal j c.in-Err.refusal) h.4 refused)
