use Rattle.std.proofs.Common.{◌∙◌, sym, arith}
use Rattle.um_tree.specs.ProgramTree.{program_tree}
use Rattle.um_proof.proofs.FunctionAnswers.{refused_inside, refused_function}
use Rattle.um_proof.proofs.program.refused_proofs.Goals as goal

pub infer_first-requires : goal.infer_first-requires
infer_first-requires c = let l = refused_inside (program_tree c.args.shaped.now) c.args.i c.requires in omega (arith, l)

pub unreachable-requires : goal.unreachable-requires
unreachable-requires c =
    let h = (refused_function (program_tree c.args.shaped.now) c.args.i c.requires).of in
    let stops = rw c.in-Err-Units.field-0-is at c.in-Err-Units.ensures in
    cc (sym h.before ∙ stops.1)

pub unreachable-requires-in-Err-NotGeneral : goal.unreachable-requires-in-Err-NotGeneral
unreachable-requires-in-Err-NotGeneral c =
    let h = (refused_function (program_tree c.args.shaped.now) c.args.i c.requires).of in
    let stops = rw c.in-Err-NotGeneral.field-0-is at c.in-Err-NotGeneral.ensures in
    cc (sym h.before ∙ stops.1)

pub unreachable-requires-in-Err-PowerRange : goal.unreachable-requires-in-Err-PowerRange
unreachable-requires-in-Err-PowerRange c =
    let h = (refused_function (program_tree c.args.shaped.now) c.args.i c.requires).of in
    let stops = rw c.in-Err-PowerRange.field-0-is at c.in-Err-PowerRange.ensures in
    cc (sym h.before ∙ stops)

pub unreachable-requires-in-Err-Slots : goal.unreachable-requires-in-Err-Slots
unreachable-requires-in-Err-Slots c =
    let h = (refused_function (program_tree c.args.shaped.now) c.args.i c.requires).of in
    let stops = rw c.in-Err-Slots.field-0-is at c.in-Err-Slots.ensures in
    cc (sym h.before ∙ stops)
