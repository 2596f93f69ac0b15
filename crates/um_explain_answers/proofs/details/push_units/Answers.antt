use Rattle.std.proofs.Common.{true, false, refl}
use Rattle.std.proofs.lemmas.Result.{on_ok_weaker}
use Rattle.um_tree.specs.RawTree.{program_syntax}
use Rattle.um_tree.specs.ProgramTree.{program_tree}
use Rattle.um_infer.specs.declared.stop.InferStop.TheVariants as stop
use Rattle.um_explain_answers.proofs.Stops.{judged_units, judged_not_general, told_at, none_told}
use Rattle.um_explain_answers.proofs.details.push_units.Goals as goal

pub push_function-requires : goal.push_function-requires
push_function-requires c = judged_units (program_tree c.args.shaped.now) c.in-Units.function c.in-Units.at (rw c.in-Units.is at c.requires)

pub returns-in-Units : goal.returns-in-Units
returns-in-Units c =
    on_ok_weaker c.push_function.result
    (told_at c.args.bytes.now (program_syntax c.args.raw.now) (program_tree c.args.shaped.now) c.in-Units.function false (stop.Units c.in-Units.function c.in-Units.at) c.args.stop c.args.out.now.items c.push_function.new.out.items
    c.in-Units.is (λ text told. told))
    c.push_function.ensures

pub push_function-requires-in-NotGeneral : goal.push_function-requires-in-NotGeneral
push_function-requires-in-NotGeneral c = judged_not_general (program_tree c.args.shaped.now) c.in-NotGeneral.function c.in-NotGeneral.at (rw c.in-NotGeneral.is at c.requires)

pub returns-in-NotGeneral : goal.returns-in-NotGeneral
returns-in-NotGeneral c =
    on_ok_weaker c.push_function-in-NotGeneral.result
    (told_at c.args.bytes.now (program_syntax c.args.raw.now) (program_tree c.args.shaped.now) c.in-NotGeneral.function true (stop.NotGeneral c.in-NotGeneral.function c.in-NotGeneral.at) c.args.stop c.args.out.now.items
    c.push_function-in-NotGeneral.new.out.items c.in-NotGeneral.is (λ text told. told))
    c.push_function-in-NotGeneral.ensures

pub returns-in-PowerRange : goal.returns-in-PowerRange
returns-in-PowerRange c =
    none_told c.args.bytes.now (program_syntax c.args.raw.now) (program_tree c.args.shaped.now) (stop.PowerRange c.in-PowerRange.function c.in-PowerRange.at) c.args.stop c.args.out.now.items c.in-PowerRange.is refl

pub returns-in-Slots : goal.returns-in-Slots
returns-in-Slots c = none_told c.args.bytes.now (program_syntax c.args.raw.now) (program_tree c.args.shaped.now) (stop.Slots c.in-Slots.function) c.args.stop c.args.out.now.items c.in-Slots.is refl

pub returns-in-NoMemory : goal.returns-in-NoMemory
returns-in-NoMemory c = none_told c.args.bytes.now (program_syntax c.args.raw.now) (program_tree c.args.shaped.now) stop.NoMemory c.args.stop c.args.out.now.items c.in-NoMemory.is refl
