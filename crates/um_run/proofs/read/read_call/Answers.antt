use Rattle.std.proofs.Common.{◌≡◌, map, Some, subst}
use Rattle.std.specs.Prelude.{string_bytes}
use Rattle.um_tree.specs.declared.program.Program.{Program}
use Rattle.um_tree.specs.ProgramTree.{program_tree}
use Rattle.um_measures.specs.Known.{number_of, function_names}
use Rattle.um_infer.specs.Answers.{scheme_trees}
use Rattle.um_run.specs.Calls.{call_answer}
use Rattle.um_run.proofs.CallParts.{named_below, named_function, behind_name, answer_typed}
use Rattle.um_run.proofs.read.read_call.Goals as goal

pub call_to-requires-clause-function : goal.call_to-requires-clause-function
call_to-requires-clause-function c =
    named_below (program_tree c.args.shaped.now) c.args.name.now c.in-Some.function
    (subst (λ (program : Program). Some c.in-Some.function ≡ number_of (function_names (program_tree program).functions) c.args.name.now) c.program.ensures.program c.in-Some.ensures)

pub returns-in-Some-clause-exact : goal.returns-in-Some-clause-exact
returns-in-Some-clause-exact c =
    let p = program_tree c.args.shaped.now in
    let number = subst (λ (program : Program). Some c.in-Some.function ≡ number_of (function_names (program_tree program).functions) c.args.name.now) c.program.ensures.program c.in-Some.ensures in
    let w = named_function p c.args.name.now c.in-Some.function number in
    behind_name p c.args.abbreviations.now (scheme_trees c.args.schemes.now) (map string_bytes c.args.texts.now) c.in-Some.function w.0 c.args.name.now w.1 (call_answer c.call_to.result) (c.call_to.ensures w.0 w.1.declared)

pub returns-in-Some-clause-typed : goal.returns-in-Some-clause-typed
returns-in-Some-clause-typed c =
    let p = program_tree c.args.shaped.now in
    answer_typed p c.args.abbreviations.now (scheme_trees c.args.schemes.now) (map string_bytes c.args.texts.now) (record { formed = c.program.ensures.formed; inferred = c.requires.inferred; closed = c.requires.closed }) c.args.name.now c.call_to.result
    (returns-in-Some-clause-exact c)
