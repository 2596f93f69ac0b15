use Rattle.std.proofs.Common.{map, ◌∙◌}
use Rattle.std.specs.Prelude.{string_bytes}
use Rattle.um_tree.specs.ProgramTree.{program_tree}
use Rattle.um_measures.specs.Known.{number_of}
use Rattle.um_value.specs.KnownNames.{known_in}
use Rattle.um_infer.specs.Answers.{scheme_trees}
use Rattle.um_run.specs.Calls.{call_answer}
use Rattle.um_run.proofs.CallParts.{named_below, named_function, behind_name, answer_typed}
use Rattle.um_run.proofs.calling.read_call_of.Goals as goal

pub read_known_call-requires-clause-function : goal.read_known_call-requires-clause-function
read_known_call-requires-clause-function c =
    named_below (program_tree c.args.callable.now.shaped.now) c.args.name.now c.in-Some.function
    (c.in-Some.ensures ∙ (λ i. number_of (c.requires.callable.listed i) (c.as_bytes.ensures.value i)))

pub returns-in-Some-clause-exact : goal.returns-in-Some-clause-exact
returns-in-Some-clause-exact c =
    let p = program_tree c.args.callable.now.shaped.now in
    let shorts = (known_in c.args.callable.now.names).shorts in
    let number = c.in-Some.ensures ∙ (λ i. number_of (c.requires.callable.listed i) (c.as_bytes.ensures.value i)) in
    let w = named_function p c.args.name.now c.in-Some.function number in
    behind_name p shorts (scheme_trees c.args.callable.now.schemes.now) (map string_bytes c.args.texts.now) c.in-Some.function w.0 c.args.name.now w.1 (call_answer c.read_known_call.result) (c.read_known_call.ensures w.0 w.1.declared)

pub returns-in-Some-clause-typed : goal.returns-in-Some-clause-typed
returns-in-Some-clause-typed c =
    let callable = c.args.callable.now in
    answer_typed (program_tree callable.shaped.now) (known_in callable.names).shorts (scheme_trees callable.schemes.now) (map string_bytes c.args.texts.now)
    (record { formed = c.requires.callable.formed; inferred = c.requires.callable.inferred; closed = c.requires.callable.closed }) c.args.name.now c.read_known_call.result
    (returns-in-Some-clause-exact c)
