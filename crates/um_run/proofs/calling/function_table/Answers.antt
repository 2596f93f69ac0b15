use Rattle.std.proofs.Common.{length, map, sym, ap, ◌<◌, ◌∙◌, arith}
use Rattle.std.proofs.lemmas.List.{length-map, get_or-map}
use Rattle.um_tree.specs.declared.program.Function.{Function}
use Rattle.um_tree.specs.ProgramTree.{FunctionTree, function_tree}
use Rattle.um_measures.specs.Known.{function_names}
use Rattle.um_run.proofs.AddedNames.{one_added}
use Rattle.um_run.proofs.calling.function_table.Goals as goal

pub loop-function-preserved : goal.loop-function-preserved
loop-function-preserved c =
    let fs = c.args.functions.now in
    let i = c.loop-function.function-index in
    let names = function_names (map function_tree fs) in
    let trees = length-map fs function_tree in
    let count = length-map (map function_tree fs) (λ (f : FunctionTree). f.name) in
    let below = c.loop-function-test.true in
    let within : i < length names = omega (arith, trees, count, below) in
    let item = c.function-item.result in
    let named = ap (λ (f : Function). f.name) c.function-item.is in
    let tree = sym (get_or-map function_tree fs i item (function_tree item) below) in
    let name = sym (get_or-map (λ (f : FunctionTree). f.name) (map function_tree fs) i (function_tree item) c.as_slice.result.now (omega (arith, trees, below))) in
    one_added names i c.as_slice.result.now c.as_slice.result.now c.loop-function.names c.add.new.self c.requires.once within
    (c.as_slice.ensures ∙ named ∙ ap (λ (f : FunctionTree). f.name) tree ∙ name) c.loop-function.invariant c.in_ok-add.ensures
