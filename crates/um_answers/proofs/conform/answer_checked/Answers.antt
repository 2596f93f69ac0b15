use Rattle.std.proofs.Common.{◌≡◌, length, Some, sym, ap, ◌∙◌, arith}
use Rattle.std.proofs.lemmas.List.{length-map}
use Rattle.um_tree.specs.declared.program.Program.{Program}
use Rattle.um_tree.specs.ProgramTree.{program_tree}
use Rattle.um_measures.specs.Known.{number_of, function_names}
use Rattle.um_measures.proofs.NameLists.{number_of-below}
use Rattle.um_answers.proofs.conform.answer_checked.Goals as goal

pub answer_signature-requires-clause-function : goal.answer_signature-requires-clause-function
answer_signature-requires-clause-function c =
    let p = program_tree c.program.result.now in let name = c.args.name.now in
    let found : number_of (function_names p.functions) name ≡ Some c.in-Some.function = sym c.function_named.ensures ∙ c.in-Some.is in
    let below = number_of-below name (function_names p.functions) c.in-Some.function found in
    let counted = length-map p.functions (λ f. f.name) in
    let same = ap (λ (q : Program). length (program_tree q).functions) c.program.ensures.program in
    omega (arith, below, counted, same)
