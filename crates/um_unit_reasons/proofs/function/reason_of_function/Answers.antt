use Rattle.std.proofs.lemmas.Result.{IfOk-weaker}
use Rattle.um_tree.specs.RawTree.{program_syntax}
use Rattle.um_tree.specs.ProgramTree.{program_tree}
use Rattle.um_infer.specs.Answers.{scheme_trees}
use Rattle.um_unit_reasons.specs.Answers.{reason_tree}
use Rattle.um_unit_reasons.proofs.FunctionFacts.{reason_by}
use Rattle.um_unit_reasons.proofs.function.reason_of_function.Goals as goal

pub returns : goal.returns
returns c =
    let p = program_tree c.args.shaped.now in
    let schemes = scheme_trees c.in_ok-schemes.schemes in
    IfOk-weaker c.by_schemes-told.result _ _
    (λ r told. reason_by (program_syntax c.args.raw.now) p schemes c.args.i c.args.rigid c.in_ok-names.names told.0 (reason_tree r) c.in_ok-names.ensures told.1)
    c.by_schemes-told.ensures
