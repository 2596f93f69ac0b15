use Rattle.std.proofs.Common.{◌≡◌, ◌∙◌, sym, ap, subst, arith}
use Rattle.std.proofs.lemmas.List.{length-map}
use Rattle.um_tree.specs.ProgramTree.{program_tree, scheme_tree}
use Rattle.um_infer.specs.Inference.{infer_first}
use Rattle.um_infer.specs.Answers.{scheme_trees}
use Rattle.um_check.specs.Tidy.{IsTidyNo}
use Rattle.um_proof.specs.ProgramSteps.{CarriesInSome}
use Rattle.um_proof.proofs.FunctionAnswers.{refused_inside, refused_within, refusal_count, some_stops, function_stops}
use Rattle.um_proof.proofs.program.with_refusal.Goals as goal

pub with_yes-requires-clause-count : goal.with_yes-requires-clause-count
with_yes-requires-clause-count c =
    sym (length-map c.args.schemes.items.items scheme_tree) ∙ refusal_count (program_tree c.args.shaped.now) (scheme_trees c.args.schemes) c.args.i c.in-Ok.no c.requires.refused c.in-Ok.ensures.valid

pub with_yes-requires-clause-before : goal.with_yes-requires-clause-before
with_yes-requires-clause-before c =
    let p = program_tree c.args.shaped.now in
    let n = sym (length-map c.args.schemes.items.items scheme_tree) ∙ refusal_count p (scheme_trees c.args.schemes) c.args.i c.in-Ok.no c.requires.refused c.in-Ok.ensures.valid in
    ap (infer_first p) n ∙ c.requires.before

pub with_yes-requires-clause-few : goal.with_yes-requires-clause-few
with_yes-requires-clause-few c =
    let p = program_tree c.args.shaped.now in
    let n = sym (length-map c.args.schemes.items.items scheme_tree) ∙ refusal_count p (scheme_trees c.args.schemes) c.args.i c.in-Ok.no c.requires.refused c.in-Ok.ensures.valid in
    let l = refused_inside p c.args.i c.requires.refused in
    omega (arith, n, l)

pub returns-in-Err : goal.returns-in-Err
returns-in-Err c =
    let p = program_tree c.args.shaped.now in
    some_stops p (refused_within p c.args.i c.requires.refused) c.of_function.result
    (subst (CarriesInSome p) (sym c.of_function.ensures) (function_stops p c.args.i c.in-Err.stop c.in-Err.ensures.range))

pub with_yes-requires-clause-tidy : goal.with_yes-requires-clause-tidy
with_yes-requires-clause-tidy c = λ refusal e. let same : c.in-Ok.no ≡ refusal = cc e in subst IsTidyNo same c.in-Ok.ensures.tidy
