use Rattle.std.proofs.Common.{◌≡◌, ◌<◌, ◌∷◌, [], map, length, sym, ap, ◌∙◌, arith}
use Rattle.std.proofs.lemmas.List.{map-append}
use Rattle.um_tree.specs.ProgramTree.{program_tree, scheme_tree}
use Rattle.um_infer.specs.Inference.{all_schemes, infer_first}
use Rattle.um_infer.specs.Answers.{scheme_trees}
use Rattle.um_infer.proofs.ProgramSteps.{have_before, one_inferred, refused_inferred}
use Rattle.um_infer.proofs.program.infer_first.Goals as goal

pub function_scheme-requires-clause-before : goal.function_scheme-requires-clause-before
function_scheme-requires-clause-before c =
    let p = program_tree c.args.shaped.now in
    let below = c.loop-i-test.true in
    have_before p c.loop-i.i (scheme_trees c.loop-i.schemes) c.loop-i.invariant c.function_count.ensures.formed (omega (arith, below, c.requires))

pub loop-i-preserved : goal.loop-i-preserved
loop-i-preserved c =
    let p = program_tree c.args.shaped.now in
    let test = c.loop-i-test.true in
    let below : c.loop-i.i < length p.functions = omega (arith, test, c.requires) in
    one_inferred p c.loop-i.i (scheme_trees c.loop-i.schemes) c.loop-i.invariant below (scheme_tree c.in-Ok.scheme) c.in-Ok.ensures
    ∙ ap all_schemes (sym (ap (map scheme_tree) c.in_ok-push.ensures.items ∙ map-append scheme_tree c.loop-i.schemes.items.items (c.in-Ok.scheme ∷ [])))

pub returns-in-Err : goal.returns-in-Err
returns-in-Err c =
    let p = program_tree c.args.shaped.now in
    let test = c.loop-i-test.true in
    let below : c.loop-i.i < length p.functions = omega (arith, test, c.requires) in
    rw c.stop_of.ensures (refused_inferred p c.loop-i.i (scheme_trees c.loop-i.schemes) c.loop-i.invariant below c.args.functions test c.in-Err.refusal c.in-Err.ensures)

pub returns : goal.returns
returns c =
    let p = program_tree c.args.shaped.now in
    let all : c.loop-i.i ≡ c.args.functions = (let past = c.loop-i-test.false in let end = c.loop-i.auto.i-end in omega (arith, past, end)) in
    ap (infer_first p) (sym all) ∙ c.loop-i.invariant
