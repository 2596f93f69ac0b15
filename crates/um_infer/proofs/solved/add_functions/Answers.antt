use Rattle.std.proofs.Common.{◌≡◌, ◌<◌, ◌+◌, ◌∷◌, [], ◌++◌, List, map, length, slice_get, sym, ap, ◌∙◌, subst, arith}
use Rattle.um_tree.specs.ProgramTree.{SchemeTree, program_tree, scheme_tree}
use Rattle.um_infer.specs.Inference.{all_schemes, infer_first}
use Rattle.um_infer.specs.Answers.{scheme_trees}
use Rattle.um_infer.specs.SolvedPrograms.{AreSolvedFunctions}
use Rattle.um_infer.proofs.InferenceLaws.{first_are_principal}
use Rattle.um_infer.proofs.ProgramSteps.{have_before, one_inferred, refused_inferred}
use Rattle.um_infer.proofs.SolvedFunctions.{one_solved}
use Rattle.um_infer.proofs.solved.add_functions.Goals as goal

pub loop-i-init : goal.loop-i-init
loop-i-init c = (ap (λ xs. all_schemes (map scheme_tree xs)) (sym c.requires.schemes), (ap length c.requires.functions, λ i one at. absurd (cc (sym (ap (λ xs. slice_get xs i) c.requires.functions) ∙ at))))

pub solved_scheme-requires-clause-before : goal.solved_scheme-requires-clause-before
solved_scheme-requires-clause-before c =
    let p = program_tree c.args.shaped.now in
    let below : c.loop-i.i < length p.functions = omega (arith, c.loop-i-test.true, c.function_count-i-end.ensures.count) in
    have_before p c.loop-i.i (scheme_trees c.loop-i.solved.schemes) c.loop-i.invariant.0 c.function_count-i-end.ensures.formed (omega (arith, below))

pub loop-i-preserved : goal.loop-i-preserved
loop-i-preserved c =
    let p = program_tree c.args.shaped.now in
    let schemes = scheme_trees c.loop-i.solved.schemes in
    let i = c.loop-i.i in
    let s = scheme_tree c.in-Ok.one.scheme in
    let below : i < length p.functions = omega (arith, c.loop-i-test.true, c.function_count-i-end.ensures.count) in
    let long : length schemes ≡ i = (first_are_principal p c.function_count-i-end.ensures.formed i schemes (omega (arith, below)) c.loop-i.invariant.0).count in
    let more : scheme_trees c.push_function.new.solved.schemes ≡ schemes ++ s ∷ [] = c.in_ok-push_function-in-Ok.ensures.schemes in
    let all : c.push_function.new.solved.functions.items ≡ c.loop-i.solved.functions.items ++ c.in-Ok.one.function ∷ [] = c.in_ok-push_function-in-Ok.ensures.functions in (
      one_inferred p i schemes c.loop-i.invariant.0 below s c.in-Ok.ensures.0 ∙ ap all_schemes (sym more),
      subst (λ (xs : List SchemeTree). AreSolvedFunctions p xs (i + 1) c.push_function.new.solved.functions.items) (sym more)
          (subst (AreSolvedFunctions p (schemes ++ s ∷ []) (i + 1)) (sym all) (one_solved p schemes s i c.loop-i.solved.functions.items c.in-Ok.one.function long c.loop-i.invariant.1 c.in-Ok.ensures.1)),
    )

pub returns-in-Err-clause-stops : goal.returns-in-Err-clause-stops
returns-in-Err-clause-stops c =
    let p = program_tree c.args.shaped.now in
    let below : c.loop-i.i < length p.functions = omega (arith, c.loop-i-test.true, c.function_count-i-end.ensures.count) in
    rw c.stop_of.ensures (refused_inferred p c.loop-i.i (scheme_trees c.loop-i.solved.schemes) c.loop-i.invariant.0 below (length p.functions) below c.in-Err.refusal c.in-Err.ensures)

pub returns-clause-inferred : goal.returns-clause-inferred
returns-clause-inferred c =
    let p = program_tree c.args.shaped.now in
    let all : c.loop-i.i ≡ length p.functions = (let past = c.loop-i-test.false in let end = c.loop-i.auto.i-end in omega (arith, past, end, c.function_count-i-end.ensures.count)) in
    ap (infer_first p) (sym all) ∙ c.loop-i.invariant.0

pub returns-clause-solved : goal.returns-clause-solved
returns-clause-solved c =
    let p = program_tree c.args.shaped.now in
    let all : c.loop-i.i ≡ length p.functions = (let past = c.loop-i-test.false in let end = c.loop-i.auto.i-end in omega (arith, past, end, c.function_count-i-end.ensures.count)) in
    subst (λ n. AreSolvedFunctions p (scheme_trees c.loop-i.solved.schemes) n c.loop-i.solved.functions.items) all c.loop-i.invariant.1
