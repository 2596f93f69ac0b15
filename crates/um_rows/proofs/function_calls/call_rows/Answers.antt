use Rattle.std.proofs.Common.{◌≡◌, ◌<◌, false, [], length, map, None, refl, sym, ap, subst, ◌∙◌, arith}
use Rattle.std.specs.Prelude.{All, IfOk, IfErr, MatchResult}
use Rattle.std.proofs.lemmas.List.{length-map}
use Rattle.std.proofs.lemmas.Option.{slice_get_read}
use Rattle.um_tree.specs.declared.program.Program.{Program}
use Rattle.um_tree.specs.TypeTree.{note_tree}
use Rattle.um_tree.specs.ExprTree.{call, expr_tree}
use Rattle.um_tree.specs.ValueTree.{input_trees}
use Rattle.um_tree.specs.ProgramTree.{function_tree, record_tree, program_tree, scheme_tree}
use Rattle.um_tree.specs.Shapes.{note_shape}
use Rattle.um_tree.specs.Formed.{IsFormed, AreFormedInputs}
use Rattle.um_slots.specs.CallFunction.{input_texts}
use Rattle.um_rows.specs.Closed.{AreClosedBefore, IsClosedRecord}
use Rattle.um_rows.specs.Answers.{AreEquations, StopsFor, AreCallRowsOf, CallRowsStopFor, ResultsAreSolutionsOf, HaveVariablesBelow, described}
use Rattle.um_rows.proofs.ProgramRows.{closed_before, closed_records}
use Rattle.um_rows.proofs.ProgramCalls.{calls_ok, calls_err, calls_results}
use Rattle.um_rows.proofs.function_calls.call_rows.Goals as goal

pub equations-requires-clause-schemes : goal.equations-requires-clause-schemes
equations-requires-clause-schemes c =
    let q = c.program-program.result.now in
    let same = c.program-program.ensures.program in
    let functions = q.functions.items.items in
    let n = c.len-number.result in
    let count : n ≡ length (program_tree q).functions = omega (arith, c.len-number.ensures, length-map functions function_tree) in
    let schemes = c.args.schemes.now.items.items in
    let here = subst (λ (x : Program). HaveVariablesBelow (length (program_tree x).functions) (map scheme_tree schemes)) (sym same) c.requires.schemes in
    let there = subst (λ m. HaveVariablesBelow m (map scheme_tree schemes)) (sym count) here in
    subst (AreClosedBefore n) (sym c.deref-4.ensures.value) (closed_before n schemes there)

pub equations-requires-clause-records : goal.equations-requires-clause-records
equations-requires-clause-records c =
    let q = c.program-program.result.now in
    let same = c.program-program.ensures.program in
    subst (All IsClosedRecord) (sym c.deref-3.ensures.value) (closed_records q (subst (λ (x : Program). IsFormed (program_tree x)) (sym same) c.program-program.ensures.formed))

pub returns-clause-equations : goal.returns-clause-equations
returns-clause-equations c =
    let q = c.program-program.result.now in
    let same = c.program-program.ensures.program in
    let formed = subst (λ (x : Program). IsFormed (program_tree x)) (sym same) c.program-program.ensures.formed in
    let schemes = c.args.schemes.now.items.items in
    let functions = q.functions.items.items in
    let f = c.index-function.result.now in
    let k = c.args.f in
    let inputs = input_trees c.args.args.now in
    let low : k < length (program_tree q).functions = subst (λ (x : Program). k < length (program_tree x).functions) (sym same) c.requires.function in
    let below : k < length functions = omega (arith, low, length-map functions function_tree) in
    let there = slice_get_read functions (length functions) k f refl below c.index-function.ensures in
    let n = c.len-number.result in
    let count : n ≡ length (program_tree q).functions = omega (arith, c.len-number.ensures, length-map functions function_tree) in
    let body = expr_tree c.in_ok-body.body in
    let body_is : body ≡ call 0 k (input_texts (program_tree q).records (map note_shape (map note_tree f.params.items.items)) inputs) =
    c.in_ok-body.ensures ∙ ap (λ rs. call 0 k (input_texts (map record_tree rs) (map note_shape (map note_tree c.deref-2.result.now)) inputs)) c.deref.ensures.value
    ∙ ap (λ ns. call 0 k (input_texts (program_tree q).records (map note_shape (map note_tree ns)) inputs)) c.deref-2.ensures.value in
    let answer = subst (λ ss. MatchResult c.equations.result (AreEquations (program_tree q).records (map scheme_tree ss) n (described 0 false 0 [] None body)) (StopsFor (program_tree q).records (map scheme_tree ss) n (described 0 false 0 [] None body))) c.deref-4.ensures.value
    (subst (λ rs. MatchResult c.equations.result (AreEquations (map record_tree rs) (map scheme_tree c.deref-4.result.now) n (described 0 false 0 [] None body)) (StopsFor (map record_tree rs) (map scheme_tree c.deref-4.result.now) n (described 0 false 0 [] None body))) c.deref-3.ensures.value c.equations.ensures) in
    subst (λ (x : Program). IfOk c.equations.result (AreCallRowsOf (program_tree x) (map scheme_tree schemes) k inputs)) same (calls_ok q formed (map scheme_tree schemes) k f there inputs n count body body_is c.equations.result answer)

pub returns-clause-stops : goal.returns-clause-stops
returns-clause-stops c =
    let q = c.program-program.result.now in
    let same = c.program-program.ensures.program in
    let formed = subst (λ (x : Program). IsFormed (program_tree x)) (sym same) c.program-program.ensures.formed in
    let schemes = c.args.schemes.now.items.items in
    let functions = q.functions.items.items in
    let f = c.index-function.result.now in
    let k = c.args.f in
    let inputs = input_trees c.args.args.now in
    let low : k < length (program_tree q).functions = subst (λ (x : Program). k < length (program_tree x).functions) (sym same) c.requires.function in
    let below : k < length functions = omega (arith, low, length-map functions function_tree) in
    let there = slice_get_read functions (length functions) k f refl below c.index-function.ensures in
    let n = c.len-number.result in
    let count : n ≡ length (program_tree q).functions = omega (arith, c.len-number.ensures, length-map functions function_tree) in
    let body = expr_tree c.in_ok-body.body in
    let body_is : body ≡ call 0 k (input_texts (program_tree q).records (map note_shape (map note_tree f.params.items.items)) inputs) =
    c.in_ok-body.ensures ∙ ap (λ rs. call 0 k (input_texts (map record_tree rs) (map note_shape (map note_tree c.deref-2.result.now)) inputs)) c.deref.ensures.value
    ∙ ap (λ ns. call 0 k (input_texts (program_tree q).records (map note_shape (map note_tree ns)) inputs)) c.deref-2.ensures.value in
    let answer = subst (λ ss. MatchResult c.equations.result (AreEquations (program_tree q).records (map scheme_tree ss) n (described 0 false 0 [] None body)) (StopsFor (program_tree q).records (map scheme_tree ss) n (described 0 false 0 [] None body))) c.deref-4.ensures.value
    (subst (λ rs. MatchResult c.equations.result (AreEquations (map record_tree rs) (map scheme_tree c.deref-4.result.now) n (described 0 false 0 [] None body)) (StopsFor (map record_tree rs) (map scheme_tree c.deref-4.result.now) n (described 0 false 0 [] None body))) c.deref-3.ensures.value c.equations.ensures) in
    subst (λ (x : Program). IfErr c.equations.result (CallRowsStopFor (program_tree x) (map scheme_tree schemes) k inputs)) same (calls_err q formed (map scheme_tree schemes) k f there inputs n count body body_is c.equations.result answer)

pub returns-clause-results : goal.returns-clause-results
returns-clause-results c =
    let q = c.program-program.result.now in
    let same = c.program-program.ensures.program in
    let formed = subst (λ (x : Program). IsFormed (program_tree x)) (sym same) c.program-program.ensures.formed in
    let schemes = c.args.schemes.now.items.items in
    let functions = q.functions.items.items in
    let f = c.index-function.result.now in
    let k = c.args.f in
    let inputs = input_trees c.args.args.now in
    let low : k < length (program_tree q).functions = subst (λ (x : Program). k < length (program_tree x).functions) (sym same) c.requires.function in
    let below : k < length functions = omega (arith, low, length-map functions function_tree) in
    let there = slice_get_read functions (length functions) k f refl below c.index-function.ensures in
    let n = c.len-number.result in
    let count : n ≡ length (program_tree q).functions = omega (arith, c.len-number.ensures, length-map functions function_tree) in
    let body = expr_tree c.in_ok-body.body in
    let body_is : body ≡ call 0 k (input_texts (program_tree q).records (map note_shape (map note_tree f.params.items.items)) inputs) =
    c.in_ok-body.ensures ∙ ap (λ rs. call 0 k (input_texts (map record_tree rs) (map note_shape (map note_tree c.deref-2.result.now)) inputs)) c.deref.ensures.value
    ∙ ap (λ ns. call 0 k (input_texts (program_tree q).records (map note_shape (map note_tree ns)) inputs)) c.deref-2.ensures.value in
    let answer = subst (λ ss. MatchResult c.equations.result (AreEquations (program_tree q).records (map scheme_tree ss) n (described 0 false 0 [] None body)) (StopsFor (program_tree q).records (map scheme_tree ss) n (described 0 false 0 [] None body))) c.deref-4.ensures.value
    (subst (λ rs. MatchResult c.equations.result (AreEquations (map record_tree rs) (map scheme_tree c.deref-4.result.now) n (described 0 false 0 [] None body)) (StopsFor (map record_tree rs) (map scheme_tree c.deref-4.result.now) n (described 0 false 0 [] None body))) c.deref-3.ensures.value c.equations.ensures) in
    subst (λ (x : Program). IfOk c.equations.result (ResultsAreSolutionsOf (program_tree x) (map scheme_tree schemes) k inputs)) same (calls_results q formed (map scheme_tree schemes) k f there inputs n count body body_is (subst (λ (x : Program). AreFormedInputs (length (program_tree x).bases) inputs) (sym same) c.requires.inputs) c.equations.result answer)
