use Rattle.std.proofs.Common.{◌<◌, length, map, refl, sym, subst, arith}
use Rattle.std.specs.Prelude.{All, IfOk, IfErr}
use Rattle.std.proofs.lemmas.List.{length-map}
use Rattle.std.proofs.lemmas.Option.{slice_get_read}
use Rattle.um_tree.specs.declared.program.Program.{Program}
use Rattle.um_tree.specs.ProgramTree.{function_tree, program_tree, scheme_tree}
use Rattle.um_tree.specs.Formed.{IsFormed}
use Rattle.um_rows.specs.Closed.{AreClosedBefore, IsClosedRecord}
use Rattle.um_rows.specs.declared.nodes.TypedRows.{TypedRows}
use Rattle.um_rows.specs.Answers.{AreRowsOf, RowsStopFor}
use Rattle.um_rows.specs.NodeTypes.{AreNodesOf}
use Rattle.um_rows.proofs.ProgramRows.{closed_before, closed_records, IsTypedAnswer, HaveNodes, typed_ok, typed_err, nodes_ok}
use Rattle.um_rows.proofs.function_rows.typed_rows.Goals as goal

pub typed_equations-requires-clause-schemes : goal.typed_equations-requires-clause-schemes
typed_equations-requires-clause-schemes c = subst (AreClosedBefore c.args.i) (sym c.deref-3.ensures.value) (closed_before c.args.i c.args.schemes.now.items.items c.requires.schemes)

pub typed_equations-requires-clause-records : goal.typed_equations-requires-clause-records
typed_equations-requires-clause-records c =
    let q = c.program-program.result.now in
    let same = c.program-program.ensures.program in
    subst (All IsClosedRecord) (sym c.deref-2.ensures.value) (closed_records q (subst (λ (x : Program). IsFormed (program_tree x)) (sym same) c.program-program.ensures.formed))

pub returns-clause-equations : goal.returns-clause-equations
returns-clause-equations c =
    let q = c.program-program.result.now in
    let same = c.program-program.ensures.program in
    let formed = subst (λ (x : Program). IsFormed (program_tree x)) (sym same) c.program-program.ensures.formed in
    let schemes = c.args.schemes.now.items.items in
    let functions = q.functions.items.items in
    let f = c.index-function.result.now in
    let low : c.args.i < length (program_tree q).functions = subst (λ (x : Program). c.args.i < length (program_tree x).functions) (sym same) c.requires.function in
    let below : c.args.i < length functions = omega (arith, low, length-map functions function_tree) in
    let there = slice_get_read functions (length functions) c.args.i f refl below c.index-function.ensures in
    let answer = subst (λ ns. IsTypedAnswer q.records.items.items (map scheme_tree schemes) c.args.i f ns c.typed_equations.result) c.deref.ensures.value
    (subst (λ ss. IsTypedAnswer q.records.items.items (map scheme_tree ss) c.args.i f c.deref.result.now c.typed_equations.result) c.deref-3.ensures.value
    (subst (λ rs. IsTypedAnswer rs (map scheme_tree c.deref-3.result.now) c.args.i f c.deref.result.now c.typed_equations.result) c.deref-2.ensures.value c.typed_equations.ensures.equations)) in
    subst (λ (x : Program). IfOk c.typed_equations.result (λ (typed : TypedRows). AreRowsOf (program_tree x) (map scheme_tree schemes) c.args.i typed.rows)) same (typed_ok q formed (map scheme_tree schemes) c.args.i f there c.typed_equations.result answer)

pub returns-clause-stops : goal.returns-clause-stops
returns-clause-stops c =
    let q = c.program-program.result.now in
    let same = c.program-program.ensures.program in
    let formed = subst (λ (x : Program). IsFormed (program_tree x)) (sym same) c.program-program.ensures.formed in
    let schemes = c.args.schemes.now.items.items in
    let functions = q.functions.items.items in
    let f = c.index-function.result.now in
    let low : c.args.i < length (program_tree q).functions = subst (λ (x : Program). c.args.i < length (program_tree x).functions) (sym same) c.requires.function in
    let below : c.args.i < length functions = omega (arith, low, length-map functions function_tree) in
    let there = slice_get_read functions (length functions) c.args.i f refl below c.index-function.ensures in
    let answer = subst (λ ns. IsTypedAnswer q.records.items.items (map scheme_tree schemes) c.args.i f ns c.typed_equations.result) c.deref.ensures.value
    (subst (λ ss. IsTypedAnswer q.records.items.items (map scheme_tree ss) c.args.i f c.deref.result.now c.typed_equations.result) c.deref-3.ensures.value
    (subst (λ rs. IsTypedAnswer rs (map scheme_tree c.deref-3.result.now) c.args.i f c.deref.result.now c.typed_equations.result) c.deref-2.ensures.value c.typed_equations.ensures.equations)) in
    subst (λ (x : Program). IfErr c.typed_equations.result (RowsStopFor (program_tree x) (map scheme_tree schemes) c.args.i)) same (typed_err q formed (map scheme_tree schemes) c.args.i f there c.typed_equations.result answer)

pub returns-clause-nodes : goal.returns-clause-nodes
returns-clause-nodes c =
    let q = c.program-program.result.now in
    let same = c.program-program.ensures.program in
    let formed = subst (λ (x : Program). IsFormed (program_tree x)) (sym same) c.program-program.ensures.formed in
    let schemes = c.args.schemes.now.items.items in
    let functions = q.functions.items.items in
    let f = c.index-function.result.now in
    let low : c.args.i < length (program_tree q).functions = subst (λ (x : Program). c.args.i < length (program_tree x).functions) (sym same) c.requires.function in
    let below : c.args.i < length functions = omega (arith, low, length-map functions function_tree) in
    let there = slice_get_read functions (length functions) c.args.i f refl below c.index-function.ensures in
    let answer = subst (λ ns. HaveNodes q.records.items.items (map scheme_tree schemes) c.args.i f ns c.typed_equations.result) c.deref.ensures.value
    (subst (λ ss. HaveNodes q.records.items.items (map scheme_tree ss) c.args.i f c.deref.result.now c.typed_equations.result) c.deref-3.ensures.value
    (subst (λ rs. HaveNodes rs (map scheme_tree c.deref-3.result.now) c.args.i f c.deref.result.now c.typed_equations.result) c.deref-2.ensures.value (c.typed_equations.ensures.nodes refl))) in
    subst (λ (x : Program). IfOk c.typed_equations.result (λ (typed : TypedRows). AreNodesOf (program_tree x) (map scheme_tree schemes) c.args.i typed.nodes)) same (nodes_ok q formed (map scheme_tree schemes) c.args.i f there c.typed_equations.result answer)
