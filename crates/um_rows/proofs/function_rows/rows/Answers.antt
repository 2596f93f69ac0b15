use Rattle.std.proofs.Common.{◌<◌, length, map, refl, sym, subst, arith}
use Rattle.std.specs.Prelude.{All, IfOk, IfErr}
use Rattle.std.proofs.lemmas.List.{length-map}
use Rattle.std.proofs.lemmas.Option.{slice_get_read}
use Rattle.um_tree.specs.declared.program.Program.{Program}
use Rattle.um_tree.specs.ProgramTree.{function_tree, program_tree, scheme_tree}
use Rattle.um_tree.specs.Formed.{IsFormed}
use Rattle.um_rows.specs.Closed.{AreClosedBefore, IsClosedRecord}
use Rattle.um_rows.specs.Answers.{AreRowsOf, RowsStopFor, TypingsAreSolutionsOf}
use Rattle.um_rows.proofs.ProgramRows.{closed_before, closed_records, IsAnswer, rows_ok, rows_err, rows_typings}
use Rattle.um_rows.proofs.function_rows.rows.Goals as goal

pub equations-requires-clause-schemes : goal.equations-requires-clause-schemes
equations-requires-clause-schemes c = subst (AreClosedBefore c.args.i) (sym c.deref-3.ensures.value) (closed_before c.args.i c.args.schemes.now.items.items c.requires.schemes)

pub equations-requires-clause-records : goal.equations-requires-clause-records
equations-requires-clause-records c =
    let q = c.program-program.result.now in
    let same = c.program-program.ensures.program in
    subst (All IsClosedRecord) (sym c.deref-2.ensures.value) (closed_records q (subst (λ (x : Program). IsFormed (program_tree x)) (sym same) c.program-program.ensures.formed))

pub returns-clause-equations : goal.returns-clause-equations
returns-clause-equations c =
    let q = c.program-program.result.now in
    let same = c.program-program.ensures.program in
    let formed = subst (λ (x : Program). IsFormed (program_tree x)) (sym same) c.program-program.ensures.formed in
    let schemes = c.args.schemes.now.items.items in
    let functions = q.functions.items.items in
    let f = c.index-function.result.now in
    let low : c.args.i < length (program_tree q).functions = subst (λ (x : Program). c.args.i < length (program_tree x).functions) (sym same) c.requires.function in
    let below : c.args.i < length functions = omega (arith, low, length-map functions function_tree) in
    let there = slice_get_read functions (length functions) c.args.i f refl below c.index-function.ensures in
    let answer = subst (λ ns. IsAnswer q.records.items.items (map scheme_tree schemes) c.args.i f ns c.equations.result) c.deref.ensures.value
    (subst (λ ss. IsAnswer q.records.items.items (map scheme_tree ss) c.args.i f c.deref.result.now c.equations.result) c.deref-3.ensures.value
    (subst (λ rs. IsAnswer rs (map scheme_tree c.deref-3.result.now) c.args.i f c.deref.result.now c.equations.result) c.deref-2.ensures.value c.equations.ensures)) in
    subst (λ (x : Program). IfOk c.equations.result (AreRowsOf (program_tree x) (map scheme_tree schemes) c.args.i)) same (rows_ok q formed (map scheme_tree schemes) c.args.i f there c.equations.result answer)

pub returns-clause-stops : goal.returns-clause-stops
returns-clause-stops c =
    let q = c.program-program.result.now in
    let same = c.program-program.ensures.program in
    let formed = subst (λ (x : Program). IsFormed (program_tree x)) (sym same) c.program-program.ensures.formed in
    let schemes = c.args.schemes.now.items.items in
    let functions = q.functions.items.items in
    let f = c.index-function.result.now in
    let low : c.args.i < length (program_tree q).functions = subst (λ (x : Program). c.args.i < length (program_tree x).functions) (sym same) c.requires.function in
    let below : c.args.i < length functions = omega (arith, low, length-map functions function_tree) in
    let there = slice_get_read functions (length functions) c.args.i f refl below c.index-function.ensures in
    let answer = subst (λ ns. IsAnswer q.records.items.items (map scheme_tree schemes) c.args.i f ns c.equations.result) c.deref.ensures.value
    (subst (λ ss. IsAnswer q.records.items.items (map scheme_tree ss) c.args.i f c.deref.result.now c.equations.result) c.deref-3.ensures.value
    (subst (λ rs. IsAnswer rs (map scheme_tree c.deref-3.result.now) c.args.i f c.deref.result.now c.equations.result) c.deref-2.ensures.value c.equations.ensures)) in
    subst (λ (x : Program). IfErr c.equations.result (RowsStopFor (program_tree x) (map scheme_tree schemes) c.args.i)) same (rows_err q formed (map scheme_tree schemes) c.args.i f there c.equations.result answer)

pub returns-clause-typings : goal.returns-clause-typings
returns-clause-typings c =
    let q = c.program-program.result.now in
    let same = c.program-program.ensures.program in
    let formed = subst (λ (x : Program). IsFormed (program_tree x)) (sym same) c.program-program.ensures.formed in
    let schemes = c.args.schemes.now.items.items in
    let functions = q.functions.items.items in
    let f = c.index-function.result.now in
    let low : c.args.i < length (program_tree q).functions = subst (λ (x : Program). c.args.i < length (program_tree x).functions) (sym same) c.requires.function in
    let below : c.args.i < length functions = omega (arith, low, length-map functions function_tree) in
    let there = slice_get_read functions (length functions) c.args.i f refl below c.index-function.ensures in
    let answer = subst (λ ns. IsAnswer q.records.items.items (map scheme_tree schemes) c.args.i f ns c.equations.result) c.deref.ensures.value
    (subst (λ ss. IsAnswer q.records.items.items (map scheme_tree ss) c.args.i f c.deref.result.now c.equations.result) c.deref-3.ensures.value
    (subst (λ rs. IsAnswer rs (map scheme_tree c.deref-3.result.now) c.args.i f c.deref.result.now c.equations.result) c.deref-2.ensures.value c.equations.ensures)) in
    subst (λ (x : Program). IfOk c.equations.result (TypingsAreSolutionsOf (program_tree x) (map scheme_tree schemes) c.args.i)) same (rows_typings q formed (map scheme_tree schemes) c.args.i f there c.equations.result answer)
