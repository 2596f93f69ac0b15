use Rattle.std.proofs.Common.{◌-◌, ◌+◌, map, sym, ap, ◌∙◌, subst, arith}
use Rattle.std.proofs.lemmas.List.{length-map, get_or-map}
use Rattle.um_tree.specs.RawTree.{decl_syntax, whole_function_syntax}
use Rattle.um_unit_reasons.proofs.NameSteps.{FunctionsLeft, next_function, this_function}
use Rattle.um_unit_reasons.proofs.names.function_at.Goals as goal

pub returns-in-Some : goal.returns-in-Some
returns-in-Some c =
    let items = c.args.items.now in
    let k = c.loop-decl.decl-index in
    let d = decl_syntax c.decl-item.result in
    let at = get_or-map decl_syntax items k c.decl-item.result d c.loop-decl-test.true ∙ ap decl_syntax (sym c.decl-item.is) in
    sym (this_function (map decl_syntax items) c.args.i k c.loop-decl.left d (omega (arith, c.loop-decl-test.true, length-map items decl_syntax)) at c.loop-decl.invariant (whole_function_syntax c.in-Some.function.now) (sym c.in-Some.ensures))

pub loop-decl-preserved : goal.loop-decl-preserved
loop-decl-preserved c =
    let items = c.args.items.now in
    let k = c.loop-decl.decl-index in
    let left = c.loop-decl.left in
    let d = decl_syntax c.decl-item.result in
    let at = get_or-map decl_syntax items k c.decl-item.result d c.loop-decl-test.true ∙ ap decl_syntax (sym c.decl-item.is) in
    subst (λ n. FunctionsLeft (map decl_syntax items) c.args.i (k + 1) (left - n)) (sym c.functions_in-left.ensures)
    (next_function (map decl_syntax items) c.args.i k left d (omega (arith, c.loop-decl-test.true, length-map items decl_syntax)) at c.loop-decl.invariant (sym c.in-None.ensures))
