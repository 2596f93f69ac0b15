use Rattle.std.proofs.Common.{◌≡◌, map, sym, ap, ◌∙◌, rules}
use Rattle.um_tree.specs.declared.program.Program.{Program}
use Rattle.um_tree.specs.ProgramTree.{program_tree, function_tree}
use Rattle.um_gen.specs.ProgramCode.{functions_code, functions_entries, program_code}
use Rattle.um_gen.proofs.EachFunction.{written_room, written_next, written_code, written_entries}
use Rattle.um_gen.proofs.program.generate.Goals as goal

pub emit_function-requires-clause-addresses : goal.emit_function-requires-clause-addresses
emit_function-requires-clause-addresses c =
    let fs = c.deref-functions.result.now in
    let same = ap (λ (p : Program). (program_tree p).functions) (sym c.program.ensures.program) ∙ sym (ap (map function_tree) c.deref-functions.ensures.value) in
    (written_room (program_tree c.args.shaped.now) fs c.program.ensures.formed same c.loop-i.i c.index-functions-i.result c.loop-i.out.ops.items c.loop-i.entries.items c.loop-i-test.true c.index-functions-i.is c.loop-i.invariant).0

pub emit_function-requires-clause-depth : goal.emit_function-requires-clause-depth
emit_function-requires-clause-depth c =
    let fs = c.deref-functions.result.now in
    let same = ap (λ (p : Program). (program_tree p).functions) (sym c.program.ensures.program) ∙ sym (ap (map function_tree) c.deref-functions.ensures.value) in
    (written_room (program_tree c.args.shaped.now) fs c.program.ensures.formed same c.loop-i.i c.index-functions-i.result c.loop-i.out.ops.items c.loop-i.entries.items c.loop-i-test.true c.index-functions-i.is c.loop-i.invariant).1

pub loop-i-preserved : goal.loop-i-preserved
loop-i-preserved c =
    let fs = c.deref-functions.result.now in
    let same = ap (λ (p : Program). (program_tree p).functions) (sym c.program.ensures.program) ∙ sym (ap (map function_tree) c.deref-functions.ensures.value) in
    written_next (program_tree c.args.shaped.now) fs c.program.ensures.formed same c.loop-i.i c.index-functions-i.result c.loop-i.out.ops.items c.emit_function.new.out.ops.items c.loop-i.entries.items c.push.new.self.items c.loop-i-test.true c.index-functions-i.is c.loop-i.invariant c.in_ok-entry.ensures.ops (search rules)

pub returns : goal.returns
unfolding program_code
returns c =
    let fs = c.deref-functions.result.now in
    let same : map function_tree fs ≡ (program_tree c.args.shaped.now).functions =
    ap (map function_tree) c.deref-functions.ensures.value ∙ ap (λ (p : Program). (program_tree p).functions) c.program.ensures.program in
    let ops = c.into_ops.ensures ∙ written_code fs c.loop-i.i c.loop-i.out.ops.items c.loop-i.entries.items c.loop-i-test.false c.loop-i.invariant ∙ ap (λ gs. functions_code gs 0) same in
    let entries = c.from_vec.ensures ∙ written_entries fs c.loop-i.i c.loop-i.out.ops.items c.loop-i.entries.items c.loop-i-test.false c.loop-i.invariant ∙ ap (λ gs. functions_entries gs 0) same in
    λ i. record { ops = ops i; entries = entries i }
