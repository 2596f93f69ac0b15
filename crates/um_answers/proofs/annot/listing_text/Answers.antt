use Rattle.std.proofs.Common.{◌+◌, ◌<◌, ◌∙◌, length, sym, ap, arith}
use Rattle.std.proofs.lemmas.Grind.{drop_more_same}
use Rattle.std.proofs.lemmas.List.{drop-set-lt, length-set, get_or_read}
use Rattle.um_tree.specs.ProgramTree.{program_tree}
use Rattle.um_infer.specs.Answers.{scheme_trees}
use Rattle.um_answers.specs.AnnotAnswer.{past}
use Rattle.um_answers.proofs.AnnotLists.{listing_next, listing_stops}
use Rattle.um_answers.proofs.SchemesGiven.{both_at}
use Rattle.um_answers.proofs.SolvedHere.{solved_here}
use Rattle.um_answers.proofs.annot.listing_text.Goals as goal

pub add_function-requires-clause-solved : goal.add_function-requires-clause-solved
add_function-requires-clause-solved c =
    let p = program_tree c.args.source.now.shaped.now in
    let below : c.loop-i.i < length p.functions = omega (arith, c.loop-i-test.true, c.function_count-i-end.ensures.count) in
    let long = c.loop-i.invariant.2 in
    let inside : c.loop-i.i < length c.loop-i.functions.items = omega (arith, below, long) in
    let one = c.index_mut.result.now in
    solved_here p (scheme_trees c.args.source.now.schemes.now) c.args.functions.now.items c.loop-i.functions.items c.loop-i.i one c.requires.solved c.loop-i.invariant.3 long below
    (get_or_read c.loop-i.functions.items c.loop-i.i one inside c.index_mut.ensures.value one)

pub loop-i-preserved : goal.loop-i-preserved
loop-i-preserved c =
    let p = program_tree c.args.source.now.shaped.now in
    let schemes = scheme_trees c.args.source.now.schemes.now in
    let below : c.loop-i.i < length p.functions = omega (arith, c.loop-i-test.true, c.function_count-i-end.ensures.count) in
    let here = both_at p c.args.source.now.schemes.now.items.items c.function_count-i-end.ensures.formed c.requires.inferred c.loop-i.i below in (
      c.in-Ok.ensures.heads,
      listing_next c.args.source.now.bytes.now p schemes c.loop-i.i here.0 here.1 here.2 here.3 c.loop-i.text.items c.add_function.new.text.items c.loop-i.invariant.1
          (c.in-Ok.ensures.lines here.0 here.1 here.2 here.3),
      length-set c.loop-i.functions.items c.loop-i.i c.add_function.new.solved ∙ c.loop-i.invariant.2,
      drop-set-lt (c.loop-i.i + 1) c.loop-i.functions.items c.loop-i.i c.add_function.new.solved (omega arith) ∙ drop_more_same c.loop-i.functions.items c.args.functions.now.items c.loop-i.i c.loop-i.invariant.3,
    )

pub returns-in-Err-PowerRange : goal.returns-in-Err-PowerRange
returns-in-Err-PowerRange c =
    let p = program_tree c.args.source.now.shaped.now in
    let schemes = scheme_trees c.args.source.now.schemes.now in
    let below : c.loop-i.i < length p.functions = omega (arith, c.loop-i-test.true, c.function_count-i-end.ensures.count) in
    let here = both_at p c.args.source.now.schemes.now.items.items c.function_count-i-end.ensures.formed c.requires.inferred c.loop-i.i below in
    let stop = rw c.in-Err-PowerRange.field-0-is at c.in-Err-PowerRange.ensures.lines here.0 here.1 here.2 here.3 in (
      here.0,
      here.2,
      listing_stops c.args.source.now.bytes.now p schemes c.loop-i.i here.0 here.1 here.2 here.3 c.loop-i.text.items c.in-Err-PowerRange.at c.loop-i.invariant.1 stop
          ∙ ap (past here.0) (sym c.in-Err-PowerRange.at-is),
    )
