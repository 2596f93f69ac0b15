use Rattle.std.proofs.Common.{◌+◌, ap, map, reverse}
use Rattle.um_tree.specs.ProgramTree.{function_tree}
use Rattle.um_eval.specs.Variables.{own_of, callers_of}
use Rattle.um_eval.specs.Through.{Whole}
use Rattle.um_eval.specs.Work.{steps_left}
use Rattle.um_eval.proofs.Running.{called}
use Rattle.um_eval.proofs.call.run_to_end.Goals as goal

pub run-requires : goal.run-requires
run-requires c =
    let fs = map function_tree c.args.functions.now in
    let frames = reverse c.new-2.result.items in
    let whole : Whole = record { function = c.args.f; arguments = c.requires.0; budget = c.args.budget } in
    let n = steps_left fs c.args.budget frames 1 + 1 in
    (whole, n, c.enter-first.ensures whole n (called fs c.args.store (callers_of c.new.result) (own_of c.new.result) c.args.words.items c.args.budget frames c.args.f c.requires.0 c.new.ensures (ap reverse c.new-2.ensures.items) c.requires.1))

pub returns : goal.returns
returns c = λ vs d.
    let fs = map function_tree c.args.functions.now in
    let frames = reverse c.new-2.result.items in
    let whole : Whole = record { function = c.args.f; arguments = vs; budget = c.args.budget } in
    let n = steps_left fs c.args.budget frames 1 + 1 in
    let first = c.enter-first.ensures whole n (called fs c.args.store (callers_of c.new.result) (own_of c.new.result) c.args.words.items c.args.budget frames c.args.f vs c.new.ensures (ap reverse c.new-2.ensures.items) d) in
    c.in_ok-end.ensures whole n first
