use Rattle.std.proofs.Common.{subst, map}
use Rattle.um_tree.specs.ProgramTree.{function_tree}
use Rattle.um_eval.specs.Variables.{own_of, callers_of}
use Rattle.um_eval.specs.Progress.{IsCollected, frames_of}
use Rattle.um_eval.proofs.Resuming.{place_within}
use Rattle.um_eval.proofs.evaluator.Evaluator.make.Goals as goal

pub make_list-requires-clause-place : goal.make_list-requires-clause-place
make_list-requires-clause-place c =
    let m = c.args.self.now in
    let fs = map function_tree c.args.functions.now in
    let (whole, n, h) = c.requires in
    place_within fs m.store (callers_of m.scope) (own_of m.scope) m.values.items m.budget (frames_of m) whole c.args.c c.args.first n h

pub make_list-requires-clause-all : goal.make_list-requires-clause-all
make_list-requires-clause-all c =
    let m = c.args.self.now in
    let fs = map function_tree c.args.functions.now in
    let (whole, n, h) = c.requires in
    (fs, whole, n, subst (λ k. IsCollected fs m k c.args.first whole n) c.in-List.is h)

pub returns-in-List : goal.returns-in-List
returns-in-List c = λ whole n h.
    let m = c.args.self.now in
    let fs = map function_tree c.args.functions.now in
    c.make_list.ensures fs whole n (subst (λ k. IsCollected fs m k c.args.first whole n) c.in-List.is h)

pub make_record-requires-clause-place : goal.make_record-requires-clause-place
make_record-requires-clause-place c =
    let m = c.args.self.now in
    let fs = map function_tree c.args.functions.now in
    let (whole, n, h) = c.requires in
    place_within fs m.store (callers_of m.scope) (own_of m.scope) m.values.items m.budget (frames_of m) whole c.args.c c.args.first n h

pub make_record-requires-clause-all : goal.make_record-requires-clause-all
make_record-requires-clause-all c =
    let m = c.args.self.now in
    let fs = map function_tree c.args.functions.now in
    let (whole, n, h) = c.requires in
    (fs, whole, n, subst (λ k. IsCollected fs m k c.args.first whole n) c.in-Rec.is h)

pub returns-in-Rec : goal.returns-in-Rec
returns-in-Rec c = λ whole n h.
    let m = c.args.self.now in
    let fs = map function_tree c.args.functions.now in
    c.make_record.ensures fs whole n (subst (λ k. IsCollected fs m k c.args.first whole n) c.in-Rec.is h)

pub enter-requires : goal.enter-requires
enter-requires c =
    let m = c.args.self.now in
    let fs = map function_tree c.args.functions.now in
    let (whole, n, h) = c.requires in
    place_within fs m.store (callers_of m.scope) (own_of m.scope) m.values.items m.budget (frames_of m) whole c.args.c c.args.first n h

pub returns-in-Call : goal.returns-in-Call
returns-in-Call c = λ whole n h.
    let m = c.args.self.now in
    let fs = map function_tree c.args.functions.now in
    c.enter.ensures whole n (subst (λ k. IsCollected fs m k c.args.first whole n) c.in-Call.is h)
