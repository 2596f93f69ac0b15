use Rattle.std.proofs.Common.{◌∷◌, map}
use Rattle.um_tree.specs.ProgramTree.{function_tree}
use Rattle.um_eval.specs.declared.frame.Frame.TheVariants.{Item}
use Rattle.um_eval.specs.Variables.{own_of, callers_of}
use Rattle.um_eval.specs.Tasks.{Give}
use Rattle.um_eval.specs.Progress.{frames_of}
use Rattle.um_eval.proofs.Resuming.{later, item_there}
use Rattle.um_eval.proofs.evaluator.Evaluator.go_on.Goals as goal

pub collect-requires : goal.collect-requires
collect-requires c =
    let m = c.args.self.now in
    let fs = map function_tree c.args.functions.now in
    let (whole, n, h) = c.requires in
    let more = later fs m.store (callers_of m.scope) (own_of m.scope) m.values.items m.budget (Item c.args.c c.args.rest c.args.first ∷ frames_of m) whole (Give m.value) n h in
    (whole, n, item_there fs m.store (callers_of m.scope) (own_of m.scope) m.values.items m.budget (frames_of m) whole c.args.c c.args.first n m.value c.args.rest c.push.new.self.items c.in-Ok.ensures.items more)

pub returns-in-Ok : goal.returns-in-Ok
returns-in-Ok c = λ whole n h.
    let m = c.args.self.now in
    let fs = map function_tree c.args.functions.now in
    c.collect.ensures whole n (item_there fs m.store (callers_of m.scope) (own_of m.scope) m.values.items m.budget (frames_of m) whole c.args.c c.args.first n m.value c.args.rest c.push.new.self.items c.in-Ok.ensures.items h)
