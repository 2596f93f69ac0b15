use Rattle.std.proofs.Common.{map}
use Rattle.um_tree.specs.ProgramTree.{function_tree}
use Rattle.um_eval.specs.Variables.{own_of, callers_of}
use Rattle.um_eval.specs.Progress.{frames_of}
use Rattle.um_eval.proofs.Lookup.{mapped_found, mapped_past}
use Rattle.um_eval.proofs.Resuming.{undeclared_leads}
use Rattle.um_eval.proofs.evaluator.Evaluator.enter.Goals as goal

pub returns-in-Some : goal.returns-in-Some
returns-in-Some c = λ whole n h.
    let fs = map function_tree c.args.functions.now in
    let found = c.in-Some.ensures.lookup in
    c.enter_declared.ensures fs whole n (mapped_found function_tree c.args.functions.now c.args.j c.in-Some.function.now found.3.0 found.1) h

pub returns-in-None : goal.returns-in-None
returns-in-None c = λ whole n h.
    let m = c.args.self.now in
    let fs = map function_tree c.args.functions.now in
    undeclared_leads fs m.store (callers_of m.scope) (own_of m.scope) m.values.items m.budget (frames_of m) whole c.args.j c.args.at c.args.first n (mapped_past function_tree c.args.functions.now c.args.j c.in-None.ensures.lookup.3) h
