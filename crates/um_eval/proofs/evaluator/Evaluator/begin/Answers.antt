use Rattle.std.proofs.Common.{sym, ap, ◌∙◌, subst, ◌∷◌, [], reverse}
use Rattle.std.proofs.lemmas.List.{reverse-append}
use Rattle.um_eval.specs.Tasks.{Evaluate}
use Rattle.um_eval.specs.Progress.{Within}
use Rattle.um_eval.proofs.evaluator.Evaluator.begin.Goals as goal

pub returns-in-Ok : goal.returns-in-Ok
returns-in-Ok c = λ fs whole n h.
    let m = c.args.self.now in
    subst (λ frames. Within fs m frames (Evaluate c.args.part) whole n)
    (sym (ap reverse c.in-Ok.ensures.items ∙ reverse-append m.frames.items (c.args.frame ∷ []))) h
