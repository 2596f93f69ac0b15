use Rattle.std.proofs.Common.{◌∙◌, ◌∷◌, [], ◌++◌, ap, append_assoc}
use Rattle.um_eval.specs.Variables.{own_of}
use Rattle.um_eval.proofs.scope.Scope.push_both.Goals as goal

pub returns-clause-own : goal.returns-clause-own
returns-clause-own c =
    c.in_ok-push-2.ensures.own ∙ ap (λ ws. ws ++ c.args.second ∷ []) c.in_ok-push.ensures.own
    ∙ append_assoc (own_of c.args.self.now) (c.args.first ∷ []) (c.args.second ∷ [])

pub returns-clause-callers : goal.returns-clause-callers
returns-clause-callers c = c.in_ok-push-2.ensures.callers ∙ c.in_ok-push.ensures.callers
