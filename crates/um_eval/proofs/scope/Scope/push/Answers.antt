use Rattle.std.proofs.Common.{◌∷◌, []}
use Rattle.um_eval.proofs.Segments.{grown, more_behind, same_before}
use Rattle.um_eval.proofs.scope.Scope.push.Goals as goal

pub returns-in-Ok-clause-own : goal.returns-in-Ok-clause-own
returns-in-Ok-clause-own c =
    let s = c.args.self.now in
    more_behind s.words.items s.base s.callers (c.args.word ∷ []) c.push.new.self.items c.in-Ok.ensures.items

pub returns-in-Ok-clause-callers : goal.returns-in-Ok-clause-callers
returns-in-Ok-clause-callers c =
    let s = c.args.self.now in
    same_before s.words.items s.base s.callers (c.args.word ∷ []) c.push.new.self.items c.in-Ok.ensures.items

pub invariant_of-self : goal.invariant_of-self
invariant_of-self c =
    let s = c.args.self.now in
    record { callers = grown s.words.items s.base s.callers _ (c.args.word ∷ []) c.push.new.self.items c.push.ensures.items }
