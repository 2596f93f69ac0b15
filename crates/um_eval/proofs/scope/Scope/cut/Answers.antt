use Rattle.um_eval.proofs.Segments.{fits_cut, cut_behind, cut_before}
use Rattle.um_eval.proofs.scope.Scope.cut.Goals as goal

pub returns-clause-own : goal.returns-clause-own
returns-clause-own c =
    let s = c.args.self.now in
    cut_behind s.words.items s.base s.callers c.args.len c.truncate.new.self.items c.truncate.ensures.items c.requires

pub returns-clause-callers : goal.returns-clause-callers
returns-clause-callers c =
    let s = c.args.self.now in
    cut_before s.words.items s.base s.callers c.args.len c.truncate.new.self.items c.truncate.ensures.items c.requires

pub invariant_of-self : goal.invariant_of-self
invariant_of-self c =
    let s = c.args.self.now in
    record { callers = fits_cut s.words.items s.base s.callers c.args.len c.truncate.new.self.items c.truncate.ensures.items c.requires }
