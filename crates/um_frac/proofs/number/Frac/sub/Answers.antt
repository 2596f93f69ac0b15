use Rattle.std.proofs.Common.{◌∙◌}
use Rattle.um_frac.proofs.Outcomes.{difference_clauses, difference_from}
use Rattle.um_frac.proofs.number.Frac.sub.Goals as goal

pub returns : goal.returns
returns c =
    let a = c.args.self in
    let b = c.args.other in
    let value = c.add.ensures.value ∙ difference_from a b c.neg.result c.neg.ensures.parts in
    let all = difference_clauses a b c.add.result value in
    record { value = all.value; exact = all.exact; overflow = all.overflow; never_div_zero = all.never_div_zero }
