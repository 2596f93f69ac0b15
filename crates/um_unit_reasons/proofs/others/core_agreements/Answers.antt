use Rattle.std.proofs.lemmas.Result.{err_from_is_err_and}
use Rattle.um_unit_reasons.proofs.OtherSteps.{all_of, row_stop}
use Rattle.um_unit_reasons.proofs.others.core_agreements.Goals as goal

pub returns-in_err-one : goal.returns-in_err-one
returns-in_err-one c = λ agreed kept.
    let p = err_from_is_err_and c.from_residual.result c.from_residual.ensures.1 in
    rw (p.1, p.2) (row_stop agreed c.args.found.now c.args.core.now c.args.row kept c.requires.some c.requires.last c.in_err-one.field-0.0 (c.in_err-one.ensures agreed kept))

pub returns-in-Ok : goal.returns-in-Ok
returns-in-Ok c = λ agreed kept.
    all_of agreed c.args.core.now c.args.row c.in_ok-one.one (record { last = c.in_ok-last.last; others = c.in-Ok.others }) (c.in_ok-one.ensures agreed kept) c.in_ok-last.ensures (c.in-Ok.ensures agreed kept)
