use Rattle.std.proofs.Common.{◌≡◌, [], sym, subst, arith}
use Rattle.std.proofs.lemmas.Result.{err_from_is_err_and}
use Rattle.um_unit_reasons.specs.UnitReasons.{others_before}
use Rattle.um_unit_reasons.specs.Answers.{AreFound}
use Rattle.um_unit_reasons.proofs.OtherSteps.{none_found, one_row_more}
use Rattle.um_unit_reasons.proofs.others.others.Goals as goal

pub loop-j-init : goal.loop-j-init
loop-j-init c = λ agreed kept. subst (AreFound agreed []) (sym c.new-told.ensures.items) (none_found agreed)

pub loop-j-preserved : goal.loop-j-preserved
loop-j-preserved c = λ agreed kept.
    let core = c.args.core.now in
    let j = c.loop-j.j in
    one_row_more agreed core c.args.last j c.push_other.new.told.items
    (c.in_ok-push_other.ensures agreed kept (others_before agreed core c.args.last j) (c.loop-j.invariant agreed kept))

pub returns-in_err-push_other : goal.returns-in_err-push_other
returns-in_err-push_other c = λ agreed kept.
    let before = others_before agreed c.args.core.now c.args.last c.loop-j.j in
    let p = err_from_is_err_and c.from_residual.result c.from_residual.ensures.1 in
    rw (p.1, p.2) (c.in_err-push_other.ensures agreed kept before (c.loop-j.invariant agreed kept))

pub returns : goal.returns
returns c = λ agreed kept.
    let all : c.loop-j.j ≡ c.args.row = omega (arith, c.loop-j-test.false, c.loop-j.auto.j-end) in
    subst (λ n. AreFound agreed (others_before agreed c.args.core.now c.args.last n) c.loop-j.told.items) all (c.loop-j.invariant agreed kept)
