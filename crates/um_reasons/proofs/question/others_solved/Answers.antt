use Rattle.std.proofs.Common.{◌≡◌, ◌<◌, ◌+◌, ◌-◌, true, false, nat_eq, length, arith, rules, sym, subst}
use Rattle.std.specs.List.{list_any}
use Rattle.um_elim.specs.Solution.{Solution}
use Rattle.um_equal_types.specs.declared.row.Row.{Row}
use Rattle.um_reasons.specs.Answers.{IsJoined}
use Rattle.um_reasons.proofs.OthersLeft.{IsLeft, none_solved, passed, joined, refused}
use Rattle.um_reasons.proofs.question.others_solved.Goals as goal
use Rattle.um_reasons.proofs.question.others_solved.Goals.{else-contains-via-then-contains+in_ok-join+else-not-branch, else-contains-via-else-contains}

pub loop-k-init : goal.loop-k-init
loop-k-init c =
    let q = c.args.question.now in
    none_solved q.bases q.parameters q.slots q.rows.now q.core.now c.in_ok-solver.solver c.in_ok-solver.ensures.rigid

pub returns-then-not-branch : goal.returns-then-not-branch
returns-then-not-branch c =
    let q = c.args.question.now in
    let k = c.loop-k.k-counter in
    let row = c.index-question-k.result in
    let solved = c.in_ok-join.field-0 in
    let listed : list_any (nat_eq k) q.core.now ≡ true = search rules in
    refused q.bases q.parameters q.slots q.rows.now q.core.now k c.loop-k.solver (omega (arith, c.loop-k-test.true)) c.loop-k.invariant row c.index-question-k.is c.join.new.solver listed solved c.if-not-branch.true
    (subst (λ (r : Row). IsJoined c.loop-k.solver r.unit c.join.new.solver solved) (sym c.index-question-k.is) c.in_ok-join.ensures.joined)

pub loop-k-preserved : goal.loop-k-preserved
loop-k-preserved c =
    let q = c.args.question.now in
    let k = c.loop-k.k-counter in
    let below : k < length q.rows.now - 1 = omega (arith, c.loop-k-test.true) in
    elim c.else-contains.branch [
      | else-contains-via-then-contains+in_ok-join+else-not-branch w ↦
          (let row = w.index-question-k.result in
          let solved = w.in_ok-join.field-0 in
          let listed : list_any (nat_eq k) q.core.now ≡ true = search rules in
          subst (λ (s : Solution). IsLeft q.bases q.parameters q.slots q.rows.now q.core.now (k + 1) s) (sym w.solver-is)
          (joined q.bases q.parameters q.slots q.rows.now q.core.now k c.loop-k.solver below c.loop-k.invariant row w.index-question-k.is w.join.new.solver listed solved w.if-not-branch.false
          (subst (λ (r : Row). IsJoined c.loop-k.solver r.unit w.join.new.solver solved) (sym w.index-question-k.is) w.in_ok-join.ensures.joined)
          w.in_ok-join.ensures.slots))
      | else-contains-via-else-contains w ↦
          (let unlisted : list_any (nat_eq k) q.core.now ≡ false = search rules in
          subst (λ (s : Solution). IsLeft q.bases q.parameters q.slots q.rows.now q.core.now (k + 1) s) (sym w.solver-is)
          (passed q.bases q.parameters q.slots q.rows.now q.core.now k c.loop-k.solver below c.loop-k.invariant unlisted))
    ]
