use Rattle.std.proofs.Common.{◌≡◌, [], ◌∷◌, ◌++◌, subst, arith, rules}
use Rattle.um_reasons.specs.Search.{IsNext}
use Rattle.um_reasons.proofs.Growing.{IsGrowing, growing_more, unsolvable_core, last_core}
use Rattle.um_reasons.proofs.smallest.core_of.Goals as goal

pub returns-in-Unsolvable : goal.returns-in-Unsolvable
returns-in-Unsolvable c = record {
  core =
      let next = c.in_ok-next_row.field-0 in
      unsolvable_core c.args.slots c.args.bases c.args.parameters c.args.rows.now c.loop.counter c.loop.list.items next c.loop.invariant (omega (arith, c.loop-test.true))
      (subst (λ l. IsNext c.args.slots c.args.bases c.args.parameters c.args.rows.now l next) c.deref.ensures.value c.in_ok-next_row.ensures) c.in-Unsolvable.is;
}

pub loop-preserved : goal.loop-preserved
loop-preserved c =
    let next = c.in_ok-next_row.field-0 in
    let items : c.push-in-Row.new.self.items ≡ c.loop.list.items ++ c.in-Row.j ∷ [] = search rules in
    growing_more c.args.slots c.args.bases c.args.parameters c.args.rows.now c.loop.counter c.loop.list.items next c.in-Row.j c.push-in-Row.new.self.items c.loop.invariant
    (subst (λ l. IsNext c.args.slots c.args.bases c.args.parameters c.args.rows.now l next) c.deref.ensures.value c.in_ok-next_row.ensures)
    c.in-Row.is items

pub returns : goal.returns
returns c = record {
  core =
      let next = c.in_ok-next_row-2.field-0 in
      let all : c.loop.counter ≡ 17 = omega (arith, c.loop-test.false, c.loop.auto.counter, c.loop.auto.counter-end) in
      last_core c.args.slots c.args.bases c.args.parameters c.args.rows.now c.loop.list.items next c.has_row-cut_off.result
      (subst (λ n. IsGrowing c.args.slots c.args.bases c.args.parameters c.args.rows.now n c.loop.list.items) all c.loop.invariant)
      (subst (λ l. IsNext c.args.slots c.args.bases c.args.parameters c.args.rows.now l next) c.deref-2.ensures.value c.in_ok-next_row-2.ensures) c.has_row-cut_off.ensures;
}
