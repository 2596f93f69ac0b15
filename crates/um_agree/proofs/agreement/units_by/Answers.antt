use Rattle.std.proofs.Common.{◌≡◌, ◌≤◌, [], ◌∷◌, ◌++◌, length, sym, ◌∙◌, subst, arith, rules}
use Rattle.std.specs.Prelude.{IsTrue}
use Rattle.std.specs.List.{list_all}
use Rattle.std.proofs.lemmas.List.{length-map}
use Rattle.std.proofs.lemmas.Result.{err_from_is_err_and}
use Rattle.um_units.specs.Range.{fits}
use Rattle.um_equal_types.specs.declared.row.Row.{Row}
use Rattle.um_equal_types.specs.Steps.{units_of}
use Rattle.um_agree.proofs.UnitRows.{units_more, units_stop, all_push, row_is}
use Rattle.um_agree.proofs.agreement.units_by.Goals as goal

pub returns-in_err-unit_by-clause-range : goal.returns-in_err-unit_by-clause-range
returns-in_err-unit_by-clause-range c =
    let p = err_from_is_err_and c.from_residual.result c.from_residual.ensures.1 in
    let us = c.args.units.now in
    let rows = c.args.rows.now in
    let k = c.loop-k.k in
    let row = c.index-rows-k.result in
    let enough : length us ≤ length (units_of rows) = (let m = length-map rows (λ (r : Row). r.unit) in let n = c.requires.many in omega (arith, m, n)) in
    rw (p.1, p.2) (units_stop c.args.by us (units_of rows) k c.index-units-k.result row.unit c.in_err-unit_by.field-0.0 (omega (arith, c.loop-k-test.true)) enough c.index-units-k.is
    (row_is rows k row (omega (arith, c.loop-k-test.true, c.requires.many)) c.index-rows-k.is) c.in_err-unit_by.ensures.range)

pub loop-k-preserved : goal.loop-k-preserved
loop-k-preserved c =
    let us = c.args.units.now in
    let rows = c.args.rows.now in
    let k = c.loop-k.k in
    let row = c.index-rows-k.result in
    let made = c.in_ok-unit_by.field-0 in
    let enough : length us ≤ length (units_of rows) = (let m = length-map rows (λ (r : Row). r.unit) in let n = c.requires.many in omega (arith, m, n)) in
    let items : c.push.new.self.items ≡ c.loop-k.items.items ++ made ∷ [] = search rules in
    record {
      items =
          items ∙ (λ i. c.loop-k.invariant.items i ++ c.in_ok-unit_by.ensures.exact i ∷ [])
          ∙ sym (units_more c.args.by us (units_of rows) k c.index-units-k.result row.unit (omega (arith, c.loop-k-test.true)) enough c.index-units-k.is
          (row_is rows k row (omega (arith, c.loop-k-test.true, c.requires.many)) c.index-rows-k.is));
      fit =
          subst (λ xs. IsTrue (list_all fits xs)) (sym items)
          (all_push c.loop-k.items.items made c.loop-k.invariant.fit (subst (λ u. IsTrue (fits u)) (sym c.in_ok-unit_by.ensures.exact) c.in_ok-unit_by.ensures.range));
    }
