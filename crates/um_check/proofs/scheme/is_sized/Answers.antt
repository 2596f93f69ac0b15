use Rattle.std.proofs.Common.{ap, ◌∙◌, sym, length, arith}
use Rattle.std.proofs.lemmas.Int.{ints}
use Rattle.um_tree.specs.TypeTree.{type_tree}
use Rattle.um_check.specs.Tests.{units_below}
use Rattle.um_check.proofs.FormTests.{units_below-all, all-units_below, types_all, all_types}
use Rattle.um_check.proofs.scheme.is_sized.Goals as goal

pub returns-then-units_below-clause-sized : goal.returns-then-units_below-clause-sized
returns-then-units_below-clause-sized c =
    let cert = c.args.cert.now in
    let s = c.args.scheme.now in
    let items = c.as_slice-solution.ensures.items in (
      (λ g. record {
        units = ap length (sym items) ∙ c.if-solution-slots.false;
        parts = ap length (sym c.as_slice.ensures.items) ∙ c.if-as_slice-solution.false ∙ ap length items;
        back = ap length (sym c.as_slice-back.ensures.items) ∙ c.if-back-cert.false;
        positive = omega (arith, ints);
        below = units_below-all cert.vars cert.solution (ap (units_below cert.vars) (sym items) ∙ sym c.units_below.ensures ∙ c.if-units_below.true);
        own = types_all s.vars s.params.items.items (type_tree s.result) (sym c.is_over_own.ensures ∙ g);
      }),
      (λ z. c.is_over_own.ensures ∙ all_types s.vars s.params.items.items (type_tree s.result) z.own),
    )

pub returns-else-units_below-clause-sized : goal.returns-else-units_below-clause-sized
returns-else-units_below-clause-sized c =
    let cert = c.args.cert.now in (
      (λ g. cc),
      (λ z. c.units_below.ensures ∙ ap (units_below cert.vars) c.as_slice-solution.ensures.items ∙ all-units_below cert.vars cert.solution z.below),
    )
