use Rattle.std.proofs.Common.{◌≡◌, ◌∙◌, sym, ap, subst}
use Rattle.std.specs.Prelude.{IsTrue}
use Rattle.um_units.specs.PowerMap.{mul, inv, one}
use Rattle.um_units.specs.Range.{fits}
use Rattle.um_units.proofs.Group.{quotient-same}
use Rattle.um_units.proofs.InRange.{fits-one}
use Rattle.um_equal_types.proofs.equality.quotient.Goals as goal

pub returns-then-same-clause-exact : goal.returns-then-same-clause-exact
returns-then-same-clause-exact c =
    let equal = c.same.ensures.same.0 c.if-same.true in
    c.one.ensures.exact ∙ sym (quotient-same c.args.left.now c.args.right.now equal)

pub returns-then-same-clause-range : goal.returns-then-same-clause-range
returns-then-same-clause-range c =
    let equal = c.same.ensures.same.0 c.if-same.true in
    subst (λ u. IsTrue (fits u)) (sym (quotient-same c.args.left.now c.args.right.now equal)) fits-one
