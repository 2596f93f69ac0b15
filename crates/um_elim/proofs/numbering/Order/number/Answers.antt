use Rattle.std.proofs.Common.{◌<◌, sym, subst, arith}
use Rattle.std.specs.Prelude.{All}
use Rattle.um_elim.proofs.GrowingOrder.{All-with_variable, at_most}
use Rattle.um_elim.proofs.numbering.Order.number.Goals as goal

pub overflow_cast-result : goal.overflow_cast-result
overflow_cast-result c =
    let inserted = c.in_ok-place.ensures in
    let below = subst (All (λ k. k < 4294967295)) (sym inserted.keys) (All-with_variable (λ k. k < 4294967295) c.self.inside.set.keys c.args.variable c.self.invariant c.requires) in
    let few = at_most c.insert_full.new.self.keys 4294967295 inserted.unique below in
    let within = inserted.within in
    omega (arith, few, within)

pub invariant_of-self-2 : goal.invariant_of-self-2
invariant_of-self-2 c =
    subst (All (λ k. k < 4294967295)) (sym c.in_ok-place.ensures.keys) (All-with_variable (λ k. k < 4294967295) c.self.inside.set.keys c.args.variable c.self.invariant c.requires)
