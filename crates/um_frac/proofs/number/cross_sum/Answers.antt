use Rattle.std.proofs.Common.{ap, sym, subst, ◌∙◌, FitsSigned, to_z, of_z}
use Rattle.std.specs.Int.{w128}
use Rattle.std.proofs.lemmas.Int.{to_z-of_z}
use Rattle.um_frac.proofs.WideProducts.{sum_read, sum_fits}
use Rattle.um_frac.proofs.number.cross_sum.Goals as goal

pub overflow_add-result : goal.overflow_add-result
overflow_add-result c =
    subst (FitsSigned w128) (sym (sum_read c.args.a c.args.b c.args.m c.args.n c.ranges.a c.ranges.b c.requires.first c.requires.second))
    (sum_fits c.args.a c.args.b c.args.m c.args.n c.ranges.a c.ranges.b c.requires.first c.requires.second)

pub returns : goal.returns
returns c =
    ap (λ z. to_z w128 (of_z w128 z)) (sum_read c.args.a c.args.b c.args.m c.args.n c.ranges.a c.ranges.b c.requires.first c.requires.second)
    ∙ to_z-of_z w128 _ (sum_fits c.args.a c.args.b c.args.m c.args.n c.ranges.a c.ranges.b c.requires.first c.requires.second)
