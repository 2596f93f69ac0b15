use Rattle.std.proofs.Common.{IsTrue, sym, subst}
use Rattle.um_elim.specs.Application.{type_fits}
use Rattle.um_elim.proofs.solver.Solver.apply_to.Goals as goal

pub returns-then-leaves : goal.returns-then-leaves
returns-then-leaves c =
    let yes = c.if-leaves.true in
    let same = c.leaves.ensures.left yes in
    (c.leaves.ensures.unspent yes, sym same, subst (λ t. IsTrue (type_fits t)) (sym same) (c.leaves.ensures.fits yes))
