use Rattle.std.proofs.Common.{◌<◌, ℤ, nat_abs, sym, subst, rules}
use Rattle.std.specs.Int.{w128}
use Rattle.std.proofs.lemmas.Int.{to_z-of_z}
use Rattle.um_kept.specs.Formed.{IsPowerIn}
use Rattle.um_kept.proofs.past.unit_of.Goals as goal

pub returns-in-Some : goal.returns-in-Some
returns-in-Some c =
    subst (λ (z : ℤ). IsPowerIn z c.args.wide.now × (2147483647 < nat_abs z)) (sym (to_z-of_z w128 c.in-Some.number (search rules)))
    (c.first_past.ensures.some c.in-Some.number c.in-Some.is)
