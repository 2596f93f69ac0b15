use Rattle.std.proofs.Common.{◌<◌, ℤ, nat_abs, sym, subst, rules}
use Rattle.std.specs.Int.{w128}
use Rattle.std.proofs.lemmas.Int.{to_z-of_z}
use Rattle.um_kept.specs.Formed.{IsPowerIn}
use Rattle.um_kept.proofs.past.narrowed.Goals as goal

pub returns-in-Some-clause-narrow : goal.returns-in-Some-clause-narrow
returns-in-Some-clause-narrow c =
    subst (λ (z : ℤ). IsPowerIn z c.args.unit × (9223372036854775807 < nat_abs z)) (sym (to_z-of_z w128 c.in-Some.number (search rules)))
    (c.first_past.ensures.some c.in-Some.number c.in-Some.is)
