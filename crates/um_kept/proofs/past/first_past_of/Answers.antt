use Rattle.std.proofs.Common.{pos}
use Rattle.um_units.specs.declared.Atom.TheVariants.{Base}
use Rattle.um_units.specs.declared.wide.WideTerm.{WideTerm}
use Rattle.um_kept.proofs.Limits.{held_from, none_held}
use Rattle.um_kept.proofs.past.first_past_of.Goals as goal

abbrev none : WideTerm
none = record { atom = Base 0; power = pos 0 }

pub returns-in-empty-clause-none : goal.returns-in-empty-clause-none
returns-in-empty-clause-none c e x held = absurd (held (none_held c.terms.result.now c.args.other.now c.terms.ensures.terms c.in-empty.len_below x))

pub returns-in-len1-up-clause-none : goal.returns-in-len1-up-clause-none
returns-in-len1-up-clause-none c e x held =
    c.first_past_from.ensures.none e x (held_from c.terms.result.now c.args.other.now none c.terms.ensures.terms c.in-len1-up.len_at_least x held)
