use Rattle.std.proofs.Common.{get_or, pos, ◌∙◌}
use Rattle.um_units.specs.declared.Atom.TheVariants.{Base}
use Rattle.um_units.specs.declared.Term.{Term}
use Rattle.um_units.specs.PowerMap.{atom, pow}
use Rattle.um_units.proofs.Group.{pow-one}
use Rattle.um_units.proofs.ShortUnits.{only_term, one_term}
use Rattle.um_units.proofs.staying.is_atom.Goals as goal

abbrev none : Term
none = record { atom = Base 0; power = pos 0 }

pub returns-in-len1 : goal.returns-in-len1
returns-in-len1 c = λ h.
    let ts = c.terms.result.now in
    let e = c.is_once.ensures h in
    one_term c.args.unit.now (get_or ts 0 none) (only_term ts c.args.unit.now none c.terms.ensures.terms c.in-len1.len_below c.in-len1.len_at_least)
    ∙ (λ j. pow (atom (e.0 j)) (e.1 j)) ∙ pow-one (atom c.args.a)
