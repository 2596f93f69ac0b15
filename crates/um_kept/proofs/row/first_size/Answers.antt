use Rattle.std.proofs.Common.{◌≡◌, ◌<◌, ◌∙◌, List, [], ◌∷◌, Some, pos, nat_abs, length, get_or, sym, ap, refl, w32, FitsSigned, rules, arith}
use Rattle.std.proofs.lemmas.Int.{to_z-of_z}
use Rattle.um_units.specs.declared.Atom.TheVariants.{Base}
use Rattle.um_units.specs.declared.Term.{Term}
use Rattle.um_kept.specs.Steps.{first_size}
use Rattle.um_kept.proofs.row.first_size.Goals as goal

abbrev none : Term
none = record { atom = Base 0; power = pos 0 }

first_size_at : (ts : List Term) (d : Term) → 0 < length ts → first_size ts ≡ Some (nat_abs (get_or ts 0 d).power)
first_size_at [] d h = absurd (omega (arith, h))
first_size_at (t ∷ ts) d h = refl

pub returns-in-len1-up : goal.returns-in-len1-up
returns-in-len1-up c =
    let p = (get_or c.args.terms.now 0 none).power in
    let f : FitsSigned w32 p = search rules in
    ap Some (c.unsigned_abs.ensures.value ∙ ap nat_abs (to_z-of_z w32 p f)) ∙ sym (first_size_at c.args.terms.now none c.in-len1-up.len_at_least)
