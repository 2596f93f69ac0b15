use Rattle.std.proofs.Common.{◌∙◌, sym, get_or, pos, rules, arith, w32, FitsSigned}
use Rattle.std.proofs.lemmas.Int.{to_z-of_z}
use Rattle.um_units.specs.declared.Atom.TheVariants.{Base}
use Rattle.um_units.specs.declared.Term.{Term}
use Rattle.um_check.proofs.YesTests.{base_unit_judged, base_unit_power, base_unit_length}
use Rattle.um_check.proofs.general.is_the_base_unit.Goals as goal

abbrev none : Term
none = record { atom = Base 0; power = pos 0 }

pub returns-in_default : goal.returns-in_default
returns-in_default c = (
  (λ g. cc),
  (λ e. let l = base_unit_length c.terms.result.now c.args.unit.now c.args.n c.terms.ensures.terms e in let m = c.in_default.len_below in absurd (omega (arith, l, m))),
)

pub returns-in_default-2 : goal.returns-in_default-2
returns-in_default-2 c = (
  (λ g. cc),
  (λ e. let l = base_unit_length c.terms.result.now c.args.unit.now c.args.n c.terms.ensures.terms e in absurd (omega (arith, l))),
)

pub returns-then-is_one : goal.returns-then-is_one
returns-then-is_one c =
    let ts = c.terms.result.now in
    let f : FitsSigned w32 (get_or ts 0 none).power = search rules in
    base_unit_judged ts c.args.unit.now c.args.n none c.is_base_unit.result c.terms.ensures.terms c.in-len1.len_below c.in-len1.len_at_least (sym (to_z-of_z w32 (get_or ts 0 none).power f) ∙ c.is_one.ensures.0 c.if-is_one.true) c.is_base_unit.ensures

pub returns-else-is_one : goal.returns-else-is_one
returns-else-is_one c =
    let ts = c.terms.result.now in
    let f : FitsSigned w32 (get_or ts 0 none).power = search rules in
    ((λ g. cc), (λ e. c.is_one.ensures.1 (to_z-of_z w32 (get_or ts 0 none).power f ∙ base_unit_power ts c.args.unit.now c.args.n none c.terms.ensures.terms e)))
