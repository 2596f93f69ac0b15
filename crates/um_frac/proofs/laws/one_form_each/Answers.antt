use Rattle.um_frac.proofs.FractionLaws.{one_form, reduced_is_quotient}
use Rattle.um_frac.proofs.laws.one_form_each.Goals as goal

pub returns : goal.returns
returns c = record { within_range = one_form; reduced = reduced_is_quotient }
