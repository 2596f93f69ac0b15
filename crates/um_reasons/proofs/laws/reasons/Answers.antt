use Rattle.um_reasons.proofs.ReasonLaws.{told_types_are_most_general, told_types_never_agree, told_types_hold_slots}
use Rattle.um_reasons.proofs.laws.reasons.Goals as goal

pub returns : goal.returns
returns c = record { general = told_types_are_most_general; never = told_types_never_agree; slots = told_types_hold_slots }
