use Rattle.um_unit_reasons.proofs.WideRows.{rows_are_decided}
use Rattle.um_unit_reasons.proofs.EachReason.{refusals_have_reasons}
use Rattle.um_unit_reasons.proofs.laws.refusals_have_reasons.Goals as goal

pub returns-clause-decided : goal.returns-clause-decided
returns-clause-decided c = rows_are_decided

pub returns-clause-reasons : goal.returns-clause-reasons
returns-clause-reasons c = refusals_have_reasons
