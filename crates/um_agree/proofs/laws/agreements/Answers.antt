use Rattle.um_agree.proofs.AgreementRows.{rows_are_agreements, agreements_are_equalities}
use Rattle.um_agree.proofs.SlotsHeld.{agreements_hold_slots}
use Rattle.um_agree.proofs.laws.agreements.Goals as goal

pub returns : goal.returns
returns c = record { rows = rows_are_agreements; equal = agreements_are_equalities; slots = agreements_hold_slots }
