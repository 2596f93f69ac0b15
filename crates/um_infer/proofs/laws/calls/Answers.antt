use Rattle.um_infer.proofs.CallTypes.{judged_call_types, judged_call_refusals}
use Rattle.um_infer.proofs.laws.calls.Goals as goal

pub returns : goal.returns
returns c = record { types = judged_call_types; refusals = judged_call_refusals }
