use Rattle.um_rows.proofs.CallLaws.{call_results_are_solutions, judged_calls_have_their_type, judged_untyped_calls_have_none}
use Rattle.um_rows.proofs.laws.calls.Goals as goal

pub returns : goal.returns
returns c = record { results = call_results_are_solutions; types = judged_calls_have_their_type; refusals = judged_untyped_calls_have_none }
