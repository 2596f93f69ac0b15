use Rattle.um_call_answers.proofs.EndsAsMeant.{calls_end_as_meant, ways_answer_alike, steps_follow_runs, twins_end_as_meant}
use Rattle.um_call_answers.proofs.laws.calls_end_as_meant.Goals as goal

pub returns : goal.returns
returns c = record { ends = calls_end_as_meant; alike = ways_answer_alike; counted = steps_follow_runs; twins = twins_end_as_meant }
