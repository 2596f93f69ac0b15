use Rattle.um_shown_answers.proofs.TraceAnswers.{trace_once, trace_done}
use Rattle.um_shown_answers.proofs.Runs.{trace_follows}
use Rattle.um_shown_answers.proofs.laws.traces.Goals as goal

pub returns : goal.returns
returns c = record {
  one = λ asked bytes text other status another a b. trace_once c.traces.ensures.unique text other status another c.answers_are_unique.ensures asked bytes a b;
  runs = λ asked bytes text run_text status ended a b. trace_follows text run_text status ended c.answers_are_unique.ensures asked bytes a b;
  done = λ asked bytes text checked status is can answer. trace_done asked checked can bytes text status is answer;
}
