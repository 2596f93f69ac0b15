use Rattle.um_call_answers.proofs.ExecAnswers.{AreOnce, exec_one, exec_done, exec_runs}
use Rattle.um_call_answers.proofs.ExecStatuses.{exec_few}
use Rattle.um_call_answers.proofs.laws.answers_of_images.Goals as goal

pub returns : goal.returns
returns c =
    let once : AreOnce = record {
      spelled = c.bytes_of_images.ensures.one_image;
      places = c.bytes_of_images.ensures.one_place;
      refused_or_spelled = c.bytes_of_images.ensures.none;
      refusals = c.refusals_of_images.ensures.once;
      accepted = c.refusals_of_images.ensures.accepted;
      calls = c.image_calls.ensures.unique;
    } in
    record {
      unique = λ asked bytes text other status another a b. exec_one once text other status another asked bytes a b;
      done = λ asked bytes text status gives answer. exec_done asked bytes gives once text status answer;
      runs = λ asked bytes text status image call short is verified named answer. exec_runs once text status asked bytes image call short is verified named answer;
      statuses = λ asked bytes text status answer. exec_few text status asked bytes answer;
    }
