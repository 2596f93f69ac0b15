-- Whichever way a call is run, it ends as its meaning has it: statements, each proved as the contract of a function of
-- src/laws.rt.
-- Source: this project's own.
use Rattle.std.specs.Prelude.{◌≡◌, ◌↔◌, ◌++◌, ℕ, List, Option, Some, None, Ok}
use Rattle.um_frac.specs.declared.number.Frac.{Frac}
use Rattle.um_tree.specs.ValueTree.{OutcomeTree}
use Rattle.um_tree.specs.Meaning.{outcome_of_call}
use Rattle.um_machine.specs.Machine.{EndsWith}
use Rattle.um_gen.specs.ProgramCode.{program_code}
use Rattle.um_scale.specs.RescaledLiterals.{misfit_in, rescaled_program}
use Rattle.um_sizes.specs.BaseSizes.{AreScalesRead}
use Rattle.um_run.specs.Calls.{CallTree, call_values}
use Rattle.um_reports.specs.declared.status.Status.{Status}
use Rattle.um_front.specs.Stages.{CheckedTree, IsCheckedText}
use Rattle.um_call_answers.specs.declared.way.Way.{Way}
use Rattle.um_call_answers.specs.declared.way.Way.TheVariants as way
use Rattle.um_call_answers.specs.AskedCall.{AskedCall}
use Rattle.um_call_answers.specs.OfCall.{IsAskedCall}
use Rattle.um_call_answers.specs.CallAnswer.{steps_text, EndsBy, CallAnswer}
use Rattle.um_call_answers.specs.TwinAnswer.{misfit_among, rescaled_values}

-- A call of the program that the bytes spell ends with an outcome, by the code or by the tree, exactly if its meaning
-- has this outcome.
abbrev pub CallsEndAsMeant : Type 0
CallsEndAsMeant =
    (way : Way) (asked : AskedCall) (bytes : List ℕ) (c : CheckedTree) (call : CallTree) (o : OutcomeTree) →
    IsCheckedText bytes c → IsAskedCall asked c call →
    ((steps : Option ℕ) × EndsBy way asked.budget c.text.program call o steps)
    ↔ (outcome_of_call c.text.program call.function (call_values call) asked.budget ≡ Some o)

-- So `run` and `eval` answer alike.
abbrev pub WaysAnswerAlike : Type 0
WaysAnswerAlike =
    (asked : AskedCall) (bytes text : List ℕ) (status : Status) →
    CallAnswer way.Code asked bytes text status ↔ CallAnswer way.Tree asked bytes text status

-- And `steps` answers as `run` does, with the line of the steps after it if there is a value.
abbrev pub StepsFollowRuns : Type 0
StepsFollowRuns =
    (asked : AskedCall) (bytes text : List ℕ) (status : Status) → CallAnswer way.Counted asked bytes text status →
    (first : List ℕ) × (steps : Option ℕ) × CallAnswer way.Code asked bytes first status
    × (text ≡ first ++ steps_text steps)

-- The second call of `twin`, by the code of the rescaled program, ends with an outcome exactly if its meaning has it.
abbrev pub TwinsEndAsMeant : Type 0
TwinsEndAsMeant =
    (word : List ℕ) (asked : AskedCall) (bytes : List ℕ) (c : CheckedTree) (cs : List Frac) (call : CallTree)
    (o : OutcomeTree) →
    IsCheckedText bytes c → AreScalesRead c.text.program.bases word (Ok cs) → IsAskedCall asked c call →
    misfit_in cs c.text.program.functions ≡ None → misfit_among cs call.inputs ≡ None →
    EndsWith (program_code (rescaled_program cs c.text.program).functions) call.function (rescaled_values cs call)
    asked.budget o
    ↔ (outcome_of_call (rescaled_program cs c.text.program) call.function (rescaled_values cs call) asked.budget
    ≡ Some o)
