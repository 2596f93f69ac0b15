-- What a command says of a call: something of the call that the words name, or the refusal of the words.
-- Source: this project's own.
use Rattle.std.specs.Prelude.{ℕ, ◌⊎◌, List, Ok, Err}
use Rattle.um_tree.specs.ProgramTree.{ProgramTree}
use Rattle.um_run.specs.declared.call.CallRefusal.{CallRefusal}
use Rattle.um_run.specs.Calls.{CallTree, IsCallOf}
use Rattle.um_reports.specs.declared.status.Status.{Status}
use Rattle.um_reports.specs.CallRefusals.{IsCallReply}
use Rattle.um_front.specs.Stages.{CheckedTree}
use Rattle.um_call_answers.specs.AskedCall.{AskedCall}

-- the call that is asked for is this one
abbrev pub IsAskedCall : AskedCall → CheckedTree → CallTree → Type 0
IsAskedCall asked c call = IsCallOf c.text.program c.text.abbreviations c.schemes asked.name asked.texts (Ok call)

-- the words name no call, and this is said of them
abbrev pub IsRefusedCall : AskedCall → CheckedTree → List ℕ → Status → Type 0
IsRefusedCall asked c text status =
    (refusal : CallRefusal)
    × IsCallOf c.text.program c.text.abbreviations c.schemes asked.name asked.texts (Err refusal)
    × IsCallReply asked.texts refusal text status

abbrev pub OfCall :
    (ProgramTree → CallTree → List ℕ → Status → Type 0) → AskedCall → CheckedTree → List ℕ → Status → Type 0
OfCall Says asked c text status =
    ((call : CallTree) × IsAskedCall asked c call × Says c.text.program call text status)
    ⊎ IsRefusedCall asked c text status
