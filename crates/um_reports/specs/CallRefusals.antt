-- The report lines of calls and of signatures. Places in a word are positions of its characters, counted from 1, and
-- so are arguments and types.
-- Source: this project's own.
use Rattle.std.specs.Prelude.{ℕ, ◌+◌, List, [], ◌++◌, codes, decimal, get_or, take, Result, Ok, Err}
use Rattle.um_frac.specs.declared.number.Trap.{Trap}
use Rattle.um_frac.specs.declared.number.Trap.TheVariants as trap
use Rattle.um_value.specs.declared.stop.InputStop.{InputStop}
use Rattle.um_value.specs.declared.stop.InputStop.TheVariants as input_stop
use Rattle.um_run.specs.declared.call.CallRefusal.{CallRefusal}
use Rattle.um_run.specs.declared.call.CallRefusal.TheVariants as refusal
use Rattle.um_sig.specs.declared.stop.SigText.{SigText}
use Rattle.um_sig.specs.declared.stop.SigText.TheVariants as sig_text
use Rattle.um_sig.specs.declared.stop.SigStop.{SigStop}
use Rattle.um_sig.specs.declared.stop.SigStop.TheVariants as sig_stop
use Rattle.um_reports.specs.declared.status.Status.{Status}
use Rattle.um_reports.specs.declared.status.Status.TheVariants.{Done, Limit, PowerRange, Input, NotConform}
use Rattle.um_reports.specs.declared.status.Status.TheVariants.{Trap as Trapped}
use Rattle.um_reports.specs.Places.{position_of}
use Rattle.um_reports.specs.Steps.{line, IsReply}

-- the label and the position of a place in a word
abbrev pub positioned : List ℕ → List ℕ → ℕ → List ℕ
positioned label word at = line (label ++ decimal (position_of (take at word)))

-- the status is that of a refused word
abbrev pub IsInputReply : List ℕ → Status → List ℕ → Type 0
IsInputReply text status wanted = IsReply text status wanted Input

-- no function has the name
abbrev pub IsUnnamedReply : List ℕ → Status → Type 0
IsUnnamedReply text status = IsInputReply text status (line (codes "error 11: no such function"))

-- ---- calls

-- the argument of this index, counted from 0, and what is wrong with its text
abbrev pub argument_label : ℕ → List ℕ → List ℕ
argument_label index fault = codes "error 11: argument " ++ decimal (index + 1) ++ codes ", " ++ fault ++ codes " at "

abbrev pub IsArgumentReply : ℕ → List ℕ → InputStop → List ℕ → Status → Type 0
IsArgumentReply index word (input_stop.Text at) text status =
    IsInputReply text status (positioned (argument_label index (codes "text")) word at)
IsArgumentReply index word (input_stop.Shape at) text status =
    IsInputReply text status (positioned (argument_label index (codes "shape")) word at)
IsArgumentReply index word (input_stop.Names at) text status =
    IsInputReply text status (positioned (argument_label index (codes "name")) word at)
IsArgumentReply index word (input_stop.PowerRange at) text status =
    IsInputReply text status (positioned (argument_label index (codes "power range")) word at)
IsArgumentReply index word input_stop.NoMemory text status = ⊥

-- a power passes the range while the call is typed, or in the type of a part of its value
abbrev pub IsCallRangeReply : List ℕ → Status → Type 0
IsCallRangeReply text status = IsReply text status (line (codes "error 10: power range of the call")) PowerRange

-- the line and the status of a refused call, by the texts of its arguments; want of memory has none
abbrev pub IsCallReply : List (List ℕ) → CallRefusal → List ℕ → Status → Type 0
IsCallReply texts refusal.NoFunction text status = IsUnnamedReply text status
IsCallReply texts refusal.WrongCount text status =
    IsInputReply text status (line (codes "error 11: wrong number of arguments"))
IsCallReply texts (refusal.Argument index stop) text status =
    IsArgumentReply index (get_or texts index []) stop text status
IsCallReply texts refusal.Units text status =
    IsInputReply text status (line (codes "error 11: units of the arguments"))
IsCallReply texts refusal.PowerRange text status = IsCallRangeReply text status
IsCallReply texts refusal.Slots text status =
    IsReply text status (line (codes "error 6: limit slots in the call")) Limit
IsCallReply texts refusal.NoMemory text status = ⊥

-- the line of a call that ended with a trap
abbrev pub trap_line : Trap → List ℕ
trap_line trap.Overflow = line (codes "error 12: overflow")
trap_line trap.DivZero = line (codes "error 12: division by zero")

abbrev pub IsTrapReply : Trap → List ℕ → Status → Type 0
IsTrapReply why text status = IsReply text status (trap_line why) Trapped

-- ---- signatures

-- what is wrong with the text of the signature
abbrev pub signature_label : List ℕ → List ℕ
signature_label fault = codes "error 11: signature, " ++ fault ++ codes " at "

abbrev pub IsSignatureReply : List ℕ → SigText → List ℕ → Status → Type 0
IsSignatureReply word (sig_text.Text at) text status =
    IsInputReply text status (positioned (signature_label (codes "text")) word at)
IsSignatureReply word (sig_text.Syntax at) text status =
    IsInputReply text status (positioned (signature_label (codes "syntax")) word at)
IsSignatureReply word (sig_text.Height at) text status =
    IsInputReply text status (positioned (signature_label (codes "height")) word at)
IsSignatureReply word (sig_text.Names at) text status =
    IsInputReply text status (positioned (signature_label (codes "name")) word at)
IsSignatureReply word (sig_text.PowerRange at) text status =
    IsInputReply text status (positioned (signature_label (codes "power range")) word at)
IsSignatureReply word sig_text.NoMemory text status = ⊥

-- what differs, of the function of this name, at the type of this index, counted from 0
abbrev pub difference_line : List ℕ → List ℕ → ℕ → List ℕ
difference_line what name index =
    line (codes "error 20: " ++ what ++ codes " of " ++ name ++ codes ", type " ++ decimal (index + 1))

-- the line and the status of a function that was held to a signature
abbrev pub IsConformReply : List ℕ → Result (Unit {0}) SigStop → List ℕ → Status → Type 0
IsConformReply name (Ok _) text status = IsReply text status (line (name ++ codes " conforms")) Done
IsConformReply name (Err (sig_stop.Form index)) text status =
    IsReply text status (difference_line (codes "form") name index) NotConform
IsConformReply name (Err (sig_stop.Units index)) text status =
    IsReply text status (difference_line (codes "units") name index) NotConform
IsConformReply name (Err (sig_stop.Range index)) text status =
    IsReply text status (line (codes "error 10: power range of the signature")) PowerRange
IsConformReply name (Err sig_stop.NoMemory) text status = ⊥
