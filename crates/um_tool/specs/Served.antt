-- What a run of the program writes, and with which status it ends.
-- Source: this project's own.
use Rattle.std.specs.Prelude.{◌≡◌, ◌⊎◌, ℕ, List, [], codes, Some, Option}
use Rattle.std.specs.Io.KnownBytes.{Appends}
use Rattle.um_wire.specs.Faults.{Rose}
use Rattle.um_wire.specs.Bytes.{Tells, AppendsPrefix}
use Rattle.um_orders.specs.declared.order.Order.{Order}
use Rattle.um_orders.specs.declared.order.Intake.{Intake}
use Rattle.um_orders.specs.declared.order.Intake.TheVariants.{Generated}
use Rattle.um_reports.specs.declared.status.Status.{Status}
use Rattle.um_reports.specs.declared.status.Status.TheVariants.{ReadFault, WriteFault, NoMemory}
use Rattle.um_tool.specs.Asked.{StatesUnits}
use Rattle.um_tool.specs.Answer.{Answer}
use Rattle.um_orders.specs.Orders.{order_of, intake_of}
use Rattle.um_tool.specs.Passing.{GoesThrough}
use Rattle.um_reports.specs.Steps.{IsReply, line}

-- it takes something from the source
abbrev pub TakesSome : Intake → Type 0
TakesSome (Generated n) = ⊥
TakesSome intake = Unit {0}

-- the words name an order that takes something from the source, and the word that shall state units does
pub record Reads (words : List (List ℕ)) : Type 0 where
  pub order : Order
  pub ordered : order_of words ≡ Some order
  pub some : TakesSome (intake_of order)
  pub units : StatesUnits order words

-- the text and the status that a run is about to give: the answer to the bytes left,
-- or the line on a failed read, only if the words ask for a read and the source's count rose
abbrev pub IsPlanned : List (List ℕ) → Option (List ℕ) → ℕ → ℕ → List ℕ → Status → Type 0
IsPlanned words left before now text status =
    ((bytes : List ℕ) × Tells left bytes × Answer words bytes text status)
    ⊎ (IsReply text status (line (codes "error 15: read")) ReadFault × Reads words × Rose before now)

-- all of the planned text was written; if it is empty, the sink is as it was
pub record WroteAll
    (Planned : List ℕ → Status → Type 0) (Untouched : Type 0) (old new : Option (List ℕ)) (status : Status)
    : Type 0 where
  pub text : List ℕ
  pub planned : Planned text status
  pub written : Appends old new text
  pub idle : text ≡ [] → Untouched

-- a first part of the planned text was written, and the sink's count rose
pub record WrotePart
    (Planned : List ℕ → Status → Type 0) (old new : Option (List ℕ)) (before now : ℕ) (status : Status) : Type 0 where
  pub text : List ℕ
  pub meant : Status
  pub planned : Planned text meant
  pub written : AppendsPrefix old new text
  pub rose : Rose before now
  pub fault : status ≡ WriteFault

-- memory was wanting, and the sink is as it was
pub record WroteNothing (Untouched : Type 0) (status : Status) : Type 0 where
  pub untouched : Untouched
  pub fault : status ≡ NoMemory

-- the bytes added to the sink and the status are one of these pairs
abbrev pub Serves : (List ℕ → Status → Type 0) → Type 0 → Option (List ℕ) → Option (List ℕ) → ℕ → ℕ → Status → Type 0
Serves Planned Untouched old new before now status =
    WroteAll Planned Untouched old new status ⊎ WrotePart Planned old new before now status
    ⊎ WroteNothing Untouched status

-- the words name an order, and every step of its answer goes through
pub record IsComplete (words : List (List ℕ)) (bytes : List ℕ) : Type 0 where
  pub order : Order
  pub ordered : order_of words ≡ Some order
  pub goes_through : GoesThrough order words bytes

-- the source's bytes go through, and it met no fault
pub record IsUndisturbed (words : List (List ℕ)) (left : Option (List ℕ)) (before now : ℕ) : Type 0 where
  pub bytes : List ℕ
  pub told : left ≡ Some bytes
  pub complete : IsComplete words bytes
  pub calm : Rose before now → ⊥
