-- What the refusal of a function or a call becomes: one of the program or of the call.
-- Source: this project's own.
use Rattle.std.specs.Prelude.{ℕ}
use Rattle.um_solving.specs.declared.refusal.Refusal.{Refusal}
use Rattle.um_solving.specs.declared.refusal.Refusal.TheVariants as refusal
use Rattle.um_infer.specs.declared.stop.InferStop.{InferStop}
use Rattle.um_infer.specs.declared.stop.InferStop.TheVariants as program
use Rattle.um_infer.specs.declared.stop.CallStop.{CallStop}
use Rattle.um_infer.specs.declared.stop.CallStop.TheVariants as call

abbrev pub stop_of : ℕ → Refusal → InferStop
stop_of i (refusal.Units at) = program.Units i at
stop_of i (refusal.NotGeneral at) = program.NotGeneral i at
stop_of i (refusal.PowerRange at) = program.PowerRange i at
stop_of i refusal.Slots = program.Slots i
stop_of i refusal.NoMemory = program.NoMemory

-- a call, which has no unit parameters, is never refused as not general
abbrev pub call_stop_of : Refusal → CallStop
call_stop_of (refusal.Units at) = call.Units
call_stop_of (refusal.NotGeneral at) = call.Units
call_stop_of (refusal.PowerRange at) = call.PowerRange
call_stop_of refusal.Slots = call.Slots
call_stop_of refusal.NoMemory = call.NoMemory
