-- The slots of named variables, as the code has them.
use Rattle.std.proofs.Common.{◌≡◌, ℕ, List, [], get_or, None, ap, ◌∙◌, subst}
use Rattle.um_tree.specs.ProgramTree.{RecordTree, FunctionTree, SchemeTree}
use Rattle.um_slots.specs.declared.slots.Slots.{Slots}
use Rattle.um_slots.specs.Keys.{Key, name, function_keys}
use Rattle.um_slots.specs.Slots.{slot_order, function_slots}
use Rattle.um_slots.specs.Slotting.{with_keys, found_slot, IsTable}
use Rattle.um_slots.proofs.KeyOrder.{with_none}
use Rattle.um_unit_reasons.specs.UnitReasons.{slot_in}

pub slots_are : (records : List RecordTree) (schemes : List SchemeTree) (i : ℕ) (f : FunctionTree) (keys : List Key) → keys ≡ function_keys records schemes i f → (t : Slots) → IsTable (with_keys [] keys) t → (v : ℕ) → get_or t.names.items v None ≡ slot_in (function_slots records schemes i f) v
slots_are records schemes i f keys same t is v =
    let table : IsTable (slot_order keys) t = subst (λ order. IsTable order t) (with_none keys) is in
    table.names v ∙ ap (λ ks. found_slot (slot_order ks) (name v)) same
