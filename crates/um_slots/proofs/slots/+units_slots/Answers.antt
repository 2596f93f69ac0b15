use Rattle.std.proofs.Common.{◌+◌, ◌-◌, ℕ, length, take, drop, Err, sym, subst, rules}
use Rattle.um_uses.specs.Holes.{unit_holes}
use Rattle.um_slots.specs.Keys.{unit_keys, units_keys}
use Rattle.um_slots.specs.Slotting.{HaveSlots}
use Rattle.um_slots.proofs.Parts.{first_and_others}
use Rattle.um_slots.proofs.TableLaws.{slots_both, slots_stop}
use Rattle.um_slots.proofs.slots.+units_slots.Goals as goal

pub returns-in_err-unit_slots-in-len1-up-clause-slots : goal.returns-in_err-unit_slots-in-len1-up-clause-slots
returns-in_err-unit_slots-in-len1-up-clause-slots t c =
    let notes = c.args.notes.now in
    let note = c.note-item.result in
    let whole = first_and_others notes note c.in-len1-up.len_at_least c.note-item.is in
    let rest = take (length notes - 1) (drop 1 notes) in
    let old = c.args.slots.now in
    let new = c.unit_slots.new.slots in
    let err = c.in_err-unit_slots-in-len1-up.field-0.0 in
    let n = length old.holes.items in
    let stops : HaveSlots (units_keys n notes) old new (Err err) =
    subst (λ xs. HaveSlots (units_keys n xs) old new (Err err)) (sym whole)
    (slots_stop (unit_keys n (note)) (units_keys (n + unit_holes (note)) rest) old new err c.in_err-unit_slots-in-len1-up.ensures.slots) in
    search (rules, stops)

pub returns-in_ok-unit_slots-in-len1-up-clause-slots : goal.returns-in_ok-unit_slots-in-len1-up-clause-slots
returns-in_ok-unit_slots-in-len1-up-clause-slots t c =
    let notes = c.args.notes.now in
    let note = c.note-item.result in
    let whole = first_and_others notes note c.in-len1-up.len_at_least c.note-item.is in
    let rest = take (length notes - 1) (drop 1 notes) in
    let old = c.args.slots.now in
    let mid = c.unit_slots.new.slots in
    let new = c.units_slots.new.slots in
    let r = c.units_slots.result in
    let n = length old.holes.items in
    let counted = c.in_ok-unit_slots-in-len1-up.ensures.counted in
    subst (λ xs. HaveSlots (units_keys n (xs)) old new r) (sym whole)
    (slots_both (unit_keys n (note)) (units_keys (n + unit_holes (note)) (rest)) old mid new tt r c.in_ok-unit_slots-in-len1-up.ensures.slots
    (subst (λ (k : ℕ). HaveSlots (units_keys k (rest)) mid new r) counted c.units_slots.ensures.slots))
