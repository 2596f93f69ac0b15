use Rattle.std.proofs.Common.{◌+◌, ◌-◌, ℕ, length, take, drop, map, Err, sym, subst, rules}
use Rattle.um_tree.specs.TypeTree.{note_tree}
use Rattle.um_uses.specs.Holes.{note_holes}
use Rattle.um_slots.specs.Keys.{note_keys, notes_keys}
use Rattle.um_slots.specs.Slotting.{HaveSlots}
use Rattle.um_slots.proofs.Parts.{first_and_others}
use Rattle.um_slots.proofs.TableLaws.{slots_both, slots_stop}
use Rattle.um_slots.proofs.slots.+notes_slots.Goals as goal

pub returns-in_err-note_slots-in-len1-up-clause-slots : goal.returns-in_err-note_slots-in-len1-up-clause-slots
returns-in_err-note_slots-in-len1-up-clause-slots t c =
    let notes = c.args.notes.now in
    let note = c.note-item.result in
    let whole = first_and_others notes note c.in-len1-up.len_at_least c.note-item.is in
    let rest = take (length notes - 1) (drop 1 notes) in
    let old = c.args.slots.now in
    let new = c.note_slots.new.slots in
    let err = c.in_err-note_slots-in-len1-up.field-0.0 in
    let n = length old.holes.items in
    let stops : HaveSlots (notes_keys n (map note_tree notes)) old new (Err err) =
    subst (λ xs. HaveSlots (notes_keys n (map note_tree xs)) old new (Err err)) (sym whole)
    (slots_stop (note_keys n (note_tree note)) (notes_keys (n + note_holes (note_tree note)) (map note_tree rest)) old new err c.in_err-note_slots-in-len1-up.ensures.slots) in
    search (rules, stops)

pub returns-in_ok-note_slots-in-len1-up-clause-slots : goal.returns-in_ok-note_slots-in-len1-up-clause-slots
returns-in_ok-note_slots-in-len1-up-clause-slots t c =
    let notes = c.args.notes.now in
    let note = c.note-item.result in
    let whole = first_and_others notes note c.in-len1-up.len_at_least c.note-item.is in
    let rest = take (length notes - 1) (drop 1 notes) in
    let old = c.args.slots.now in
    let mid = c.note_slots.new.slots in
    let new = c.notes_slots.new.slots in
    let r = c.notes_slots.result in
    let n = length old.holes.items in
    let counted = c.in_ok-note_slots-in-len1-up.ensures.counted in
    subst (λ xs. HaveSlots (notes_keys n (map note_tree xs)) old new r) (sym whole)
    (slots_both (note_keys n (note_tree note)) (notes_keys (n + note_holes (note_tree note)) (map note_tree rest)) old mid new tt r c.in_ok-note_slots-in-len1-up.ensures.slots
    (subst (λ (k : ℕ). HaveSlots (notes_keys k (map note_tree rest)) mid new r) counted c.notes_slots.ensures.slots))
