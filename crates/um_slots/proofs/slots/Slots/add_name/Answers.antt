use Rattle.std.proofs.Common.{◌≡◌, false, get_or, None, Some, ap, ◌∙◌, rules}
use Rattle.std.specs.Prelude.{is_some}
use Rattle.um_slots.specs.declared.slots.Slots.{Slots}
use Rattle.um_slots.proofs.TableLaws.{name_added, fresh_from}
use Rattle.um_slots.proofs.slots.Slots.add_name.Goals as goal

pub returns-clause-slots : goal.returns-clause-slots
returns-clause-slots c = λ order t.
    let old = c.args.self.now in
    let new : Slots = record { count = c.take.new.self.count; holes = c.take.new.self.holes; names = c.set_slot.new.names } in
    let test : is_some (get_or old.names.items c.args.k None) ≡ false = search rules in
    name_added order old new t c.args.k (fresh_from order old new t c.args.k test) c.in_ok-slot.ensures.taken.1 c.in_ok-slot.ensures.count c.take.ensures.holes
    (c.in_ok-set_slot.ensures.own ∙ ap Some c.in_ok-slot.ensures.taken.0)
    (λ j other. c.in_ok-set_slot.ensures.others j other ∙ ap (λ ns. get_or ns j None) c.take.ensures.names)
