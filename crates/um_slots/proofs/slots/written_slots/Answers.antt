use Rattle.std.proofs.Common.{◌≡◌, ℕ, List, [], map, Ok, sym, ◌∙◌, subst, rules}
use Rattle.um_slots.specs.Keys.{name}
use Rattle.um_slots.specs.Slotting.{HaveSlots}
use Rattle.um_slots.proofs.ClosedUnits.{no_variables}
use Rattle.um_slots.proofs.slots.written_slots.Goals as goal

pub returns-then-is_closed-clause-slots : goal.returns-then-is_closed-clause-slots
returns-then-is_closed-clause-slots c =
    let none = no_variables c.args.unit.now.terms (sym c.is_closed.ensures.closed ∙ c.if-is_closed.true) in
    subst (λ (ks : List ℕ). HaveSlots (map name ks) c.args.slots.now c.args.slots.now (Ok tt)) (sym none) (λ order table. table)
