use Rattle.std.proofs.Common.{◌≡◌, [], ◌∷◌, ◌++◌, ap, ◌∙◌, rules}
use Rattle.um_units.specs.declared.Atom.TheVariants.{Var}
use Rattle.um_units.specs.PowerMap.{atom}
use Rattle.um_slots.proofs.TableLaws.{hole_added}
use Rattle.um_slots.proofs.slots.Slots.add_hole.Goals as goal

pub returns-clause-slots : goal.returns-clause-slots
returns-clause-slots c = λ order t.
    let old = c.args.self.now in
    let made = c.in_ok-atom.field-0 in
    let exact : made ≡ atom (Var old.count) = search rules in
    hole_added order old (record { count = c.take.new.self.count; holes = c.push.new.self; names = c.take.new.self.names }) t c.in_ok-slot.ensures.taken.1 c.in_ok-slot.ensures.count
    (c.in_ok-push.ensures.items ∙ ap (λ us. us ++ made ∷ []) c.take.ensures.holes ∙ ap (λ u. old.holes.items ++ u ∷ []) exact) c.take.ensures.names
