use Rattle.std.proofs.Common.{map, Err, ◌∙◌, rules}
use Rattle.std.specs.List.{flat_map}
use Rattle.um_units.specs.declared.Term.{Term}
use Rattle.um_tree.specs.Scheme.{atom_variables}
use Rattle.um_slots.specs.Keys.{name}
use Rattle.um_slots.specs.Slotting.{HaveSlots}
use Rattle.um_slots.proofs.TableLaws.{names_next, names_stop}
use Rattle.um_slots.proofs.slots.terms_slots.Goals as goal

pub returns-in_err-term_slots-clause-slots : goal.returns-in_err-term_slots-clause-slots
returns-in_err-term_slots-clause-slots c =
    let err = c.in_err-term_slots.field-0.0 in
    let stops : HaveSlots (map name (flat_map (λ (t : Term). atom_variables t.atom) c.args.terms.now)) c.args.slots.now c.term_slots.new.slots (Err err) =
    names_stop (λ (t : Term). atom_variables t.atom) c.args.terms.now c.loop-term.term-index _ c.loop-term-test.true c.args.slots.now c.loop-term.slots c.loop-term.invariant.slots c.term_slots.new.slots err c.in_err-term_slots.ensures.slots in
    search (rules, stops)

pub loop-term-preserved : goal.loop-term-preserved
loop-term-preserved c = record {
  slots = names_next (λ (t : Term). atom_variables t.atom) c.args.terms.now c.loop-term.term-index _ c.loop-term-test.true c.args.slots.now c.loop-term.slots c.loop-term.invariant.slots c.term_slots.new.slots c.in_ok-term_slots.ensures.slots;
  counted = c.in_ok-term_slots.ensures.counted ∙ c.loop-term.invariant.counted;
}
