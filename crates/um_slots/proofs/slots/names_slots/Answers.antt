use Rattle.std.proofs.Common.{◌≡◌, Ok, Err, ◌∙◌, subst, arith, rules}
use Rattle.um_slots.specs.Keys.{name_keys}
use Rattle.um_slots.specs.Slotting.{HaveSlots}
use Rattle.um_slots.proofs.TableLaws.{first_names_next, first_names_stop}
use Rattle.um_slots.proofs.slots.names_slots.Goals as goal

pub returns-in_err-add_name-clause-slots : goal.returns-in_err-add_name-clause-slots
returns-in_err-add_name-clause-slots c =
    let err = c.in_err-add_name.field-0.0 in
    let stops : HaveSlots (name_keys 0 c.args.many) c.args.slots.now c.add_name.new.self (Err err) =
    first_names_stop c.loop-k.k c.args.slots.now c.loop-k.slots c.loop-k.invariant.slots c.add_name.new.self c.args.many c.loop-k-test.true err c.in_err-add_name.ensures.slots in
    search (rules, stops)

pub loop-k-preserved : goal.loop-k-preserved
loop-k-preserved c = record {
  slots = first_names_next c.loop-k.k c.args.slots.now c.loop-k.slots c.loop-k.invariant.slots c.add_name.new.self c.in_ok-add_name.ensures.slots;
  counted = c.in_ok-add_name.ensures.counted ∙ c.loop-k.invariant.counted;
}

pub returns-clause-slots : goal.returns-clause-slots
returns-clause-slots c =
    let all : c.loop-k.k ≡ c.args.many = (let past = c.loop-k-test.false in let end = c.loop-k.auto.k-end in omega (arith, past, end)) in
    subst (λ n. HaveSlots (name_keys 0 n) c.args.slots.now c.loop-k.slots (Ok tt)) all c.loop-k.invariant.slots
