use Rattle.std.proofs.Common.{◌≡◌, ◌-◌, ℕ, suc, length, [], ◌∷◌, Err, sym, subst, arith, rules}
use Rattle.std.proofs.lemmas.Bool.Decides.{nat_tests}
use Rattle.um_slots.specs.Keys.{hole, hole_keys}
use Rattle.um_slots.specs.Slotting.{HaveSlots}
use Rattle.um_slots.proofs.TableLaws.{slots_both, slots_stop}
use Rattle.um_slots.proofs.slots.Slots.+add_holes.Goals as goal

pub returns-in_err-add_hole-clause-slots : goal.returns-in_err-add_hole-clause-slots
returns-in_err-add_hole-clause-slots t c =
    let old = c.args.self.now in
    let new = c.add_hole.new.self in
    let err = c.in_err-add_hole.field-0.0 in
    let n = length old.holes.items in
    let more : c.args.many ≡ suc (c.args.many - 1) = grind (arith, nat_tests) in
    let stops : HaveSlots (hole_keys n c.args.many) old new (Err err) = subst (λ (k : ℕ). HaveSlots (hole_keys n k) old new (Err err)) (sym more) (slots_stop (hole n ∷ []) (hole_keys (suc n) (c.args.many - 1)) old new err c.in_err-add_hole.ensures.slots) in
    search (rules, stops)

pub returns-clause-slots : goal.returns-clause-slots
returns-clause-slots t c =
    let old = c.args.self.now in
    let mid = c.add_hole.new.self in
    let new = c.add_holes.new.self in
    let r = c.add_holes.result in
    let n = length old.holes.items in
    let m = c.args.many - 1 in
    let more : c.args.many ≡ suc m = grind (arith, nat_tests) in
    let counted = c.in_ok-add_hole.ensures.counted in
    let next : length mid.holes.items ≡ suc n = omega (arith, counted) in
    subst (λ (k : ℕ). HaveSlots (hole_keys n k) old new r) (sym more)
    (slots_both (hole n ∷ []) (hole_keys (suc n) m) old mid new tt r c.in_ok-add_hole.ensures.slots (subst (λ (k : ℕ). HaveSlots (hole_keys k m) mid new r) next c.add_holes.ensures.slots))
