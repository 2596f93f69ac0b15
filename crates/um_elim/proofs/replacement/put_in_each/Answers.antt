use Rattle.std.proofs.Common.{◌≡◌, ◌<◌, List, [], sym, ap, subst, ◌∙◌, length, get_or, set, take, map, refl}
use Rattle.std.specs.List.{list_all}
use Rattle.std.proofs.lemmas.Result.{err_from_is_err_and}
use Rattle.std.proofs.lemmas.List.{get_or_read, take_more, take_all}
use Rattle.std.proofs.lemmas.List.Sums.{list_all-from_AllPass}
use Rattle.um_units.specs.PowerMap.{PowerMap, one, replace}
use Rattle.um_units.specs.Range.{fits, IsStopUnless}
use Rattle.um_elim.specs.ElimStep.{multiply}
use Rattle.um_elim.specs.Index.{holders, IsIndex}
use Rattle.um_elim.proofs.Changes.{stop_in_list}
use Rattle.um_elim.proofs.HeldSlots.{changed, changed-push, length-changed_slots, changed_holders, next_unit, next_within, own_default}
use Rattle.um_elim.proofs.IndexStep.{not_held}
use Rattle.um_elim.proofs.LastStep.{over_variable}
use Rattle.um_elim.proofs.IndexBut.{index_but, length-but, holders-after}
use Rattle.um_elim.proofs.replacement.put_in_each.Goals as goal

pub put_in_slot-requires-clause-slot : goal.put_in_slot-requires-clause-slot
put_in_slot-requires-clause-slot c =
    let us = c.args.units.now.items in
    let f = replace (multiply c.args.replacement.now.variable c.args.replacement.now.change.now) in
    let j = c.loop-slot.slot-index in
    let m = c.args.replacement.now.variable in
    let in_index : m < length c.args.index.now.items = subst (λ n. m < n) (sym c.requires.indexed.slots) c.requires.variable in
    let list : c.deref-slot-items.result.now ≡ holders us m = c.deref-slot-items.ensures.value ∙ c.in_ok-slots.ensures ∙ get_or_read c.args.index.now.items m _ in_index c.index.ensures [] ∙ c.requires.indexed.exact m in_index in
    let low : j < length (holders us m) = subst (λ ss. j < length ss) list c.loop-slot-test.true in
    let same = ap length c.loop-slot.invariant.units ∙ length-changed_slots f (take j c.deref-slot-items.result.now) us in
    subst (λ n. get_or c.deref-slot-items.result.now j 0 < n) (sym same) (subst (λ ss. get_or ss j 0 < length us) (sym list) (next_within m us j low))

pub put_in_slot-requires-clause-variable : goal.put_in_slot-requires-clause-variable
put_in_slot-requires-clause-variable c =
    let us = c.args.units.now.items in
    let f = replace (multiply c.args.replacement.now.variable c.args.replacement.now.change.now) in
    subst (λ n. c.args.replacement.now.variable < n) (sym (ap length c.loop-slot.invariant.units ∙ length-changed_slots f (take c.loop-slot.slot-index c.deref-slot-items.result.now) us)) c.requires.variable

pub put_in_slot-requires-clause-indexed : goal.put_in_slot-requires-clause-indexed
put_in_slot-requires-clause-indexed c = c.loop-slot.invariant.indexed

pub index_mut-requires : goal.index_mut-requires
index_mut-requires c =
    let us = c.args.units.now.items in
    let f = replace (multiply c.args.replacement.now.variable c.args.replacement.now.change.now) in
    subst (λ n. c.args.replacement.now.variable < n)
    (sym (c.loop-slot.index.ok.0 ∙ length-but c.args.replacement.now.variable c.loop-slot.units.items c.loop-slot.index.items c.loop-slot.invariant.indexed ∙ ap length c.loop-slot.invariant.units ∙ length-changed_slots f (take c.loop-slot.slot-index c.deref-slot-items.result.now) us)) c.requires.variable

pub loop-slot-init : goal.loop-slot-init
loop-slot-init c = record {
  units = refl;
  indexed = index_but c.args.replacement.now.variable c.args.units.now.items c.args.index.now.items c.requires.indexed c.requires.variable;
}

pub returns-in_err-put_in_slot-clause-range : goal.returns-in_err-put_in_slot-clause-range
returns-in_err-put_in_slot-clause-range c =
    let p = err_from_is_err_and c.from_residual-in_err-put_in_slot.result c.from_residual-in_err-put_in_slot.ensures.1 in
    let us = c.args.units.now.items in
    let f = replace (multiply c.args.replacement.now.variable c.args.replacement.now.change.now) in
    let j = c.loop-slot.slot-index in
    let m = c.args.replacement.now.variable in
    let in_index : m < length c.args.index.now.items = subst (λ n. m < n) (sym c.requires.indexed.slots) c.requires.variable in
    let list : c.deref-slot-items.result.now ≡ holders us m = c.deref-slot-items.ensures.value ∙ c.in_ok-slots.ensures ∙ get_or_read c.args.index.now.items m _ in_index c.index.ensures [] ∙ c.requires.indexed.exact m in_index in
    let low : j < length (holders us m) = subst (λ ss. j < length ss) list c.loop-slot-test.true in
    let s = get_or (holders us m) j 0 in
    let at : get_or c.loop-slot.units.items (get_or c.deref-slot-items.result.now j 0) one ≡ get_or us s one =
    ap (λ vs. get_or vs (get_or c.deref-slot-items.result.now j 0) one) c.loop-slot.invariant.units
    ∙ ap (λ ss. get_or (changed f (take j ss) us) (get_or ss j 0) one) list ∙ next_unit f m us j low in
    let within : s < length us = next_within m us j low in
    rw (p.1, p.2) (stop_in_list f us s (get_or us s one) within (own_default us s within) c.in_err-put_in_slot.field-0.0
    (subst (λ u. IsStopUnless (fits (f u)) c.in_err-put_in_slot.field-0.0) at c.in_err-put_in_slot.ensures.range))

pub loop-slot-preserved : goal.loop-slot-preserved
loop-slot-preserved c =
    let us = c.args.units.now.items in
    let f = replace (multiply c.args.replacement.now.variable c.args.replacement.now.change.now) in
    let ss = c.deref-slot-items.result.now in
    let j = c.loop-slot.slot-index in
    record {
      units = c.in_ok-put_in_slot.ensures.exact ∙ ap (λ vs. set vs (get_or ss j 0) (f (get_or vs (get_or ss j 0) one))) c.loop-slot.invariant.units ∙ sym (changed-push f (take j ss) (get_or ss j 0) us) ∙ ap (λ l. changed f l us) (sym (take_more ss j 0 c.loop-slot-test.true));
      indexed = c.in_ok-put_in_slot.ensures.indexed;
    }

pub returns-clause-exact : goal.returns-clause-exact
returns-clause-exact c =
    let us = c.args.units.now.items in
    let f = replace (multiply c.args.replacement.now.variable c.args.replacement.now.change.now) in
    let m = c.args.replacement.now.variable in
    let in_index : m < length c.args.index.now.items = subst (λ n. m < n) (sym c.requires.indexed.slots) c.requires.variable in
    let list : c.deref-slot-items.result.now ≡ holders us m = c.deref-slot-items.ensures.value ∙ c.in_ok-slots.ensures ∙ get_or_read c.args.index.now.items m _ in_index c.index.ensures [] ∙ c.requires.indexed.exact m in_index in
    c.loop-slot.invariant.units ∙ ap (λ l. changed f l us) (take_all c.loop-slot.slot-index c.deref-slot-items.result.now c.loop-slot-test.false ∙ list) ∙ changed_holders f m (not_held m c.args.replacement.now.change.now) us

pub returns-clause-range : goal.returns-clause-range
returns-clause-range c = ap (list_all fits) (sym (returns-clause-exact c)) ∙ list_all-from_AllPass fits c.loop-slot.units.items c.loop-slot.invariant.indexed.fit

pub returns-clause-indexed : goal.returns-clause-indexed
returns-clause-indexed c =
    let us = c.args.units.now.items in
    let m = c.args.replacement.now.variable in
    let w = c.args.replacement.now.factor.now in
    let made : c.loop-slot.units.items ≡ map (replace (multiply m (over_variable m w))) us =
    ◌∙◌ {A = List PowerMap} (returns-clause-exact c) (ap (λ v. map (replace (multiply m v)) us) c.args.replacement.now.over) in
    let none : holders c.loop-slot.units.items m ≡ [] = ap (λ vs. holders vs m) made ∙ holders-after m w c.args.replacement.now.absent us in
    let now : [] ≡ c.empty.result = sym c.empty.ensures in
    subst (λ ss. IsIndex c.loop-slot.units.items (set c.loop-slot.index.items m ss)) (none ∙ now) c.loop-slot.invariant.indexed
