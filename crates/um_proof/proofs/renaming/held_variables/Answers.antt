use Rattle.std.proofs.Common.{◌≡◌, ◌||◌, false, List, [], filter, length, take, sym, ap, ◌∙◌, subst, arith}
use Rattle.std.specs.Prelude.{Bool, IsTrue, replicate, slice_index_or}
use Rattle.std.specs.List.{flat_map, range_with_len}
use Rattle.std.proofs.lemmas.Result.{IfOk-weaker}
use Rattle.std.proofs.lemmas.List.{take_all, length-replicate}
use Rattle.std.proofs.lemmas.List.Elements.{All-get_or}
use Rattle.um_units.specs.declared.Term.{Term}
use Rattle.um_units.specs.Variables.{VariablesBelow, variables_below}
use Rattle.um_units.proofs.Variables.{variables_below-from_VariablesBelow}
use Rattle.um_tree.specs.Scheme.{unit_variables, atom_variables}
use Rattle.um_proof.specs.Renaming.{is_listed}
use Rattle.um_proof.proofs.HeldVariables.{AreMarked, marked_none, marked_more, marked_numbers}
use Rattle.um_proof.proofs.renaming.held_variables.Goals as goal

pub loop-unit-init : goal.loop-unit-init
loop-unit-init c =
    let marks = c.in_ok-marks.marks.items in
    let none : marks ≡ replicate c.args.count false = c.in_ok-marks.ensures in
    record {
      count = ap length none ∙ length-replicate c.args.count false;
      marks = subst (λ ms. AreMarked unit_variables (replicate c.args.count false) ms []) (sym none) (marked_none unit_variables (replicate c.args.count false));
    }

pub mark_terms-requires : goal.mark_terms-requires
mark_terms-requires c =
    let u = c.unit-item.result in
    let low : VariablesBelow c.args.count u = subst (VariablesBelow c.args.count) (sym c.unit-item.is) (All-get_or (VariablesBelow c.args.count) c.args.units.now c.loop-unit.unit-index u c.loop-unit-test.true c.requires) in
    subst (λ ts. IsTrue (variables_below (length c.loop-unit.marks.items) ts)) (sym c.terms.ensures.terms)
    (subst (λ n. IsTrue (variables_below n u.terms)) (sym c.loop-unit.invariant.count) (variables_below-from_VariablesBelow c.args.count u low))

pub loop-unit-preserved : goal.loop-unit-preserved
loop-unit-preserved c =
    let u = c.unit-item.result in
    record {
      count = c.mark_terms.ensures.count ∙ c.loop-unit.invariant.count;
      marks =
          marked_more unit_variables (replicate c.args.count false) c.loop-unit.marks.items c.mark_terms.new.marks.items c.args.units.now c.loop-unit.unit-index u c.loop-unit-test.true c.loop-unit.invariant.marks
          (λ k. c.mark_terms.ensures.marks k
          ∙ ap (λ ts. slice_index_or c.loop-unit.marks.items k false || is_listed (flat_map (λ (t : Term). atom_variables t.atom) ts) k) c.terms.ensures.terms
          ∙ ap (λ v. slice_index_or c.loop-unit.marks.items k false || is_listed (unit_variables v) k) c.unit-item.is);
    }

pub returns : goal.returns
returns c =
    let ms = c.loop-unit.marks.items in
    let us = c.args.units.now in
    let past = c.loop-unit-test.false in
    let all : take c.loop-unit.unit-index us ≡ us = take_all c.loop-unit.unit-index us (omega (arith, past)) in
    let so = subst (AreMarked unit_variables (replicate c.args.count false) ms) all c.loop-unit.invariant.marks in
    let numbers = marked_numbers ms c.args.count us c.loop-unit.invariant.count so in
    IfOk-weaker c.marked.result _ _ (λ held e. e ∙ ap (λ (xs : List Bool). filter (λ k. slice_index_or xs k false) (range_with_len 0 (length xs))) c.deref.ensures.value ∙ numbers) c.marked.ensures
