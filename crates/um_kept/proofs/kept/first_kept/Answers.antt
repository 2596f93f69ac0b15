use Rattle.std.proofs.Common.{◌≡◌, ◌++◌, ◌∷◌, [], ◌∙◌, sym, ap, replicate, rules, arith}
use Rattle.std.proofs.lemmas.List.{append-nil, append_assoc, replicate_more}
use Rattle.std.proofs.lemmas.List.FromFn.{map-range_with_len_more}
use Rattle.um_units.specs.declared.Atom.TheVariants.{Var}
use Rattle.um_units.specs.PowerMap.{one, atom}
use Rattle.um_elim.specs.Solution.{own_variables, rigid_unit, rigid_units}
use Rattle.um_kept.proofs.WayBack.{agrees_first}
use Rattle.um_kept.proofs.kept.first_kept.Goals as goal

pub loop-slot-preserved : goal.loop-slot-preserved
loop-slot-preserved c =
    let b = c.args.head.bases in
    let p = c.args.head.parameters in
    let slot = c.loop-slot.slot in
    record {
      solution = c.in_ok-push.ensures.items ∙ ap (λ us. us ++ c.in_ok-first_unit.field-0 ∷ []) c.loop-slot.invariant.solution
          ∙ ap (λ u. rigid_units b p slot ++ u ∷ []) c.in_ok-first_unit.ensures ∙ sym (map-range_with_len_more (rigid_unit b p) 0 slot slot (omega arith));
      back = c.in_ok-push-2.ensures.items ∙ ap (λ us. us ++ c.in_ok-atom.field-0 ∷ []) c.loop-slot.invariant.back
          ∙ ap (λ u. own_variables slot ++ u ∷ []) c.in_ok-atom.ensures.exact ∙ sym (map-range_with_len_more (λ k. atom (Var k)) 0 slot slot (omega arith));
      parts = c.in_ok-push-3.ensures.items ∙ ap (λ us. us ++ c.one.result ∷ []) c.loop-slot.invariant.parts
          ∙ ap (λ u. replicate slot one ++ u ∷ []) c.one.ensures.exact ∙ replicate_more slot one;
    }

pub loop-k-init : goal.loop-k-init
loop-k-init c =
    let end : c.loop-slot.slot ≡ c.args.head.slots = omega (arith, c.loop-slot-test.false, c.loop-slot.auto.slot-end) in
    c.loop-slot.invariant.back ∙ ap own_variables end ∙ sym (append-nil (own_variables c.args.head.slots))

pub loop-k-preserved : goal.loop-k-preserved
loop-k-preserved c =
    let n = c.args.head.slots in
    let k = c.loop-k.k in
    c.in_ok-push-4.ensures.items ∙ ap (λ us. us ++ c.in_ok-atom-2.field-0 ∷ []) c.loop-k.invariant
    ∙ ap (λ u. (own_variables n ++ own_variables k) ++ u ∷ []) c.in_ok-atom-2.ensures.exact
    ∙ append_assoc (own_variables n) (own_variables k) (atom (Var k) ∷ [])
    ∙ ap (λ us. own_variables n ++ us) (sym (map-range_with_len_more (λ i. atom (Var i)) 0 k k (omega arith)))

pub returns : goal.returns
returns c =
    let h = c.args.head in
    let slots : c.loop-slot.slot ≡ h.slots = omega (arith, c.loop-slot-test.false, c.loop-slot.auto.slot-end) in
    let parameters : c.loop-k.k ≡ h.parameters = omega (arith, c.loop-k-test.false, c.loop-k.auto.k-end) in
    agrees_first h _ c.requires.parameters
    (c.loop-slot.invariant.solution ∙ ap (rigid_units h.bases h.parameters) slots)
    (c.loop-k.invariant ∙ ap (λ k. own_variables h.slots ++ own_variables k) parameters)
    (search rules)
    (c.loop-slot.invariant.parts ∙ ap (λ k. replicate k one) slots)
