use Rattle.std.proofs.Common.{◌≡◌, ◌<◌, ◌≤◌, List, [], ◌∷◌, ◌++◌, map, take, pos, nat_abs, true, false, slice_index_or, length, to_z, of_z, w32, sym, ap, ◌∙◌, subst, rules, arith, FitsSigned}
use Rattle.std.specs.Int.{w128}
use Rattle.std.proofs.lemmas.Int.{to_z-of_z}
use Rattle.std.proofs.lemmas.List.{map-append, take_all, take_more}
use Rattle.um_units.specs.declared.Atom.TheVariants.{Base}
use Rattle.um_units.specs.declared.Term.{Term}
use Rattle.um_units.specs.PowerMap.{product}
use Rattle.um_units.specs.Range.{fits}
use Rattle.um_units.proofs.Equality.{product-of_terms}
use Rattle.um_units.proofs.InRange.{fits_from_powers}
use Rattle.um_units.specs.declared.wide.WideTerm.{WideTerm}
use Rattle.um_units.specs.Wide.{as_term}
use Rattle.um_kept.specs.Formed.{IsPowerIn}
use Rattle.um_kept.proofs.Limits.{narrow32, power_held}
use Rattle.um_kept.proofs.past.narrow_unit.Goals as goal

pub overflow_cast-term : goal.overflow_cast-term
overflow_cast-term c =
    let ws = c.terms-term-items.result.now in
    let d : WideTerm = record { atom = Base 0; power = pos 0 } in
    let w = slice_index_or ws c.loop-term.term-index d in
    let inside : c.loop-term.term-index < length ws = search rules in
    let at : IsPowerIn w.power c.args.wide.now = power_held ws c.args.wide.now c.loop-term.term-index d c.terms-term-items.ensures.terms inside in
    let low : nat_abs w.power ≤ 2147483647 = subst (λ z. nat_abs z ≤ 2147483647) at.1 (c.requires at.0) in
    let same : to_z w128 (of_z w128 w.power) ≡ w.power = to_z-of_z w128 w.power (search rules) in
    subst (FitsSigned w32) (sym same) (narrow32 w.power low)

pub loop-term-preserved : goal.loop-term-preserved
loop-term-preserved c =
    let ws = c.terms-term-items.result.now in
    let d : WideTerm = record { atom = Base 0; power = pos 0 } in
    let w = slice_index_or ws c.loop-term.term-index d in
    let inside : c.loop-term.term-index < length ws = search rules in
    let at : IsPowerIn w.power c.args.wide.now = power_held ws c.args.wide.now c.loop-term.term-index d c.terms-term-items.ensures.terms inside in
    let low : nat_abs w.power ≤ 2147483647 = subst (λ z. nat_abs z ≤ 2147483647) at.1 (c.requires at.0) in
    let same : to_z w128 (of_z w128 w.power) ≡ w.power = to_z-of_z w128 w.power (search rules) in
    let kept : to_z w32 (of_z w32 (to_z w128 (of_z w128 w.power))) ≡ w.power = ap (λ z. to_z w32 (of_z w32 z)) same ∙ to_z-of_z w32 w.power (narrow32 w.power low) in
    c.in_ok-push.ensures.items
    ∙ ap (λ (ts : List Term). ts ++ record { atom = w.atom; power = to_z w32 (of_z w32 (to_z w128 (of_z w128 w.power))) } ∷ []) c.loop-term.invariant
    ∙ ap (λ z. map as_term (take c.loop-term.term-index ws) ++ record { atom = w.atom; power = z } ∷ []) kept
    ∙ sym (ap (map as_term) (take_more ws c.loop-term.term-index d inside) ∙ map-append as_term (take c.loop-term.term-index ws) (w ∷ []))

pub returns-in-Ok : goal.returns-in-Ok
returns-in-Ok c =
    let ws = c.terms-term-items.result.now in
    let past = c.loop-term-test.false in
    let all : take c.loop-term.term-index ws ≡ ws = take_all c.loop-term.term-index ws (omega (arith, past)) in
    let terms : c.deref.result.now ≡ c.args.wide.now.terms = c.deref.ensures.value ∙ c.loop-term.invariant ∙ ap (map as_term) all ∙ c.terms-term-items.ensures.terms in
    let made : product c.deref.result.now ≡ c.args.wide.now = ap product terms ∙ product-of_terms c.args.wide.now in
    c.in-Ok.ensures.exact ∙ made

pub unreachable-requires : goal.unreachable-requires
unreachable-requires c =
    let ws = c.terms-term-items.result.now in
    let past = c.loop-term-test.false in
    let all : take c.loop-term.term-index ws ≡ ws = take_all c.loop-term.term-index ws (omega (arith, past)) in
    let terms : c.deref.result.now ≡ c.args.wide.now.terms = c.deref.ensures.value ∙ c.loop-term.invariant ∙ ap (map as_term) all ∙ c.terms-term-items.ensures.terms in
    let made : product c.deref.result.now ≡ c.args.wide.now = ap product terms ∙ product-of_terms c.args.wide.now in
    let good : fits (product c.deref.result.now) ≡ true = ap fits made ∙ fits_from_powers c.args.wide.now c.requires in
    let bad : fits (product c.deref.result.now) ≡ false = rw c.in-Err-Range.field-0-is at c.in-Err-Range.ensures.range in
    cc
