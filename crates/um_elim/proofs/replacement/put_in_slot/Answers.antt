use Rattle.std.proofs.Common.{◌≡◌, sym, ap, subst, ◌∙◌, length, get_or, set}
use Rattle.std.specs.Prelude.{IsTrue}
use Rattle.std.proofs.lemmas.List.{get_or_read}
use Rattle.um_units.specs.PowerMap.{one, replace}
use Rattle.um_units.specs.Range.{fits}
use Rattle.um_units.specs.Variables.{variables_below}
use Rattle.um_units.proofs.Variables.{variables_below-from_VariablesBelow}
use Rattle.um_elim.specs.ElimStep.{multiply}
use Rattle.um_elim.specs.Index.{followed_terms}
use Rattle.um_elim.proofs.LastStep.{over_variable}
use Rattle.um_elim.proofs.IndexBut.{IsIndexBut, length-but, index_put}
use Rattle.um_elim.proofs.replacement.put_in_slot.Goals as goal

pub follow_terms-requires : goal.follow_terms-requires
follow_terms-requires c =
    let w = c.args.replacement.now.factor.now in
    subst (λ ts. IsTrue (variables_below (length c.args.index.now.items) ts)) (sym c.terms.ensures.terms)
    (subst (λ n. IsTrue (variables_below n w.terms)) (sym (length-but c.args.replacement.now.variable c.args.units.now.items c.args.index.now.items c.requires.indexed)) (variables_below-from_VariablesBelow (length c.args.units.now.items) w c.requires.variables))

pub returns-clause-indexed : goal.returns-clause-indexed
returns-clause-indexed c =
    let us = c.args.units.now.items in
    let index = c.args.index.now.items in
    let i = c.args.slot in
    let m = c.args.replacement.now.variable in
    let w = c.args.replacement.now.factor.now in
    let f = replace (multiply m (over_variable m w)) in
    let old = get_or us i one in
    let first : c.index.result.now ≡ old = get_or_read us i _ c.requires.slot c.index.ensures one in
    let second : c.index-2.result.now ≡ old = get_or_read us i _ c.requires.slot c.index-2.ensures one in
    let made : c.in_ok-unit.unit ≡ f old = c.in_ok-unit.ensures.exact ∙ ap (replace (multiply m c.args.replacement.now.change.now)) first ∙ ap (λ v. replace (multiply m v) old) c.args.replacement.now.over in
    let fit : IsTrue (fits (f old)) = subst (λ v. IsTrue (fits (replace (multiply m v) old))) c.args.replacement.now.over (subst (λ u. IsTrue (fits (replace (multiply m c.args.replacement.now.change.now) u))) first c.in_ok-unit.ensures.range) in
    let follows : c.follow_terms.new.index.items ≡ followed_terms index w.terms i old (f old) =
    c.in_ok-follow_terms.ensures
    ∙ ap (λ ts. followed_terms index ts i c.index-2.result.now c.in_ok-unit.unit) c.terms.ensures.terms
    ∙ ap (λ u. followed_terms index w.terms i u c.in_ok-unit.unit) second
    ∙ ap (followed_terms index w.terms i old) made in
    subst (λ v. IsIndexBut m (set us i v) c.follow_terms.new.index.items) (sym made)
    (subst (IsIndexBut m (set us i (f old))) (sym follows) (index_put m us index i w c.requires.indexed c.requires.variable c.requires.slot c.requires.variables fit))
