use Rattle.std.proofs.Common.{rules, ◌≡◌, ◌≤◌, ◌+◌, ◌++◌, ◌∷◌, [], ◌∙◌, IsTrue, length, map, take, sym, ap, subst, arith}
use Rattle.std.specs.List.{list_all}
use Rattle.std.proofs.lemmas.List.{map-append, take_all, take_more}
use Rattle.um_units.specs.PowerMap.{nth, replace}
use Rattle.um_units.specs.Range.{fits}
use Rattle.um_elim.proofs.Changes.{all_map_more}
use Rattle.um_elim.proofs.application.stay_in_units.Goals as goal

pub loop-unit-preserved : goal.loop-unit-preserved
loop-unit-preserved c =
    let f = replace (nth c.args.by.now) in
    let us = c.args.units.now in
    let k = c.loop-unit.unit-index in
    let u = c.unit-item.result in
    let yes : IsTrue c.stays.result = search rules in
    let same = c.stays.ensures.stays yes in
    let more : take (k + 1) us ≡ take k us ++ u ∷ [] = take_more us k u c.loop-unit-test.true ∙ ap (λ v. take k us ++ v ∷ []) (sym c.unit-item.is) in
    record {
      stay = ap (map f) more ∙ map-append f (take k us) (u ∷ []) ∙ (λ j. c.loop-unit.invariant.stay j ++ same j ∷ []) ∙ sym more;
      fit = all_map_more fits f us k u c.loop-unit-test.true c.loop-unit.invariant.fit (subst (λ v. IsTrue (fits (f v))) c.unit-item.is (subst (λ v. IsTrue (fits v)) (sym same) c.stays.ensures.fits));
    }

pub returns-clause-stay : goal.returns-clause-stay
returns-clause-stay c = λ h.
    let us = c.args.units.now in
    let past = c.loop-unit-test.false in
    let all : length us ≤ c.loop-unit.unit-index = omega (arith, past) in
    subst (λ vs. map (replace (nth c.args.by.now)) vs ≡ vs) (take_all c.loop-unit.unit-index us all) c.loop-unit.invariant.stay

pub returns-clause-fit : goal.returns-clause-fit
returns-clause-fit c = λ h.
    let f = replace (nth c.args.by.now) in
    let us = c.args.units.now in
    let past = c.loop-unit-test.false in
    let all : length us ≤ c.loop-unit.unit-index = omega (arith, past) in
    let whole = take_all c.loop-unit.unit-index us all in
    subst (λ vs. IsTrue (list_all fits vs)) (subst (λ vs. map f vs ≡ vs) whole c.loop-unit.invariant.stay) (subst (λ vs. IsTrue (list_all fits (map f vs))) whole c.loop-unit.invariant.fit)
