use Rattle.std.proofs.Common.{◌∙◌, refl, arith, ◌<◌, length, map, subst}
use Rattle.std.proofs.lemmas.List.{get_or-map, ext_get_or, length-map}
use Rattle.um_units.specs.PowerMap.{one, replace, nth}
use Rattle.um_check.proofs.becomes.all_become.Goals as goal

pub returns : goal.returns
returns c =
    let f = replace (nth c.args.by.now) in
    let us = c.args.units.now in (
      (λ _. ext_get_or one (map f us) c.args.wanted.now (length-map us f ∙ c.if-units-wanted.false) (λ i h.
          let k : i < length us = subst (λ n. i < n) (length-map us f) h in
          get_or-map f us i one one k ∙ c.loop-i.invariant i (let g = c.loop-i-test.false in omega (arith, k, g)))),
      (λ _. refl),
    )
