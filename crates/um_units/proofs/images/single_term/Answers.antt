use Rattle.std.proofs.Common.{◌≡◌, ◌∷◌, [], sym, subst, rules, map, pos, w32, FitsSigned, ℤ}
use Rattle.std.specs.Prelude.{IfOk}
use Rattle.std.proofs.lemmas.Int.{to_z-of_z}
use Rattle.um_units.specs.PowerMap.{product, scale}
use Rattle.um_units.specs.Wide.{as_terms}
use Rattle.um_units.proofs.Group.{terms-atom}
use Rattle.um_units.proofs.images.single_term.Goals as goal

pub returns-clause-power : goal.returns-clause-power
returns-clause-power c =
    let f : FitsSigned w32 c.args.term.power = search rules in
    subst (λ ts. IfOk c.scaled.result (λ v. as_terms v.items ≡ (product (map (scale c.args.term.power) ts)).terms)) (sym (terms-atom c.args.term.atom))
    (subst (λ (z : ℤ). IfOk c.scaled.result (λ v. as_terms v.items ≡ (product (map (scale z) (record { atom = c.args.term.atom; power = pos 1 } ∷ []))).terms)) (to_z-of_z w32 c.args.term.power f) c.scaled.ensures.power)
