use Rattle.std.proofs.Common.{◌≡◌, true, false, map, ap, ◌∙◌}
use Rattle.um_units.specs.PowerMap.{product}
use Rattle.um_units.specs.Range.{fits}
use Rattle.um_elim.proofs.VariablesKept.{unit_below}
use Rattle.um_rows.specs.Generalised.{generalised_term}
use Rattle.um_rows.proofs.GeneralisedUnits.{product-generalised, fits-generalised}
use Rattle.um_infer.proofs.general.generalised_unit.Goals as goal

pub returns-in-Ok : goal.returns-in-Ok
returns-in-Ok c =
    let term = generalised_term c.args.bases c.args.parameters c.args.slots in
    c.in-Ok.ensures.exact ∙ ap product (c.deref.ensures.value ∙ c.in_ok-terms.ensures ∙ ap (map term) c.terms.ensures.terms) ∙ product-generalised c.args.bases c.args.parameters c.args.slots c.args.unit.now

pub unreachable-requires : goal.unreachable-requires
unreachable-requires c =
    let b = c.args.bases in
    let p = c.args.parameters in
    let n = c.args.slots in
    let u = c.args.unit.now in
    let same = c.deref.ensures.value ∙ c.in_ok-terms.ensures ∙ ap (map (generalised_term b p n)) c.terms.ensures.terms in
    let fit : fits (product c.deref.result.now) ≡ true = ap (λ ts. fits (product ts)) same ∙ ap fits (product-generalised b p n u) ∙ fits-generalised b p n u (unit_below n u c.requires.variables) c.terms.ensures.fits in
    let bad : fits (product c.deref.result.now) ≡ false = rw c.in-Err-Range.field-0-is at c.in-Err-Range.ensures.range in
    cc
