use Rattle.std.proofs.Common.{◌≡◌, true, false, filter, ap, ◌∙◌}
use Rattle.um_units.specs.declared.Term.{Term}
use Rattle.um_units.specs.PowerMap.{product}
use Rattle.um_units.specs.Range.{fits}
use Rattle.um_proof.specs.Renaming.{is_base}
use Rattle.um_proof.proofs.Closed.{closed_is, closed_fits}
use Rattle.um_proof.proofs.yes.closed.Goals as goal

pub returns-in-Ok : goal.returns-in-Ok
returns-in-Ok c =
    c.in-Ok.ensures.exact ∙ ap product (c.deref.ensures.value ∙ c.in_ok-terms.ensures ∙ ap (filter (λ (t : Term). is_base t.atom)) c.terms.ensures.terms) ∙ closed_is c.args.unit.now

pub unreachable-requires : goal.unreachable-requires
unreachable-requires c =
    let u = c.args.unit.now in
    let same = c.deref.ensures.value ∙ c.in_ok-terms.ensures ∙ ap (filter (λ (t : Term). is_base t.atom)) c.terms.ensures.terms in
    let fit : fits (product c.deref.result.now) ≡ true = ap (λ ts. fits (product ts)) same ∙ ap fits (closed_is u) ∙ closed_fits u c.terms.ensures.fits in
    let bad : fits (product c.deref.result.now) ≡ false = rw c.in-Err-Range.field-0-is at c.in-Err-Range.ensures.range in
    cc
