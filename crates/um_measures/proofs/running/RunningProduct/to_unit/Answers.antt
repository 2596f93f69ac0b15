use Rattle.std.proofs.Common.{◌≡◌, true, false, ap, ◌∙◌}
use Rattle.um_units.specs.PowerMap.{product}
use Rattle.um_units.specs.Range.{fits}
use Rattle.um_measures.proofs.RunningProducts.{fits-powers}
use Rattle.um_measures.proofs.running.RunningProduct.to_unit.Goals as goal

pub unreachable-requires : goal.unreachable-requires
unreachable-requires c =
    let fit : fits (product c.deref.result.now) ≡ true = ap (λ ts. fits (product ts)) c.deref.ensures.value ∙ fits-powers c.self.inside.powers c.self.inside.terms.items c.self.invariant in
    let bad : fits (product c.deref.result.now) ≡ false = rw c.in-Err-Range.field-0-is at c.in-Err-Range.ensures.range in
    cc

pub returns-in-Ok : goal.returns-in-Ok
returns-in-Ok c = c.in-Ok.ensures.exact ∙ ap product c.deref.ensures.value ∙ c.self.view_is
