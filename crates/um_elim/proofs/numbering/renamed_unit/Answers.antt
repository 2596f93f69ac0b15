use Rattle.std.proofs.Common.{◌≡◌, ℕ, true, false, map, ap, ◌∙◌}
use Rattle.std.specs.Prelude.{IsTrue}
use Rattle.um_units.specs.PowerMap.{product}
use Rattle.um_units.specs.Range.{fits}
use Rattle.um_tree.specs.Scheme.{unit_variables}
use Rattle.um_elim.specs.Order.{placed_term, with_variables}
use Rattle.um_elim.proofs.FirstOccurrences.{member}
use Rattle.um_elim.proofs.RenamedUnits.{term_variables, product-placed, fits-renamed}
use Rattle.um_elim.proofs.GrowingOrder.{inside_with}
use Rattle.um_elim.proofs.numbering.renamed_unit.Goals as goal

pub returns-in-Ok-clause-renamed : goal.returns-in-Ok-clause-renamed
returns-in-Ok-clause-renamed c =
    let o = c.renamed_terms.new.order in
    c.in-Ok.ensures.exact ∙ ap product (c.deref.ensures.value ∙ c.in_ok-terms.ensures.renamed ∙ ap (map (placed_term o)) c.terms.ensures.terms) ∙ product-placed o c.args.unit.now

pub unreachable-requires : goal.unreachable-requires
unreachable-requires c =
    let o = c.renamed_terms.new.order in
    let u = c.args.unit.now in
    let inside : (k : ℕ) → IsTrue (member k (unit_variables u)) → IsTrue (member k o) = λ k h. ap (member k) (c.in_ok-terms.ensures.order ∙ ap (λ ts. with_variables c.args.order.now (term_variables ts)) c.terms.ensures.terms) ∙ inside_with c.args.order.now (unit_variables u) k h in
    let same = c.deref.ensures.value ∙ c.in_ok-terms.ensures.renamed ∙ ap (map (placed_term o)) c.terms.ensures.terms in
    let fit : fits (product c.deref.result.now) ≡ true = ap (λ ts. fits (product ts)) same ∙ ap fits (product-placed o u) ∙ fits-renamed o u inside c.terms.ensures.fits in
    let bad : fits (product c.deref.result.now) ≡ false = rw c.in-Err-Range.field-0-is at c.in-Err-Range.ensures.range in
    cc
