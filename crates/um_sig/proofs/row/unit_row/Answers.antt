use Rattle.std.proofs.Common.{◌≡◌, ◌++◌, map, ap, ◌∙◌, subst, sym}
use Rattle.std.specs.Prelude.{All, IfOk}
use Rattle.um_units.specs.declared.Term.{Term}
use Rattle.um_units.specs.PowerMap.{PowerMap, product}
use Rattle.um_units.specs.Range.{fits, RangeUnless}
use Rattle.um_sig.specs.Matching.{unit_row}
use Rattle.um_sig.specs.Steps.{HasRoom, inverse_term}
use Rattle.um_sig.proofs.RowLaws.{product-row, terms_room}
use Rattle.um_sig.proofs.row.unit_row.Goals as goal

pub row_terms-requires-clause-room : goal.row_terms-requires-clause-room
row_terms-requires-clause-room c =
    subst (All (λ (t : Term). HasRoom c.args.bases t.atom)) (sym c.terms-2.ensures.terms) (terms_room c.args.bases c.args.other.now c.requires.room)

pub returns-clause-exact : goal.returns-clause-exact
returns-clause-exact c =
    let b = c.args.bases in
    let u = c.args.own.now in
    let v = c.args.other.now in
    let whole : product c.deref.result.now ≡ unit_row b u v =
    ap product (c.deref.ensures.value ∙ c.in_ok-terms.ensures ∙ ap (λ ts. ts ++ map (inverse_term b) c.terms-2.result.now) c.terms.ensures.terms ∙ ap (λ ts. u.terms ++ map (inverse_term b) ts) c.terms-2.ensures.terms)
    ∙ product-row b u v in
    subst (λ (w : PowerMap). IfOk c.from_terms.result (λ row. row ≡ w)) whole c.from_terms.ensures.exact

pub returns-clause-range : goal.returns-clause-range
returns-clause-range c =
    let b = c.args.bases in
    let u = c.args.own.now in
    let v = c.args.other.now in
    let whole : product c.deref.result.now ≡ unit_row b u v =
    ap product (c.deref.ensures.value ∙ c.in_ok-terms.ensures ∙ ap (λ ts. ts ++ map (inverse_term b) c.terms-2.result.now) c.terms.ensures.terms ∙ ap (λ ts. u.terms ++ map (inverse_term b) ts) c.terms-2.ensures.terms)
    ∙ product-row b u v in
    subst (λ (w : PowerMap). RangeUnless c.from_terms.result (fits w)) whole c.from_terms.ensures.range
