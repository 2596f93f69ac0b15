use Rattle.std.proofs.Common.{◌≡◌, ap, ◌∙◌, sym, refl, arith, below_more}
use Rattle.std.proofs.lemmas.List.{get_or-map, length-map}
use Rattle.std.proofs.lemmas.List.Elements.{All-get_or, All-from_get_or}
use Rattle.um_units.specs.PowerMap.{PowerMap, one, replace, nth}
use Rattle.um_equal_types.specs.declared.row.Row.{Row}
use Rattle.um_equal_types.specs.Steps.{units_of}
use Rattle.um_check.proofs.becomes.solves.Goals as goal

abbrev unit_of : Row → PowerMap
unit_of r = r.unit

pub returns-then-not-branch : goal.returns-then-not-branch
returns-then-not-branch c = (
  (λ g. cc),
  (λ h.
      let rows = c.args.rows.now in
      let i = c.loop-row.row-index in
      let here = All-get_or (λ row. replace (nth c.args.units.now) row ≡ one) (units_of rows) i one (let l = length-map rows unit_of in let t = c.loop-row-test.true in omega (arith, l, t)) h in
      let same = get_or-map unit_of rows i c.row-item.result one c.loop-row-test.true ∙ ap unit_of (sym c.row-item.is) in
      let yet = c.in_ok-becomes.ensures.1 (ap (replace (nth c.args.units.now)) (sym same) ∙ here ∙ sym c.one-one.ensures.exact) in
      sym c.if-not-branch.true ∙ yet),
)

pub loop-row-preserved : goal.loop-row-preserved
loop-row-preserved c =
    let rows = c.args.rows.now in
    let i = c.loop-row.row-index in
    let same = get_or-map unit_of rows i c.row-item.result one c.loop-row-test.true ∙ ap unit_of (sym c.row-item.is) in
    below_more _ _ c.loop-row.invariant (ap (replace (nth c.args.units.now)) same ∙ c.in_ok-becomes.ensures.0 c.if-not-branch.false ∙ c.one-one.ensures.exact)

pub returns : goal.returns
returns c = (
  (λ _. All-from_get_or (λ row. replace (nth c.args.units.now) row ≡ one) (units_of c.args.rows.now) one
      (λ i h. c.loop-row.invariant i (let g = c.loop-row-test.false in let l = length-map c.args.rows.now unit_of in omega (arith, h, g, l)))),
  (λ _. refl),
)
