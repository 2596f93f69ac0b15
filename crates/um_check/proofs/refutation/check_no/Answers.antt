use Rattle.std.proofs.Common.{suc, length, add-one, ap, ◌∙◌, subst, arith, rules, to_z, of_z, w64, FitsSigned}
use Rattle.std.proofs.lemmas.Int.{ints, to_z-of_z}
use Rattle.std.proofs.lemmas.List.{length-map}
use Rattle.um_units.specs.PowerMap.{PowerMap}
use Rattle.um_equal_types.specs.declared.row.Row.{Row}
use Rattle.um_equal_types.specs.Steps.{units_of}
use Rattle.um_check.specs.Combination.{combined, NamesRowsBelow}
use Rattle.um_check.proofs.Refutations.{no_judged, valid_no_refutes}
use Rattle.um_check.proofs.refutation.check_no.Goals as goal

abbrev unit_of : Row → PowerMap
unit_of r = r.unit

pub returns-clause-exact : goal.returns-clause-exact
returns-clause-exact c =
    let cert = c.args.cert.now in
    let list = c.args.rows.now.list.items.items in
    let rows = units_of list in
    let m = to_z w64 (of_z w64 cert.modulus) in
    let f : FitsSigned w64 cert.modulus = search rules in
    let low = c.if-cert-lt2.false in
    let inside = c.if-cert-list.false in
    let all = length-map list unit_of in
    let same = ap length c.deref-list.ensures.value in
    let named : NamesRowsBelow (suc cert.last) cert.parts =
    subst (NamesRowsBelow (suc cert.last)) c.as_slice-parts.ensures.items (subst (λ n. NamesRowsBelow n c.as_slice-parts.result.now) (add-one cert.last) (c.names_below.ensures.0 c.if-not-names_below.false)) in
    no_judged c.args.bases c.args.units c.fixed_slots-fixed.result rows cert m c.as_slice-parts.result.now c.in_ok-product.product c.is_apart-apart.result (omega (arith, ints, low)) (omega (arith, inside, all, same)) named (to_z-of_z w64 cert.modulus f)
    c.as_slice-parts.ensures.items c.fixed_slots-fixed.ensures (c.in_ok-product.ensures.product ∙ ap (λ rs. combined (units_of rs) c.as_slice-parts.result.now) c.deref-list.ensures.value) c.is_apart-apart.ensures

pub returns-clause-refutes : goal.returns-clause-refutes
returns-clause-refutes c h = valid_no_refutes c.args.bases c.args.units (units_of c.args.rows.now.list.items.items) c.args.cert.now ((returns-clause-exact c).0 h)
