use Rattle.std.proofs.Common.{◌≡◌, ◌<◌, ◌∙◌, ap, subst, length, set, arith}
use Rattle.std.proofs.lemmas.List.{get_or_read}
use Rattle.std.proofs.lemmas.Result.{err_from_is_err_and}
use Rattle.um_units.specs.declared.Atom.TheVariants.{Var}
use Rattle.um_units.specs.PowerMap.{atom, mul, inv, replace, nth}
use Rattle.um_rows.specs.Generalised.{generalised_unit}
use Rattle.um_kept.specs.Answers.{CarriesPower}
use Rattle.um_kept.proofs.kept.divide_back.Goals as goal

pub returns-in_err-back-clause-range : goal.returns-in_err-back-clause-range
returns-in_err-back-clause-range c =
    let p = err_from_is_err_and c.from_residual-in_err-back.result c.from_residual-in_err-back.ensures.1 in
    let bs = c.args.back.now.items in
    let x = c.args.step.now.variable in
    let h = c.args.head in
    let u = generalised_unit h.bases h.parameters h.slots c.args.step.now.by in
    let low : x < length bs = (let n = c.requires.count in let v = c.requires.variable in omega (arith, n, v)) in
    let at : c.index.result.now ≡ nth bs x = get_or_read bs x _ low c.index.ensures (atom (Var x)) in
    let image = c.in_ok-image.ensures.exact ∙ ap (λ vs. inv (replace (nth vs) u)) c.deref.ensures.value in
    let same = ap (λ v. mul v c.in_ok-image.image) at ∙ ap (mul (nth bs x)) image in
    rw (p.1, p.2) (subst (λ v. CarriesPower 2147483647 v c.in_err-back.field-0.0) same c.in_err-back.ensures)

pub returns-clause-exact : goal.returns-clause-exact
returns-clause-exact c =
    let bs = c.args.back.now.items in
    let x = c.args.step.now.variable in
    let h = c.args.head in
    let u = generalised_unit h.bases h.parameters h.slots c.args.step.now.by in
    let low : x < length bs = (let n = c.requires.count in let v = c.requires.variable in omega (arith, n, v)) in
    let at : c.index.result.now ≡ nth bs x = get_or_read bs x _ low c.index.ensures (atom (Var x)) in
    let image = c.in_ok-image.ensures.exact ∙ ap (λ vs. inv (replace (nth vs) u)) c.deref.ensures.value in
    ap (set bs x) (c.in_ok-back.ensures ∙ ap (λ v. mul v c.in_ok-image.image) at ∙ ap (mul (nth bs x)) image)
