use Rattle.std.proofs.Common.{◌<◌, ◌∙◌, ℤ, pos, take, length, get_or, w32, FitsSigned, sym, ap, subst, rules}
use Rattle.std.proofs.lemmas.Int.{to_z-of_z}
use Rattle.um_units.specs.declared.Atom.TheVariants.{Base}
use Rattle.um_units.specs.declared.Term.{Term}
use Rattle.um_units.specs.PowerMap.{product, images, image, mul, pow, nth}
use Rattle.um_wide.specs.Room.{IsNarrow}
use Rattle.um_reasons.proofs.WideProducts.{narrow_one, images_more}
use Rattle.um_reasons.proofs.powers.put.Goals as goal

abbrev none : Term
none = record { atom = Base 0; power = pos 0 }

pub loop-term-init : goal.loop-term-init
loop-term-init c = record { exact = c.one-made.ensures.exact; narrow = subst IsNarrow (sym c.one-made.ensures.exact) narrow_one }

pub loop-term-preserved : goal.loop-term-preserved
loop-term-preserved c =
    let ws = c.terms-term-items.result.now in
    let ts = c.args.row.now.terms in
    let s = nth c.args.units.now in
    let i = c.loop-term.term-index in
    let inside : i < length ws = search rules in
    let t = get_or ws i none in
    let f : FitsSigned w32 t.power = search rules in
    record {
      exact = c.in_ok-made.ensures.exact
          ∙ ap (λ (z : ℤ). mul c.loop-term.made (pow (image s t.atom) z)) (to_z-of_z w32 t.power f)
          ∙ ap (λ u. mul u (pow (image s t.atom) t.power)) c.loop-term.invariant.exact
          ∙ ap (λ us. mul (product (images s (take i ts))) (pow (image s (get_or us i none).atom) (get_or us i none).power)) c.terms-term-items.ensures.terms
          ∙ images_more s ts i none (subst (λ us. i < length us) c.terms-term-items.ensures.terms inside);
      narrow = c.in_ok-made.ensures.narrow;
    }
