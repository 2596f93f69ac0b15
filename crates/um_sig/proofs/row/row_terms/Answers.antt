use Rattle.std.proofs.Common.{◌≡◌, ◌-ℤ◌, ◌*ℤ◌, pos, negsuc, to_z, of_z, w32, get_or, FitsSigned, ap, subst, sym, ◌∙◌, arith, rules}
use Rattle.std.proofs.lemmas.Int.{ints, to_z-of_z}
use Rattle.um_units.specs.declared.Atom.TheVariants.{Base}
use Rattle.um_units.specs.declared.Term.{Term}
use Rattle.um_sig.proofs.RowLaws.{negated_fits, terms_more}
use Rattle.um_sig.proofs.row.row_terms.Goals as goal

abbrev none : Term
none = record { atom = Base 0; power = pos 0 }

pub loop-term-preserved : goal.loop-term-preserved
loop-term-preserved c =
    let x = get_or c.args.other.now c.loop-term.term-index none in
    let f : FitsSigned w32 x.power = search rules in
    let g : FitsSigned w32 (pos 0 -ℤ to_z w32 (of_z w32 x.power)) =
    subst (λ z. FitsSigned w32 (pos 0 -ℤ z)) (sym (to_z-of_z w32 x.power f)) (negated_fits c.args.other.now c.loop-term.term-index none c.loop-term-test.true c.requires.range) in
    let negated : pos 0 -ℤ x.power ≡ negsuc 0 *ℤ x.power = omega (arith, ints) in
    let power = to_z-of_z w32 (pos 0 -ℤ to_z w32 (of_z w32 x.power)) g ∙ ap (λ z. pos 0 -ℤ z) (to_z-of_z w32 x.power f) ∙ negated in
    terms_more c.args.bases c.args.own.now c.args.other.now c.loop-term.term-index none c.loop-term.out.items c.push.new.self.items _
    c.loop-term-test.true c.loop-term.invariant c.in_ok-push.ensures.items (λ j. record { atom = c.fixed_atom.ensures j; power = power j })
