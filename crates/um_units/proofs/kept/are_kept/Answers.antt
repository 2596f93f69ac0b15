use Rattle.std.proofs.Common.{◌≡◌, ◌-◌, ◌∷◌, length, pos, drop, take, take_all, get_or, refl, sym, subst, rules, arith, length-drop}
use Rattle.std.specs.Prelude.{IsTrue}
use Rattle.std.proofs.lemmas.List.{drop_all}
use Rattle.um_units.specs.declared.Atom.TheVariants.{Base}
use Rattle.um_units.specs.declared.Term.{Term}
use Rattle.um_units.specs.Range.{IsKept}
use Rattle.um_units.proofs.KeptTerms.{kept_more}
use Rattle.um_units.proofs.kept.are_kept.Goals as goal

abbrev none : Term
none = record { atom = Base 0; power = pos 0 }

pub loop-k-init : goal.loop-k-init
loop-k-init c = record {
  within = omega arith;
  kept = subst IsKept (sym (drop_all (length c.args.terms.now) c.args.terms.now (omega arith))) (record { normal = refl; fit = refl });
}

pub loop-k-preserved : goal.loop-k-preserved
loop-k-preserved c =
    let ts = c.args.terms.now in
    let k = c.loop-k.k in
    let some = c.loop-k-test.true in
    let within = c.loop-k.invariant.within in
    let yes : IsTrue c.goes_first.result = search rules in
    let rest : take (length ts - k) (drop k ts) ≡ drop k ts = take_all (length ts - k) (drop k ts) (omega (arith, length-drop k ts)) in
    record {
      within = omega (arith, within);
      kept = kept_more ts k none some within (subst (λ others. IsKept (get_or ts (k - 1) none ∷ others)) rest (c.goes_first.ensures yes));
    }

pub returns : goal.returns
returns c = λ h.
    let end : c.loop-k.k ≡ 0 = omega (arith, c.loop-k-test.false) in
    subst (λ k. IsKept (drop k c.args.terms.now)) end c.loop-k.invariant.kept
