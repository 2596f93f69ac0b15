use Rattle.std.proofs.Common.{rules, ◌≡◌, ℕ, zero, suc, ◌+◌, ◌<◌, List, [], ◌∷◌, ◌++◌, length, map, take, get_or, pos, nat_abs, to_z, of_z, w32, sym, ap, subst, ◌∙◌, arith}
use Rattle.std.specs.Prelude.{IsTrue}
use Rattle.std.specs.Int.Signed.{◌<ℤ◌}
use Rattle.std.proofs.lemmas.Bool.{and_parts}
use Rattle.std.proofs.lemmas.Int.{to_z-of_z}
use Rattle.std.proofs.lemmas.List.{take_more, map-append}
use Rattle.um_units.specs.declared.Atom.TheVariants.{Base}
use Rattle.um_units.specs.declared.Term.{Term}
use Rattle.um_units.specs.Range.{in_range, all_in_range}
use Rattle.um_pivots.specs.Quotients.{less_quotient}
use Rattle.um_elim.proofs.elim_step.negated_quotients.Goals as goal

abbrev none : Term
none = record { atom = Base 0; power = pos 0 }

in_range_at : (ts : List Term) (i : ℕ) (d : Term) → i < length ts → IsTrue (all_in_range ts) → IsTrue (in_range (get_or ts i d).power)
in_range_at [] i d l h = absurd (omega (arith, l))
in_range_at (t ∷ ts) zero d l h = (and_parts (in_range t.power) (all_in_range ts) h).0
in_range_at (t ∷ ts) (suc i) d l h = in_range_at ts i d (omega (arith, l)) (and_parts (in_range t.power) (all_in_range ts) h).1

mapped_more : (f : Term → Term) (ts : List Term) (i : ℕ) (d : Term) → i < length ts → map f (take (i + 1) ts) ≡ map f (take i ts) ++ f (get_or ts i d) ∷ []
mapped_more f ts i d l = ap (map f) (take_more ts i d l) ∙ map-append f (take i ts) (get_or ts i d ∷ [])

pub negated_quotient-requires : goal.negated_quotient-requires
negated_quotient-requires c = record {
  range = in_range_at c.args.terms.now c.loop-term.term-index none c.loop-term-test.true c.requires.range;
  p = subst (λ z. pos 0 <ℤ z) (sym (to_z-of_z w32 c.args.p c.ranges.p)) c.requires.p;
}

pub loop-term-preserved : goal.loop-term-preserved
loop-term-preserved c =
    let ts = c.args.terms.now in
    let i = c.loop-term.term-index in
    let f = less_quotient c.args.m (nat_abs (to_z w32 (of_z w32 c.args.p))) in
    let made = c.negated_quotient.result in
    let items : c.push.new.self.items ≡ c.loop-term.out.items ++ made ∷ [] = search rules in
    items ∙ ap (λ us. us ++ made ∷ []) c.loop-term.invariant ∙ ap (λ u. map f (take i ts) ++ u ∷ []) c.negated_quotient.ensures ∙ sym (mapped_more f ts i none c.loop-term-test.true)
