use Rattle.std.proofs.Common.{◌<◌, ◌∷◌, List, length, pos, sym, subst, rules}
use Rattle.std.specs.Prelude.{IsTrue}
use Rattle.um_units.specs.declared.Atom.TheVariants.{Base}
use Rattle.um_units.specs.declared.Term.{Term}
use Rattle.um_units.specs.Range.{IsKept}
use Rattle.um_units.proofs.KeptTerms.{kept_first, kept_single}
use Rattle.um_units.proofs.MergeLemmas.{empty}
use Rattle.um_units.proofs.kept.goes_first.Goals as goal

abbrev none : Term
none = record { atom = Base 0; power = pos 0 }

pub returns-then-is_empty : goal.returns-then-is_empty
returns-then-is_empty c = λ h.
    let yes : IsTrue c.is_kept.result = search rules in
    subst (λ (ts : List Term). IsKept (c.args.term ∷ ts)) (sym (empty c.args.others.now (search rules))) (kept_single c.args.term (c.is_kept.ensures.nonzero yes) (c.is_kept.ensures.fit yes))

pub returns : goal.returns
returns c = λ h.
    let yes : IsTrue c.is_kept.result = search rules in
    let some : 0 < length c.args.others.now = search rules in
    kept_first c.args.term c.args.others.now none (c.is_kept.ensures.nonzero yes) (c.is_kept.ensures.fit yes) some (c.comes_before.ensures h) c.requires
