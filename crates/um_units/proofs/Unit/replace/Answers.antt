use Rattle.std.proofs.Common.{◌≡◌, ◌∙◌, [], sym, ap, get_or, pos, rules}
use Rattle.um_units.specs.declared.Atom.TheVariants.{Base}
use Rattle.um_units.specs.declared.Term.{Term}
use Rattle.um_units.specs.PowerMap.{product, images, nth}
use Rattle.um_units.specs.Range.{fits}
use Rattle.um_units.proofs.InRange.{fits-one}
use Rattle.um_units.proofs.MergeLemmas.{empty}
use Rattle.um_units.proofs.ShortUnits.{only_term, one_term}
use Rattle.um_units.proofs.Unit.replace.Goals as goal

abbrev none : Term
none = record { atom = Base 0; power = pos 0 }

pub returns-then-is_empty-clause-exact : goal.returns-then-is_empty-clause-exact
returns-then-is_empty-clause-exact c =
    let none : c.terms.result.now ≡ [] = empty _ (search rules) in
    c.one.ensures.exact ∙ sym (ap (λ ts. product (images (nth c.args.by.now) ts)) (sym c.terms.ensures.terms ∙ none))

pub returns-then-is_empty-clause-range : goal.returns-then-is_empty-clause-range
returns-then-is_empty-clause-range c =
    let none : c.terms.result.now ≡ [] = empty _ (search rules) in
    ap (λ ts. fits (product (images (nth c.args.by.now) ts))) (sym c.terms.ensures.terms ∙ none) ∙ fits-one

pub returns-then-stays-clause-exact : goal.returns-then-stays-clause-exact
returns-then-stays-clause-exact c = c.in_ok-copy.ensures.same ∙ sym (c.stays.ensures.stays c.if-stays.true)

pub returns-then-stays-clause-range : goal.returns-then-stays-clause-range
returns-then-stays-clause-range c = ap fits (c.stays.ensures.stays c.if-stays.true) ∙ c.in_ok-copy.ensures.fits

pub put_in_power-requires : goal.put_in_power-requires
put_in_power-requires c =
    let ts = c.terms-2.result.now in
    one_term c.args.self.now (get_or ts 0 none) (only_term ts c.args.self.now none c.terms-2.ensures.terms c.in-len1.len_below c.in-len1.len_at_least)
