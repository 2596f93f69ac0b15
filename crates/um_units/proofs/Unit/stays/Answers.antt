use Rattle.std.proofs.Common.{◌≡◌, subst, sym, ◌∙◌}
use Rattle.std.specs.Prelude.{All}
use Rattle.um_units.specs.declared.Term.{Term}
use Rattle.um_units.specs.PowerMap.{atom, image, nth}
use Rattle.um_units.proofs.Replacement.{replace-stays}
use Rattle.um_units.proofs.ClosedTerms.{replace-closed_terms}
use Rattle.um_units.proofs.Unit.stays.Goals as goal

pub returns-then-is_closed-clause-stays : goal.returns-then-is_closed-clause-stays
returns-then-is_closed-clause-stays c = λ h. replace-closed_terms (nth c.args.by.now) c.args.self.now (sym c.is_closed.ensures.closed ∙ c.if-is_closed.true)

pub returns-clause-stays : goal.returns-clause-stays
returns-clause-stays c = λ h.
    let s = nth c.args.by.now in
    replace-stays s c.args.self.now (subst (All (λ (t : Term). image s t.atom ≡ atom t.atom)) c.terms.ensures.terms (c.all_stay.ensures h))
