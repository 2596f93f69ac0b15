use Rattle.std.proofs.Common.{sym, ◌∙◌}
use Rattle.um_units.proofs.ClosedTerms.{last_decides, none_closed}
use Rattle.um_units.proofs.closed.are_closed.Goals as goal

pub returns-in-Some : goal.returns-in-Some
returns-in-Some c = c.is_base.ensures ∙ sym (last_decides c.args.terms.now c.in-Some.last.now c.requires (sym c.in-Some.ensures.value))

pub returns-in-None : goal.returns-in-None
returns-in-None c = sym (none_closed c.args.terms.now c.in-None.ensures.item.3)
