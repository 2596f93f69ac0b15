use Rattle.std.proofs.Common.{ap, ◌∙◌}
use Rattle.um_units.specs.Terms.{is_normal}
use Rattle.um_units.specs.Variables.{variables_below}
use Rattle.um_units.proofs.Unit.is_closed.Goals as goal

pub are_closed-requires : goal.are_closed-requires
are_closed-requires c = ap is_normal c.terms.ensures.terms ∙ c.args.self.now.normal

pub returns-clause-closed : goal.returns-clause-closed
returns-clause-closed c = c.are_closed.ensures ∙ ap (variables_below 0) c.terms.ensures.terms
