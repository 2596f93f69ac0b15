use Rattle.std.proofs.Common.{ap, ◌∙◌, rules, w32, FitsSigned}
use Rattle.std.proofs.lemmas.Int.{to_z-of_z}
use Rattle.um_measures.specs.RunningPowers.{or_zero}
use Rattle.um_measures.proofs.RunningProducts.{get_is}
use Rattle.um_measures.proofs.running.power_at.Goals as goal

pub returns-in-Some : goal.returns-in-Some
returns-in-Some c =
    let f : FitsSigned w32 c.in-Some.power.now = search rules in
    to_z-of_z w32 c.in-Some.power.now f ∙ ap or_zero (c.in-Some.ensures.value ∙ get_is c.args.powers.now c.args.atom)

pub returns-in-None : goal.returns-in-None
returns-in-None c = ap or_zero (c.in-None.ensures.value ∙ get_is c.args.powers.now c.args.atom)
