use Rattle.std.proofs.Common.{sym, ◌∙◌}
use Rattle.um_text_details.proofs.Told.{no_number, number_stands}
use Rattle.um_text_details.proofs.tell.takes_number.Goals as goal

pub returns-in-Some : goal.returns-in-Some
returns-in-Some c = λ n d e.
    number_stands c.args.trial.now n d c.args.digits c.args.one c.in-Some.number c.takes.result (sym e ∙ c.in-Some.is) c.takes.ensures

pub returns-in-None : goal.returns-in-None
returns-in-None c = λ n d e.
    no_number c.args.trial.now n d c.args.digits c.args.one (sym e ∙ c.in-None.is)
