use Rattle.std.proofs.Common.{sym, ◌∙◌}
use Rattle.um_text_details.proofs.Told.{operator_not_told, sign_is_told}
use Rattle.um_text_details.proofs.tell.is_sign_told.Goals as goal

pub returns-then-is_among_operators : goal.returns-then-is_among_operators
returns-then-is_among_operators c =
    operator_not_told c.args.trial.now c.args.tried c.requires.tried c.args.sign (sym c.is_among_operators.ensures ∙ c.if-is_among_operators.true)

pub returns : goal.returns
returns c =
    sign_is_told c.args.trial.now c.args.tried c.requires.tried c.args.sign c.takes.result
    (sym c.is_among_operators.ensures ∙ c.if-is_among_operators.false) c.takes.ensures
