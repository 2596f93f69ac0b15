use Rattle.std.proofs.Common.{◌∙◌, ap, sym, ◌++◌}
use Rattle.std.proofs.lemmas.Fmt.{decimal_digit}
use Rattle.um_code.proofs.operand.push_count.Goals as goal

pub returns-then-n-lt10 : goal.returns-then-n-lt10
returns-then-n-lt10 c =
    c.in_ok-push.ensures.items
    ∙ ap (λ t. c.args.text.now.items ++ t) (sym (decimal_digit c.args.n c.if-n-lt10.true))
