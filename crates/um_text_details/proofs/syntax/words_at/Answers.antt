use Rattle.std.proofs.Common.{Bool, IfOk, List, subst, take}
use Rattle.um_syntax.specs.declared.token.Token.{Token}
use Rattle.um_text_details.specs.Expected.{AreExpected}
use Rattle.um_text_details.proofs.syntax.words_at.Goals as goal

pub returns : goal.returns
returns c =
    subst (λ (g : Bool). IfOk c.expected.result (λ told. AreExpected (record { before = take c.args.k c.args.tokens.now; at = c.args.at; glued = g }) told.items)) c.glued_at.ensures
    (subst (λ (ts : List Token). IfOk c.expected.result (λ told. AreExpected (record { before = ts; at = c.args.at; glued = c.glued_at.result }) told.items)) c.in_ok-before.ensures c.expected.ensures.expected)
