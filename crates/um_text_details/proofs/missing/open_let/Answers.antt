use Rattle.std.proofs.Common.{◌∙◌, ap, arith, sym}
use Rattle.std.specs.Prelude.{Some}
use Rattle.um_text_details.proofs.LetsAfter.{some_down}
use Rattle.um_text_details.proofs.missing.open_let.Goals as goal

pub returns-then-is_open : goal.returns-then-is_open
returns-then-is_open c =
    ap Some c.start_of.ensures
    ∙ some_down c.args.tokens.now c.loop-k.k c.loop-k.lets c.loop-k.ins c.index-tokens-k.result (omega arith) (omega arith) c.index-tokens-k.is
    c.loop-k.invariant.lets c.loop-k.invariant.ins (sym c.is_open.ensures ∙ c.if-is_open.true) c.loop-k.invariant.none
