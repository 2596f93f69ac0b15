use Rattle.std.proofs.Common.{length, refl}
use Rattle.um_display.proofs.WholeUnits.{misread_none, high_none, if_low}
use Rattle.um_display.proofs.part.low_unit.Goals as goal

pub returns-in-Ok : goal.returns-in-Ok
returns-in-Ok c =
    let tokens = c.args.tokens.now in
    if_low tokens c.in-Ok.unit c.in-Ok.stop (length tokens) _ c.if_whole.result c.in-Ok.ensures.parsed refl c.if_whole.ensures

pub returns-in-Err-Syntax : goal.returns-in-Err-Syntax
returns-in-Err-Syntax c =
    let misread = rw c.in-Err-Syntax.field-0-is at c.in-Err-Syntax.ensures.parsed in
    misread_none c.args.tokens.now misread.0 misread.2

pub returns-in-Err-Limit : goal.returns-in-Err-Limit
returns-in-Err-Limit c =
    let high = rw c.in-Err-Limit.field-0-is at c.in-Err-Limit.ensures.parsed in
    high_none c.args.tokens.now high.0 high.3
