use Rattle.std.proofs.Common.{length, ap, arith}
use Rattle.std.proofs.lemmas.List.{length-append}
use Rattle.um_syntax.specs.Blocks.{joined}
use Rattle.um_syntax.proofs.BlockLists.{length-joined}
use Rattle.um_syntax.proofs.tokens.TokenBlocks.len.Goals as goal

pub returns : goal.returns
returns c =
    let whole = c.self.inside.whole in
    let last = c.self.inside.last in
    let front = length-joined whole.items c.self.invariant.0 in
    let both = length-append (joined whole.items) last.items in
    let all = ap length c.self.view_is in
    omega (arith, front, both, all, whole.ok.0, last.ok.0)
