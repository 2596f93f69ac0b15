use Rattle.std.proofs.Common.{arith}
use Rattle.um_syntax.proofs.TokenCounts.{tokens_within_bytes}
use Rattle.um_front.proofs.tree.read_tokens.Goals as goal

pub parse_tokens-requires : goal.parse_tokens-requires
parse_tokens-requires c =
    let few = tokens_within_bytes c.args.bytes.items c.args.tokens c.requires.tokens.0 c.requires.tokens.1 in
    let counted = c.len.ensures in let held = c.args.bytes.ok.0 in
    record { text = omega (arith, few, counted, held) }
