use Rattle.std.proofs.Common.{◌≡◌, [], ◌++◌, length, ◌+◌}
use Rattle.um_syntax.proofs.tokens.TokenBlocks.into_tokens.Given as goal

abbrev pub invariant-loop-items : goal.invariant-loop-items
invariant-loop-items l = record {
  all : l.fn.self ≡ l.items.items ++ (l.block.items ++ l.blocks);
  rest : length l.block.items ≡ 0 → l.blocks ≡ [];
}

abbrev pub decreases-loop-items : goal.decreases-loop-items
decreases-loop-items l = length l.block.items + length l.blocks
