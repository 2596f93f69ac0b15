use Rattle.std.proofs.Common.{◌≡◌, ◌+◌, ◌++◌, List, ℕ, take}
use Rattle.um_syntax.specs.Feeding.{Stands}
use Rattle.um_syntax.proofs.feed.Lexer.take_bytes.Given as goal

abbrev pub invariant-loop-byte : goal.invariant-loop-byte
invariant-loop-byte l = record {
  stands : (bytes : List ℕ) → Stands l.fn.self bytes → Stands l.self (bytes ++ take l.byte-index l.piece);
  fed : l.self.fed ≡ l.fn.self.fed + l.byte-index;
}
