use Rattle.std.proofs.Common.{◌≡◌, ◌+◌, ◌-◌, ◌++◌, List, ℕ, length, take, drop, []}
use Rattle.std.specs.Str.{chars, IsCharBoundary}
use Rattle.um_syntax.specs.Feeding.{IsReadable, HasRead}
use Rattle.um_syntax.proofs.feed.Lexer.take_text.Given as goal

abbrev pub invariant-loop-at : goal.invariant-loop-at
invariant-loop-at l = record {
  boundary : IsCharBoundary l.text l.at;
  readable : IsReadable l.self.fault;
  whole : l.self.held ≡ 0;
  fed : l.self.fed ≡ l.fn.self.fed + length l.text;
  place : l.self.valid ≡ l.fn.self.valid + l.at;
  read : (cs : List ℕ) → HasRead l.fn.self cs [] → HasRead l.self (cs ++ chars (take l.at l.text)) (chars (drop l.at l.text));
}

abbrev pub decreases-loop-at : goal.decreases-loop-at
decreases-loop-at l = length l.text - l.at
