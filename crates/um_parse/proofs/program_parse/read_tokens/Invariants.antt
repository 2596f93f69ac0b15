use Rattle.std.proofs.Common.{◌≡◌, ◌≤◌, List, [], ◌++◌, length, drop, ◌-◌, ◌+◌}
use Rattle.um_syntax.specs.declared.token.Token.{Token}
use Rattle.um_parse.specs.ReaderStates.{program_state}
use Rattle.um_parse.specs.Spaced.{HasPlaces}
use Rattle.um_parse.proofs.ProgramParsed.{StandsAt}
use Rattle.um_parse.proofs.program_parse.read_tokens.Given as goal

abbrev pub invariant-loop-k : goal.invariant-loop-k
invariant-loop-k l =
    (read : List Token) × (l.fn.tokens ≡ read ++ (drop l.k l.block.items ++ l.blocks)) × (length l.block.items ≤ l.k → l.blocks ≡ [])
    × StandsAt l.fn.tokens (length read) (program_state l.reader) × HasPlaces read l.places

abbrev pub decreases-loop-k : goal.decreases-loop-k
decreases-loop-k l = length (drop l.k l.block.items ++ l.blocks)
