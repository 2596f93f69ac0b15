use Rattle.std.proofs.Common.{◌++◌}
use Rattle.um_syntax.proofs.Feeds.{behind_no_whole, counts_tokens}
use Rattle.um_syntax.proofs.feed.Lexer.feed.Goals as goal

pub returns-in-Ok-clause-tokens : goal.returns-in-Ok-clause-tokens
returns-in-Ok-clause-tokens c = λ bytes h.
    let s = c.in-Ok.ensures.stands bytes h in
    let l = c.take_piece.new.self in
    counts_tokens (bytes ++ c.args.piece.now) s.cs s.tail l.counted s.whole (behind_no_whole l.fault l.valid l.held l.partial s.tail l.begun s.behind) s.read.counted
