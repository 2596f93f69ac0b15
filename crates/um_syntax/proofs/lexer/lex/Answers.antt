use Rattle.std.specs.Str.{chars}
use Rattle.um_syntax.proofs.Whole.{IfOk-answer, IfErr-answer, MatchResult-answer, fault-answer}
use Rattle.um_syntax.proofs.lexer.lex.Goals as goal

pub returns-clause-ok : goal.returns-clause-ok
returns-clause-ok c = IfOk-answer (chars c.args.text.now) _ (c.in_one_piece.ensures _ c.scan_text.ensures)

pub returns-clause-refused : goal.returns-clause-refused
returns-clause-refused c = IfErr-answer (chars c.args.text.now) _ (c.in_one_piece.ensures _ c.scan_text.ensures)

pub returns-clause-tokens : goal.returns-clause-tokens
returns-clause-tokens c = MatchResult-answer (chars c.args.text.now) _ (c.in_one_piece.ensures _ c.scan_text.ensures)

pub returns-clause-fault : goal.returns-clause-fault
returns-clause-fault c = fault-answer (chars c.args.text.now) _ (c.in_one_piece.ensures _ c.scan_text.ensures)
