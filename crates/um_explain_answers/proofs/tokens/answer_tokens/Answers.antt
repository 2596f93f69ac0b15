use Rattle.um_syntax.proofs.TokenCounts.{tokens_within_bytes}
use Rattle.um_explain_answers.proofs.tokens.answer_tokens.Goals as goal

pub parse-requires : goal.parse-requires
parse-requires c = record { text = tokens_within_bytes c.args.bytes.now c.args.tokens.now c.requires.tokens.0 c.requires.tokens.1 }
