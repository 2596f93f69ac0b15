use Rattle.std.proofs.Common.{sym, ◌∙◌, ap, length, arith}
use Rattle.std.proofs.lemmas.List.{take_all}
use Rattle.um_tidy.specs.Gaps.{trimmed}
use Rattle.um_tidy.proofs.Trimmed.{trimmed_less, trimmed_all}
use Rattle.um_tidy.proofs.white.trimmed_some.Goals as goal

pub returns-then-not-is_space-clause-kept : goal.returns-then-not-is_space-clause-kept
returns-then-not-is_space-clause-kept c =
    let bytes = c.args.bytes.now in
    trimmed_all bytes (length bytes) 0 c.requires (omega arith) (sym c.is_space.ensures ∙ c.if-not-is_space.true) ∙ ap trimmed (take_all (length bytes) bytes (omega arith))

pub returns-clause-kept : goal.returns-clause-kept
returns-clause-kept c =
    let bytes = c.args.bytes.now in
    c.trimmed_before.ensures.kept
    ∙ trimmed_less bytes (length bytes) 0 c.requires (omega arith) (sym c.is_space.ensures ∙ c.if-not-is_space.false)
    ∙ ap trimmed (take_all (length bytes) bytes (omega arith))
