use Rattle.std.specs.Str.{chars}
use Rattle.std.proofs.Common.{length}
use Rattle.std.proofs.lemmas.Result.{err_from_is_err_and}
use Rattle.um_tree.specs.ProgramTree.{program_tree}
use Rattle.um_tree.specs.RawTree.{type_syntaxes}
use Rattle.um_measures.specs.ClosedUnits.{given}
use Rattle.um_sig.proofs.ReadingEnds.{without_tokens, without_types, with_types}
use Rattle.um_sig.proofs.SignaturesIn.{named_in}
use Rattle.um_sig.proofs.FewVariables.{named_few}
use Rattle.um_sig.proofs.reading.read_signature.Goals as goal

pub returns-in_err-tokens-clause-read : goal.returns-in_err-tokens-clause-read
returns-in_err-tokens-clause-read c =
    let text = c.args.text.now in
    let x = err_from_is_err_and c.from_residual.result c.from_residual.ensures.1 in
    rw (x.1, x.2) (without_tokens (program_tree c.args.program.now) c.args.abbreviations.now (chars text) (length text) c.in_err-tokens.field-0.0 c.in_err-tokens.ensures)

pub returns-in_err-raw-clause-read : goal.returns-in_err-raw-clause-read
returns-in_err-raw-clause-read c =
    let text = c.args.text.now in
    let x = err_from_is_err_and c.from_residual-in_err-raw.result c.from_residual-in_err-raw.ensures.1 in
    rw (x.1, x.2) (without_types (program_tree c.args.program.now) c.args.abbreviations.now (chars text) (length text) c.in_ok-tokens.tokens c.in_ok-tokens.ensures c.in_err-raw.field-0.0 c.in_err-raw.ensures)

pub returns-clause-read : goal.returns-clause-read
returns-clause-read c =
    let text = c.args.text.now in
    let raw = c.in_ok-raw.raw in
    with_types (program_tree c.args.program.now) c.args.abbreviations.now (chars text) (length text) raw
    (record { tokens = c.in_ok-tokens.tokens; lexed = c.in_ok-tokens.ensures; parsed = c.in_ok-raw.ensures.0; low = c.in_ok-raw.ensures.1 })
    c.named-signature.result c.named-signature.ensures

pub returns-clause-formed : goal.returns-clause-formed
returns-clause-formed c = λ closed. named_in (program_tree c.args.program.now) c.args.abbreviations.now (type_syntaxes c.in_ok-raw.raw) c.named-signature.result closed c.named-signature.ensures

pub returns-clause-few : goal.returns-clause-few
returns-clause-few c =
    named_few (given (program_tree c.args.program.now) c.args.abbreviations.now) (type_syntaxes c.in_ok-raw.raw) c.args.text.now c.in_ok-tokens.tokens c.named-signature.result
    c.utf8.text c.requires.short c.in_ok-tokens.ensures c.in_ok-raw.ensures.0 c.named-signature.ensures
