use Rattle.std.proofs.Common.{rules, ◌≡◌, ap, arith, get_or, ◌∙◌}
use Rattle.std.proofs.lemmas.List.{take_all}
use Rattle.um_reader.specs.Machine.{reached}
use Rattle.um_parse.specs.ProgramLeast.{machine_of_programs}
use Rattle.um_parse.specs.ReaderStates.{program_state}
use Rattle.um_parse.proofs.Prefixes.{next_reached, next_goes, next_low}
use Rattle.um_parse.proofs.prefix.Prefix.read.Goals as goal

pub loop-token-init : goal.loop-token-init
loop-token-init c = c.new-reader.ensures.start

pub take_copy-requires-clause-goes : goal.take_copy-requires-clause-goes
take_copy-requires-clause-goes c =
    let tokens = c.args.tokens.now in
    let x = c.token-item.result in
    let same : get_or tokens c.loop-token.token-index x ≡ x = search (rules, c.token-item.is) in
    next_goes tokens c.requires.begins c.loop-token.token-index x (program_state c.loop-token.reader) (omega (arith, c.loop-token-test.true)) same c.loop-token.invariant

pub take_copy-requires-clause-low : goal.take_copy-requires-clause-low
take_copy-requires-clause-low c =
    let tokens = c.args.tokens.now in
    let x = c.token-item.result in
    let same : get_or tokens c.loop-token.token-index x ≡ x = search (rules, c.token-item.is) in
    next_low tokens c.requires.begins c.loop-token.token-index x (program_state c.loop-token.reader) (omega (arith, c.loop-token-test.true)) same c.loop-token.invariant

pub loop-token-preserved : goal.loop-token-preserved
loop-token-preserved c =
    let tokens = c.args.tokens.now in
    let x = c.token-item.result in
    let same : get_or tokens c.loop-token.token-index x ≡ x = search (rules, c.token-item.is) in
    c.in-Ok.ensures
    ∙ next_reached tokens c.requires.begins c.loop-token.token-index x (program_state c.loop-token.reader) (omega (arith, c.loop-token-test.true)) same c.loop-token.invariant

pub returns : goal.returns
returns c = record {
  read = c.loop-token.invariant ∙ ap (reached machine_of_programs) (take_all c.loop-token.token-index c.args.tokens.now (omega (arith, c.loop-token-test.false)));
}
