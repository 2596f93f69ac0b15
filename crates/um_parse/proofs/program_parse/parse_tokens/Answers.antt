use Rattle.std.proofs.Common.{arith}
use Rattle.um_tree.specs.RawTree.{program_syntax}
use Rattle.um_parse.proofs.ProgramNodes.{few_nodes}
use Rattle.um_parse.proofs.ProgramParsed.{limited_parsed}
use Rattle.um_parse.proofs.program_parse.parse_tokens.Goals as goal

pub limited-requires : goal.limited-requires
limited-requires c =
    let e = c.in_ok-program.ensures in
    let few = few_nodes c.args.tokens (program_syntax c.in_ok-program.field-0.program) e.0 in
    record { few = omega (arith, few, c.requires.text, c.ranges.end); spaced = e.2 }

pub returns : goal.returns
returns c =
    let e = c.in_ok-program.ensures in
    record { parsed = limited_parsed c.args.tokens c.args.end (program_syntax c.in_ok-program.field-0.program) c.limited.result e.0 e.1 c.limited.ensures }
