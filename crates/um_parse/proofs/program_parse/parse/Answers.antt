use Rattle.std.proofs.Common.{arith}
use Rattle.um_tree.specs.RawTree.{program_syntax}
use Rattle.um_parse.proofs.ProgramNodes.{few_nodes}
use Rattle.um_parse.proofs.ProgramParsed.{limited_parsed}
use Rattle.um_parse.proofs.program_parse.parse.Goals as goal

pub limited-requires : goal.limited-requires
limited-requires c =
    let few = few_nodes c.args.tokens.now (program_syntax c.in-Ok.program) c.in-Ok.ensures.0 in
    record { few = omega (arith, few, c.requires.text, c.ranges.end); spaced = λ s. absurd cc }

pub returns-in-Ok : goal.returns-in-Ok
returns-in-Ok c =
    let e = c.in-Ok.ensures in
    record { parsed = limited_parsed c.args.tokens.now c.args.end (program_syntax c.in-Ok.program) c.limited.result e.0 e.1 c.limited.ensures }
