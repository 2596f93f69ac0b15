use Rattle.std.proofs.Common.{map}
use Rattle.um_tree.specs.RawTree.{decl_syntax}
use Rattle.um_names.specs.Tables.{known_of}
use Rattle.um_names.proofs.KnownParts.{program_found, abbreviations_found, program_formed}
use Rattle.um_names.proofs.resolving.resolve_tree.Goals as goal

pub returns-clause-exact : goal.returns-clause-exact
returns-clause-exact c =
    program_found (map decl_syntax c.args.raw.items.items) (known_of c.in_ok-tables.tables) c.known_parts.result.program c.in_ok-tables.ensures.exact c.known_parts.ensures.program

pub returns-clause-formed : goal.returns-clause-formed
returns-clause-formed c =
    program_formed (map decl_syntax c.args.raw.items.items) (known_of c.in_ok-tables.tables) c.known_parts.result.program c.in_ok-tables.ensures.exact c.known_parts.ensures.program

pub returns-clause-abbreviated : goal.returns-clause-abbreviated
returns-clause-abbreviated c =
    abbreviations_found (map decl_syntax c.args.raw.items.items) (known_of c.in_ok-tables.tables) c.known_parts.result.abbreviations c.in_ok-tables.ensures.exact c.known_parts.ensures.abbreviations
