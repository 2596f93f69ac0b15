-- Mirrors the code: what the names that value texts may use stand for.
-- Source: this project's own.
use Rattle.um_tree.specs.ProgramTree.{program_tree}
use Rattle.um_measures.specs.Known.{Known}
use Rattle.um_measures.specs.ClosedUnits.{given}
use Rattle.um_value.specs.declared.known.KnownNames.{KnownNames}

abbrev pub known_in : KnownNames → Known
known_in names = given (program_tree names.program.now) names.abbreviations.now
