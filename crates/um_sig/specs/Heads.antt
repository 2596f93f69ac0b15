-- Mirrors the code: what its tables hold for a type text beside a program: measures, abbreviations, and records, of
-- which it takes the name and the number of units.
-- Source: this project's own.
use Rattle.std.specs.Prelude.{ℕ, List, [], ◌++◌, map}
use Rattle.um_tree.specs.ProgramTree.{RecordTree, ProgramTree}
use Rattle.um_measures.specs.declared.abbreviation.Abbreviation.{Abbreviation}
use Rattle.um_measures.specs.Known.{Known}

-- a record without its fields
abbrev pub head_of : RecordTree → RecordTree
head_of d = record { name = d.name; at = d.at; units = d.units; fields = [] }

-- base units alone
abbrev pub only_bases : List (List ℕ) → Known
only_bases xs = record { program = record { bases = xs; records = []; functions = [] }; shorts = [] }

abbrev pub with_shorts : Known → List Abbreviation → Known
with_shorts known ss = record { program = known.program; shorts = known.shorts ++ ss }

abbrev pub with_heads : Known → List RecordTree → Known
with_heads known ds = record {
  program = record {
    bases = known.program.bases;
    records = known.program.records ++ map head_of ds;
    functions = known.program.functions;
  };
  shorts = known.shorts;
}

-- the program's measures and the heads of its records, and the abbreviations
abbrev pub heads : ProgramTree → List Abbreviation → Known
heads p ss = with_heads (with_shorts (only_bases p.bases) ss) p.records
