use Rattle.um_tree.proofs.WrittenUnits.{formed_literals_are_closed, formed_units_are_declared}
use Rattle.um_tree.proofs.laws.literals_of_formed_programs.Goals as goal

pub returns : goal.returns
returns c = record { closed = formed_literals_are_closed; declared = formed_units_are_declared }
