use Rattle.um_rows.proofs.Solved.{loose_typings_are_solutions, rigid_typings_are_solutions}
use Rattle.um_rows.proofs.laws.typings_are_solutions.Goals as goal

pub returns : goal.returns
returns c = record { loose = loose_typings_are_solutions; rigid = rigid_typings_are_solutions }
