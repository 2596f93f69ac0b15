-- The schemes of programs that are the same but for places, or but for the numbers before units.
-- Source: Kennedy (1996): the typing of a number asks for its unit alone; rescaling is Kennedy's (1997).
use Rattle.std.specs.Prelude.{◌≡◌, List}
use Rattle.um_frac.specs.declared.number.Frac.{Frac}
use Rattle.um_tree.specs.ProgramTree.{ProgramTree}
use Rattle.um_infer.specs.Inference.{infer}
use Rattle.um_scale.specs.RescaledLiterals.{rescaled_program}
use Rattle.um_rescaled.specs.UnplacedPrograms.{unplaced_program}
use Rattle.um_rescaled.specs.UnplacedInferences.{unplaced_inference}

-- Programs that are the same but for places have the same schemes, or stop at the same function for the same cause.
abbrev pub PlacesChangeNoScheme : Type 0
PlacesChangeNoScheme =
    (p q : ProgramTree) → unplaced_program q ≡ unplaced_program p →
    unplaced_inference (infer q) ≡ unplaced_inference (infer p)

-- A program with its literals in other sizes is given what the program is given.
abbrev pub NumbersChangeNoScheme : Type 0
NumbersChangeNoScheme = (cs : List Frac) (p : ProgramTree) → infer (rescaled_program cs p) ≡ infer p

-- So a program that is this one but for places is given the same, but for the place.
abbrev pub RescaledProgramsHaveTheSchemes : Type 0
RescaledProgramsHaveTheSchemes =
    (cs : List Frac) (p q : ProgramTree) → unplaced_program q ≡ unplaced_program (rescaled_program cs p) →
    unplaced_inference (infer q) ≡ unplaced_inference (infer p)
