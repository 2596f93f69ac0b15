-- Whether a token goes on in a unit text, by what is open and what was read.
use Rattle.std.proofs.Common.{◌≡◌, true, not, is_some, List, [], ◌∷◌, ◌++◌, refl}
use Rattle.um_tree.specs.RawTree.{UnitSyntax, inverse_syntax, times_syntax, over_syntax, side_syntax, units_in_order}
use Rattle.um_unit_texts.specs.UnitMachine.{Frame, InBracket, InInverse, InTimes, InOver, InSide, reduce, close_after, times_after, over_after, whole}
use Rattle.um_unit_texts.specs.Standing.{unit_stands, in_brackets}

pub close_stands : (frames : List Frame) (t : UnitSyntax) → in_brackets frames ≡ unit_stands (close_after (reduce frames t))
close_stands [] t = refl
close_stands (InBracket at ∷ frames) t = refl
close_stands (InInverse at ∷ frames) t = close_stands frames (inverse_syntax at t)
close_stands (InTimes left ∷ frames) t = close_stands frames (times_syntax left t)
close_stands (InOver left ∷ frames) t = close_stands frames (over_syntax left t)
close_stands (InSide earlier ∷ frames) t = close_stands frames (side_syntax (units_in_order (earlier ++ t ∷ [])))

pub times_stands : (frames : List Frame) (t : UnitSyntax) → true ≡ unit_stands (times_after (reduce frames t))
times_stands [] t = refl
times_stands (InBracket at ∷ frames) t = refl
times_stands (InInverse at ∷ frames) t = times_stands frames (inverse_syntax at t)
times_stands (InTimes left ∷ frames) t = times_stands frames (times_syntax left t)
times_stands (InOver left ∷ frames) t = times_stands frames (over_syntax left t)
times_stands (InSide earlier ∷ frames) t = times_stands frames (side_syntax (units_in_order (earlier ++ t ∷ [])))

pub over_stands : (frames : List Frame) (t : UnitSyntax) → true ≡ unit_stands (over_after (reduce frames t))
over_stands [] t = refl
over_stands (InBracket at ∷ frames) t = refl
over_stands (InInverse at ∷ frames) t = over_stands frames (inverse_syntax at t)
over_stands (InTimes left ∷ frames) t = over_stands frames (times_syntax left t)
over_stands (InOver left ∷ frames) t = over_stands frames (over_syntax left t)
over_stands (InSide earlier ∷ frames) t = over_stands frames (side_syntax (units_in_order (earlier ++ t ∷ [])))

-- what was read is whole if no brackets are open
pub whole_reduced : (frames : List Frame) (t : UnitSyntax) → not (in_brackets frames) ≡ is_some (whole (reduce frames t))
whole_reduced [] t = refl
whole_reduced (InBracket at ∷ frames) t = refl
whole_reduced (InInverse at ∷ frames) t = whole_reduced frames (inverse_syntax at t)
whole_reduced (InTimes left ∷ frames) t = whole_reduced frames (times_syntax left t)
whole_reduced (InOver left ∷ frames) t = whole_reduced frames (over_syntax left t)
whole_reduced (InSide earlier ∷ frames) t = whole_reduced frames (side_syntax (units_in_order (earlier ++ t ∷ [])))
