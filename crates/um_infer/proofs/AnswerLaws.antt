-- What an answer to a program says of its typings.
use Rattle.std.proofs.Common.{Ok, Err}
use Rattle.um_infer.specs.declared.stop.InferStop.TheVariants as stop
use Rattle.um_infer.specs.Answers.{scheme_trees, InferredAnswersAreRight}
use Rattle.um_infer.proofs.InferenceLaws.{given_schemes_are_principal, units_stop_at_first_untyped, not_general_stops_at_first_untyped, slot_stops_are_exact, range_stops_are_exact}

pub inferred_answers_are_right : InferredAnswersAreRight
inferred_answers_are_right p formed (Ok schemes) is = given_schemes_are_principal p formed (scheme_trees schemes) is
inferred_answers_are_right p formed (Err (stop.Units i at)) is = (is.0, units_stop_at_first_untyped p formed i is.0 at is.1)
inferred_answers_are_right p formed (Err (stop.NotGeneral i at)) is = (is.0, not_general_stops_at_first_untyped p formed i is.0 at is.1)
inferred_answers_are_right p formed (Err (stop.PowerRange i at)) is = (range_stops_are_exact p i at).0 is
inferred_answers_are_right p formed (Err (stop.Slots i)) is = (slot_stops_are_exact p i).0 is
inferred_answers_are_right p formed (Err stop.NoMemory) is = tt
