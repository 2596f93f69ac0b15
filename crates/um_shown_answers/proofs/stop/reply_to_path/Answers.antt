use Rattle.std.proofs.Common.{◌∙◌, List, subst, sym}
use Rattle.std.specs.Prelude.{All, ℕ}
use Rattle.um_front.specs.Places.{IsPlace}
use Rattle.um_eval.specs.declared.stop.Spot.{Spot}
use Rattle.um_shown_answers.proofs.Stops.{all_after}
use Rattle.um_shown_answers.proofs.stop.reply_to_path.Goals as goal

pub push_where-requires-clause-calls : goal.push_where-requires-clause-calls
push_where-requires-clause-calls c =
    let places = subst (λ (bytes : List ℕ). All (λ (s : Spot). IsPlace bytes s.at) c.args.path.now.spots.items) (sym c.bytes.ensures.bytes) c.requires.places in
    all_after (λ (s : Spot). IsPlace c.bytes.result.now s.at) c.in-Some.node.now c.in-Some.calls.now c.args.path.now.spots.items (sym c.deref.ensures.value ∙ c.in-Some.ensures.cases.0) places
