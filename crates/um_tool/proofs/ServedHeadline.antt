-- What a run that met no fault wrote, in the words of the headline.
use Rattle.std.proofs.Common.{◌≡◌, ℕ, List, Option, Some, inl, inr, subst}
use Rattle.std.specs.Io.KnownBytes.{Appends}
use Rattle.um_wire.specs.Faults.{Rose}
use Rattle.um_wire.specs.Bytes.{Tells}
use Rattle.um_reports.specs.declared.status.Status.{Status}
use Rattle.um_tool.specs.Answer.{Answer}
use Rattle.um_tool.specs.Served.{IsPlanned}
use Rattle.um_tool.specs.Headline.{ServesHeadline}
use Rattle.um_tool.proofs.FirstUntyped.{types_are_schemes_or_first_untyped}
use Rattle.um_tool.proofs.FittingCalls.{fitting_calls_are_meant}
use Rattle.um_tool.proofs.FittingTwins.{fitting_twins_are_related}

module _ (words : List (List ℕ)) (bytes : List ℕ) (old new : Option (List ℕ)) (text : List ℕ) (status : Status) (written : Appends old new text) where
  answer_served : Answer words bytes text status → ServesHeadline words bytes old new status
  answer_served answer = record {
    types = λ types s spells.
        (text, written, types_are_schemes_or_first_untyped bytes s spells text status (subst (λ ws. Answer ws bytes text status) types answer));
    calls = λ order w budget calls ordered fits.
        (text, written, fitting_calls_are_meant order w budget words bytes text status calls ordered fits answer);
    twins = λ budget ordered fits. (text, written, fitting_twins_are_related budget words bytes text status ordered fits answer);
  }

  pub planned_served : (left : Option (List ℕ)) (before now : ℕ) → left ≡ Some bytes → (Rose before now → ⊥) → IsPlanned words left before now text status → ServesHeadline words bytes old new status
  planned_served left before now is calm (inl (others, told, answer)) =
      let same : bytes ≡ others = subst (λ known. Tells known others) is told in
      answer_served (rw same answer)
  planned_served left before now is calm (inr (reply, reads, rose)) = absurd (calm rose)
