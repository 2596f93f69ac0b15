use Rattle.std.proofs.Common.{inr, refl, subst}
use Rattle.um_unit_reasons.specs.UnitReasons.{IsPastIn}
use Rattle.um_unit_reasons.specs.Answers.{StopsPast}
use Rattle.um_unit_reasons.proofs.failing.by_core.Goals as goal

pub returns-in-Err-Range : goal.returns-in-Err-Range
returns-in-Err-Range c = λ agreed sound. inr (subst (IsPastIn agreed) c.deref.ensures.value (subst (StopsPast agreed c.deref.result.now) c.in-Err-Range.field-0-is (c.in-Err-Range.ensures agreed sound.kept)), refl)
