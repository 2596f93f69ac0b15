-- A text has one shaped program, and then it isn't refused up to its shapes; it is refused in one way.
use Rattle.std.proofs.Common.{◌≡◌, ℕ, List, [], inl, inr, refl}
use Rattle.um_parse.specs.Laws.{AnswersAreUnique}
use Rattle.um_reports.specs.declared.status.Status.{Status}
use Rattle.um_reports.specs.declared.status.Status.TheVariants.{Done}
use Rattle.um_front.specs.Stages.{ShapedTree, IsShapedText}
use Rattle.um_front.specs.Refused.{IsUnshaped}
use Rattle.um_front.proofs.StageLaws.{shaped_given, shaped_once}

pub one_shaped : (bytes : List ℕ) (s other : ShapedTree) → IsShapedText bytes s → IsShapedText bytes other → s ≡ other
one_shaped bytes s other is also = shaped_given (λ (x : ShapedTree) (text : List ℕ) (status : Status). s ≡ x) bytes [] Done other also (inl (s, is, refl))

pub shaped_is_not_refused : (bytes text : List ℕ) (status : Status) (s : ShapedTree) → IsShapedText bytes s → IsUnshaped bytes text status → ⊥
shaped_is_not_refused bytes text status s is refused = shaped_given (λ (x : ShapedTree) (other : List ℕ) (another : Status). ⊥) bytes text status s is (inr refused)

pub unshaped_once : (text other : List ℕ) (status another : Status) → AnswersAreUnique → (bytes : List ℕ) → IsUnshaped bytes text status → IsUnshaped bytes other another → (text ≡ other) × (status ≡ another)
unshaped_once text other status another one bytes refused also =
    shaped_once (λ (x : ShapedTree) (read : List ℕ) (meant : Status). ⊥) bytes text status other another one (λ s none. absurd none) (inr refused) (inr also)
