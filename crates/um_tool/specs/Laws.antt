-- What answers to `types` say, in the subject's words, and that an answer is one.
-- Source: principal schemes and typings are Kennedy's (1996).
use Rattle.std.specs.Prelude.{ℕ, ◌≡◌, List, [], ◌∷◌, length, codes, Some}
use Rattle.um_infer.specs.Schemes.{ArePrincipal, IsFirstWithoutUnits, IsFirstNotGeneral}
use Rattle.um_orders.specs.declared.order.Order.TheVariants.{Prove}
use Rattle.um_orders.specs.Orders.{order_of}
use Rattle.um_reports.specs.declared.status.Status.{Status}
use Rattle.um_reports.specs.declared.status.Status.TheVariants.{Done, Units, NotGeneral}
use Rattle.um_reports.specs.Refusals.{placed, units_label, not_general_label}
use Rattle.um_front.specs.Stages.{ShapedTree, IsShapedText, CheckedTree, IsCheckedText}
use Rattle.um_answers.specs.TypesAnswer.{scheme_lines}
use Rattle.um_tool.specs.Answer.{Answer}

-- ---- what `types` prints

abbrev pub TypesAnswers : List ℕ → List ℕ → Status → Type 0
TypesAnswers bytes text status = Answer (codes "types" ∷ []) bytes text status

-- What `types` prints with status 0 are the principal schemes of the program that the bytes spell, a line for each
-- function.
abbrev pub PrintedTypesArePrincipalSchemes : Type 0
PrintedTypesArePrincipalSchemes =
    (bytes text : List ℕ) → TypesAnswers bytes text Done →
    (c : CheckedTree) × IsCheckedText bytes c
    × ArePrincipal c.text.program (length c.text.program.functions) c.schemes
    × (text ≡ scheme_lines c.text.program c.text.program.functions c.schemes)

-- The function that it names with the status of units is the first of the program without a typing, and no units
-- satisfy its equations up to the one at the place.
abbrev pub UnitsNameTheFirstUntyped : Type 0
UnitsNameTheFirstUntyped =
    (bytes text : List ℕ) → TypesAnswers bytes text Units →
    (s : ShapedTree) × IsShapedText bytes s
    × ((i row at : ℕ) × (untyped : IsFirstWithoutUnits s.program i row at)
    × (text ≡ placed (units_label untyped.0.function.name) bytes at))

-- The function that it names as not general is the first without a typing too, but some units satisfy these equations.
abbrev pub NotGeneralNamesTheFirstUntyped : Type 0
NotGeneralNamesTheFirstUntyped =
    (bytes text : List ℕ) → TypesAnswers bytes text NotGeneral →
    (s : ShapedTree) × IsShapedText bytes s
    × ((i row at : ℕ) × (untyped : IsFirstNotGeneral s.program i row at)
    × (text ≡ placed (not_general_label untyped.0.function.name) bytes at))

-- ---- the answer to words and bytes is one, but for certificates: a scheme may have many
abbrev pub AnswersAreUnique : Type 0
AnswersAreUnique =
    (words : List (List ℕ)) (bytes text other : List ℕ) (status another : Status) →
    (order_of words ≡ Some Prove → ⊥) → Answer words bytes text status → Answer words bytes other another →
    (text ≡ other) × (status ≡ another)
