-- Each text has an answer of each of these commands.
-- Source: this project's own.
use Rattle.std.specs.Prelude.{ℕ, ◌≤◌, ◌⊎◌, IsTrue, List, length}
use Rattle.um_sizes.specs.ScaleWords.{is_scales}
use Rattle.um_front.specs.Stages.{ShapedTree, IsShapedText, CheckedTree, IsCheckedText}
use Rattle.um_front.specs.Refused.{IsUnshaped, IsUnchecked}
use Rattle.um_answers.specs.TypesAnswer.{TypesAnswer}
use Rattle.um_answers.specs.AnnotAnswer.{AnnotAnswer}
use Rattle.um_answers.specs.CodeAnswer.{CodeAnswer}
use Rattle.um_answers.specs.FmtAnswer.{FmtAnswer}
use Rattle.um_answers.specs.TidyAnswer.{TidyAnswer}
use Rattle.um_answers.specs.ConformAnswer.{ConformAnswer}
use Rattle.um_answers.specs.RescaleAnswer.{RescaleAnswer}
use Rattle.um_answers.specs.ImageAnswer.{ImageAnswer}
use Rattle.um_answers.specs.ProveAnswer.{ProveAnswer}
use Rattle.um_all_answers.specs.Answered.{HasAnswer, IsReadOrRefused}

-- Bytes are read or refused.
abbrev pub EachTextIsReadOrRefused : Type 0
EachTextIsReadOrRefused = (bytes : List ℕ) → IsReadOrRefused bytes

-- They are a program with its shapes, or there is a refusal; and the functions of this program have schemes, or there
-- is a refusal.
abbrev pub EachTextHasStages : Type 0
EachTextHasStages =
    (bytes : List ℕ) →
    (((s : ShapedTree) × IsShapedText bytes s) ⊎ HasAnswer IsUnshaped bytes)
    × (((c : CheckedTree) × IsCheckedText bytes c) ⊎ HasAnswer IsUnchecked bytes)

-- So there is an answer of each of these commands.
abbrev pub EachTextHasAnswers : Type 0
EachTextHasAnswers =
    (bytes : List ℕ) →
    HasAnswer TypesAnswer bytes × HasAnswer AnnotAnswer bytes × HasAnswer CodeAnswer bytes
    × HasAnswer FmtAnswer bytes × HasAnswer TidyAnswer bytes

-- And of `rescale`, if its word states sizes.
abbrev pub EachTextIsRescaled : Type 0
EachTextIsRescaled = (word bytes : List ℕ) → IsTrue (is_scales word) → HasAnswer (RescaleAnswer word) bytes

-- And of `conform`, if the text of its signature isn't too long.
abbrev pub EachTextIsConformed : Type 0
EachTextIsConformed = (name word bytes : List ℕ) → length word ≤ 1048576 → HasAnswer (ConformAnswer name word) bytes

-- And of `image`.
abbrev pub EachTextHasImage : Type 0
EachTextHasImage = (bytes : List ℕ) → HasAnswer ImageAnswer bytes

-- And of `prove`.
abbrev pub EachTextIsProved : Type 0
EachTextIsProved = (bytes : List ℕ) → HasAnswer ProveAnswer bytes
