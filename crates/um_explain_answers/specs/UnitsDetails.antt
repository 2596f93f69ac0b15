-- What is told of a function whose units disagree, as lines: the agreement that fails, the factor between its two
-- types, and the agreements that force it to fail.
-- Source: this project's own texts.
use Rattle.std.specs.Prelude.{◌≡◌, ℕ, Bool, true, false, List, [], ◌∷◌, ◌++◌, codes, Option, Some, None}
use Rattle.std.specs.List.{flat_map}
use Rattle.um_units.specs.PowerMap.{PowerMap}
use Rattle.um_tree.specs.RawTree.{DeclSyntax}
use Rattle.um_tree.specs.ProgramTree.{ProgramTree}
use Rattle.um_agree.specs.Wording.{agreement_line, first_word, second_word}
use Rattle.um_infer.specs.declared.stop.InferStop.{InferStop}
use Rattle.um_infer.specs.declared.stop.InferStop.TheVariants as stop
use Rattle.um_show.specs.UnitText.{unit_text}
use Rattle.um_reports.specs.Places.{place_text}
use Rattle.um_reports.specs.Steps.{line}
use Rattle.um_unit_reasons.specs.declared.reason.Told.{Told}
use Rattle.um_unit_reasons.specs.UnitReasons.{UnitReason, told_of, out_of_range, IsReasonOf}

-- the two types of an agreement, with this before each
abbrev pub types_lines : List ℕ → Told → List ℕ
types_lines indent t =
    line (indent ++ first_word t.rule ++ codes ": " ++ t.first)
    ++ line (indent ++ second_word t.rule ++ codes ": " ++ t.second)

abbrev pub factor_line : ProgramTree → Option PowerMap → List ℕ
factor_line p None = []
factor_line p (Some u) = line (codes "  factor: " ++ unit_text p.bases u)

abbrev pub more_line : Bool → List ℕ
more_line false = []
more_line true = line (codes "and more")

-- ---- of function i of the program

abbrev pub failing_lines : ProgramTree → ℕ → Told → Option PowerMap → List ℕ
failing_lines p i t factor = line (agreement_line p i t.rule) ++ types_lines (codes "  ") t ++ factor_line p factor

module _ (bytes : List ℕ) (p : ProgramTree) (i : ℕ) where
  abbrev pub other_lines : Told → List ℕ
  other_lines t =
      line (codes "  " ++ place_text bytes t.at ++ codes " " ++ agreement_line p i t.rule)
      ++ types_lines (codes "    ") t

  abbrev pub since : List Told → List ℕ
  since [] = []
  since (t ∷ others) = line (codes "since") ++ flat_map other_lines (t ∷ others)

  -- the agreement that fails, the others, and whether there are more
  abbrev pub reason_text : UnitReason → List ℕ
  reason_text (told_of [] factor cut_off) = []
  reason_text (told_of (t ∷ others) factor cut_off) = failing_lines p i t factor ++ since others ++ more_line cut_off
  reason_text out_of_range = line (codes "the units pass the range of powers")

-- ---- the details of a refusal

abbrev pub IsTextOf : List ℕ → List DeclSyntax → ProgramTree → ℕ → Bool → List ℕ → Type 0
IsTextOf bytes declared p i rigid text =
    (r : UnitReason) × IsReasonOf declared p i rigid r × (text ≡ reason_text bytes p i r)

-- a refusal for a limit has none here
abbrev pub IsUnitsDetails : List ℕ → List DeclSyntax → ProgramTree → InferStop → List ℕ → Type 0
IsUnitsDetails bytes declared p (stop.Units i at) text = IsTextOf bytes declared p i false text
IsUnitsDetails bytes declared p (stop.NotGeneral i at) text = IsTextOf bytes declared p i true text
IsUnitsDetails bytes declared p (stop.PowerRange i at) text = text ≡ []
IsUnitsDetails bytes declared p (stop.Slots i) text = text ≡ []
IsUnitsDetails bytes declared p stop.NoMemory text = text ≡ []
