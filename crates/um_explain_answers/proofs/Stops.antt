-- A stop of the inference for units is at a function that is judged so, and its details are those of that function.
use Rattle.std.proofs.Common.{◌≡◌, ℕ, Bool, true, false, List, [], ◌++◌, Err, refl, sym, ap, subst, ◌∙◌}
use Rattle.std.proofs.lemmas.List.{append-nil}
use Rattle.um_tree.specs.RawTree.{DeclSyntax}
use Rattle.um_tree.specs.ProgramTree.{ProgramTree}
use Rattle.um_infer.specs.declared.stop.InferStop.{InferStop}
use Rattle.um_infer.specs.declared.stop.InferStop.TheVariants as stop
use Rattle.um_infer.specs.Answers.{IsInferred}
use Rattle.um_infer.specs.Schemes.{IsJudged}
use Rattle.um_infer.proofs.InferenceLaws.{unit_stops_are_exact, not_general_stops_are_exact}
use Rattle.um_unit_reasons.specs.UnitReasons.{UnitReason, unsolvable, IsReasonOf}
use Rattle.um_explain_answers.specs.UnitsDetails.{reason_text, IsTextOf, IsUnitsDetails}

pub judged_units : (p : ProgramTree) (i at : ℕ) → IsInferred p (Err (stop.Units i at)) → (row : ℕ) × (place : ℕ) × IsJudged p i (unsolvable false row place)
judged_units p i at h = (h.0, at, (unit_stops_are_exact p i h.0 at).0 h.1)

pub judged_not_general : (p : ProgramTree) (i at : ℕ) → IsInferred p (Err (stop.NotGeneral i at)) → (row : ℕ) × (place : ℕ) × IsJudged p i (unsolvable true row place)
judged_not_general p i at h = (h.0, at, (not_general_stops_are_exact p i h.0 at).0 h.1)

module _ (bytes : List ℕ) (declared : List DeclSyntax) (p : ProgramTree) where
  -- the lines of a reason are the details
  pub told_by : (i : ℕ) (rigid : Bool) (r : UnitReason) (q : ProgramTree) (old new : List ℕ) → IsReasonOf declared p i rigid r → q ≡ p → new ≡ old ++ reason_text bytes q i r
      → (details : List ℕ) × IsTextOf bytes declared p i rigid details × (new ≡ old ++ details)
  told_by i rigid r q old new is same added =
      let details : IsTextOf bytes declared p i rigid (reason_text bytes p i r) = (r, is, refl) in
      (reason_text bytes p i r, details, added ∙ ap (λ (x : ProgramTree). old ++ reason_text bytes x i r) same)

  -- the details of a function are those of the stop at it
  pub told_at : (i : ℕ) (rigid : Bool) (at refused : InferStop) (old new : List ℕ) → refused ≡ at → ((text : List ℕ) → IsTextOf bytes declared p i rigid text → IsUnitsDetails bytes declared p at text)
      → (details : List ℕ) × IsTextOf bytes declared p i rigid details × (new ≡ old ++ details) → (text : List ℕ) × IsUnitsDetails bytes declared p refused text × (new ≡ old ++ text)
  told_at i rigid at refused old new is of (details, told, added) = (details, subst (λ (s : InferStop). IsUnitsDetails bytes declared p s details) (sym is) (of details told), added)

  -- another stop has none
  pub none_told : (at refused : InferStop) (old : List ℕ) → refused ≡ at → IsUnitsDetails bytes declared p at [] → (text : List ℕ) × IsUnitsDetails bytes declared p refused text × (old ≡ old ++ text)
  none_told at refused old is none = ([], subst (λ (s : InferStop). IsUnitsDetails bytes declared p s []) (sym is) none, sym (append-nil old))
