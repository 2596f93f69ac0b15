-- What `prove` answers. Want of memory may come in place of every answer.
-- Source: this project's own: certificates of what inference (Kennedy 1996) answers, up to its first refusal.
use Rattle.std.specs.Prelude.{◌≡◌, ◌⊎◌, ℕ, ◌≤◌, true, false, List, length, ℤ, Option, Some, None, slice_get, Result, Ok}
use Rattle.std.specs.Prelude.{Err}
use Rattle.um_units.specs.PowerMap.{PowerMap}
use Rattle.um_tree.specs.ProgramTree.{FunctionTree, ProgramTree, SchemeTree}
use Rattle.um_slots.specs.Slots.{slot_count}
use Rattle.um_rows.specs.Solutions.{function_rows, slot_signature}
use Rattle.um_infer.specs.Answers.{scheme_trees}
use Rattle.um_infer.specs.Inference.{Inference, all_schemes, stops_at_slots, stops_at_range, stops_at_units}
use Rattle.um_infer.specs.Inference.{stops_at_not_general, infer, infer_first}
use Rattle.um_check.specs.declared.certificate.Yes.{Yes}
use Rattle.um_check.specs.declared.certificate.No.{No}
use Rattle.um_check.specs.Validity.{IsValidYes}
use Rattle.um_check.specs.Refutation.{IsValidNo}
use Rattle.um_check.specs.Tidy.{IsTidyYes, IsTidyNo}
use Rattle.um_proof.specs.declared.proofs.Proofs.{Proofs}
use Rattle.um_proof.specs.declared.stop.ProveStop.{ProveStop}
use Rattle.um_proof.specs.declared.stop.ProveStop.TheVariants as stop
use Rattle.um_kept.specs.Kept.{first}
use Rattle.um_kept.specs.Formed.{PassesInRows, PassesAtEnd}

module _ (p : ProgramTree) (schemes : List SchemeTree) where
  -- the rows of function i, given the schemes of those before it. They ask for no other
  abbrev pub rows_at : ℕ → FunctionTree → List PowerMap
  rows_at i f = function_rows p.records schemes i f

  abbrev pub slots_at : ℕ → FunctionTree → ℕ
  slots_at i f = slot_count p.records schemes i f

  abbrev pub IsYesOf : ℕ → FunctionTree → SchemeTree → Yes → Type 0
  IsYesOf i f s c =
      IsValidYes (length p.bases) f.units (slots_at i f) (rows_at i f) (slot_signature p.records schemes i f) s c

  abbrev pub IsNoOf : ℕ → No → Type 0
  IsNoOf i c =
      (f : FunctionTree) → slice_get p.functions i ≡ Some f → IsValidNo (length p.bases) f.units (rows_at i f) c

  -- the No of the first function that is refused, at its first unsolvable row. Where there is none there is no No
  abbrev pub IsRefusal : Inference → Option No → Type 0
  IsRefusal (all_schemes all) None = all ≡ schemes
  IsRefusal (stops_at_units i row at) (Some c) =
      (length schemes ≡ i) × IsNoOf i c × (c.last ≡ row) × (c.loose ≡ true)
  IsRefusal (stops_at_not_general i row at) (Some c) =
      (length schemes ≡ i) × IsNoOf i c × (c.last ≡ row) × (c.loose ≡ false)
  IsRefusal inference other = ⊥

-- the schemes of the functions up to the first refused, a valid Yes for each, and the No
pub record AreProofs (p : ProgramTree) (proofs : Proofs) : Type 0 where
  pub schemes : infer_first p (length proofs.schemes.items.items) ≡ all_schemes (scheme_trees proofs.schemes)
  pub count : length proofs.yes.items.items ≡ length proofs.schemes.items.items
  pub yes : (i : ℕ) (f : FunctionTree) (s : SchemeTree) (c : Yes) → slice_get p.functions i ≡ Some f →
      slice_get (scheme_trees proofs.schemes) i ≡ Some s → slice_get proofs.yes.items.items i ≡ Some c →
      IsYesOf p (scheme_trees proofs.schemes) i f s c
  pub no : IsRefusal p (scheme_trees proofs.schemes) (infer p) proofs.no

-- each of the certificates is tidy
pub record AreTidyProofs (p : ProgramTree) (proofs : Proofs) : Type 0 where
  pub yes : (i : ℕ) (f : FunctionTree) (c : Yes) → slice_get p.functions i ≡ Some f →
      slice_get proofs.yes.items.items i ≡ Some c → IsTidyYes (length p.bases) f.units c
  pub no : (c : No) → proofs.no ≡ Some c → IsTidyNo c

-- the inference of the program stops for no limit
abbrev pub IsWithinLimits : Inference → Type 0
IsWithinLimits (stops_at_slots i) = ⊥
IsWithinLimits (stops_at_range i at) = ⊥
IsWithinLimits inference = Unit {0}

-- in making the certificate of function i, whose rows come before the first refusal or are refused, the number passes
abbrev pub PassesInFunction : ProgramTree → ℕ → ℤ → Type 0
PassesInFunction p i z =
    (n : ℕ) × (schemes : List SchemeTree) × (f : FunctionTree)
    × (i ≤ n) × (infer_first p n ≡ all_schemes schemes) × (slice_get p.functions i ≡ Some f)
    × (PassesInRows (rows_at p schemes i f) (first (length p.bases) f.units (slots_at p schemes i f)) z
    ⊎ PassesAtEnd (rows_at p schemes i f) (first (length p.bases) f.units (slots_at p schemes i f)) z
    ⊎ ((row at : ℕ) × (infer p ≡ stops_at_units i row at)
    × PassesInRows (rows_at p schemes i f) (first (length p.bases) 0 (slots_at p schemes i f)) z))

abbrev pub IsProved : ProgramTree → Result Proofs ProveStop → Type 0
IsProved p (Ok proofs) = AreProofs p proofs × AreTidyProofs p proofs
IsProved p (Err (stop.Slots i)) = infer p ≡ stops_at_slots i
IsProved p (Err (stop.PowerRange i at)) = infer p ≡ stops_at_range i at
IsProved p (Err (stop.CertRange i z)) = IsWithinLimits (infer p) × PassesInFunction p i z
IsProved p (Err stop.NoMemory) = Unit {0}
