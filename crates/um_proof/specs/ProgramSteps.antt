-- The code's: what is asked and answered of one function of a program.
-- Source: this project's own; no public clause rests on it.
use Rattle.std.specs.Prelude.{◌≡◌, ◌⊎◌, ℕ, ◌≤◌, List, length, None, Some, slice_get}
use Rattle.um_tree.specs.ProgramTree.{FunctionTree, ProgramTree, SchemeTree}
use Rattle.um_slots.specs.Slots.{slot_count}
use Rattle.um_rows.specs.Equations.{slot_equations}
use Rattle.um_equal_types.specs.Steps.{first_past}
use Rattle.um_infer.specs.Inference.{Inference, all_schemes, stops_at_units, stops_at_not_general, infer_first}
use Rattle.um_kept.specs.declared.stop.CertStop.{CertStop}
use Rattle.um_kept.specs.declared.stop.CertStop.TheVariants as stop
use Rattle.um_proof.specs.declared.stop.ProveStop.{ProveStop}
use Rattle.um_proof.specs.declared.stop.ProveStop.TheVariants as prove
use Rattle.um_check.specs.declared.certificate.Yes.{Yes}
use Rattle.um_check.specs.Tidy.{IsTidyYes}
use Rattle.um_proof.specs.Proving.{IsYesOf, PassesInFunction}

-- its rows pass no limit
abbrev pub HasRows : ProgramTree → List SchemeTree → ℕ → Type 0
HasRows p schemes i =
    (f : FunctionTree) → slice_get p.functions i ≡ Some f →
    (slot_count p.records schemes i f ≤ 2000) × (first_past (slot_equations p.records schemes i f).steps ≡ None)

-- the schemes are those that are inferred for the first functions, up to function i at least
abbrev pub HaveInferred : ProgramTree → List SchemeTree → ℕ → Type 0
HaveInferred p schemes i =
    (n : ℕ) × (i ≤ n) × (n ≤ length p.functions) × (infer_first p n ≡ all_schemes schemes)

-- it is the first without a typing
abbrev pub IsFirstRefused : Inference → ℕ → Type 0
IsFirstRefused inference i =
    (row at : ℕ) × ((inference ≡ stops_at_units i row at) ⊎ (inference ≡ stops_at_not_general i row at))

abbrev pub CarriesInFunction : ProgramTree → ℕ → CertStop → Type 0
CarriesInFunction p i (stop.CertRange z) = PassesInFunction p i z
CarriesInFunction p i stop.NoMemory = Unit {0}

-- each is valid for the scheme of its function
abbrev pub AreYesOf : ProgramTree → List SchemeTree → List Yes → Type 0
AreYesOf p schemes list =
    (i : ℕ) (f : FunctionTree) (s : SchemeTree) (c : Yes) → slice_get p.functions i ≡ Some f →
    slice_get schemes i ≡ Some s → slice_get list i ≡ Some c → IsYesOf p schemes i f s c

-- each is tidy
abbrev pub AreTidyYes : ProgramTree → List Yes → Type 0
AreTidyYes p list =
    (i : ℕ) (f : FunctionTree) (c : Yes) → slice_get p.functions i ≡ Some f → slice_get list i ≡ Some c →
    IsTidyYes (length p.bases) f.units c

-- the want of a certificate of function i as the program's
abbrev pub of_function : ℕ → CertStop → ProveStop
of_function i (stop.CertRange z) = prove.CertRange i z
of_function i stop.NoMemory = prove.NoMemory

abbrev pub CarriesInSome : ProgramTree → ProveStop → Type 0
CarriesInSome p (prove.Slots i) = ⊥
CarriesInSome p (prove.PowerRange i at) = ⊥
CarriesInSome p (prove.CertRange i z) = PassesInFunction p i z
CarriesInSome p prove.NoMemory = Unit {0}
