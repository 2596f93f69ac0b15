-- The agreement that is told of a row.
use Rattle.std.proofs.Common.{◌≡◌, ℕ, List, Some, Ok, Err, slice_get, sym, ap, ◌∙◌, subst}
use Rattle.std.specs.Prelude.{Result, IfOk, IsTrue, IsFalse}
use Rattle.um_units.specs.declared.UnitStop.{UnitStop}
use Rattle.um_units.specs.declared.UnitStop.TheVariants as stop
use Rattle.um_units.specs.Range.{RangeUnless}
use Rattle.um_agree.specs.declared.agreements.Told.{Told}
use Rattle.um_agree.specs.Agreements.{Agreement}
use Rattle.um_agree.specs.RowAgreements.{agreement_of}
use Rattle.um_agree.specs.Answers.{agreement_tree, agreement_fits, IsTold}

pub is_told : (agreed : List Agreement) (k m : ℕ) (a : Agreement) (r : Result Told UnitStop) → IfOk r (λ t. t.number ≡ m) → IfOk r (λ t. agreement_tree t.agreement ≡ a) → RangeUnless r (agreement_fits a) →
    agreement_of agreed k ≡ m → slice_get agreed (agreement_of agreed k) ≡ Some a → IsTold agreed k r
is_told agreed k m a (Ok t) number exact fit here stands = (
  number ∙ sym here,
  stands ∙ ap Some (sym exact),
  subst (λ x. IsTrue (agreement_fits x)) (sym exact) fit,
)
is_told agreed k m a (Err stop.Range) number exact fit here stands =
    λ b found. let same : Some a ≡ Some b = sym stands ∙ found in let alike : a ≡ b = cc same in subst (λ x. IsFalse (agreement_fits x)) alike fit
is_told agreed k m a (Err stop.NoMemory) number exact fit here stands = tt
