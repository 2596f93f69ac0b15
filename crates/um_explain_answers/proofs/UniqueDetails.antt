-- The details of a refusal for units are one text.
use Rattle.std.proofs.Common.{◌≡◌, ℕ, Bool, true, false, List, sym, ap, ◌∙◌}
use Rattle.um_tree.specs.RawTree.{DeclSyntax}
use Rattle.um_tree.specs.ProgramTree.{ProgramTree}
use Rattle.um_infer.specs.declared.stop.InferStop.{InferStop}
use Rattle.um_infer.specs.declared.stop.InferStop.TheVariants as stop
use Rattle.um_unit_reasons.proofs.UniqueReasons.{one_reason_of}
use Rattle.um_explain_answers.specs.UnitsDetails.{reason_text, IsTextOf, IsUnitsDetails}

one_text : (bytes : List ℕ) (declared : List DeclSyntax) (p : ProgramTree) (i : ℕ) (rigid : Bool) (text other : List ℕ) → IsTextOf bytes declared p i rigid text → IsTextOf bytes declared p i rigid other → text ≡ other
one_text bytes declared p i rigid text other (r, is, a) (s, also, b) = a ∙ ap (reason_text bytes p i) (one_reason_of declared p i rigid r s is also) ∙ sym b

pub one_details : (bytes : List ℕ) (declared : List DeclSyntax) (p : ProgramTree) (refused : InferStop) (text other : List ℕ) → IsUnitsDetails bytes declared p refused text → IsUnitsDetails bytes declared p refused other → text ≡ other
one_details bytes declared p (stop.Units i at) text other a b = one_text bytes declared p i false text other a b
one_details bytes declared p (stop.NotGeneral i at) text other a b = one_text bytes declared p i true text other a b
one_details bytes declared p (stop.PowerRange i at) text other a b = a ∙ sym b
one_details bytes declared p (stop.Slots i) text other a b = a ∙ sym b
one_details bytes declared p stop.NoMemory text other a b = a ∙ sym b
