-- What valid certificates show of typings, however they were made. The definitions do not rest on this.
-- Source: Kennedy (1996): the joint solutions of a function's equations are its typings, and a declared unit parameter
-- is a unit of its own in them.
use Rattle.std.specs.Prelude.{◌≡◌, ℕ, ◌≤◌, All, List, length, Some, slice_get}
use Rattle.um_tree.specs.ProgramTree.{FunctionTree, ProgramTree, Signature, SchemeTree}
use Rattle.um_tree.specs.Typing.{Typing}
use Rattle.um_tree.specs.Scheme.{signature_types, IsPrincipal}
use Rattle.um_tree.specs.Formed.{BasesBelow, IsFormed}
use Rattle.um_tree.specs.Shapes.{IsShaped}
use Rattle.um_tree.specs.Laws.{TypeHas, LiteralsAreClosed}
use Rattle.um_rows.specs.Solutions.{HaveSchemes, function_rows, slot_signature}
use Rattle.um_infer.specs.Inference.{all_schemes, infer_first}
use Rattle.um_check.specs.declared.certificate.Yes.{Yes}
use Rattle.um_check.specs.declared.certificate.No.{No}
use Rattle.um_proof.specs.Proving.{IsYesOf, IsNoOf}

-- Given principal schemes of the functions before, a valid Yes of a scheme of function i, which has no unit parameters,
-- shows that this scheme is principal.
abbrev pub CertifiedSchemesArePrincipal : Type 0
CertifiedSchemesArePrincipal =
    (p : ProgramTree) (schemes : List SchemeTree) (i : ℕ) (f : FunctionTree) → slice_get p.functions i ≡ Some f →
    f.units ≡ 0 → LiteralsAreClosed f.body → HaveSchemes p schemes i →
    (s : SchemeTree) (c : Yes) → IsYesOf p schemes i f s c → IsPrincipal p i s

-- And a valid No shows that the function has no typing, whether it has unit parameters or not.
abbrev pub RefutedFunctionsHaveNoTyping : Type 0
RefutedFunctionsHaveNoTyping =
    (p : ProgramTree) (schemes : List SchemeTree) (i : ℕ) (f : FunctionTree) → slice_get p.functions i ≡ Some f →
    LiteralsAreClosed f.body → HaveSchemes p schemes i →
    (c : No) → IsNoOf p schemes i c → (g : Signature) → Typing p i g → ⊥

-- The rows of the function and its types over slots hold base units that the program declares, and no others.
pub record HoldDeclaredUnits (p : ProgramTree) (schemes : List SchemeTree) (i : ℕ) (f : FunctionTree) : Type 0 where
  pub rows : All (BasesBelow (length p.bases)) (function_rows p.records schemes i f)
  pub types : All (TypeHas (BasesBelow (length p.bases))) (signature_types (slot_signature p.records schemes i f))

-- Given principal schemes of the functions before, a valid Yes of a scheme of such a function shows that this scheme is
-- principal, whether the function has unit parameters or not.
abbrev pub CertifiedOverDeclaredUnits : Type 0
CertifiedOverDeclaredUnits =
    (p : ProgramTree) (schemes : List SchemeTree) (i : ℕ) (f : FunctionTree) → slice_get p.functions i ≡ Some f →
    LiteralsAreClosed f.body → HaveSchemes p schemes i → HoldDeclaredUnits p schemes i f →
    (s : SchemeTree) (c : Yes) → IsYesOf p schemes i f s c → IsPrincipal p i s

-- So in a formed program whose functions have their shapes, given the schemes that are inferred for the first n
-- functions: a valid Yes of a scheme of one of these, or of the next, shows that this scheme is principal.
abbrev pub CertificatesShowPrincipalSchemes : Type 0
CertificatesShowPrincipalSchemes =
    (p : ProgramTree) (n : ℕ) (schemes : List SchemeTree) (i : ℕ) (f : FunctionTree) → IsFormed p → IsShaped p →
    n ≤ length p.functions → infer_first p n ≡ all_schemes schemes → i ≤ n → slice_get p.functions i ≡ Some f →
    (s : SchemeTree) (c : Yes) → IsYesOf p schemes i f s c → IsPrincipal p i s
