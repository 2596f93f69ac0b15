-- What the equations of a program's functions hold, and how many they are, where the functions before have the schemes
-- that are inferred for them. The definitions do not rest on this.
-- Source: this project's own. In Kennedy (1996) the base units of a program are given once for all.
use Rattle.std.specs.Prelude.{◌≡◌, ℕ, ◌≤◌, All, List, length, Some, slice_get}
use Rattle.um_tree.specs.ProgramTree.{FunctionTree, ProgramTree, SchemeTree}
use Rattle.um_tree.specs.Formed.{BasesBelow, IsFormed}
use Rattle.um_tree.specs.Laws.{TypeHas}
use Rattle.um_tree.specs.Scheme.{signature_types}
use Rattle.um_tree.specs.Shapes.{IsShaped}
use Rattle.um_rows.specs.Solutions.{function_rows, slot_signature}
use Rattle.um_infer.specs.Inference.{all_schemes, infer_first}

-- the schemes of the first n functions hold base units that the program declares, and no others
abbrev pub SchemesHoldDeclaredUnits : Type 0
SchemesHoldDeclaredUnits =
    (p : ProgramTree) (n : ℕ) (schemes : List SchemeTree) → IsFormed p → IsShaped p →
    n ≤ length p.functions → infer_first p n ≡ all_schemes schemes →
    (j : ℕ) (s : SchemeTree) → slice_get schemes j ≡ Some s →
    All (TypeHas (BasesBelow (length p.bases))) (signature_types s.signature)

-- so do the rows of each of these functions, and of the next
abbrev pub RowsHoldDeclaredUnits : Type 0
RowsHoldDeclaredUnits =
    (p : ProgramTree) (n : ℕ) (schemes : List SchemeTree) (i : ℕ) (f : FunctionTree) → IsFormed p → IsShaped p →
    n ≤ length p.functions → infer_first p n ≡ all_schemes schemes → i ≤ n → slice_get p.functions i ≡ Some f →
    All (BasesBelow (length p.bases)) (function_rows p.records schemes i f)

-- and its types over slots
abbrev pub TypesHoldDeclaredUnits : Type 0
TypesHoldDeclaredUnits =
    (p : ProgramTree) (n : ℕ) (schemes : List SchemeTree) (i : ℕ) (f : FunctionTree) → IsFormed p → IsShaped p →
    n ≤ length p.functions → infer_first p n ≡ all_schemes schemes → i ≤ n → slice_get p.functions i ≡ Some f →
    All (TypeHas (BasesBelow (length p.bases))) (signature_types (slot_signature p.records schemes i f))

-- a function has at most eleven rows for each of the 20,000 nodes that its body may have
abbrev pub RowsAreFew : Type 0
RowsAreFew =
    (p : ProgramTree) (n : ℕ) (schemes : List SchemeTree) (i : ℕ) (f : FunctionTree) → IsFormed p → IsShaped p →
    n ≤ length p.functions → infer_first p n ≡ all_schemes schemes → slice_get p.functions i ≡ Some f →
    length (function_rows p.records schemes i f) ≤ 220000
