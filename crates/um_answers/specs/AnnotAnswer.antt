-- The answer to `annot`: the line of each function's scheme, and after it a line for each node of its body, with its
-- place and its type, in the order of the text. If the type of a node is out of range, the first such node is refused.
-- Source: this project's own texts; the types are Kennedy's (1996).
use Rattle.std.specs.Prelude.{ℕ, suc, List, [], ◌∷◌, ◌++◌, codes, length}
use Rattle.std.specs.List.{flat_map}
use Rattle.um_tree.specs.ProgramTree.{FunctionTree, ProgramTree, SchemeTree}
use Rattle.um_show.specs.SchemeText.{type_text, scheme_text}
use Rattle.um_rows.specs.NodeTypes.{TypedNode}
use Rattle.um_annot.specs.Annotated.{Annotation, annotated, past_range, annotation}
use Rattle.um_reports.specs.declared.status.Status.{Status}
use Rattle.um_reports.specs.declared.status.Status.TheVariants.{Done}
use Rattle.um_reports.specs.Places.{place_text}
use Rattle.um_reports.specs.Refusals.{IsRangeReply}
use Rattle.um_reports.specs.Steps.{line, IsReply}
use Rattle.um_front.specs.Stages.{CheckedTree}
use Rattle.um_front.specs.Staged.{OfChecked}

-- ---- lines

abbrev pub node_line : List ℕ → ProgramTree → TypedNode → List ℕ
node_line bytes p n = line (codes "  " ++ place_text bytes n.at ++ codes " " ++ type_text p n.type)

abbrev pub node_lines : List ℕ → ProgramTree → List TypedNode → List ℕ
node_lines bytes p nodes = flat_map (node_line bytes p) nodes

abbrev pub function_lines : List ℕ → ProgramTree → FunctionTree → SchemeTree → List TypedNode → List ℕ
function_lines bytes p f s nodes = line (scheme_text p f.name s) ++ node_lines bytes p nodes

-- ---- function by function

-- the lines of all functions, or the first function with a node that is out of range, and the node's place
pub data Listing : Type 0 where
  listed : List ℕ → Listing
  past : FunctionTree → ℕ → Listing

abbrev pub and_rest : List ℕ → Listing → Listing
and_rest lines (listed rest) = listed (lines ++ rest)
and_rest lines (past f at) = past f at

abbrev pub with_function : List ℕ → ProgramTree → FunctionTree → SchemeTree → Annotation → Listing → Listing
with_function bytes p f s (annotated nodes) rest = and_rest (function_lines bytes p f s nodes) rest
with_function bytes p f s (past_range at) rest = past f at

module _ (bytes : List ℕ) (p : ProgramTree) (schemes : List SchemeTree) where
  -- of these functions with their schemes, the first of which has number i
  abbrev pub listing : ℕ → List FunctionTree → List SchemeTree → Listing
  listing i (f ∷ fs) (s ∷ ss) =
      with_function bytes p f s (annotation (length p.bases) p.records schemes i f) (listing (suc i) fs ss)
  listing i [] ss = listed []
  listing i (f ∷ fs) [] = listed []

abbrev pub IsListingReply : List ℕ → Listing → List ℕ → Status → Type 0
IsListingReply bytes (listed lines) text status = IsReply text status lines Done
IsListingReply bytes (past f at) text status = IsRangeReply bytes f.name at text status

abbrev pub IsAnnotReply : List ℕ → CheckedTree → List ℕ → Status → Type 0
IsAnnotReply bytes c text status =
    let p = c.text.program in
    IsListingReply bytes (listing bytes p c.schemes 0 p.functions c.schemes) text status

-- of a text's program
unfoldable pub AnnotAnswer : List ℕ → List ℕ → Status → Type 0
AnnotAnswer bytes text status = OfChecked (IsAnnotReply bytes) bytes text status
