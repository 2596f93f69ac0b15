-- The steps of the answer to `annot`, as the code makes them.
-- Source: this project's own.
use Rattle.std.specs.Prelude.{◌≡◌, ℕ, List, ◌++◌, Some, slice_get}
use Rattle.um_tree.specs.ProgramTree.{FunctionTree, ProgramTree, SchemeTree}
use Rattle.um_rows.specs.NodeTypes.{TypedNode}
use Rattle.um_annot.specs.declared.stop.AnnotStop.{AnnotStop}
use Rattle.um_annot.specs.declared.stop.AnnotStop.TheVariants as stop
use Rattle.um_annot.specs.Annotated.{Annotation, annotated, past_range}
use Rattle.um_answers.specs.declared.annot.ListStop.{ListStop}
use Rattle.um_answers.specs.declared.annot.ListStop.TheVariants as list_stop
use Rattle.um_answers.specs.AnnotAnswer.{Listing, past, function_lines}

-- the lines of the function come after the old ones
abbrev pub AddsFunction : List ℕ → ProgramTree → FunctionTree → SchemeTree → Annotation → List ℕ → List ℕ → Type 0
AddsFunction bytes p f s a old new =
    (nodes : List TypedNode) × (a ≡ annotated nodes) × (new ≡ old ++ function_lines bytes p f s nodes)

-- the function has a node that is out of range
abbrev pub IsPast : Annotation → AnnotStop → Type 0
IsPast a (stop.PowerRange at) = a ≡ past_range at
IsPast a stop.NoMemory = Unit {0}

-- the first function with such a node is named
abbrev pub StopsListing : ProgramTree → Listing → ListStop → Type 0
StopsListing p l (list_stop.PowerRange i at) =
    (f : FunctionTree) × (slice_get p.functions i ≡ Some f) × (l ≡ past f at)
StopsListing p l list_stop.NoMemory = Unit {0}
