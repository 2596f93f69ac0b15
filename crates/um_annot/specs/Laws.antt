-- What the types of nodes come to. The definitions do not rest on this.
-- Source: Kennedy (1996): each derivation of each typing is an instance of the principal one.
use Rattle.std.specs.Prelude.{◌≡◌, ◌↔◌, ℕ, List, length, map, Some, slice_get}
use Rattle.um_units.specs.PowerMap.{PowerMap}
use Rattle.um_tree.specs.ProgramTree.{RecordTree, FunctionTree, ProgramTree, Signature, SchemeTree}
use Rattle.um_tree.specs.Typing.{put, put_signature, moved, Earlier, Calls, IsTypingOf, typings_below}
use Rattle.um_tree.specs.Laws.{LiteralsAreClosed}
use Rattle.um_rows.specs.NodeTypes.{TypedNode}
use Rattle.um_rows.specs.Solutions.{HaveSchemes}
use Rattle.um_rows.specs.Judgement.{has_scheme, judge}
use Rattle.um_annot.specs.TypingNodes.{typing_nodes}
use Rattle.um_annot.specs.TextOrder.{in_text_order, node_with}
use Rattle.um_annot.specs.Annotated.{annotated, annotation}

-- some derivation of the signature as a typing of function i has these nodes, in the order of the text
pub record HasNodes
    (bases : ℕ) (records : List RecordTree) (earlier : Earlier) (i : ℕ) (f : FunctionTree) (g : Signature)
    (nodes : List TypedNode)
    : Type 0 where
  pub typing : IsTypingOf bases records earlier i f g
  pub derived : nodes ≡ in_text_order (map (node_with (moved typing.change)) (typing_nodes records
      (Calls earlier i f typing.signature) typing.typing.loose.choice typing.signature.params f.body
      typing.signature.result typing.typing.loose.body))

-- some units, put for the variables, give the signature from the scheme and the nodes from those of the annotation
abbrev pub IsAnnotatedInstance : SchemeTree → List TypedNode → Signature → List TypedNode → Type 0
IsAnnotatedInstance s nodes g parts =
    (units : ℕ → PowerMap) × (g ≡ put_signature units s.signature) × (parts ≡ map (node_with (put units)) nodes)

-- if a function is judged to have a scheme and its nodes these types, the derivations of its typings are exactly the
-- instances of both. So the scheme and these types are a derivation themselves, with each variable for itself
abbrev pub AnnotationsArePrincipal : Type 0
AnnotationsArePrincipal =
    (p : ProgramTree) (schemes : List SchemeTree) (i : ℕ) (f : FunctionTree) → slice_get p.functions i ≡ Some f →
    LiteralsAreClosed f.body → HaveSchemes p schemes i →
    (s : SchemeTree) (nodes : List TypedNode) → judge (length p.bases) p.records schemes i f ≡ has_scheme s →
    annotation (length p.bases) p.records schemes i f ≡ annotated nodes →
    (g : Signature) (parts : List TypedNode) →
    HasNodes (length p.bases) p.records (typings_below p i) i f g parts ↔ IsAnnotatedInstance s nodes g parts
