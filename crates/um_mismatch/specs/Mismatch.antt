-- Why a node has no shape: two shapes that must be the same, or a part that isn't of the kind that must stand there.
-- Source: this project's own texts.
use Rattle.std.specs.Prelude.{ℕ, List, [], ◌++◌, codes}
use Rattle.um_tree.specs.TypeTree.{ShapeTree, bool_shape, num_shape, list_shape, record_shape}
use Rattle.um_tree.specs.ProgramTree.{ProgramTree}
use Rattle.um_agree.specs.declared.rule.Rule.{Rule}
use Rattle.um_agree.specs.Wording.{agreement_line, first_word, second_word}
use Rattle.um_show.specs.SchemeText.{record_name}
use Rattle.um_mismatch.specs.declared.kind.Kind.{Kind}
use Rattle.um_mismatch.specs.declared.kind.Kind.TheVariants as kind

pub data Mismatch : Type 0 where
  -- the rule asks that the two be the same
  unequal : Rule → ShapeTree → ShapeTree → Mismatch
  -- a part of this kind must stand where one of this shape stands
  unexpected : Kind → ShapeTree → Mismatch
  -- the node names what isn't there, or has too few or too many parts. No node of a formed program does
  unformed : Mismatch

-- what is told: of a node at this place, in the function of this number
pub record Told : Type 0 where
  pub function : ℕ
  pub at : ℕ
  pub mismatch : Mismatch

abbrev pub worded_line : List ℕ → List ℕ → List ℕ
worded_line word text = codes "  " ++ word ++ codes ": " ++ text ++ codes "\n"

module _ (p : ProgramTree) where
  -- a shape is printed as the type whose units are all 1, without the units of records
  abbrev pub shape_text : ShapeTree → List ℕ
  shape_text bool_shape = codes "bool"
  shape_text num_shape = codes "num"
  shape_text (list_shape s) = shape_text s ++ codes " list"
  shape_text (record_shape r) = record_name p r

  abbrev pub kind_line : Kind → List ℕ
  kind_line kind.Number = codes "this operation takes numbers"
  kind_line kind.Truth = codes "this operation takes truth values"
  kind_line kind.List = codes "a list must stand here"
  kind_line kind.EmptyList = codes "the type of the empty list must be a list"
  kind_line (kind.Record r) = codes "this field belongs to " ++ record_name p r

  abbrev pub kind_text : Kind → List ℕ
  kind_text kind.Number = codes "num"
  kind_text kind.Truth = codes "bool"
  kind_text kind.List = codes "list"
  kind_text kind.EmptyList = codes "list"
  kind_text (kind.Record r) = record_name p r

  -- the line of the rule, and one for each shape, in function i
  abbrev pub mismatch_text : ℕ → Mismatch → List ℕ
  mismatch_text i (unequal rule s t) =
      agreement_line p i rule ++ codes "\n"
      ++ worded_line (first_word rule) (shape_text s) ++ worded_line (second_word rule) (shape_text t)
  mismatch_text i (unexpected k s) =
      kind_line k ++ codes "\n"
      ++ worded_line (codes "expected") (kind_text k) ++ worded_line (codes "found") (shape_text s)
  mismatch_text i unformed = []
