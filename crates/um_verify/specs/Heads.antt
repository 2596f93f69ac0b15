-- The rules of an image's heads: its records, and after them its functions, by one index.
-- Source: this project's own rules and limits; names by Unicode Standard Annex 31.
use Rattle.std.specs.Prelude.{◌≡◌, ◌<◌, ◌≤◌, ◌+◌, ℕ, All, List, [], ◌∷◌, ◌++◌, length, map, take, slice_get, Some}
use Rattle.um_tree.specs.TypeTree.{ShapeTree, bool_shape, num_shape, list_shape, record_shape}
use Rattle.um_tree.specs.ProgramTree.{RecordTree}
use Rattle.um_tree.specs.Shapes.{type_shape}
use Rattle.um_tree.specs.Heights.{greatest_height}
use Rattle.um_tree.specs.Formed.{IsNameBytes, AreDistinct, NamesEarlier, field_names}
use Rattle.um_shape.specs.RecordShapes.{RecordShape, shape_height, declared_shape}
use Rattle.um_machine.specs.declared.code.Entry.{Entry}
use Rattle.um_verify.specs.ImageTree.{HeadTree, ImageTree}

-- the shapes of records after these earlier ones, each with its height
abbrev pub and_shapes : List RecordShape → List RecordTree → List RecordShape
and_shapes earlier [] = earlier
and_shapes earlier (d ∷ ds) = and_shapes (earlier ++ declared_shape earlier d ∷ []) ds

abbrev pub record_shapes : List RecordTree → List RecordShape
record_shapes ds = and_shapes [] ds

-- Record i. Its own name and those of its fields are taken once among the records up to it; the height of the record
-- itself isn't looked at, but where it is named.
pub record RecordHolds (records : List RecordTree) (i : ℕ) (d : RecordTree) : Type 0 where
  pub name : IsNameBytes d.name
  pub once : AreDistinct (map (λ x. x.name) (take (i + 1) records))
  pub some_field : 0 < length d.fields
  pub few_fields : length d.fields ≤ 32
  pub names_of_fields : All (λ f. IsNameBytes f.name) d.fields
  pub fields_once : AreDistinct (field_names (take (i + 1) records))
  pub earlier : All (λ f. NamesEarlier i f.type) d.fields
  pub low : All (λ f. shape_height (record_shapes (take i records)) (type_shape f.type) ≤ greatest_height) d.fields

-- each record that the shape names is below n
abbrev pub NamesBelow : ℕ → ShapeTree → Type 0
NamesBelow n bool_shape = Unit {0}
NamesBelow n num_shape = Unit {0}
NamesBelow n (list_shape s) = NamesBelow n s
NamesBelow n (record_shape r) = r < n

-- a shape over the image's records, no higher than 400 through their fields
abbrev pub IsShapeIn : ImageTree → ShapeTree → Type 0
IsShapeIn image s =
    NamesBelow (length image.records) s × (shape_height (record_shapes image.records) s ≤ greatest_height)

-- Function k
pub record FunctionHolds (image : ImageTree) (k : ℕ) (h : HeadTree) : Type 0 where
  pub name : IsNameBytes h.name
  pub once : AreDistinct (map (λ x. x.name) (take (k + 1) image.heads))
  pub few_params : length h.params ≤ 16
  pub some_instruction : (e : Entry) → slice_get image.code.entries k ≡ Some e → e.start < e.end
  pub params : All (IsShapeIn image) h.params
  pub result : IsShapeIn image h.result

-- the head of this index
pub record HeadHolds (image : ImageTree) (i : ℕ) : Type 0 where
  pub record_holds : (d : RecordTree) → slice_get image.records i ≡ Some d → RecordHolds image.records i d
  pub function_holds :
      (k : ℕ) (h : HeadTree) → i ≡ length image.records + k → slice_get image.heads k ≡ Some h → FunctionHolds image k h

-- the first head that breaks its rules
pub record IsFirstHead (image : ImageTree) (i : ℕ) : Type 0 where
  pub exists : i < length image.records + length image.heads
  pub fails : HeadHolds image i → ⊥
  pub earlier : (j : ℕ) → j < i → HeadHolds image j
