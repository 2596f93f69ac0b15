-- Code images as pure trees: a program's records, what its functions take and give, and its code, without units.
-- Source: this project's own.
use Rattle.std.specs.Prelude.{◌≡◌, ◌<◌, ◌≤◌, ◌+◌, ◌^◌, ℕ, All, List, [], ◌∷◌, length, map}
use Rattle.um_units.specs.PowerMap.{one}
use Rattle.um_tree.specs.TypeTree.{TypeTree, bool_type, num_type, list_type, record_type, ShapeTree, shape_tree}
use Rattle.um_tree.specs.ProgramTree.{FieldTree, RecordTree, record_tree}
use Rattle.um_tree.specs.Heights.{greatest_height}
use Rattle.um_tree.specs.TreeHeights.{type_tree_height}
use Rattle.um_shape.specs.RecordShapes.{shape_height}
use Rattle.um_machine.specs.declared.code.Entry.{Entry}
use Rattle.um_machine.specs.declared.code.Code.{Code}
use Rattle.um_verify.specs.declared.image.Head.{Head}
use Rattle.um_verify.specs.declared.image.Image.{Image}

-- a function's name, and the shapes of its parameters and of its result
pub record HeadTree : Type 0 where
  pub name : List ℕ
  pub params : List ShapeTree
  pub result : ShapeTree

pub record ImageTree : Type 0 where
  pub records : List RecordTree
  pub heads : List HeadTree
  pub code : Code

abbrev pub head_tree : Head → HeadTree
head_tree h = record { name = h.name; params = map shape_tree h.params.items.items; result = shape_tree h.result }

abbrev pub image_tree : Image → ImageTree
image_tree image = record {
  records = map record_tree image.records.items.items;
  heads = map head_tree image.heads.items.items;
  code = image.code;
}

-- ---- the form of what can be written as bytes

-- its numbers have unit 1, and its records take no units
abbrev pub IsPlainType : TypeTree → Type 0
IsPlainType bool_type = Unit {0}
IsPlainType (num_type u) = u ≡ one
IsPlainType (list_type t) = IsPlainType t
IsPlainType (record_type r us) = us ≡ []

pub record IsPlainField (f : FieldTree) : Type 0 where
  pub name : length f.name < 2 ^ 32
  pub plain : IsPlainType f.type
  pub low : type_tree_height f.type ≤ greatest_height

-- it has no place in a text and takes no units
pub record IsPlainRecord (d : RecordTree) : Type 0 where
  pub name : length d.name < 2 ^ 32
  pub at : d.at ≡ 0
  pub units : d.units ≡ 0
  pub count : length d.fields < 2 ^ 32
  pub fields : All IsPlainField d.fields

-- what is written of a shape is at most 400 high; fields of records aren't looked at
abbrev pub IsLowText : ShapeTree → Type 0
IsLowText s = shape_height [] s ≤ greatest_height

pub record IsPlainHead (h : HeadTree) : Type 0 where
  pub name : length h.name < 2 ^ 32
  pub count : length h.params < 2 ^ 32
  pub params : All IsLowText h.params
  pub result : IsLowText h.result

-- the entries stand one after the other, from one address to another
abbrev pub Follow : ℕ → List Entry → ℕ → Type 0
Follow a [] z = a ≡ z
Follow a (e ∷ es) z = (e.start ≡ a) × (a ≤ e.end) × Follow e.end es z

-- one entry a head, with as many parameters
abbrev pub Match : List Entry → List HeadTree → Type 0
Match [] [] = Unit {0}
Match (e ∷ es) (h ∷ hs) = (e.params ≡ length h.params) × Match es hs
Match es hs = ⊥

pub record HasForm (image : ImageTree) : Type 0 where
  pub records : All IsPlainRecord image.records
  pub heads : All IsPlainHead image.heads
  pub entries : Match image.code.entries image.heads
  pub follow : Follow 0 image.code.entries (length image.code.ops)
  pub addresses : length image.code.ops < 2 ^ 32
  pub count : length image.records + length image.heads < 2 ^ 32
