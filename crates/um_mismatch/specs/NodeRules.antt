-- The shape of a node from those of its parts, or what is told if its rule gives none. Where several things are wrong
-- at one node, the first in the order of its parts is told, and a part of the wrong kind before two unequal parts.
-- Source: this project's own; the rules are those of um_tree's Shapes.
use Rattle.std.specs.Prelude.{ℕ, suc, Bool, cond, nat_eq, List, [], ◌∷◌, length, slice_get, Option, Some, None}
use Rattle.std.specs.Prelude.{Result, Ok, Err}
use Rattle.um_tree.specs.TypeTree.{ShapeTree, bool_shape, list_shape, record_shape, NoteTree}
use Rattle.um_tree.specs.Shapes.{note_shape, ShapeSignature}
use Rattle.um_agree.specs.declared.rule.Rule.{Rule}
use Rattle.um_agree.specs.declared.rule.Rule.TheVariants as asks
use Rattle.um_shape.specs.FirstFault.{same_shape}
use Rattle.um_mismatch.specs.declared.kind.Kind.{Kind}
use Rattle.um_mismatch.specs.declared.kind.Kind.TheVariants as kind
use Rattle.um_mismatch.specs.Mismatch.{Mismatch, unequal, unexpected, unformed}

-- this shape, if the test holds
abbrev pub whole_if : Bool → ShapeTree → Mismatch → Result ShapeTree Mismatch
whole_if b whole m = cond b (Ok whole) (Err m)

abbrev pub known : Option ShapeTree → Result ShapeTree Mismatch
known None = Err unformed
known (Some s) = Ok s

abbrev pub list_item : ShapeTree → Option ShapeTree
list_item (list_shape s) = Some s
list_item s = None

-- ---- kinds

-- a part of this kind, whose shape is asked
abbrev pub of_one : Kind → ShapeTree → ShapeTree → Result ShapeTree Mismatch
of_one k asked s = whole_if (same_shape s asked) asked (unexpected k s)

-- two such parts, the left one first
abbrev pub of_two : Kind → ShapeTree → ShapeTree → ShapeTree → ShapeTree → Result ShapeTree Mismatch
of_two k asked whole s t =
    cond (same_shape s asked) (whole_if (same_shape t asked) whole (unexpected k t)) (Err (unexpected k s))

-- a list, of which this is the item's shape
abbrev pub items_of : ShapeTree → Option ShapeTree → Result ShapeTree Mismatch
items_of s None = Err (unexpected kind.List s)
items_of s (Some item) = Ok item

-- the note of an empty list
abbrev pub of_nil : ShapeTree → Option ShapeTree → Result ShapeTree Mismatch
of_nil s None = Err (unexpected kind.EmptyList s)
of_nil s (Some item) = Ok s

-- field k of record r, whose fields have these shapes
abbrev pub of_field : ℕ → ℕ → Option (List ShapeTree) → ShapeTree → Result ShapeTree Mismatch
of_field r k None s = Err unformed
of_field r k (Some fields) s =
    cond (same_shape s (record_shape r)) (known (slice_get fields k)) (Err (unexpected (kind.Record r) s))

-- ---- equal shapes

abbrev pub of_equal : Rule → ShapeTree → ShapeTree → Result ShapeTree Mismatch
of_equal rule s t = whole_if (same_shape t s) s (unequal rule s t)

-- a condition, and then two branches
abbrev pub of_condition : ShapeTree → ShapeTree → ShapeTree → Result ShapeTree Mismatch
of_condition c s t = cond (same_shape c bool_shape) (of_equal asks.Branches s t) (Err (unexpected kind.Truth c))

-- a head, and a list of which this is the item's shape
abbrev pub of_head : ShapeTree → ShapeTree → Option ShapeTree → Result ShapeTree Mismatch
of_head s t None = Err (unexpected kind.List t)
of_head s t (Some item) = whole_if (same_shape item s) t (unequal asks.Head s item)

-- the items from number k on, against the first
abbrev pub of_others : ℕ → ShapeTree → List ShapeTree → Result ShapeTree Mismatch
of_others k s [] = Ok (list_shape s)
of_others k s (t ∷ ts) = cond (same_shape t s) (of_others (suc k) s ts) (Err (unequal (asks.Item k) s t))

abbrev pub of_items : List ShapeTree → Result ShapeTree Mismatch
of_items [] = Err unformed
of_items (s ∷ ss) = of_others 2 s ss

-- part by part from number k on, against what is asked for
abbrev pub of_parts : (ℕ → Rule) → ℕ → ShapeTree → List ShapeTree → List ShapeTree → Result ShapeTree Mismatch
of_parts rules k whole (s ∷ asked) (t ∷ ss) =
    cond (same_shape t s) (of_parts rules (suc k) whole asked ss) (Err (unequal (rules k) s t))
of_parts rules k whole asked ss = Ok whole

-- as many parts as are asked for
abbrev pub of_all : (ℕ → Rule) → ℕ → ShapeTree → List ShapeTree → List ShapeTree → Result ShapeTree Mismatch
of_all rules k whole asked ss =
    cond (nat_eq (length ss) (length asked)) (of_parts rules k whole asked ss) (Err unformed)

-- a call of function j
abbrev pub of_call : ℕ → Option ShapeSignature → List ShapeTree → Result ShapeTree Mismatch
of_call j None ss = Err unformed
of_call j (Some g) ss = of_all (asks.Argument j) 1 g.result g.params ss

-- a value of record r, whose fields have these shapes
abbrev pub of_record : ℕ → Option (List ShapeTree) → List ShapeTree → Result ShapeTree Mismatch
of_record r None ss = Err unformed
of_record r (Some fields) ss = of_all (asks.Part r) 0 (record_shape r) fields ss

-- the body of a function, against the note of its result if one is written
abbrev pub of_result : Option NoteTree → ShapeTree → Result ShapeTree Mismatch
of_result None s = Ok s
of_result (Some n) s = whole_if (same_shape s (note_shape n)) s (unequal asks.ResultNote s (note_shape n))
