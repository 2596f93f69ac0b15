-- The rule of a node gives the shape that um_shape's rule gives, and something to tell if that gives none.
use Rattle.std.proofs.Common.{◌≡◌, refl, sym, ap, subst, ◌∙◌, ℕ, suc, Bool, true, false, ◌&&◌, cond, nat_eq, List, [], ◌∷◌, length, map, slice_get, Option, Some, None, Result, Ok, Err, arith}
use Rattle.std.specs.Option.{option_map}
use Rattle.std.proofs.lemmas.Bool.Decides.{nat_tests}
use Rattle.std.proofs.lemmas.Option.{slice_get-map}
use Rattle.um_tree.specs.TypeTree.{ShapeTree, bool_shape, num_shape, list_shape, record_shape}
use Rattle.um_tree.specs.Shapes.{ShapeSignature}
use Rattle.um_agree.specs.declared.rule.Rule.{Rule}
use Rattle.um_agree.specs.declared.rule.Rule.TheVariants as asks
use Rattle.um_shape.specs.RecordShapes.{RecordShape}
use Rattle.um_shape.specs.FirstFault.{same_shape, same_shapes, all_same, where_true}
use Rattle.um_shape.specs.FirstFault.{of_list as shape_of_list, of_items as shape_of_items, of_head as shape_of_head}
use Rattle.um_shape.specs.FirstFault.{of_call as shape_of_call, of_record as shape_of_record, of_field as shape_of_field}
use Rattle.um_mismatch.specs.declared.kind.Kind.TheVariants as kind
use Rattle.um_mismatch.specs.Mismatch.{Mismatch, unequal, unexpected, unformed}
use Rattle.um_mismatch.specs.NodeRules.{whole_if, known, list_item, of_nil, of_field, of_head, of_others, of_items, of_parts, of_all, of_call, of_record}

abbrev pub Gives : Option ShapeTree → Result ShapeTree Mismatch → Type 0
Gives None r = (m : Mismatch) × (r ≡ Err m)
Gives (Some s) r = r ≡ Ok s

-- ---- tests
pub gives_if : (b : Bool) (s : ShapeTree) (m : Mismatch) → Gives (where_true b s) (whole_if b s m)
gives_if true s m = refl
gives_if false s m = (m, refl)

-- one test before others
pub gives_and : (b c : Bool) (s : ShapeTree) (r : Result ShapeTree Mismatch) (m : Mismatch) → Gives (where_true c s) r → Gives (where_true (b && c) s) (cond b r (Err m))
gives_and true c s r m h = h
gives_and false c s r m h = (m, refl)

pub gives_two : (b c : Bool) (s : ShapeTree) (m n : Mismatch) → Gives (where_true (b && c) s) (cond b (whole_if c s m) (Err n))
gives_two b c s m n = gives_and b c s (whole_if c s m) n (gives_if c s m)

pub gives_known : (o : Option ShapeTree) → Gives o (known o)
gives_known None = (unformed, refl)
gives_known (Some s) = refl

-- ---- lists
pub gives_nil : (s : ShapeTree) → Gives (shape_of_list s) (of_nil s (list_item s))
gives_nil bool_shape = (unexpected kind.EmptyList bool_shape, refl)
gives_nil num_shape = (unexpected kind.EmptyList num_shape, refl)
gives_nil (list_shape s) = refl
gives_nil (record_shape r) = (unexpected kind.EmptyList (record_shape r), refl)

pub gives_head : (s t : ShapeTree) → Gives (shape_of_head s t) (of_head s t (list_item t))
gives_head s bool_shape = (unexpected kind.List bool_shape, refl)
gives_head s num_shape = (unexpected kind.List num_shape, refl)
gives_head s (list_shape t) = gives_if (same_shape t s) (list_shape t) (unequal asks.Head s t)
gives_head s (record_shape r) = (unexpected kind.List (record_shape r), refl)

gives_others : (k : ℕ) (s : ShapeTree) (ss : List ShapeTree) → Gives (where_true (all_same s ss) (list_shape s)) (of_others k s ss)
gives_others k s [] = refl
gives_others k s (t ∷ ts) = gives_and (same_shape t s) (all_same s ts) (list_shape s) (of_others (suc k) s ts) (unequal (asks.Item k) s t) (gives_others (suc k) s ts)

pub gives_items : (ss : List ShapeTree) → Gives (shape_of_items ss) (of_items ss)
gives_items [] = (unformed, refl)
gives_items (s ∷ ss) = gives_others 2 s ss

-- ---- parts
other_lengths : (ss ts : List ShapeTree) → (length ss ≡ length ts → ⊥) → same_shapes ss ts ≡ false
other_lengths [] [] h = absurd (h refl)
other_lengths [] (t ∷ ts) h = refl
other_lengths (s ∷ ss) [] h = refl
other_lengths (s ∷ ss) (t ∷ ts) h = ap (λ b. same_shape s t && b) (other_lengths ss ts (λ e. h (ap suc e))) ∙ and_false (same_shape s t) where
  and_false : (b : Bool) → (b && false) ≡ false
  and_false true = refl
  and_false false = refl

gives_parts : (rules : ℕ → Rule) (k : ℕ) (whole : ShapeTree) (ss asked : List ShapeTree) → length ss ≡ length asked → Gives (where_true (same_shapes ss asked) whole) (of_parts rules k whole asked ss)
gives_parts rules k whole [] [] h = refl
gives_parts rules k whole [] (s ∷ asked) h = absurd (omega (arith, h))
gives_parts rules k whole (t ∷ ss) [] h = absurd (omega (arith, h))
gives_parts rules k whole (t ∷ ss) (s ∷ asked) h = gives_and (same_shape t s) (same_shapes ss asked) whole (of_parts rules (suc k) whole asked ss) (unequal (rules k) s t) (gives_parts rules (suc k) whole ss asked (omega (arith, h)))

pub gives_all : (rules : ℕ → Rule) (k : ℕ) (whole : ShapeTree) (ss asked : List ShapeTree) → Gives (where_true (same_shapes ss asked) whole) (of_all rules k whole asked ss)
gives_all rules k whole ss asked = by_test (nat_eq (length ss) (length asked)) refl where
  by_test : (b : Bool) → nat_eq (length ss) (length asked) ≡ b → Gives (where_true (same_shapes ss asked) whole) (cond b (of_parts rules k whole asked ss) (Err unformed))
  by_test true e = gives_parts rules k whole ss asked (grind (arith, nat_tests))
  by_test false e =
      let differ : length ss ≡ length asked → ⊥ = λ h. grind (arith, nat_tests) in
      subst (λ b. Gives (where_true b whole) (Err unformed)) (sym (other_lengths ss asked differ)) (unformed, refl)

pub gives_call : (j : ℕ) (o : Option ShapeSignature) (ss : List ShapeTree) → Gives (shape_of_call o ss) (of_call j o ss)
gives_call j None ss = (unformed, refl)
gives_call j (Some g) ss = gives_all (asks.Argument j) 1 g.result ss g.params

-- ---- records
abbrev pub fields_of : RecordShape → List ShapeTree
fields_of d = d.fields

gives_of_record : (r : ℕ) (o : Option RecordShape) (ss : List ShapeTree) → Gives (shape_of_record o r ss) (of_record r (option_map fields_of o) ss)
gives_of_record r None ss = (unformed, refl)
gives_of_record r (Some d) ss = gives_all (asks.Part r) 0 (record_shape r) ss d.fields

gives_of_field : (r k : ℕ) (o : Option RecordShape) (s : ShapeTree) → Gives (shape_of_field o r k s) (of_field r k (option_map fields_of o) s)
gives_of_field r k None s = (unformed, refl)
gives_of_field r k (Some d) s = by_test (same_shape s (record_shape r)) where
  by_test : (b : Bool) → Gives (cond b (slice_get d.fields k) None) (cond b (known (slice_get d.fields k)) (Err (unexpected (kind.Record r) s)))
  by_test true = gives_known (slice_get d.fields k)
  by_test false = (unexpected (kind.Record r) s, refl)

module _ (records : List RecordShape) where
  fields_at : (rs : List RecordShape) (r : ℕ) → option_map fields_of (slice_get rs r) ≡ slice_get (map fields_of rs) r
  fields_at rs r = sym (slice_get-map fields_of rs r)

  pub gives_record : (r : ℕ) (ss : List ShapeTree) → Gives (shape_of_record (slice_get records r) r ss) (of_record r (slice_get (map fields_of records) r) ss)
  gives_record r ss = subst (λ o. Gives (shape_of_record (slice_get records r) r ss) (of_record r o ss)) (fields_at records r) (gives_of_record r (slice_get records r) ss)

  pub gives_field : (r k : ℕ) (s : ShapeTree) → Gives (shape_of_field (slice_get records r) r k s) (of_field r k (slice_get (map fields_of records) r) s)
  gives_field r k s = subst (λ o. Gives (shape_of_field (slice_get records r) r k s) (of_field r k o s)) (fields_at records r) (gives_of_field r k (slice_get records r) s)
