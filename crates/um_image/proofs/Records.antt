-- The records of a program's image: their fields on the stack, and their heights.
use Rattle.std.proofs.Common.{◌≡◌, refl, sym, subst, ap, ◌∙◌, ℕ, zero, suc, ◌+◌, ◌<◌, ◌≤◌, ◌⊎◌, inl, inr, Bool, true, false, cond, nat_le, List, [], ◌∷◌, ◌++◌, length, map, take, Option, Some, None, slice_get, Ok, Err, arith}
use Rattle.std.specs.Prelude.{option_map}
use Rattle.std.proofs.lemmas.Option.{slice_get-map}
use Rattle.std.proofs.lemmas.Bool.Decides.{nat_tests}
use Rattle.um_tree.specs.TypeTree.{TypeTree, bool_type, num_type, list_type, record_type, ShapeTree, bool_shape, num_shape, list_shape, record_shape}
use Rattle.um_tree.specs.ProgramTree.{FieldTree, RecordTree}
use Rattle.um_tree.specs.Typing.{field_types}
use Rattle.um_tree.specs.Shapes.{type_shape}
use Rattle.um_tree.specs.Heights.{greatest_height}
use Rattle.um_shape.specs.RecordShapes.{RecordShape, declared_height, shape_height, tallest, declared_shape}
use Rattle.um_shape.specs.FirstFault.{too_deep, record_found, records_found}
use Rattle.um_shape.proofs.Sound.{then_ok, Alike, alike_at}
use Rattle.um_shape.proofs.SoundProgram.{in_either, only_one, nothing_at}
use Rattle.um_verify.specs.StackShape.{on_stack}
use Rattle.um_verify.specs.Heads.{and_shapes}
use Rattle.um_verify.specs.Rules.{fields_on_stack}
use Rattle.um_image.specs.ProgramImage.{plain_type, plain_field, plain_record}

pub plain_shape : (t : TypeTree) → type_shape (plain_type t) ≡ type_shape t
plain_shape bool_type = refl
plain_shape (num_type u) = refl
plain_shape (list_type t) = ap list_shape (plain_shape t)
plain_shape (record_type r us) = refl

plain_fields : (fs : List FieldTree) → map type_shape (map (λ f. f.type) (map plain_field fs)) ≡ map type_shape (map (λ f. f.type) fs)
plain_fields [] = refl
plain_fields (f ∷ fs) = (λ i. plain_shape f.type i ∷ plain_fields fs i)

-- the shapes of the fields stay
pub plain_record_shapes : (d : RecordTree) → map type_shape (field_types (plain_record d)) ≡ map type_shape (field_types d)
plain_record_shapes d = plain_fields d.fields

plain_declared : (earlier : List RecordShape) (d : RecordTree) → declared_shape earlier (plain_record d) ≡ declared_shape earlier d
plain_declared earlier d = ap (λ (ss : List ShapeTree). record { fields = ss; height = tallest earlier ss + 1 }) (plain_record_shapes d)

pub plain_and_shapes : (ds : List RecordTree) (earlier : List RecordShape) → and_shapes earlier (map plain_record ds) ≡ and_shapes earlier ds
plain_and_shapes [] earlier = refl
plain_and_shapes (d ∷ ds) earlier =
    ap (λ (s : RecordShape). and_shapes (earlier ++ s ∷ []) (map plain_record ds)) (plain_declared earlier d) ∙ plain_and_shapes ds (earlier ++ declared_shape earlier d ∷ [])

record_is : (earlier : List RecordShape) (d : RecordTree) (s : RecordShape) → record_found earlier d ≡ Ok s → (declared_shape earlier d ≡ s) × (s.height ≤ greatest_height)
record_is earlier d s e = by_test (nat_le (declared_shape earlier d).height greatest_height) refl e where
  by_test : (b : Bool) → nat_le (declared_shape earlier d).height greatest_height ≡ b → cond b (Ok (declared_shape earlier d)) (Err (too_deep d.at)) ≡ Ok s → (declared_shape earlier d ≡ s) × (s.height ≤ greatest_height)
  by_test true h e =
      let same : declared_shape earlier d ≡ s = cc in
      let low : (declared_shape earlier d).height ≤ greatest_height = grind (arith, nat_tests) in
      (same, subst (λ (x : RecordShape). x.height ≤ greatest_height) same low)
  by_test false h e = absurd cc

-- what is found of records without a fault are their shapes
pub found_shapes : (ds : List RecordTree) (earlier rs : List RecordShape) → records_found earlier ds ≡ Ok rs → and_shapes earlier ds ≡ rs
found_shapes [] earlier rs e = cc
found_shapes (d ∷ ds) earlier rs e =
    let h = then_ok (record_found earlier d) _ rs e in
    ap (λ (s : RecordShape). and_shapes (earlier ++ s ∷ []) ds) (record_is earlier d h.0 h.1).0 ∙ found_shapes ds (earlier ++ h.0 ∷ []) rs h.2

abbrev Each : (RecordShape → Type 0) → List RecordShape → Type 0
Each P rs = (r : ℕ) (d : RecordShape) → slice_get rs r ≡ Some d → P d

each_more : (P : RecordShape → Type 0) (rs : List RecordShape) (s : RecordShape) → Each P rs → P s → Each P (rs ++ s ∷ [])
each_more P rs s h k r d e = which (in_either rs (s ∷ []) r d e) where
  which : ((r < length rs) × (slice_get rs r ≡ Some d)) ⊎ ((m : ℕ) × (r ≡ length rs + m) × (slice_get (s ∷ []) m ≡ Some d)) → P d
  which (inl w) = h r d w.1
  which (inr w) = subst P (only_one s w.0 d w.2).1 k

-- a record is at least 1 high
pub high_shapes : (ds : List RecordTree) (earlier : List RecordShape) → Each (λ d. 1 ≤ d.height) earlier → Each (λ d. 1 ≤ d.height) (and_shapes earlier ds)
high_shapes [] earlier h = h
high_shapes (d ∷ ds) earlier h = high_shapes ds (earlier ++ declared_shape earlier d ∷ []) (each_more (λ d. 1 ≤ d.height) earlier (declared_shape earlier d) h (omega arith))

pub no_shapes : (P : RecordShape → Type 0) → Each P []
no_shapes P r d e = absurd (nothing_at r d e)

-- the fields of an image's record on the stack
pub fields_recorded : (ds : List RecordTree) (rs : List RecordShape) → Alike ds rs → (r : ℕ) (d : RecordShape) → slice_get rs r ≡ Some d → slice_get (map fields_on_stack (map plain_record ds)) r ≡ Some (map on_stack d.fields)
fields_recorded ds rs alike r d e =
    let a = alike_at ds rs r d alike e in
    slice_get-map fields_on_stack (map plain_record ds) r
    ∙ ap (option_map fields_on_stack) (slice_get-map plain_record ds r ∙ ap (option_map plain_record) a.1)
    ∙ ap (λ (ss : List ShapeTree). Some (map on_stack ss)) (plain_record_shapes a.0 ∙ sym a.2)

-- alone a shape is no higher than over records
pub text_lower : (rs : List RecordShape) → ((r : ℕ) (d : RecordShape) → slice_get rs r ≡ Some d → 1 ≤ d.height) → (s : ShapeTree) → shape_height [] s ≤ shape_height rs s
text_lower rs h bool_shape = omega arith
text_lower rs h num_shape = omega arith
text_lower rs h (list_shape s) = let l = text_lower rs h s in omega arith
text_lower rs h (record_shape r) = known (slice_get rs r) refl where
  nothing : (r : ℕ) → declared_height (slice_get [] r) ≡ 1
  nothing zero = refl
  nothing (suc r) = refl

  known : (o : Option RecordShape) → slice_get rs r ≡ o → declared_height (slice_get [] r) ≤ declared_height o
  known None e = let n = nothing r in omega arith
  known (Some d) e = let n = nothing r in let k = h r d e in omega arith

pub take_plain : (n : ℕ) (ds : List RecordTree) → take n (map plain_record ds) ≡ map plain_record (take n ds)
take_plain zero ds = refl
take_plain (suc n) [] = refl
take_plain (suc n) (d ∷ ds) = ap (λ (xs : List RecordTree). plain_record d ∷ xs) (take_plain n ds)

-- what is below the tallest of some
pub below_tallest : (rs : List RecordShape) (ss : List ShapeTree) (k : ℕ) (s : ShapeTree) → slice_get ss k ≡ Some s → shape_height rs s ≤ tallest rs ss
below_tallest rs [] zero s e = absurd cc
below_tallest rs [] (suc k) s e = absurd cc
below_tallest rs (t ∷ ss) zero s e = let same : t ≡ s = cc in subst (λ (x : ShapeTree). shape_height rs x ≤ tallest rs (t ∷ ss)) same (omega arith)
below_tallest rs (t ∷ ss) (suc k) s e = let l = below_tallest rs ss k s e in omega arith

-- a field of record r is low over the records before
pub low_field : (ds : List RecordTree) (earlier rs : List RecordShape) → records_found earlier ds ≡ Ok rs → (r : ℕ) (x : RecordTree) → slice_get ds r ≡ Some x → (k : ℕ) (f : FieldTree) → slice_get x.fields k ≡ Some f → shape_height (and_shapes earlier (take r ds)) (type_shape f.type) ≤ greatest_height
low_field [] earlier rs e zero x s k f u = absurd cc
low_field [] earlier rs e (suc r) x s k f u = absurd cc
low_field (d ∷ ds) earlier rs e zero x s k f u =
    let h = then_ok (record_found earlier d) _ rs e in
    let is = record_is earlier d h.0 h.1 in
    let same : d ≡ x = cc in
    let high : h.0.height ≤ greatest_height = is.1 in
    let whole : tallest earlier (map type_shape (field_types d)) + 1 ≡ h.0.height = ap (λ (y : RecordShape). y.height) is.0 in
    let shapes : tallest earlier (map type_shape (field_types d)) ≡ tallest earlier (map type_shape (field_types x)) = ap (λ (y : RecordTree). tallest earlier (map type_shape (field_types y))) same in
    let there : slice_get (map type_shape (field_types x)) k ≡ Some (type_shape f.type) = slice_get-map type_shape (field_types x) k ∙ ap (option_map type_shape) (slice_get-map (λ (g : FieldTree). g.type) x.fields k ∙ ap (option_map (λ (g : FieldTree). g.type)) u) in
    let l = below_tallest earlier (map type_shape (field_types x)) k (type_shape f.type) there in
    omega arith
low_field (d ∷ ds) earlier rs e (suc r) x s k f u =
    let h = then_ok (record_found earlier d) _ rs e in
    subst (λ (y : RecordShape). shape_height (and_shapes (earlier ++ y ∷ []) (take r ds)) (type_shape f.type) ≤ greatest_height) (sym (record_is earlier d h.0 h.1).0) (low_field ds (earlier ++ h.0 ∷ []) rs h.2 r x s k f u)
