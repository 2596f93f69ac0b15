-- The records of a verified image are a formed program.
use Rattle.std.proofs.Common.{◌≡◌, refl, sym, subst, ap, ◌∙◌, ℕ, zero, suc, ◌+◌, ◌<◌, ◌≤◌, List, [], ◌∷◌, length, map, take, get_or, All, Some, slice_get, arith}
use Rattle.std.proofs.lemmas.List.{take_all}
use Rattle.um_units.specs.PowerMap.{PowerMap}
use Rattle.um_tree.specs.TypeTree.{TypeTree, bool_type, num_type, list_type, record_type, ShapeTree, bool_shape, num_shape, list_shape, record_shape}
use Rattle.um_tree.specs.ProgramTree.{FieldTree, RecordTree}
use Rattle.um_tree.specs.Formed.{IsNameBytes, AreDistinct, AreNames, IsUnitIn, IsTypeIn, NamesEarlier, IsFieldType, IsFormedRecord, IsFormed, field_names}
use Rattle.um_tree.proofs.Moved.{All_at}
use Rattle.um_names.proofs.FormedUnits.{in_one}
use Rattle.um_names.proofs.FormedNames.{names-append, names-none}
use Rattle.um_value.specs.ValueGrammar.{IsShapeIn}
use Rattle.um_verify.specs.ImageTree.{HeadTree, ImageTree, IsPlainType, IsPlainField, IsPlainRecord}
use Rattle.um_verify.specs.Heads.{RecordHolds, NamesBelow}
use Rattle.um_verify.specs.Verified.{IsVerified}
use Rattle.um_run.specs.ImageCalls.{image_program}

-- ---- lists

pub get_there : {A : Type 0} (xs : List A) (k : ℕ) → k < length xs → (x : A) × (slice_get xs k ≡ Some x)
get_there [] k l = absurd (omega (arith, l))
get_there (x ∷ xs) zero l = (x, refl)
get_there (x ∷ xs) (suc k) l = get_there xs k (omega (arith, l))

get_mapped : {A B : Type 0} (f : A → B) (xs : List A) (k : ℕ) (y : B) → slice_get (map f xs) k ≡ Some y → (x : A) × (slice_get xs k ≡ Some x) × (y ≡ f x)
get_mapped f [] zero y e = absurd cc
get_mapped f [] (suc k) y e = absurd cc
get_mapped f (x ∷ xs) zero y e = let same : f x ≡ y = cc in (x, refl, sym same)
get_mapped f (x ∷ xs) (suc k) y e = get_mapped f xs k y e

all_zip : {A : Type 0} (P Q R : A → Type 0) → ((x : A) → P x → Q x → R x) → (xs : List A) → All P xs → All Q xs → All R xs
all_zip P Q R f xs h g k d below = f (get_or xs k d) (h k d below) (g k d below)

-- ---- what each record has, the program has

module _ (image : ImageTree) (v : IsVerified image) (few : length image.records ≤ 16777216) where
  record_at : (i : ℕ) (d : RecordTree) → slice_get image.records i ≡ Some d → RecordHolds image.records i d
  record_at i d e = (v.heads i).record_holds d e

  plain_at : (i : ℕ) (d : RecordTree) → slice_get image.records i ≡ Some d → IsPlainRecord d
  plain_at i d e = All_at IsPlainRecord image.records i d e v.form.records

  names : AreNames (map (λ d. d.name) image.records)
  names k x e =
      let m = get_mapped (λ (d : RecordTree). d.name) image.records k x e in
      subst IsNameBytes (sym m.2) (record_at k m.0 m.1).name

  field_names_of : (ds : List RecordTree) → ((i : ℕ) (d : RecordTree) → slice_get ds i ≡ Some d → All (λ (f : FieldTree). IsNameBytes f.name) d.fields) → AreNames (field_names ds)
  field_names_of [] h = names-none
  field_names_of (d ∷ ds) h = names-append (map (λ f. f.name) d.fields) (field_names ds) (λ k x e. let m = get_mapped (λ (f : FieldTree). f.name) d.fields k x e in subst IsNameBytes (sym m.2) (All_at (λ (f : FieldTree). IsNameBytes f.name) d.fields k m.0 m.1 (h zero d refl))) (field_names_of ds (λ i c e. h (suc i) c e))

  -- what the first records have once, all have once: the last has it
  none_distinct : AreDistinct []
  none_distinct zero j x e f = absurd cc
  none_distinct (suc i) j x e f = absurd cc

  last_once : (n : ℕ) → n ≡ length image.records → AreDistinct (map (λ d. d.name) image.records) × AreDistinct (field_names image.records)
  last_once zero e = none image.records (sym e) where
    none : (ds : List RecordTree) → length ds ≡ 0 → AreDistinct (map (λ d. d.name) ds) × AreDistinct (field_names ds)
    none [] l = (none_distinct, none_distinct)
    none (d ∷ ds) l = absurd cc
  last_once (suc n) e =
      let there = get_there image.records n (omega arith) in
      let holds = record_at n there.0 there.1 in
      let all : take (n + 1) image.records ≡ image.records = take_all (n + 1) image.records (omega arith) in
      (subst (λ (ds : List RecordTree). AreDistinct (map (λ d. d.name) ds)) all holds.once, subst (λ (ds : List RecordTree). AreDistinct (field_names ds)) all holds.fields_once)

  type_in : (i : ℕ) (t : TypeTree) → i ≤ length image.records → IsPlainType t → NamesEarlier i t → IsTypeIn 0 0 image.records t
  type_in i bool_type l p e = tt
  type_in i (num_type u) l p e = subst (IsUnitIn 0 0) (sym p) (in_one 0 0)
  type_in i (list_type t) l p e = type_in i t l p e
  type_in i (record_type r us) l p e =
      let there = get_there image.records r (omega (arith, e)) in
      let none : length us ≡ 0 = ap (λ (vs : List PowerMap). length vs) p in
      ((there.0, there.1, none ∙ sym (plain_at r there.0 there.1).units), subst (λ (vs : List PowerMap). All (IsUnitIn 0 0) vs) (sym p) (λ k d below. absurd (omega (arith, below))))

  below : {A : Type 0} (xs : List A) (i : ℕ) (x : A) → slice_get xs i ≡ Some x → i < length xs
  below [] zero x e = absurd cc
  below [] (suc i) x e = absurd cc
  below (y ∷ xs) zero x e = omega arith
  below (y ∷ xs) (suc i) x e = let l = below xs i x e in omega arith

  pub formed : IsFormed (image_program image)
  formed = record {
    few_bases = omega arith;
    few_records = few;
    few_functions = omega arith;
    names = names;
    once = (last_once (length image.records) refl).0;
    names_of_fields = field_names_of image.records (λ i d e. (record_at i d e).names_of_fields);
    fields_once = (last_once (length image.records) refl).1;
    names_of_functions = names-none;
    functions_once = none_distinct;
    records = records;
    functions = λ i f e. absurd (none_at i f e);
  } where
    none_at : {A : Type 0} (i : ℕ) (x : A) → slice_get [] i ≡ Some x → ⊥
    none_at zero x e = cc
    none_at (suc i) x e = cc

    records : (r : ℕ) (d : RecordTree) → slice_get image.records r ≡ Some d → IsFormedRecord (image_program image) r d
    records r d e =
        let h = record_at r d e in
        let p = plain_at r d e in
        let l = below image.records r d e in
        record {
          some_field = h.some_field;
          few_fields = h.few_fields;
          few_units = subst (λ (n : ℕ). n ≤ 4) (sym p.units) (omega arith);
          fields = all_zip IsPlainField (λ (f : FieldTree). NamesEarlier r f.type) (λ (f : FieldTree). IsFieldType (image_program image) r d.units f.type)
              (λ f plain early. (subst (λ (n : ℕ). IsTypeIn 0 n image.records f.type) (sym p.units) (type_in r f.type (omega arith) plain.plain early), early, plain.low)) d.fields p.fields h.earlier;
        }

  -- ---- shapes

  shape_in : (s : ShapeTree) → NamesBelow (length image.records) s → IsShapeIn image.records s
  shape_in bool_shape h = tt
  shape_in num_shape h = tt
  shape_in (list_shape s) h = shape_in s h
  shape_in (record_shape r) h = get_there image.records r h

  -- the shapes of a function's parameters are over the image's records
  pub params_in : (k : ℕ) (h : HeadTree) → slice_get image.heads k ≡ Some h → All (IsShapeIn image.records) h.params
  params_in k h e i s below = shape_in (get_or h.params i s) (((v.heads (length image.records + k)).function_holds k h refl e).params i s below).0

  pub few_params : (k : ℕ) (h : HeadTree) → slice_get image.heads k ≡ Some h → length h.params ≤ 16
  few_params k h e = ((v.heads (length image.records + k)).function_holds k h refl e).few_params
