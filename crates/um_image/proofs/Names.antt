-- Names that are taken once among many are taken once among the first of them.
use Rattle.std.proofs.Common.{◌≡◌, refl, sym, subst, ap, ◌∙◌, ℕ, zero, suc, ◌+◌, List, [], ◌∷◌, ◌++◌, length, map, take, Some, slice_get, arith, append_assoc}
use Rattle.std.specs.Prelude.{option_map}
use Rattle.std.proofs.lemmas.Option.{slice_get-map}
use Rattle.um_tree.specs.ProgramTree.{FieldTree, RecordTree}
use Rattle.um_tree.specs.Formed.{AreDistinct, field_names}
use Rattle.um_image.specs.ProgramImage.{plain_field, plain_record}

-- what stands among the first stands among all
pub get_take : {A : Type 0} (n : ℕ) (xs : List A) (k : ℕ) (x : A) → slice_get (take n xs) k ≡ Some x → slice_get xs k ≡ Some x
get_take zero xs zero x e = absurd cc
get_take zero xs (suc k) x e = absurd cc
get_take (suc n) [] zero x e = absurd cc
get_take (suc n) [] (suc k) x e = absurd cc
get_take (suc n) (y ∷ xs) zero x e = e
get_take (suc n) (y ∷ xs) (suc k) x e = get_take n xs k x e

pub get_behind : {A : Type 0} (xs ys : List A) (k : ℕ) → slice_get (xs ++ ys) (length xs + k) ≡ slice_get ys k
get_behind [] ys k = let e : 0 + k ≡ k = omega arith in ap (slice_get ys) e
get_behind (x ∷ xs) ys k = let e : length (x ∷ xs) + k ≡ suc (length xs + k) = omega arith in ap (slice_get (x ∷ (xs ++ ys))) e ∙ get_behind xs ys k

pub get_front : {A : Type 0} (xs ys : List A) (k : ℕ) (x : A) → slice_get xs k ≡ Some x → slice_get (xs ++ ys) k ≡ Some x
get_front [] ys zero x e = absurd cc
get_front [] ys (suc k) x e = absurd cc
get_front (y ∷ xs) ys zero x e = e
get_front (y ∷ xs) ys (suc k) x e = get_front xs ys k x e

-- element by element these stand among those
abbrev pub Within : List (List ℕ) → List (List ℕ) → Type 0
Within xs ys = (k : ℕ) (x : List ℕ) → slice_get xs k ≡ Some x → slice_get ys k ≡ Some x

pub distinct_within : (xs ys : List (List ℕ)) → Within xs ys → AreDistinct ys → AreDistinct xs
distinct_within xs ys w d i j x h k = d i j x (w i x h) (w j x k)

pub distinct_behind : (xs ys : List (List ℕ)) → AreDistinct (xs ++ ys) → AreDistinct ys
distinct_behind xs ys d i j x h k =
    let e : length xs + i ≡ length xs + j = d (length xs + i) (length xs + j) x (get_behind xs ys i ∙ h) (get_behind xs ys j ∙ k) in omega arith

-- the names of an image's records are the program's
pub plain_names : (ds : List RecordTree) → map (λ d. d.name) (map plain_record ds) ≡ map (λ d. d.name) ds
plain_names [] = refl
plain_names (d ∷ ds) = ap (λ (xs : List (List ℕ)). d.name ∷ xs) (plain_names ds)

fields_named : (fs : List FieldTree) → map (λ f. f.name) (map plain_field fs) ≡ map (λ f. f.name) fs
fields_named [] = refl
fields_named (f ∷ fs) = ap (λ (xs : List (List ℕ)). f.name ∷ xs) (fields_named fs)

pub plain_field_names : (ds : List RecordTree) → field_names (map plain_record ds) ≡ field_names ds
plain_field_names [] = refl
plain_field_names (d ∷ ds) = (λ i. fields_named d.fields i ++ plain_field_names ds i)

-- the first names
pub names_within : {A : Type 0} (name : A → List ℕ) (n : ℕ) (xs : List A) → Within (map name (take n xs)) (map name xs)
names_within name zero xs zero x e = absurd cc
names_within name zero xs (suc k) x e = absurd cc
names_within name (suc n) [] zero x e = absurd cc
names_within name (suc n) [] (suc k) x e = absurd cc
names_within name (suc n) (y ∷ xs) zero x e = e
names_within name (suc n) (y ∷ xs) (suc k) x e = names_within name n xs k x e

-- and the names of the first records' fields
split_names : (n : ℕ) (ds : List RecordTree) → (rest : List (List ℕ)) × (field_names (take n ds) ++ rest ≡ field_names ds)
split_names zero ds = (field_names ds, refl)
split_names (suc n) [] = ([], refl)
split_names (suc n) (d ∷ ds) =
    let r = split_names n ds in
    (r.0, append_assoc (map (λ f. f.name) d.fields) (field_names (take n ds)) r.0 ∙ ap (λ (xs : List (List ℕ)). map (λ (f : FieldTree). f.name) d.fields ++ xs) r.1)

pub fields_within : (n : ℕ) (ds : List RecordTree) → Within (field_names (take n ds)) (field_names ds)
fields_within n ds k x e =
    let r = split_names n ds in
    ap (λ (xs : List (List ℕ)). slice_get xs k) (sym r.1) ∙ get_front (field_names (take n ds)) r.0 k x e

-- each field of a record has its name among all
pub field_among : (ds : List RecordTree) (r : ℕ) (d : RecordTree) → slice_get ds r ≡ Some d → (k : ℕ) (f : FieldTree) → slice_get d.fields k ≡ Some f → (j : ℕ) × (slice_get (field_names ds) j ≡ Some f.name)
field_among [] zero d s k f h = absurd cc
field_among [] (suc r) d s k f h = absurd cc
field_among (x ∷ ds) zero d s k f h =
    let same : x ≡ d = cc in
    let there : slice_get (map (λ (f : FieldTree). f.name) d.fields) k ≡ Some f.name = slice_get-map (λ (f : FieldTree). f.name) d.fields k ∙ ap (option_map (λ (f : FieldTree). f.name)) h in
    (k, get_front (map (λ (f : FieldTree). f.name) x.fields) (field_names ds) k f.name (ap (λ (y : RecordTree). slice_get (map (λ (f : FieldTree). f.name) y.fields) k) same ∙ there))
field_among (x ∷ ds) (suc r) d s k f h =
    let j = field_among ds r d s k f h in
    (length (map (λ (f : FieldTree). f.name) x.fields) + j.0, get_behind (map (λ (f : FieldTree). f.name) x.fields) (field_names ds) j.0 ∙ j.1)
