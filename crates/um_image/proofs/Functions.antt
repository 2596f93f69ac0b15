-- The functions of a program that has no fault: what is found of each, with the shapes of those before.
use Rattle.std.proofs.Common.{◌≡◌, refl, sym, subst, ap, ◌∙◌, ℕ, zero, suc, ◌+◌, ◌<◌, ◌≤◌, ◌⊎◌, inl, inr, Bool, true, false, cond, nat_le, List, [], ◌∷◌, ◌++◌, length, map, Option, Some, None, slice_get, Ok, Err, arith, append_assoc, append-nil, length-append}
use Rattle.std.proofs.lemmas.Bool.Decides.{nat_tests}
use Rattle.um_tree.specs.TypeTree.{ShapeTree, NoteTree}
use Rattle.um_tree.specs.ProgramTree.{FunctionTree}
use Rattle.um_tree.specs.Shapes.{note_shape, ShapeSignature}
use Rattle.um_tree.specs.Heights.{greatest_height}
use Rattle.um_shape.specs.RecordShapes.{RecordShape, tallest}
use Rattle.um_shape.specs.FirstFault.{too_deep, wrong_shape, then, found, noted_shapes, own_shapes, fits_result, function_found, functions_found}
use Rattle.um_shape.proofs.SameShape.{same_shape-is}
use Rattle.um_shape.proofs.Sound.{then_ok}
use Rattle.um_shape.proofs.SoundProgram.{in_either, only_one, nothing_at, at_place}

-- some shapes begin with these
abbrev pub Begins : List ShapeSignature → List ShapeSignature → Type 0
Begins xs gs = (rest : List ShapeSignature) × (xs ++ rest ≡ gs)

pub begins_get : (xs gs : List ShapeSignature) (k : ℕ) (g : ShapeSignature) → Begins xs gs → slice_get xs k ≡ Some g → slice_get gs k ≡ Some g
begins_get xs gs k g h e = ap (λ (ys : List ShapeSignature). slice_get ys k) (sym h.1) ∙ front xs h.0 k e where
  front : (xs ys : List ShapeSignature) (k : ℕ) → slice_get xs k ≡ Some g → slice_get (xs ++ ys) k ≡ Some g
  front [] ys zero e = absurd cc
  front [] ys (suc k) e = absurd cc
  front (x ∷ xs) ys zero e = e
  front (x ∷ xs) ys (suc k) e = front xs ys k e

-- what is found of a function, behind the shapes of those before
pub record IsFound (records : List RecordShape) (gs : List ShapeSignature) (i : ℕ) (f : FunctionTree) : Type 0 where
  pub before : List ShapeSignature
  pub g : ShapeSignature
  pub is : function_found records before f ≡ Ok g
  pub count : length before ≡ i
  pub begins : Begins (before ++ g ∷ []) gs

begun : (records : List RecordShape) (known gs : List ShapeSignature) (fs : List FunctionTree) → functions_found records known fs ≡ Ok gs → Begins known gs
begun records known gs [] e = let same : known ≡ gs = cc in ([], append-nil known ∙ same)
begun records known gs (f ∷ fs) e =
    let h = then_ok (function_found records known f) _ gs e in
    let b = begun records (known ++ h.0 ∷ []) gs fs h.2 in
    (h.0 ∷ b.0, sym (append_assoc known (h.0 ∷ []) b.0) ∙ b.1)

pub each_found : (records : List RecordShape) (known gs : List ShapeSignature) (fs : List FunctionTree) → functions_found records known fs ≡ Ok gs → (k : ℕ) (f : FunctionTree) → slice_get fs k ≡ Some f → IsFound records gs (length known + k) f
each_found records known gs [] e zero f s = absurd cc
each_found records known gs [] e (suc k) f s = absurd cc
each_found records known gs (x ∷ fs) e zero f s =
    let h = then_ok (function_found records known x) _ gs e in
    let same : x ≡ f = cc in
    record { before = known; g = h.0; is = subst (λ (y : FunctionTree). function_found records known y ≡ Ok h.0) same h.1; count = omega arith; begins = begun records (known ++ h.0 ∷ []) gs fs h.2 }
each_found records known gs (x ∷ fs) e (suc k) f s =
    let h = then_ok (function_found records known x) _ gs e in
    let l : length (known ++ h.0 ∷ []) ≡ length known + length (h.0 ∷ []) = length-append known (h.0 ∷ []) in
    let n : length (known ++ h.0 ∷ []) + k ≡ length known + suc k = omega arith in
    subst (λ (m : ℕ). IsFound records gs m f) n (each_found records (known ++ h.0 ∷ []) gs fs h.2 k f s)

-- its parameters are low
pub low_params : (records : List RecordShape) (known : List ShapeSignature) (f : FunctionTree) (g : ShapeSignature) → function_found records known f ≡ Ok g → tallest records (map note_shape f.params) ≤ greatest_height
low_params records known f g e = by_test (nat_le (tallest records (map note_shape f.params)) greatest_height) refl e where
  by_test : (b : Bool) → nat_le (tallest records (map note_shape f.params)) greatest_height ≡ b → cond b (then (found records (known ++ own_shapes f) (map note_shape f.params) f.body) (λ s. cond (fits_result f.result s) (Ok (record { params = map note_shape f.params; result = s })) (Err (wrong_shape f.at)))) (Err (too_deep f.at)) ≡ Ok g → tallest records (map note_shape f.params) ≤ greatest_height
  by_test true h e = grind (arith, nat_tests)
  by_test false h e = absurd cc

-- the shapes at which it is known in its own body are its shapes
own_is : (f : FunctionTree) (s : ShapeTree) (m : ℕ) (c : ShapeSignature) → fits_result f.result s ≡ true → slice_get (own_shapes f) m ≡ Some c → (m ≡ 0) × (record { params = map note_shape f.params; result = s } ≡ c)
own_is f s m c fits e = by_recursive f.recursive e where
  by_result : (o : Option NoteTree) → fits_result o s ≡ true → slice_get (noted_shapes f.params o) m ≡ Some c → (m ≡ 0) × (record { params = map note_shape f.params; result = s } ≡ c)
  by_result None h e = absurd (nothing_at m c e)
  by_result (Some n) h e =
      let w = only_one (record { params = map note_shape f.params; result = note_shape n }) m c e in
      (w.0, ap (λ (t : ShapeTree). record { params = map note_shape f.params; result = t }) (same_shape-is s (note_shape n) h) ∙ w.1)

  by_recursive : (b : Bool) → slice_get (cond b (noted_shapes f.params f.result) []) m ≡ Some c → (m ≡ 0) × (record { params = map note_shape f.params; result = s } ≡ c)
  by_recursive true e = by_result f.result fits e
  by_recursive false e = absurd (nothing_at m c e)

-- each function that may be called has its shapes
pub callee_is : (gs before : List ShapeSignature) (f : FunctionTree) (s : ShapeTree) → fits_result f.result s ≡ true → Begins (before ++ record { params = map note_shape f.params; result = s } ∷ []) gs → (j : ℕ) (c : ShapeSignature) → slice_get (before ++ own_shapes f) j ≡ Some c → slice_get gs j ≡ Some c
callee_is gs before f s fits begins j c e = which (in_either before (own_shapes f) j c e) where
  which : ((j < length before) × (slice_get before j ≡ Some c)) ⊎ ((m : ℕ) × (j ≡ length before + m) × (slice_get (own_shapes f) m ≡ Some c)) → slice_get gs j ≡ Some c
  which (inl w) =
      begins_get before gs j c (record { params = map note_shape f.params; result = s } ∷ begins.0, sym (append_assoc before (record { params = map note_shape f.params; result = s } ∷ []) begins.0) ∙ begins.1) w.1
  which (inr w) =
      let o = own_is f s w.0 c fits w.2 in
      let zero_m = o.0 in
      let place : j ≡ length before = omega arith in
      begins_get (before ++ record { params = map note_shape f.params; result = s } ∷ []) gs j c begins (ap (slice_get (before ++ record { params = map note_shape f.params; result = s } ∷ [])) place ∙ at_place before (record { params = map note_shape f.params; result = s }) [] ∙ ap Some o.1)
