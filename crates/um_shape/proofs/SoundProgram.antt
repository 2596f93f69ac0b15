-- What is found of a program's functions are their shapes.
use Rattle.std.proofs.Common.{◌≡◌, refl, sym, ap, subst, ◌∙◌, ℕ, zero, suc, ◌+◌, ◌<◌, ◌⊎◌, inl, inr, IsTrue, IsSome, Bool, true, false, cond, nat_le, List, [], ◌∷◌, ◌++◌, map, length, get_or, slice_get, Option, Some, None, Result, Ok, Err, arith, rules}
use Rattle.std.proofs.lemmas.List.{append_assoc, append-nil, length-append, length-map}
use Rattle.std.proofs.lemmas.Option.{slice_get_within, slice_get-get_or}
use Rattle.um_tree.specs.TypeTree.{ShapeTree, bool_shape, NoteTree}
use Rattle.um_tree.specs.ProgramTree.{RecordTree, FunctionTree, ProgramTree}
use Rattle.um_tree.specs.Typing.{field_types}
use Rattle.um_tree.specs.Shapes.{type_shape, note_shape, ShapeSignature, CallShapes, ResultShape, IsShapeOf, ShapeAt, shapes_below, FunctionShape, IsShaped}
use Rattle.um_tree.specs.Heights.{greatest_height}
use Rattle.um_shape.specs.RecordShapes.{RecordShape, tallest, declared_shape}
use Rattle.um_shape.specs.FirstFault.{ShapeFault, wrong_shape, too_deep, then, found, own_shapes, noted_shapes, fits_result, function_found, functions_found, record_found, records_found, program_found}
use Rattle.um_shape.specs.ShapedProgram.{HasParam, IsParamShape, AreParamShapes, IsResultShape}
use Rattle.um_tree.proofs.Below.{earlier_shapes_are}
use Rattle.um_shape.proofs.SameShape.{same_shape-is}
use Rattle.um_shape.proofs.Sound.{then_ok, Alike, sound}

-- ---- records

alike_more : (ds : List RecordTree) (ss : List RecordShape) (d : RecordTree) (s : RecordShape) → Alike ds ss → s.fields ≡ map type_shape (field_types d) → Alike (ds ++ d ∷ []) (ss ++ s ∷ [])
alike_more [] [] d s w e = (e, tt)
alike_more (x ∷ ds) (y ∷ ss) d s w e = (w.0, alike_more ds ss d s w.1 e)
alike_more [] (y ∷ ss) d s w e = absurd w
alike_more (x ∷ ds) [] d s w e = absurd w

record_ok : (earlier : List RecordShape) (d : RecordTree) (s : RecordShape) → record_found earlier d ≡ Ok s → s.fields ≡ map type_shape (field_types d)
record_ok earlier d s e = low (nat_le (declared_shape earlier d).height greatest_height) e where
  low : (b : Bool) → cond b (Ok (declared_shape earlier d)) (Err (too_deep d.at)) ≡ Ok s → s.fields ≡ map type_shape (field_types d)
  low true e = let h : declared_shape earlier d ≡ s = cc in ap (λ x. x.fields) (sym h)
  low false e = absurd cc

pub records_alike : (ds : List RecordTree) (pre : List RecordTree) (earlier rs : List RecordShape) → Alike pre earlier → records_found earlier ds ≡ Ok rs → Alike (pre ++ ds) rs
records_alike [] pre earlier rs w e =
    let h : earlier ≡ rs = cc in
    subst (λ ds. Alike ds rs) (sym (append-nil pre)) (subst (Alike pre) h w)
records_alike (d ∷ ds) pre earlier rs w e =
    let h = then_ok (record_found earlier d) _ rs e in
    subst (λ xs. Alike xs rs) (append_assoc pre (d ∷ []) ds) (records_alike ds (pre ++ d ∷ []) (earlier ++ h.0 ∷ []) rs (alike_more pre earlier d h.0 w (record_ok earlier d h.0 h.1)) h.2)

-- ---- functions

-- an element of a list with more after it
pub in_either : {A : Type 0} (xs ys : List A) (k : ℕ) (x : A) → slice_get (xs ++ ys) k ≡ Some x → ((k < length xs) × (slice_get xs k ≡ Some x)) ⊎ ((m : ℕ) × (k ≡ length xs + m) × (slice_get ys m ≡ Some x))
in_either [] ys k x e = inr (k, omega arith, e)
in_either (y ∷ xs) ys zero x e = inl (omega arith, e)
in_either (y ∷ xs) ys (suc k) x e = further (in_either xs ys k x e) where
  further : ((k < length xs) × (slice_get xs k ≡ Some x)) ⊎ ((m : ℕ) × (k ≡ length xs + m) × (slice_get ys m ≡ Some x)) → ((suc k < length (y ∷ xs)) × (slice_get (y ∷ xs) (suc k) ≡ Some x)) ⊎ ((m : ℕ) × (suc k ≡ length (y ∷ xs) + m) × (slice_get ys m ≡ Some x))
  further (inl w) = inl (omega (arith, w.0), w.1)
  further (inr w) = inr (w.0, omega (arith, w.1), w.2)

pub only_one : {A : Type 0} (y : A) (k : ℕ) (x : A) → slice_get (y ∷ []) k ≡ Some x → (k ≡ 0) × (y ≡ x)
only_one y zero x e = (refl, cc)
only_one y (suc zero) x e = absurd cc
only_one y (suc (suc k)) x e = absurd cc

pub nothing_at : {A : Type 0} (k : ℕ) (x : A) → slice_get [] k ≡ Some x → ⊥
nothing_at zero x e = absurd cc
nothing_at (suc k) x e = absurd cc

abbrev Own : FunctionTree → ℕ → ShapeSignature → Type 0
Own f k g = (k ≡ 0) × IsTrue f.recursive × ((n : NoteTree) × (f.result ≡ Some n) × (g ≡ record { params = map note_shape f.params; result = note_shape n }))

own_is : (f : FunctionTree) (k : ℕ) (g : ShapeSignature) → slice_get (own_shapes f) k ≡ Some g → Own f k g
own_is f k g e = by_recursive f.recursive refl e where
  by_result : (o : Option NoteTree) → f.result ≡ o → IsTrue f.recursive → slice_get (noted_shapes f.params o) k ≡ Some g → Own f k g
  by_result None h t e = absurd (nothing_at k g e)
  by_result (Some n) h t e = let w = only_one (record { params = map note_shape f.params; result = note_shape n }) k g e in (w.0, t, (n, h, sym w.1))

  by_recursive : (b : Bool) → f.recursive ≡ b → slice_get (cond b (noted_shapes f.params f.result) []) k ≡ Some g → Own f k g
  by_recursive true h e = by_result f.result refl h e
  by_recursive false h e = absurd (nothing_at k g e)

fits_is : (n : Option NoteTree) (s : ShapeTree) → fits_result n s ≡ true → ResultShape n s
fits_is None s e = tt
fits_is (Some n) s e = same_shape-is s (note_shape n) e

some_result : (f : FunctionTree) (n : NoteTree) → f.result ≡ Some n → IsSome f.result
some_result f n e = subst (λ (o : Option NoteTree). IsSome o) (sym e) some where
  some : IsSome (Some n)
  some = search rules

ok_is : {A : Type 0} (m : Result A ShapeFault) (x y : A) → m ≡ Ok x → m ≡ Ok y → y ≡ x
ok_is m x y e f = let h : Ok x ≡ Ok y = sym e ∙ f in cc

-- the parts of what is found of a function
abbrev FunctionOk : List RecordShape → List ShapeSignature → FunctionTree → ShapeSignature → Type 0
FunctionOk records known f g = (s : ShapeTree) × (found records (known ++ own_shapes f) (map note_shape f.params) f.body ≡ Ok s) × (fits_result f.result s ≡ true) × (g ≡ record { params = map note_shape f.params; result = s })

pub function_ok : (records : List RecordShape) (known : List ShapeSignature) (f : FunctionTree) (g : ShapeSignature) → function_found records known f ≡ Ok g → FunctionOk records known f g
function_ok records known f g e = low (nat_le (tallest records (map note_shape f.params)) greatest_height) e where
  ends : (s : ShapeTree) (b : Bool) → fits_result f.result s ≡ b → found records (known ++ own_shapes f) (map note_shape f.params) f.body ≡ Ok s → cond b (Ok (record { params = map note_shape f.params; result = s })) (Err (wrong_shape f.at)) ≡ Ok g → FunctionOk records known f g
  ends s true h w e = (s, w, h, ok_is (Ok (record { params = map note_shape f.params; result = s })) (record { params = map note_shape f.params; result = s }) g refl e)
  ends s false h w e = absurd cc

  low : (b : Bool) → cond b (then (found records (known ++ own_shapes f) (map note_shape f.params) f.body) (λ s. cond (fits_result f.result s) (Ok (record { params = map note_shape f.params; result = s })) (Err (wrong_shape f.at)))) (Err (too_deep f.at)) ≡ Ok g → FunctionOk records known f g
  low true e =
      let h = then_ok (found records (known ++ own_shapes f) (map note_shape f.params) f.body) _ g e in
      ends h.0 (fits_result f.result h.0) refl h.1 h.2
  low false e = absurd cc

pub at_place : {A : Type 0} (pre : List A) (x : A) (xs : List A) → slice_get (pre ++ x ∷ xs) (length pre) ≡ Some x
at_place [] x xs = refl
at_place (y ∷ pre) x xs = at_place pre x xs

module _ (p : ProgramTree) (records : List RecordShape) (alike : Alike p.records records) where
  -- each of these is the shapes of the function of its number
  abbrev pub Hold : List ShapeSignature → Type 0
  Hold gs = (i : ℕ) (g : ShapeSignature) → slice_get gs i ≡ Some g → FunctionShape p i g

  function_holds : (i : ℕ) (known : List ShapeSignature) (f : FunctionTree) (g : ShapeSignature) → length known ≡ i → Hold known → function_found records known f ≡ Ok g → IsShapeOf p.records (shapes_below p i) i f g
  function_holds i known f g n w e =
      let h = function_ok records known f g e in
      subst (IsShapeOf p.records (shapes_below p i) i f) (sym h.3) (of h.0 h.1 h.2) where
        of : (s : ShapeTree) → found records (known ++ own_shapes f) (map note_shape f.params) f.body ≡ Ok s → fits_result f.result s ≡ true → IsShapeOf p.records (shapes_below p i) i f (record { params = map note_shape f.params; result = s })
        of s k fits = record {
          params = refl;
          result = fits_is f.result s fits;
          body = sound p.records records alike (known ++ own_shapes f) (CallShapes (shapes_below p i) i f self) called (map note_shape f.params) f.body s k;
        } where
          self : ShapeSignature
          self = record { params = map note_shape f.params; result = s }

          called : (j : ℕ) (c : ShapeSignature) → slice_get (known ++ own_shapes f) j ≡ Some c → CallShapes (shapes_below p i) i f self j c
          called j c h = either (in_either known (own_shapes f) j c h) where
            at_result : (n : NoteTree) → f.result ≡ Some n → note_shape n ≡ s
            at_result n e = sym (subst (λ (o : Option NoteTree). ResultShape o s) e (fits_is f.result s fits))

            either : ((j < length known) × (slice_get known j ≡ Some c)) ⊎ ((m : ℕ) × (j ≡ length known + m) × (slice_get (own_shapes f) m ≡ Some c)) → CallShapes (shapes_below p i) i f self j c
            either (inl x) = let lt : j < i = omega (arith, n, x.0) in inl (lt, (earlier_shapes_are p i j c lt).1 (w j c x.1))
            either (inr x) =
                let o = own_is f x.0 c x.2 in
                inr (omega (arith, n, x.1, o.0), record { recursive = o.1; noted = some_result f o.2.0 o.2.1 }, o.2.2 ∙ ap (λ r. record { params = map note_shape f.params; result = r }) (at_result o.2.0 o.2.1))

  pub functions_hold : (fs pre : List FunctionTree) (known gs : List ShapeSignature) → p.functions ≡ pre ++ fs → length known ≡ length pre → Hold known → functions_found records known fs ≡ Ok gs → Hold gs × (length gs ≡ length p.functions)
  functions_hold [] pre known gs same n w e =
      let h : gs ≡ known = ok_is (Ok known) known gs refl e in
      (subst Hold (sym h) w, ap length h ∙ n ∙ ap length (sym (append-nil pre)) ∙ ap length (sym same))
  functions_hold (f ∷ fs) pre known gs same n w e =
      let h = then_ok (function_found records known f) _ gs e in
      functions_hold fs (pre ++ f ∷ []) (known ++ h.0 ∷ []) gs (same ∙ sym (append_assoc pre (f ∷ []) fs)) (both_longer h.0) (more h.0 h.1) h.2 where
        both_longer : (g : ShapeSignature) → length (known ++ g ∷ []) ≡ length (pre ++ f ∷ [])
        both_longer g = let x = length-append known (g ∷ []) in let y = length-append pre (f ∷ []) in omega (arith, n, x, y)

        more : (g : ShapeSignature) → function_found records known f ≡ Ok g → Hold (known ++ g ∷ [])
        more g found_is i c k = either (in_either known (g ∷ []) i c k) where
          either : ((i < length known) × (slice_get known i ≡ Some c)) ⊎ ((m : ℕ) × (i ≡ length known + m) × (slice_get (g ∷ []) m ≡ Some c)) → FunctionShape p i c
          either (inl x) = w i c x.1
          either (inr x) =
              let o = only_one g x.0 c x.2 in
              let place : i ≡ length pre = omega (arith, n, x.1, o.0) in
              let there : slice_get p.functions i ≡ Some f = ap (λ fs. slice_get fs i) same ∙ ap (λ k. slice_get (pre ++ f ∷ fs) k) place ∙ at_place pre f fs in
              subst (λ o. ShapeAt p.records (shapes_below p i) i o c) (sym there) (subst (IsShapeOf p.records (shapes_below p i) i f) o.1 (function_holds i known f g (n ∙ sym place) w found_is))

-- each function of a program without a fault has its shapes, and these are what is found
abbrev pub AreShapes : ProgramTree → List ShapeSignature → Type 0
AreShapes p gs = ((i : ℕ) (g : ShapeSignature) → slice_get gs i ≡ Some g → FunctionShape p i g) × (length gs ≡ length p.functions)

pub found_are_shapes : (p : ProgramTree) (gs : List ShapeSignature) → program_found p ≡ Ok gs → AreShapes p gs
found_are_shapes p gs e =
    let h = then_ok (records_found [] p.records) _ gs e in
    functions_hold p h.0 (records_alike p.records [] [] h.0 tt h.1) p.functions [] [] gs refl refl (λ i g x. absurd (nothing_at i g x)) h.2

pub found_is_shaped : (p : ProgramTree) (gs : List ShapeSignature) → program_found p ≡ Ok gs → IsShaped p
found_is_shaped p gs e i f there =
    let h = found_are_shapes p gs e in
    let below : i < length p.functions = slice_get_within p.functions i f there in
    let g = get_or gs i (record { params = []; result = bool_shape }) in
    (g, h.0 i g (slice_get-get_or gs i (record { params = []; result = bool_shape }) (omega (arith, below, h.1))))

-- ---- the shapes that are kept

pub its_shapes : (p : ProgramTree) (i : ℕ) (f : FunctionTree) (g : ShapeSignature) → slice_get p.functions i ≡ Some f → FunctionShape p i g → IsShapeOf p.records (shapes_below p i) i f g
its_shapes p i f g e w = subst (λ o. ShapeAt p.records (shapes_below p i) i o g) e w

module _ (p : ProgramTree) (gs : List ShapeSignature) (e : program_found p ≡ Ok gs) where
  pub kept_function : (i : ℕ) → i < length p.functions → i < length gs
  kept_function i h = let w = (found_are_shapes p gs e).1 in omega (arith, h, w)

  pub kept_param : (i k : ℕ) (g : ShapeSignature) → HasParam p i k → slice_get gs i ≡ Some g → k < length g.params
  kept_param i k g h there =
      let w = its_shapes p i h.0 g h.1 ((found_are_shapes p gs e).0 i g there) in
      let same = ap length w.params in
      let mapped = length-map h.0.params note_shape in
      omega (arith, h.2, same, mapped)

  pub param_is : (i k : ℕ) (g : ShapeSignature) (s : ShapeTree) → slice_get gs i ≡ Some g → slice_get g.params k ≡ Some s → IsParamShape p i k s
  param_is i k g s there here f named =
      let w = its_shapes p i f g named ((found_are_shapes p gs e).0 i g there) in
      ap (λ ss. slice_get ss k) (sym w.params) ∙ here

  pub params_are : (i : ℕ) (g : ShapeSignature) → slice_get gs i ≡ Some g → AreParamShapes p i g.params
  params_are i g there f named = (its_shapes p i f g named ((found_are_shapes p gs e).0 i g there)).params

  pub result_is : (i : ℕ) (g : ShapeSignature) → slice_get gs i ≡ Some g → IsResultShape p i g.result
  result_is i g there f named =
      let h = (found_are_shapes p gs e).0 i g there in
      let w = its_shapes p i f g named h in
      subst (FunctionShape p i) (ap (λ ps. record { params = ps; result = g.result }) w.params) h
