-- What is found of one record and of one function, case by case.
use Rattle.std.proofs.Common.{◌≡◌, refl, sym, ap, subst, ◌∙◌, ℕ, ◌+◌, ◌<◌, ◌≤◌, true, false, cond, nat_le, List, [], ◌∷◌, ◌++◌, map, All, Result, Ok, Err, arith}
use Rattle.std.proofs.lemmas.List.{get_or-map, length-map}
use Rattle.std.proofs.lemmas.Bool.Decides.{nat_tests}
use Rattle.um_tree.specs.TypeTree.{ShapeTree}
use Rattle.um_tree.specs.ProgramTree.{RecordTree, FunctionTree}
use Rattle.um_tree.specs.Typing.{field_types}
use Rattle.um_tree.specs.Shapes.{type_shape, note_shape, ShapeSignature}
use Rattle.um_tree.specs.Heights.{greatest_height}
use Rattle.um_shape.specs.RecordShapes.{RecordShape, tallest}
use Rattle.um_shape.specs.FirstFault.{ShapeFault, wrong_shape, too_deep, then, found, own_shapes, fits_result, function_found, record_found}
use Rattle.um_shape.specs.declared.stop.ShapeStop.{ShapeStop}
use Rattle.um_shape.specs.Stops.{IsFoundFault}
use Rattle.um_shape.proofs.Stopping.{stops_first}

-- what holds of all that some elements stand for
pub All-unmapped : {X Y : Type 0} (P : X → Type 0) (f : Y → X) (ys : List Y) → All P (map f ys) → All (λ y. P (f y)) ys
All-unmapped P f ys w = λ k d below. subst P (get_or-map f ys k d (f d) below) (w k (f d) (omega (arith, below, length-map ys f)))

pub mapped_twice : {X Y Z : Type 0} (g : Y → Z) (f : X → Y) (xs : List X) → map (λ x. g (f x)) xs ≡ map g (map f xs)
mapped_twice g f [] = refl
mapped_twice g f (x ∷ xs) = ap (λ ys. g (f x) ∷ ys) (mapped_twice g f xs)

low_is : (m : ℕ) → m ≤ greatest_height → nat_le m greatest_height ≡ true
low_is m h = grind (arith, nat_tests)

high_is : (m : ℕ) → greatest_height < m → nat_le m greatest_height ≡ false
high_is m h = grind (arith, nat_tests)

module _ (earlier : List RecordShape) (d : RecordTree) (fields : List ShapeTree) (same : fields ≡ map type_shape (field_types d)) where
  -- the record with these shapes of its fields
  abbrev pub with_fields : List ShapeTree → Result RecordShape ShapeFault
  with_fields ss = cond (nat_le (tallest earlier ss + 1) greatest_height) (Ok (record { fields = ss; height = tallest earlier ss + 1 })) (Err (too_deep d.at))

  pub record_deep : greatest_height ≤ tallest earlier fields → record_found earlier d ≡ Err (too_deep d.at)
  record_deep h =
      ap with_fields (sym same) ∙ ap (λ b. cond b (Ok (record { fields = fields; height = tallest earlier fields + 1 })) (Err (too_deep d.at))) (high_is (tallest earlier fields + 1) (omega (arith, h)))

  pub record_fine : tallest earlier fields < greatest_height → record_found earlier d ≡ Ok (record { fields = fields; height = tallest earlier fields + 1 })
  record_fine h =
      ap with_fields (sym same) ∙ ap (λ b. cond b (Ok (record { fields = fields; height = tallest earlier fields + 1 })) (Err (too_deep d.at))) (low_is (tallest earlier fields + 1) (omega (arith, h)))

module _ (records : List RecordShape) (known : List ShapeSignature) (f : FunctionTree) (params : List ShapeTree) (same : params ≡ map note_shape f.params) where
  abbrev pub ends : List ShapeTree → ShapeTree → Result ShapeSignature ShapeFault
  ends ps s = cond (fits_result f.result s) (Ok (record { params = ps; result = s })) (Err (wrong_shape f.at))

  abbrev pub body : List ShapeTree → Result ShapeTree ShapeFault
  body ps = found records (known ++ own_shapes f) ps f.body

  abbrev pub with_params : List ShapeTree → Result ShapeSignature ShapeFault
  with_params ps = cond (nat_le (tallest records ps) greatest_height) (then (body ps) (ends ps)) (Err (too_deep f.at))

  pub function_deep : greatest_height < tallest records params → function_found records known f ≡ Err (too_deep f.at)
  function_deep h = ap with_params (sym same) ∙ ap (λ b. cond b (then (body params) (ends params)) (Err (too_deep f.at))) (high_is (tallest records params) h)

  looks : tallest records params ≤ greatest_height → function_found records known f ≡ then (body params) (ends params)
  looks h = ap with_params (sym same) ∙ ap (λ b. cond b (then (body params) (ends params)) (Err (too_deep f.at))) (low_is (tallest records params) h)

  pub function_stops : (s : ShapeStop) → tallest records params ≤ greatest_height → IsFoundFault (body params) s → IsFoundFault (function_found records known f) s
  function_stops s h k = subst (λ m. IsFoundFault m s) (sym (looks h)) (stops_first (body params) (ends params) s k)

  pub function_other : (s : ShapeTree) → tallest records params ≤ greatest_height → body params ≡ Ok s → fits_result f.result s ≡ false → function_found records known f ≡ Err (wrong_shape f.at)
  function_other s h k e =
      looks h ∙ ap (λ m. then m (ends params)) k ∙ ap (λ b. cond b (Ok (record { params = params; result = s })) (Err (wrong_shape f.at))) e

  pub function_fine : (s : ShapeTree) → tallest records params ≤ greatest_height → body params ≡ Ok s → fits_result f.result s ≡ true → function_found records known f ≡ Ok (record { params = params; result = s })
  function_fine s h k e =
      looks h ∙ ap (λ m. then m (ends params)) k ∙ ap (λ b. cond b (Ok (record { params = params; result = s })) (Err (wrong_shape f.at))) e
