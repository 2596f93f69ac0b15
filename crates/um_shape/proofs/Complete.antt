-- An expression that has a shape is found with it, or refused as too deep.
use Rattle.std.proofs.Common.{◌≡◌, refl, sym, subst, ap, ◌∙◌, ℕ, zero, suc, ◌+◌, ◌<◌, ◌⊎◌, inl, inr, IsSome, Bool, true, false, cond, nat_le, ◌&&◌, List, [], ◌∷◌, ◌++◌, map, length, get_or, Option, Some, None, Result, Ok, Err, slice_get, arith}
use Rattle.std.proofs.lemmas.List.{append_assoc, length-append}
use Rattle.std.proofs.lemmas.Option.{slice_get-get_or}
use Rattle.um_tree.specs.TypeTree.{NoteTree, ShapeTree, bool_shape, num_shape, list_shape, record_shape}
use Rattle.um_tree.specs.ExprTree.{ExprTree, ExprTrees, truth, number, local, call, negate, not_expr, pown, arith as arith_tree, compare, both, either, if, bind, split, nil, list_expr, cons, record_expr, field, none, more}
use Rattle.um_tree.specs.ProgramTree.{RecordTree, FunctionTree, ProgramTree}
use Rattle.um_tree.specs.Typing.{field_types, MayRecur}
use Rattle.um_tree.specs.Shapes.{type_shape, note_shape, ShapeSignature, EachShapeIs, HasShape, AllHaveShapes, CallShapes, ResultShape, IsShapeOf, shapes_below, FunctionShape, IsShaped}
use Rattle.um_tree.specs.Heights.{greatest_height}
use Rattle.um_shape.specs.RecordShapes.{RecordShape, shape_height, tallest, declared_shape}
use Rattle.um_shape.specs.FirstFault.{ShapeFault, wrong_shape, too_deep, then, same_shape, same_shapes, all_same, where_true, of_list, of_call, of_record, of_field, at_node, found, all_found, own_shapes, noted_shapes, fits_result, function_found, functions_found, records_found, program_found, fault_of}
use Rattle.um_shape.specs.Laws.{FaultlessIsShaped, RefusedHasNoShapes}
use Rattle.um_tree.proofs.Below.{earlier_shapes_are}
use Rattle.um_tree.proofs.Moved.{slice_get_moved}
use Rattle.um_shape.proofs.SameShape.{same_shape-refl}
use Rattle.um_shape.proofs.Sound.{Alike}
use Rattle.um_shape.proofs.SoundProgram.{found_is_shaped, in_either, only_one, nothing_at, at_place, its_shapes, records_alike, Hold}
use Rattle.um_shape.proofs.Unique.{shapes_are_unique}

-- it is found, or the fault is one of depth
abbrev pub FoundOrDeep : {A : Type 0} → Result A ShapeFault → A → Type 0
FoundOrDeep m x = (m ≡ Ok x) ⊎ ((at : ℕ) × (m ≡ Err (too_deep at)))

deep_then : {A B : Type 0} (m : Result A ShapeFault) (go : A → Result B ShapeFault) (x : A) (y : B) → FoundOrDeep m x → FoundOrDeep (go x) y → FoundOrDeep (then m go) y
deep_then m go x y (inl e) k = subst (λ m. FoundOrDeep (then m go) y) (sym e) k
deep_then m go x y (inr e) k = inr (e.0, ap (λ m. then m go) e.1)

deep_node : (records : List RecordShape) (at : ℕ) (o : Option ShapeTree) (s : ShapeTree) → o ≡ Some s → FoundOrDeep (at_node records at o) s
deep_node records at o s e = subst (λ o. FoundOrDeep (at_node records at o) s) (sym e) (by_height (nat_le (shape_height records s) greatest_height)) where
  by_height : (b : Bool) → FoundOrDeep (cond b (Ok s) (Err (too_deep at))) s
  by_height true = inl refl
  by_height false = inr (at, refl)

same_shapes-refl : (ss : List ShapeTree) → same_shapes ss ss ≡ true
same_shapes-refl [] = refl
same_shapes-refl (s ∷ ss) = ap (λ b. b && same_shapes ss ss) (same_shape-refl s) ∙ same_shapes-refl ss

same_each : (s : ShapeTree) (ss : List ShapeTree) → EachShapeIs s ss → all_same s ss ≡ true
same_each s [] e = refl
same_each s (t ∷ ts) e = ap (λ x. same_shape x s && all_same s ts) e.0 ∙ ap (λ b. b && all_same s ts) (same_shape-refl s) ∙ same_each s ts e.1

kept_where : (b : Bool) (s : ShapeTree) → b ≡ true → where_true b s ≡ Some s
kept_where b s e = ap (λ b. where_true b s) e

shape_at : (ds : List RecordTree) (ss : List RecordShape) (r : ℕ) (d : RecordTree) → Alike ds ss → slice_get ds r ≡ Some d → (s : RecordShape) × (slice_get ss r ≡ Some s) × (s.fields ≡ map type_shape (field_types d))
shape_at [] [] zero d w e = absurd cc
shape_at [] [] (suc r) d w e = absurd cc
shape_at (x ∷ ds) (s ∷ ss) zero d w e = let same : x ≡ d = cc in (s, refl, w.0 ∙ ap (λ x. map type_shape (field_types x)) same)
shape_at (x ∷ ds) (s ∷ ss) (suc r) d w e = shape_at ds ss r d w.1 e
shape_at [] (s ∷ ss) r d w e = absurd w
shape_at (x ∷ ds) [] r d w e = absurd w

module _ (declared : List RecordTree) (records : List RecordShape) (alike : Alike declared records) (callees : List ShapeSignature) (calls : ℕ → ShapeSignature → Type 0) (called : (j : ℕ) (g : ShapeSignature) → calls j g → slice_get callees j ≡ Some g) where
  abbrev Seen : List ShapeTree → ExprTree → ShapeTree → Type 0
  Seen vars e s = FoundOrDeep (found records callees vars e) s

  mutual
    pub complete : (vars : List ShapeTree) (e : ExprTree) (s : ShapeTree) → HasShape declared calls vars e s → Seen vars e s
    complete vars (truth at b) s h = deep_node records at _ s (ap Some (sym h))
    complete vars (number at c n) s h = deep_node records at _ s (ap Some (sym h))
    complete vars (local at k) s h = deep_node records at _ s h
    complete vars (call at j es) s h =
        deep_then _ _ h.0 s (all_complete vars es h.0 h.1) (deep_node records at _ s (ap (λ o. of_call o h.0) (called j _ h.2) ∙ kept_where (same_shapes h.0 h.0) s (same_shapes-refl h.0)))
    complete vars (negate at a) s h = deep_then _ _ num_shape s (complete vars a num_shape h.0) (deep_node records at _ s (ap Some (sym h.1)))
    complete vars (not_expr at a) s h = deep_then _ _ bool_shape s (complete vars a bool_shape h.0) (deep_node records at _ s (ap Some (sym h.1)))
    complete vars (pown at a i) s h = deep_then _ _ num_shape s (complete vars a num_shape h.0) (deep_node records at _ s (ap Some (sym h.1)))
    complete vars (arith_tree at op a b) s h =
        deep_then _ _ num_shape s (complete vars a num_shape h.0) (deep_then _ _ num_shape s (complete vars b num_shape h.1) (deep_node records at _ s (ap Some (sym h.2))))
    complete vars (compare at sign a b) s h =
        deep_then _ _ num_shape s (complete vars a num_shape h.0) (deep_then _ _ num_shape s (complete vars b num_shape h.1) (deep_node records at _ s (ap Some (sym h.2))))
    complete vars (both at a b) s h =
        deep_then _ _ bool_shape s (complete vars a bool_shape h.0) (deep_then _ _ bool_shape s (complete vars b bool_shape h.1) (deep_node records at _ s (ap Some (sym h.2))))
    complete vars (either at a b) s h =
        deep_then _ _ bool_shape s (complete vars a bool_shape h.0) (deep_then _ _ bool_shape s (complete vars b bool_shape h.1) (deep_node records at _ s (ap Some (sym h.2))))
    complete vars (if at c a b) s h =
        deep_then _ _ bool_shape s (complete vars c bool_shape h.0) (deep_then _ _ s s (complete vars a s h.1) (deep_then _ _ s s (complete vars b s h.2) (deep_node records at _ s (kept_where (same_shape s s) s (same_shape-refl s)))))
    complete vars (bind at a b) s h =
        deep_then _ _ h.0 s (complete vars a h.0 h.1) (deep_then _ _ s s (complete (vars ++ h.0 ∷ []) b s h.2) (deep_node records at _ s refl))
    complete vars (split at l a b) s h =
        deep_then _ _ (list_shape h.0) s (complete vars l (list_shape h.0) h.1) (deep_then _ _ s s (complete vars a s h.2) (deep_then _ _ s s (complete (vars ++ h.0 ∷ list_shape h.0 ∷ []) b s h.3) (deep_node records at _ s (kept_where (same_shape s s) s (same_shape-refl s)))))
    complete vars (nil at n) s h = deep_node records at _ s (ap of_list h.1 ∙ ap Some (sym h.2))
    complete vars (list_expr at es) s h =
        deep_then _ _ (h.0 ∷ h.1) s (all_complete vars es (h.0 ∷ h.1) h.2) (deep_node records at _ s (kept_where (all_same h.0 h.1) (list_shape h.0) (same_each h.0 h.1 h.3) ∙ ap Some (sym h.4)))
    complete vars (cons at a b) s h =
        deep_then _ _ h.0 s (complete vars a h.0 h.1) (deep_then _ _ (list_shape h.0) s (complete vars b (list_shape h.0) h.2) (deep_node records at _ s (kept_where (same_shape h.0 h.0) (list_shape h.0) (same_shape-refl h.0) ∙ ap Some (sym h.3))))
    complete vars (record_expr at r es) s h =
        let d = shape_at declared records r h.0 alike h.1 in
        let fields = map type_shape (field_types h.0) in
        deep_then _ _ fields s (all_complete vars es fields h.2) (deep_node records at _ s (ap (λ o. of_record o r fields) d.1 ∙ kept_where (same_shapes fields d.0.fields) (record_shape r) (ap (λ fs. same_shapes fields fs) d.2 ∙ same_shapes-refl fields) ∙ ap Some (sym h.3)))
    complete vars (field at r k a) s h =
        let d = shape_at declared records r h.0 alike h.2 in
        deep_then _ _ (record_shape r) s (complete vars a (record_shape r) h.4) (deep_node records at _ s (ap (λ o. of_field o r k (record_shape r)) d.1 ∙ ap (λ b. cond b (slice_get d.0.fields k) None) (same_shape-refl (record_shape r)) ∙ ap (λ fs. slice_get fs k) d.2 ∙ slice_get_moved type_shape (field_types h.0) k h.1 h.3 ∙ ap Some (sym h.5)))

    all_complete : (vars : List ShapeTree) (es : ExprTrees) (ss : List ShapeTree) → AllHaveShapes declared calls vars es ss → FoundOrDeep (all_found records callees vars es) ss
    all_complete vars none ss h = inl (ap Ok (sym h))
    all_complete vars (more e es) ss h =
        deep_then _ _ h.0 ss (complete vars e h.0 h.2) (deep_then _ _ h.1 ss (all_complete vars es h.1 h.3) (inl (ap Ok (sym h.4))))

-- ---- functions

fits_true : (n : Option NoteTree) (s : ShapeTree) → ResultShape n s → fits_result n s ≡ true
fits_true None s w = refl
fits_true (Some n) s w = ap (λ x. same_shape s x) (sym w) ∙ same_shape-refl s

get_front : {A : Type 0} (xs ys : List A) (k : ℕ) → k < length xs → slice_get (xs ++ ys) k ≡ slice_get xs k
get_front [] ys k h = absurd (omega (arith, h))
get_front (x ∷ xs) ys zero h = refl
get_front (x ∷ xs) ys (suc k) h = get_front xs ys k (omega (arith, h))

-- a function that may call itself is known in its own body at its shapes
own_known : (f : FunctionTree) (g : ShapeSignature) → MayRecur f → g.params ≡ map note_shape f.params → ResultShape f.result g.result → own_shapes f ≡ g ∷ []
own_known f g may params result = ap (λ b. cond b (noted_shapes f.params f.result) []) may.recursive ∙ noted f.result may.noted result where
  noted : (o : Option NoteTree) → IsSome o → ResultShape o g.result → noted_shapes f.params o ≡ g ∷ []
  noted None some w = absurd (none_is some) where
    none_is : IsSome {T = NoteTree} None → ⊥
    none_is e = absurd cc
  noted (Some n) some w = ap (λ ps. record { params = ps; result = note_shape n } ∷ []) (sym params) ∙ ap (λ r. record { params = g.params; result = r } ∷ []) (sym w)

-- it is found, or the fault is one of depth
abbrev pub SomeOrDeep : Result (List ShapeSignature) ShapeFault → Type 0
SomeOrDeep m = ((gs : List ShapeSignature) × (m ≡ Ok gs)) ⊎ ((at : ℕ) × (m ≡ Err (too_deep at)))

some_then : {A : Type 0} (m : Result A ShapeFault) (go : A → Result (List ShapeSignature) ShapeFault) (x : A) → FoundOrDeep m x → (m ≡ Ok x → SomeOrDeep (go x)) → SomeOrDeep (then m go)
some_then m go x (inl e) k = subst (λ m. SomeOrDeep (then m go)) (sym e) (k e)
some_then m go x (inr e) k = inr (e.0, ap (λ m. then m go) e.1)

module _ (p : ProgramTree) (records : List RecordShape) (alike : Alike p.records records) where
  called_is : (i : ℕ) (known : List ShapeSignature) (f : FunctionTree) (g : ShapeSignature) → length known ≡ i → Hold p records alike known → IsShapeOf p.records (shapes_below p i) i f g → (j : ℕ) (c : ShapeSignature) → CallShapes (shapes_below p i) i f g j c → slice_get (known ++ own_shapes f) j ≡ Some c
  called_is i known f g n w m j c (inl x) =
      let below : j < length known = omega (arith, n, x.0) in
      let k = get_or known j c in
      let there : slice_get known j ≡ Some k = slice_get-get_or known j c below in
      get_front known (own_shapes f) j below ∙ there ∙ ap Some (shapes_are_unique p j k c (w j k there) ((earlier_shapes_are p i j c x.0).0 x.1))
  called_is i known f g n w m j c (inr x) =
      ap (λ ys. slice_get (known ++ ys) j) (own_known f g x.1 m.params m.result) ∙ ap (λ k. slice_get (known ++ g ∷ []) k) (x.0 ∙ sym n) ∙ at_place known g [] ∙ ap Some (sym x.2)

  function_complete : (i : ℕ) (known : List ShapeSignature) (f : FunctionTree) (g : ShapeSignature) → length known ≡ i → Hold p records alike known → IsShapeOf p.records (shapes_below p i) i f g → FoundOrDeep (function_found records known f) g
  function_complete i known f g n w m = low (nat_le (tallest records (map note_shape f.params)) greatest_height) where
    last : FoundOrDeep (cond (fits_result f.result g.result) (Ok (record { params = map note_shape f.params; result = g.result })) (Err (wrong_shape f.at))) g
    last =
        inl (ap (λ b. cond b (Ok (record { params = map note_shape f.params; result = g.result })) (Err (wrong_shape f.at))) (fits_true f.result g.result m.result) ∙ ap (λ ps. Ok (record { params = ps; result = g.result })) (sym m.params))

    body : FoundOrDeep (found records (known ++ own_shapes f) (map note_shape f.params) f.body) g.result
    body =
        complete p.records records alike (known ++ own_shapes f) (CallShapes (shapes_below p i) i f g) (called_is i known f g n w m) (map note_shape f.params) f.body g.result (subst (λ ps. HasShape p.records (CallShapes (shapes_below p i) i f g) ps f.body g.result) m.params m.body)

    low : (b : Bool) → FoundOrDeep (cond b (then (found records (known ++ own_shapes f) (map note_shape f.params) f.body) (λ s. cond (fits_result f.result s) (Ok (record { params = map note_shape f.params; result = s })) (Err (wrong_shape f.at)))) (Err (too_deep f.at))) g
    low true = deep_then (found records (known ++ own_shapes f) (map note_shape f.params) f.body) _ g.result g body last
    low false = inr (f.at, refl)

  hold_more : (i : ℕ) (known : List ShapeSignature) (g : ShapeSignature) → length known ≡ i → Hold p records alike known → FunctionShape p i g → Hold p records alike (known ++ g ∷ [])
  hold_more i known g n w s j c e = either (in_either known (g ∷ []) j c e) where
    either : ((j < length known) × (slice_get known j ≡ Some c)) ⊎ ((m : ℕ) × (j ≡ length known + m) × (slice_get (g ∷ []) m ≡ Some c)) → FunctionShape p j c
    either (inl x) = w j c x.1
    either (inr x) =
        let o = only_one g x.0 c x.2 in
        let place : i ≡ j = omega (arith, n, x.1, o.0) in
        subst (λ k. FunctionShape p k c) place (subst (FunctionShape p i) o.1 s)

  functions_complete : IsShaped p → (fs pre : List FunctionTree) (known : List ShapeSignature) → p.functions ≡ pre ++ fs → length known ≡ length pre → Hold p records alike known → SomeOrDeep (functions_found records known fs)
  functions_complete shaped [] pre known same n w = inl (known, refl)
  functions_complete shaped (f ∷ fs) pre known same n w =
      let there : slice_get p.functions (length pre) ≡ Some f = ap (λ fs. slice_get fs (length pre)) same ∙ at_place pre f fs in
      let g = shaped (length pre) f there in
      let is = its_shapes p (length pre) f g.0 there g.1 in
      some_then
      (function_found records known f)
      _
      g.0
      (function_complete (length pre) known f g.0 n w is)
      (λ e. functions_complete shaped fs (pre ++ f ∷ []) (known ++ g.0 ∷ []) (same ∙ sym (append_assoc pre (f ∷ []) fs)) (both_longer g.0) (hold_more (length pre) known g.0 n w g.1)) where
        both_longer : (g : ShapeSignature) → length (known ++ g ∷ []) ≡ length (pre ++ f ∷ [])
        both_longer g = let x = length-append known (g ∷ []) in let y = length-append pre (f ∷ []) in omega (arith, n, x, y)

-- ---- programs

-- a record is refused for its height alone
abbrev RecordsEnd : Result (List RecordShape) ShapeFault → Type 0
RecordsEnd m = ((rs : List RecordShape) × (m ≡ Ok rs)) ⊎ ((at : ℕ) × (m ≡ Err (too_deep at)))

by_height : (s : RecordShape) (at : ℕ) (go : RecordShape → Result (List RecordShape) ShapeFault) (b : Bool) → RecordsEnd (go s) → RecordsEnd (then (cond b (Ok s) (Err (too_deep at))) go)
by_height s at go true h = h
by_height s at go false h = inr (at, refl)

records_end : (earlier : List RecordShape) (ds : List RecordTree) → RecordsEnd (records_found earlier ds)
records_end earlier [] = inl (earlier, refl)
records_end earlier (d ∷ ds) = by_height (declared_shape earlier d) d.at _ (nat_le (declared_shape earlier d).height greatest_height) (records_end (earlier ++ declared_shape earlier d ∷ []) ds)

shaped_is_found : (p : ProgramTree) → IsShaped p → SomeOrDeep (program_found p)
shaped_is_found p shaped = by_records (records_end [] p.records) where
  by_records : RecordsEnd (records_found [] p.records) → SomeOrDeep (program_found p)
  by_records (inl e) =
      subst (λ m. SomeOrDeep (then m (λ records. functions_found records [] p.functions))) (sym e.1) (functions_complete p e.0 (records_alike p.records [] [] e.0 tt e.1) shaped p.functions [] [] refl refl (λ i g x. absurd (nothing_at i g x)))
  by_records (inr e) = inr (e.0, ap (λ m. then m (λ records. functions_found records [] p.functions)) e.1)

pub refused_has_no_shapes : RefusedHasNoShapes
refused_has_no_shapes p at e shaped = by_end (shaped_is_found p shaped) where
  by_end : SomeOrDeep (program_found p) → ⊥
  by_end (inl x) = let f : None ≡ Some (wrong_shape at) = subst (λ m. fault_of m ≡ Some (wrong_shape at)) x.1 e in absurd cc
  by_end (inr x) = let f : Some (too_deep x.0) ≡ Some (wrong_shape at) = subst (λ m. fault_of m ≡ Some (wrong_shape at)) x.1 e in absurd cc

-- a program without a fault
pub faultless_is_shaped : FaultlessIsShaped
faultless_is_shaped p e = by_result (program_found p) refl e where
  by_result : (m : Result (List ShapeSignature) ShapeFault) → program_found p ≡ m → fault_of m ≡ None → IsShaped p
  by_result (Ok gs) h e = found_is_shaped p gs h
  by_result (Err x) h e = absurd cc
