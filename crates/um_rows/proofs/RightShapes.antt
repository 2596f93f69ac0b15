-- A function that has its shapes forms no step for a wrong shape.
use Rattle.std.proofs.Common.{◌≡◌, ℕ, ℤ, zero, suc, ◌+◌, ◌<◌, true, false, cond, eqb, ltb, ◌&&◌, inl, inr, List, [], ◌∷◌, ◌++◌, map, length, Option, Some, None, slice_get, refl, sym, ap, ◌∙◌, subst, arith}
use Rattle.std.specs.Prelude.{IsSome}
use Rattle.std.proofs.lemmas.Bool.{eq-eqb, lt-ltb, and_from}
use Rattle.std.proofs.lemmas.Bool.Decides.{nat_tests}
use Rattle.std.proofs.lemmas.List.{length-map}
use Rattle.std.proofs.lemmas.List.Elements.{All-head, All-tail}
use Rattle.std.specs.Prelude.{All}
use Rattle.um_frac.specs.declared.number.Frac.{Frac}
use Rattle.um_units.specs.Terms.{is_zero}
use Rattle.um_units.specs.PowerMap.{PowerMap, mul, pow, inv, replace}
use Rattle.um_tree.specs.declared.note.UnitNote.{UnitNote}
use Rattle.um_tree.specs.declared.note.UnitNote.TheVariants.{Hole, Written}
use Rattle.um_tree.specs.declared.expression.Arith.{Arith}
use Rattle.um_tree.specs.declared.expression.Arith.TheVariants.{Add, Sub, Mul, Div}
use Rattle.um_tree.specs.TypeTree.{TypeTree, bool_type, num_type, list_type, record_type, NoteTree, bool_note, num_note, list_note, record_note, ShapeTree, bool_shape, num_shape, list_shape, record_shape}
use Rattle.um_tree.specs.ExprTree.{ExprTree, ExprTrees, truth, number, local, call, negate, not_expr, pown, arith as arith_tree, compare, both, either, if, bind, split, nil, list_expr, cons, record_expr, field, none, more}
use Rattle.um_tree.specs.ProgramTree.{FieldTree, RecordTree, FunctionTree, ProgramTree, Signature, SchemeTree}
use Rattle.um_tree.specs.Typing.{put, unit_at, field_types}
use Rattle.um_tree.specs.Shapes.{type_shape, note_shape, ShapeSignature, EachShapeIs, HasShape, AllHaveShapes, CallShapes, ResultShape, shapes_below, FunctionShape}
use Rattle.um_tree.specs.Formed.{TakesUnits, IsTypeIn, IsNoteTreeIn, IsLiteral, IsFieldType, IsFormedIn, AllFormedIn, IsFormedNote, ResultFormed, IsFormed}
use Rattle.um_tree.proofs.Below.{earlier_shapes_are}
use Rattle.um_shape.proofs.SoundProgram.{its_shapes}
use Rattle.um_equal_types.specs.Steps.{Step, row_at, wrong_shape_at, type_at, types_at}
use Rattle.um_equal_types.specs.Against.{never, unit_against, units_against, against, types_against, against_each}
use Rattle.um_slots.specs.Holes.{unit_holes, note_holes, notes_holes, Callee, known_by, itself, nobody, callee_holes, record_holes, expr_holes}
use Rattle.um_rows.specs.Rules.{Derived, AllDerived, after, formed, asks_bool, asks_list, item, asks_zero, number_rule, local_rule, call_rule, negate_rule, not_rule, pown_rule, truths_rule, units_rule, arith_rule, compare_rule, if_rule, split_rule, nil_rule, list_rule, cons_rule, record_rule, declared_rule, found_rule, field_rule}
use Rattle.um_rows.specs.Derivation.{first_units, offered, derive, derive_all}
use Rattle.um_slots.specs.Noted.{noted_unit, noted_units, noted_type, noted_types, noted_result}
use Rattle.um_slots.specs.Callees.{known_function, may_recur, callee, head_holes}
use Rattle.um_rows.specs.Equations.{result_rows, own_signature, head_steps, equations}
use Rattle.um_rows.specs.RightShapes.{HaveRightShapes, IsOfShape, AreOfShapes}
use Rattle.um_rows.proofs.FunctionLaws.{recurs_test}
use Rattle.um_rows.proofs.SlotLaws.{length-first}

-- ---- steps one after another
right_append : (a b : List Step) → HaveRightShapes a → HaveRightShapes b → HaveRightShapes (a ++ b)
right_append [] b h k = k
right_append (row_at at u ∷ a) b h k = right_append a b h k
right_append (wrong_shape_at at ∷ a) b h k = absurd h
right_append (type_at at t ∷ a) b h k = right_append a b h k

right_types_at : (at : ℕ) (ts : List TypeTree) → HaveRightShapes (types_at at ts)
right_types_at at [] = tt
right_types_at at (t ∷ ts) = right_types_at at ts

units_are_right : (at : ℕ) (us vs : List PowerMap) → length us ≡ length vs → HaveRightShapes (units_against at us vs)
units_are_right at [] [] e = tt
units_are_right at (u ∷ us) (v ∷ vs) e = units_are_right at us vs (omega (arith, e))
units_are_right at [] (v ∷ vs) e = absurd (omega (arith, e))
units_are_right at (u ∷ us) [] e = absurd (omega (arith, e))

module _ (records : List RecordTree) where
  -- ---- types that have shapes
  pub is_put : (s : ℕ → PowerMap) (t : TypeTree) (r : ShapeTree) → IsOfShape records t r → IsOfShape records (put s t) r
  is_put s bool_type bool_shape h = tt
  is_put s (num_type u) num_shape h = tt
  is_put s (list_type t) (list_shape r) h = is_put s t r h
  is_put s (record_type q us) (record_shape r) h = (h.0, (h.1.0, h.1.1, length-map us (replace s) ∙ h.1.2))
  is_put s t r h = absurd h

  are_put : (s : ℕ → PowerMap) (ts : List TypeTree) (rs : List ShapeTree) → AreOfShapes records ts rs → AreOfShapes records (map (put s) ts) rs
  are_put s [] [] h = tt
  are_put s (t ∷ ts) (r ∷ rs) h = (is_put s t r h.0, are_put s ts rs h.1)
  are_put s [] (r ∷ rs) h = absurd h
  are_put s (t ∷ ts) [] h = absurd h

  pub are_append : (ts ss : List TypeTree) (rs qs : List ShapeTree) → AreOfShapes records ts rs → AreOfShapes records ss qs → AreOfShapes records (ts ++ ss) (rs ++ qs)
  are_append [] ss [] qs h k = k
  are_append (t ∷ ts) ss (r ∷ rs) qs h k = (h.0, are_append ts ss rs qs h.1 k)
  are_append [] ss (r ∷ rs) qs h k = absurd h
  are_append (t ∷ ts) ss [] qs h k = absurd h

  is_declared : (bases vars : ℕ) (t : TypeTree) → IsTypeIn bases vars records t → IsOfShape records t (type_shape t)
  is_declared bases vars bool_type h = tt
  is_declared bases vars (num_type u) h = tt
  is_declared bases vars (list_type t) h = is_declared bases vars t h
  is_declared bases vars (record_type r us) h = (refl, h.0)

  are_declared : (bases vars : ℕ) (P : TypeTree → Type 0) → ((t : TypeTree) → P t → IsTypeIn bases vars records t) → (fs : List FieldTree) → All (λ f. P f.type) fs →
      AreOfShapes records (map (λ (f : FieldTree). f.type) fs) (map type_shape (map (λ (f : FieldTree). f.type) fs))
  are_declared bases vars P in_type [] h = tt
  are_declared bases vars P in_type (f ∷ fs) h =
      (is_declared bases vars f.type (in_type f.type (All-head (λ f. P f.type) f fs h)), are_declared bases vars P in_type fs (All-tail (λ f. P f.type) f fs h))

  pub is_at : (ts : List TypeTree) (k : ℕ) (t : TypeTree) → AreOfShapes records ts (map type_shape ts) → slice_get ts k ≡ Some t → IsOfShape records t (type_shape t)
  is_at [] zero t h e = absurd cc
  is_at [] (suc k) t h e = absurd cc
  is_at (s ∷ ts) zero t h e = let same : s ≡ t = cc in subst (λ x. IsOfShape records x (type_shape x)) same h.0
  is_at (s ∷ ts) (suc k) t h e = is_at ts k t h.1 e

  is_item : (t : TypeTree) (r : ShapeTree) → IsOfShape records t (list_shape r) → IsOfShape records (item t) r
  is_item (list_type t) r h = h
  is_item t r h = absurd h

  -- ---- types against each other
  same_units : (r n m : ℕ) → TakesUnits records r n → TakesUnits records r m → n ≡ m
  same_units r n m h k = h.2 ∙ ap (λ d. d.units) (one_declaration (slice_get records r) h.0 k.0 h.1 k.1) ∙ sym k.2 where
    one_declaration : (o : Option RecordTree) (d c : RecordTree) → o ≡ Some d → o ≡ Some c → d ≡ c
    one_declaration o d c e f = let same : Some d ≡ Some c = sym e ∙ f in cc

  against_is_right : (at : ℕ) (s t : TypeTree) (r : ShapeTree) → IsOfShape records s r → IsOfShape records t r → HaveRightShapes (against at s t)
  against_is_right at bool_type bool_type bool_shape h k = tt
  against_is_right at bool_type t bool_shape h k = absurd k
  against_is_right at (num_type u) (num_type v) num_shape h k = tt
  against_is_right at (num_type u) t num_shape h k = absurd k
  against_is_right at (list_type s) (list_type t) (list_shape r) h k = against_is_right at s t r h k
  against_is_right at (list_type s) t (list_shape r) h k = absurd k
  against_is_right at (record_type q us) (record_type x vs) (record_shape r) h k =
      subst (λ b. HaveRightShapes (cond b (units_against at us vs) (never at))) (sym (eq-eqb q x (h.0 ∙ sym k.0)))
      (units_are_right at us vs (same_units r (length us) (length vs) h.1 k.1))
  against_is_right at (record_type q us) t (record_shape r) h k = absurd k
  against_is_right at s t r h k = absurd h

  types_against_are_right : (at : ℕ) (ss ts : List TypeTree) (rs : List ShapeTree) → AreOfShapes records ss rs → AreOfShapes records ts rs → HaveRightShapes (types_against at ss ts)
  types_against_are_right at [] [] [] h k = tt
  types_against_are_right at (s ∷ ss) (t ∷ ts) (r ∷ rs) h k =
      right_append (against at s t) (types_against at ss ts) (against_is_right at s t r h.0 k.0) (types_against_are_right at ss ts rs h.1 k.1)
  types_against_are_right at [] (t ∷ ts) [] h k = absurd k
  types_against_are_right at (s ∷ ss) [] (r ∷ rs) h k = absurd k
  types_against_are_right at [] ts (r ∷ rs) h k = absurd h
  types_against_are_right at (s ∷ ss) ts [] h k = absurd h

  each_is_right : (at : ℕ) (s : TypeTree) (r : ShapeTree) (ts : List TypeTree) (rs : List ShapeTree) → IsOfShape records s r → AreOfShapes records ts rs → EachShapeIs r rs → HaveRightShapes (against_each at s ts)
  each_is_right at s r [] rs h k e = tt
  each_is_right at s r (t ∷ ts) (q ∷ rs) h k e =
      right_append (against at s t) (against_each at s ts) (against_is_right at s t r h (subst (IsOfShape records t) e.0 k.0)) (each_is_right at s r ts rs h k.1 e.1)
  each_is_right at s r (t ∷ ts) [] h k e = absurd k

  -- ---- nodes: the type has the shape, and no step stands for a wrong one
  abbrev IsRight : Derived → ShapeTree → Type 0
  IsRight d s = IsOfShape records d.type s × HaveRightShapes d.steps

  after_is_right : (ss : List Step) (d : Derived) (s : ShapeTree) → HaveRightShapes ss → IsRight d s → IsRight (after ss d) s
  after_is_right ss d s h k = (k.0, right_append ss d.steps h k.1)

  -- a signature that is offered to a call has its shapes
  abbrev IsOffer : Option Signature → ShapeSignature → Type 0
  IsOffer None g = ⊥
  IsOffer (Some f) g = AreOfShapes records f.params g.params × IsOfShape records f.result g.result

  module _ (at : ℕ) where
    formed_is_right : (rows : List Step) (t : TypeTree) (s : ShapeTree) → HaveRightShapes rows → IsOfShape records t s → IsRight (formed at rows t) s
    formed_is_right rows t s h k = (k, right_append rows (type_at at t ∷ []) h tt)

    bool_is_right : (t : TypeTree) → IsOfShape records t bool_shape → HaveRightShapes (asks_bool at t)
    bool_is_right bool_type h = tt
    bool_is_right t h = absurd h

    list_is_right : (t : TypeTree) (r : ShapeTree) → IsOfShape records t (list_shape r) → HaveRightShapes (asks_list at t)
    list_is_right (list_type t) r h = tt
    list_is_right t r h = absurd h

    number_right : (bases : ℕ) (c : Frac) (n : UnitNote) (u : PowerMap) → IsLiteral bases c n → IsRight (number_rule at c n u) num_shape
    number_right bases c Hole u h = formed_is_right (asks_zero at c Hole) (num_type u) num_shape (subst (λ b. HaveRightShapes (cond b [] (never at))) (sym (ap is_zero h)) tt) tt
    number_right bases c (Written w) u h = formed_is_right [] (num_type u) num_shape tt tt

    local_right : (k : ℕ) (ts : List TypeTree) (rs : List ShapeTree) (s : ShapeTree) → AreOfShapes records ts rs → slice_get rs k ≡ Some s → IsRight (local_rule at (slice_get ts k)) s
    local_right zero [] [] s h e = absurd cc
    local_right (suc k) [] [] s h e = absurd cc
    local_right zero (t ∷ ts) (r ∷ rs) s h e = let same : r ≡ s = cc in formed_is_right [] t s tt (subst (IsOfShape records t) same h.0)
    local_right (suc k) (t ∷ ts) (r ∷ rs) s h e = local_right k ts rs s h.1 e
    local_right k [] (r ∷ rs) s h e = absurd h
    local_right k (t ∷ ts) [] s h e = absurd h

    call_right : (o : Option Signature) (g : ShapeSignature) (ts : List TypeTree) → IsOffer o g → AreOfShapes records ts g.params → IsRight (call_rule at o ts) g.result
    call_right None g ts h k = absurd h
    call_right (Some f) g ts h k = formed_is_right (types_against at f.params ts) f.result g.result (types_against_are_right at f.params ts g.params h.0 k) h.1

    negate_right : (t : TypeTree) → IsOfShape records t num_shape → IsRight (negate_rule at t) num_shape
    negate_right (num_type u) h = formed_is_right [] (num_type u) num_shape tt tt
    negate_right t h = absurd h

    pown_right : (i : ℤ) (t : TypeTree) → IsOfShape records t num_shape → IsRight (pown_rule at i t) num_shape
    pown_right i (num_type u) h = formed_is_right [] (num_type (pow u i)) num_shape tt tt
    pown_right i t h = absurd h

    not_right : (t : TypeTree) → IsOfShape records t bool_shape → IsRight (not_rule at t) bool_shape
    not_right t h = formed_is_right (asks_bool at t) bool_type bool_shape (bool_is_right t h) tt

    truths_right : (s t : TypeTree) → IsOfShape records s bool_shape → IsOfShape records t bool_shape → IsRight (truths_rule at s t) bool_shape
    truths_right s t h k = formed_is_right (asks_bool at s ++ asks_bool at t) bool_type bool_shape (right_append (asks_bool at s) (asks_bool at t) (bool_is_right s h) (bool_is_right t k)) tt

    units_right : (op : Arith) (u v : PowerMap) → IsRight (units_rule at op u v) num_shape
    units_right Add u v = formed_is_right (unit_against at u v ∷ []) (num_type u) num_shape tt tt
    units_right Sub u v = formed_is_right (unit_against at u v ∷ []) (num_type u) num_shape tt tt
    units_right Mul u v = formed_is_right [] (num_type (mul u v)) num_shape tt tt
    units_right Div u v = formed_is_right [] (num_type (mul u (inv v))) num_shape tt tt

    arith_right : (op : Arith) (s t : TypeTree) → IsOfShape records s num_shape → IsOfShape records t num_shape → IsRight (arith_rule at op s t) num_shape
    arith_right op (num_type u) (num_type v) h k = units_right op u v
    arith_right op (num_type u) t h k = absurd k
    arith_right op s t h k = absurd h

    compare_right : (s t : TypeTree) → IsOfShape records s num_shape → IsOfShape records t num_shape → IsRight (compare_rule at s t) bool_shape
    compare_right (num_type u) (num_type v) h k = formed_is_right (unit_against at u v ∷ []) bool_type bool_shape tt tt
    compare_right (num_type u) t h k = absurd k
    compare_right s t h k = absurd h

    if_right : (c s t : TypeTree) (r : ShapeTree) → IsOfShape records c bool_shape → IsOfShape records s r → IsOfShape records t r → IsRight (if_rule at c s t) r
    if_right c s t r h k l = formed_is_right (asks_bool at c ++ against at s t) s r (right_append (asks_bool at c) (against at s t) (bool_is_right c h) (against_is_right at s t r k l)) k

    split_right : (e s t : TypeTree) (q r : ShapeTree) → IsOfShape records e (list_shape q) → IsOfShape records s r → IsOfShape records t r → IsRight (split_rule at e s t) r
    split_right e s t q r h k l = formed_is_right (asks_list at e ++ against at s t) s r (right_append (asks_list at e) (against at s t) (list_is_right e q h) (against_is_right at s t r k l)) k

    nil_right : (t : TypeTree) (r : ShapeTree) → IsOfShape records t (list_shape r) → IsRight (nil_rule at t) (list_shape r)
    nil_right t r h = formed_is_right (asks_list at t) t (list_shape r) (list_is_right t r h) h

    list_right : (ts : List TypeTree) (r : ShapeTree) (rs : List ShapeTree) → AreOfShapes records ts (r ∷ rs) → EachShapeIs r rs → IsRight (list_rule at ts) (list_shape r)
    list_right [] r rs h e = absurd h
    list_right (t ∷ ts) r rs h e = formed_is_right (against_each at t ts) (list_type t) (list_shape r) (each_is_right at t r ts rs h.0 h.1 e) h.0

    cons_right : (s t : TypeTree) (r : ShapeTree) → IsOfShape records s r → IsOfShape records t (list_shape r) → IsRight (cons_rule at s t) (list_shape r)
    cons_right s (list_type t) r h k = formed_is_right (against at s t) (list_type t) (list_shape r) (against_is_right at s t r h k) k
    cons_right s t r h k = absurd k

    record_right : (r : ℕ) (us : List PowerMap) (d : RecordTree) (ts : List TypeTree) → slice_get records r ≡ Some d → length us ≡ d.units → AreOfShapes records (field_types d) (map type_shape (field_types d)) → AreOfShapes records ts (map type_shape (field_types d)) →
        IsRight (record_rule at r us (slice_get records r) ts) (record_shape r)
    record_right r us d ts found units declared h =
        let fields = map (put (unit_at us)) (field_types d) in
        subst (λ o. IsRight (record_rule at r us o ts) (record_shape r)) (sym found)
        (formed_is_right (types_against at fields ts) (record_type r us) (record_shape r) (types_against_are_right at fields ts (map type_shape (field_types d)) (are_put (unit_at us) (field_types d) _ declared) h) (refl, (d, found, units)))

    field_right : (r k : ℕ) (d : RecordTree) (declared t : TypeTree) → slice_get records r ≡ Some d → slice_get (field_types d) k ≡ Some declared → IsOfShape records declared (type_shape declared) → IsOfShape records t (record_shape r) →
        IsRight (field_rule at r k (slice_get records r) t) (type_shape declared)
    field_right r k d declared (record_type q us) found stands is h =
        let units : length us ≡ d.units = same_units r (length us) d.units h.1 (d, found, refl) in
        subst (λ b. IsRight (found_rule at k us b (slice_get records r)) (type_shape declared)) (sym (eq-eqb q r h.0))
        (subst (λ o. IsRight (found_rule at k us true o) (type_shape declared)) (sym found)
        (subst (λ b. IsRight (declared_rule at us b (slice_get (field_types d) k)) (type_shape declared)) (sym (eq-eqb (length us) d.units units))
        (subst (λ o. IsRight (declared_rule at us true o) (type_shape declared)) (sym stands)
        (formed_is_right [] (put (unit_at us) declared) (type_shape declared) tt (is_put (unit_at us) declared (type_shape declared) is)))))
    field_right r k d declared t found stands is h = absurd h

-- the scheme of function j has these shapes
pub record SchemeHasShapes (records : List RecordTree) (schemes : List SchemeTree) (j : ℕ) (g : ShapeSignature) : Type 0 where
  pub scheme : SchemeTree
  pub stands : slice_get schemes j ≡ Some scheme
  pub params : AreOfShapes records scheme.signature.params g.params
  pub result : IsOfShape records scheme.signature.result g.result

-- the declared types of a formed record's fields
pub fields_are : (p : ProgramTree) → IsFormed p → (r : ℕ) (d : RecordTree) → slice_get p.records r ≡ Some d → AreOfShapes p.records (field_types d) (map type_shape (field_types d))
fields_are p well r d e = are_declared p.records (length p.bases) d.units (IsFieldType p r d.units) (λ t h. h.0) d.fields (well.records r d e).fields

-- ---- expressions of a formed function
module _ (p : ProgramTree) (i : ℕ) (f : FunctionTree) (well : IsFormed p) (holes names : ℕ → PowerMap) where
  length-noted : (n : ℕ) (ms : List UnitNote) → length (noted_units holes names n ms) ≡ length ms
  length-noted n [] = refl
  length-noted n (m ∷ ms) = ap suc (length-noted (n + unit_holes m) ms)

  is_noted : (n : ℕ) (m : NoteTree) → IsNoteTreeIn (length p.bases) f.named p.records m → IsOfShape p.records (noted_type holes names n m) (note_shape m)
  is_noted n bool_note h = tt
  is_noted n (num_note m) h = tt
  is_noted n (list_note m) h = is_noted n m h
  is_noted n (record_note r ms) h = (refl, (h.0.0, h.0.1, length-noted n ms ∙ h.0.2))

  are_noted : (n : ℕ) (ms : List NoteTree) → All (IsFormedNote p f) ms → AreOfShapes p.records (noted_types holes names n ms) (map note_shape ms)
  are_noted n [] h = tt
  are_noted n (m ∷ ms) h = (is_noted n m (All-head (IsFormedNote p f) m ms h).0, are_noted (n + note_holes m) ms (All-tail (IsFormedNote p f) m ms h))

  module _ (self : Signature) (callee : ℕ → Callee) (calls : ℕ → ShapeSignature → Type 0) (offers : (n j : ℕ) (g : ShapeSignature) → calls j g → IsOffer p.records (offered holes names p.records self callee n (callee j)) g) where
    abbrev at_number : ℕ → List TypeTree → ExprTree → Derived
    at_number n vars e = derive holes names p.records self callee n vars e

    abbrev all_at : ℕ → List TypeTree → ExprTrees → AllDerived
    all_at n vars es = derive_all holes names p.records self callee n vars es

    abbrev holes_in : ExprTree → ℕ
    holes_in e = expr_holes p.records callee e

    abbrev Is : Derived → ShapeTree → Type 0
    Is d s = IsRight p.records d s

    mutual
      right : (n m : ℕ) (vars : List TypeTree) (ss : List ShapeTree) (e : ExprTree) (s : ShapeTree) → AreOfShapes p.records vars ss → IsFormedIn p i f m e → HasShape p.records calls ss e s → Is (at_number n vars e) s
      right n m vars ss (truth at b) s v w h = subst (Is (formed at [] bool_type)) (sym h) (formed_is_right p.records at [] bool_type bool_shape tt tt)
      right n m vars ss (number at c u) s v w h = subst (Is (number_rule at c u (noted_unit holes names n u))) (sym h) (number_right p.records at (length p.bases) c u (noted_unit holes names n u) w)
      right n m vars ss (local at k) s v w h = local_right p.records at k vars ss s v h
      right n m vars ss (call at j es) s v w h =
          let c = callee_holes (callee j) in
          let ds = all_at (n + c) vars es in
          let parts = all_right (n + c) m vars ss es h.0 v w.1 h.1 in
          after_is_right p.records ds.steps (call_rule at (offered holes names p.records self callee n (callee j)) ds.types) s parts.1
          (call_right p.records at (offered holes names p.records self callee n (callee j)) (record { params = h.0; result = s }) ds.types (offers n j _ h.2) parts.0)
      right n m vars ss (negate at a) s v w h =
          let x = at_number n vars a in
          let part = right n m vars ss a num_shape v w h.0 in
          after_is_right p.records x.steps (negate_rule at x.type) s part.1 (subst (Is (negate_rule at x.type)) (sym h.1) (negate_right p.records at x.type part.0))
      right n m vars ss (not_expr at a) s v w h =
          let x = at_number n vars a in
          let part = right n m vars ss a bool_shape v w h.0 in
          after_is_right p.records x.steps (not_rule at x.type) s part.1 (subst (Is (not_rule at x.type)) (sym h.1) (not_right p.records at x.type part.0))
      right n m vars ss (pown at a k) s v w h =
          let x = at_number n vars a in
          let part = right n m vars ss a num_shape v w h.0 in
          after_is_right p.records x.steps (pown_rule at k x.type) s part.1 (subst (Is (pown_rule at k x.type)) (sym h.1) (pown_right p.records at k x.type part.0))
      right n m vars ss (arith_tree at op a b) s v w h =
          let x = at_number n vars a in
          let y = at_number (n + holes_in a) vars b in
          let first = right n m vars ss a num_shape v w.0 h.0 in
          let second = right (n + holes_in a) m vars ss b num_shape v w.1 h.1 in
          after_is_right p.records (x.steps ++ y.steps) (arith_rule at op x.type y.type) s (right_append x.steps y.steps first.1 second.1) (subst (Is (arith_rule at op x.type y.type)) (sym h.2) (arith_right p.records at op x.type y.type first.0 second.0))
      right n m vars ss (compare at sign a b) s v w h =
          let x = at_number n vars a in
          let y = at_number (n + holes_in a) vars b in
          let first = right n m vars ss a num_shape v w.0 h.0 in
          let second = right (n + holes_in a) m vars ss b num_shape v w.1 h.1 in
          after_is_right p.records (x.steps ++ y.steps) (compare_rule at x.type y.type) s (right_append x.steps y.steps first.1 second.1) (subst (Is (compare_rule at x.type y.type)) (sym h.2) (compare_right p.records at x.type y.type first.0 second.0))
      right n m vars ss (both at a b) s v w h =
          let x = at_number n vars a in
          let y = at_number (n + holes_in a) vars b in
          let first = right n m vars ss a bool_shape v w.0 h.0 in
          let second = right (n + holes_in a) m vars ss b bool_shape v w.1 h.1 in
          after_is_right p.records (x.steps ++ y.steps) (truths_rule at x.type y.type) s (right_append x.steps y.steps first.1 second.1) (subst (Is (truths_rule at x.type y.type)) (sym h.2) (truths_right p.records at x.type y.type first.0 second.0))
      right n m vars ss (either at a b) s v w h =
          let x = at_number n vars a in
          let y = at_number (n + holes_in a) vars b in
          let first = right n m vars ss a bool_shape v w.0 h.0 in
          let second = right (n + holes_in a) m vars ss b bool_shape v w.1 h.1 in
          after_is_right p.records (x.steps ++ y.steps) (truths_rule at x.type y.type) s (right_append x.steps y.steps first.1 second.1) (subst (Is (truths_rule at x.type y.type)) (sym h.2) (truths_right p.records at x.type y.type first.0 second.0))
      right n m vars ss (if at c a b) s v w h =
          let l = n + holes_in c + holes_in a in
          let z = at_number n vars c in
          let x = at_number (n + holes_in c) vars a in
          let y = at_number l vars b in
          let test = right n m vars ss c bool_shape v w.0 h.0 in
          let first = right (n + holes_in c) m vars ss a s v w.1 h.1 in
          let second = right l m vars ss b s v w.2 h.2 in
          after_is_right p.records (z.steps ++ (x.steps ++ y.steps)) (if_rule at z.type x.type y.type) s (right_append z.steps (x.steps ++ y.steps) test.1 (right_append x.steps y.steps first.1 second.1)) (if_right p.records at z.type x.type y.type s test.0 first.0 second.0)
      right n m vars ss (bind at a b) s v w h =
          let x = at_number n vars a in
          let scope = vars ++ x.type ∷ [] in
          let y = at_number (n + holes_in a) scope b in
          let first = right n m vars ss a h.0 v w.0 h.1 in
          let second = right (n + holes_in a) (m + 1) scope (ss ++ h.0 ∷ []) b s (are_append p.records vars (x.type ∷ []) ss (h.0 ∷ []) v (first.0, tt)) w.1 h.2 in
          after_is_right p.records (x.steps ++ y.steps) (formed at [] y.type) s (right_append x.steps y.steps first.1 second.1) (formed_is_right p.records at [] y.type s tt second.0)
      right n m vars ss (split at e a b) s v w h =
          let l = n + holes_in e + holes_in a in
          let z = at_number n vars e in
          let x = at_number (n + holes_in e) vars a in
          let scope = vars ++ item z.type ∷ z.type ∷ [] in
          let y = at_number l scope b in
          let list = right n m vars ss e (list_shape h.0) v w.0 h.1 in
          let first = right (n + holes_in e) m vars ss a s v w.1 h.2 in
          let second = right l (m + 2) scope (ss ++ h.0 ∷ list_shape h.0 ∷ []) b s (are_append p.records vars (item z.type ∷ z.type ∷ []) ss (h.0 ∷ list_shape h.0 ∷ []) v (is_item p.records z.type h.0 list.0, (list.0, tt))) w.2 h.3 in
          after_is_right p.records (z.steps ++ (x.steps ++ y.steps)) (split_rule at z.type x.type y.type) s (right_append z.steps (x.steps ++ y.steps) list.1 (right_append x.steps y.steps first.1 second.1)) (split_right p.records at z.type x.type y.type h.0 s list.0 first.0 second.0)
      right n m vars ss (nil at u) s v w h =
          let t = noted_type holes names n u in
          subst (Is (nil_rule at t)) (sym h.2) (nil_right p.records at t h.0 (subst (IsOfShape p.records t) h.1 (is_noted n u w.0)))
      right n m vars ss (list_expr at es) s v w h =
          let ds = all_at n vars es in
          let parts = all_right n m vars ss es (h.0 ∷ h.1) v w.1 h.2 in
          after_is_right p.records ds.steps (list_rule at ds.types) s parts.1 (subst (Is (list_rule at ds.types)) (sym h.4) (list_right p.records at ds.types h.0 h.1 parts.0 h.3))
      right n m vars ss (cons at a b) s v w h =
          let x = at_number n vars a in
          let y = at_number (n + holes_in a) vars b in
          let first = right n m vars ss a h.0 v w.0 h.1 in
          let second = right (n + holes_in a) m vars ss b (list_shape h.0) v w.1 h.2 in
          after_is_right p.records (x.steps ++ y.steps) (cons_rule at x.type y.type) s (right_append x.steps y.steps first.1 second.1) (subst (Is (cons_rule at x.type y.type)) (sym h.3) (cons_right p.records at x.type y.type h.0 first.0 second.0))
      right n m vars ss (record_expr at r es) s v w h =
          let c = record_holes (slice_get p.records r) in
          let us = first_units c (λ k. holes (n + k)) in
          let ds = all_at (n + c) vars es in
          let parts = all_right (n + c) m vars ss es (map type_shape (field_types h.0)) v w.1 h.2 in
          let units : length us ≡ h.0.units = length-first c (λ k. holes (n + k)) ∙ ap record_holes h.1 in
          after_is_right p.records ds.steps (record_rule at r us (slice_get p.records r) ds.types) s parts.1
          (subst (Is (record_rule at r us (slice_get p.records r) ds.types)) (sym h.3) (record_right p.records at r us h.0 ds.types h.1 units (fields_are p well r h.0 h.1) parts.0))
      right n m vars ss (field at r k a) s v w h =
          let x = at_number n vars a in
          let part = right n m vars ss a (record_shape r) v w.1 h.4 in
          let rule = field_rule at r k (slice_get p.records r) x.type in
          let is = is_at p.records (field_types h.0) k h.1 (fields_are p well r h.0 h.2) h.3 in
          after_is_right p.records x.steps rule s part.1 (subst (Is rule) (sym h.5) (field_right p.records at r k h.0 h.1 x.type h.2 h.3 is part.0))

      all_right : (n m : ℕ) (vars : List TypeTree) (ss : List ShapeTree) (es : ExprTrees) (rs : List ShapeTree) → AreOfShapes p.records vars ss → AllFormedIn p i f m es → AllHaveShapes p.records calls ss es rs →
          AreOfShapes p.records (all_at n vars es).types rs × HaveRightShapes (all_at n vars es).steps
      all_right n m vars ss none rs v w h = (subst (AreOfShapes p.records []) (sym h) tt, tt)
      all_right n m vars ss (more e es) rs v w h =
          let x = at_number n vars e in
          let ds = all_at (n + holes_in e) vars es in
          let first = right n m vars ss e h.0 v w.0 h.2 in
          let rest = all_right (n + holes_in e) m vars ss es h.1 v w.1 h.3 in
          (subst (AreOfShapes p.records (x.type ∷ ds.types)) (sym h.4) (first.0, rest.0), right_append x.steps ds.steps first.1 rest.1)

  -- ---- what calls are offered
  module _ (schemes : List SchemeTree) (have : (j : ℕ) (c : ShapeSignature) → j < i → FunctionShape p j c → SchemeHasShapes p.records schemes j c) (declared : slice_get p.functions i ≡ Some f) (g : ShapeSignature) (shaped : FunctionShape p i g) where
    abbrev own : Signature
    own = own_signature holes names f

    own_result : (n : ℕ) (o : Option NoteTree) → IsSome o → ResultFormed p f o → ResultShape o g.result → IsOfShape p.records (noted_result holes names n o) g.result
    own_result n None m w h = absurd (cc m)
    own_result n (Some note) m w h = subst (IsOfShape p.records (noted_type holes names n note)) (sym h) (is_noted n note w.0)

    own_params : AreOfShapes p.records (noted_types holes names 0 f.params) g.params
    own_params = subst (AreOfShapes p.records (noted_types holes names 0 f.params)) (sym (its_shapes p i f g declared shaped).params) (are_noted 0 f.params (well.functions i f declared).params)

    offers : (n j : ℕ) (c : ShapeSignature) → CallShapes (shapes_below p i) i f g j c → IsOffer p.records (offered holes names p.records own (callee schemes i f) n (callee schemes i f j)) c
    offers n j c (inl h) =
        let k = have j c h.0 ((earlier_shapes_are p i j c h.0).0 h.1) in
        let is : callee schemes i f j ≡ known_by k.scheme = ap (λ b. cond b (known_function (slice_get schemes j)) (cond (eqb j i && may_recur f) itself nobody)) (lt-ltb j i h.0) ∙ ap known_function k.stands in
        let s = λ (x : ℕ). holes (n + x) in
        subst (λ a. IsOffer p.records (offered holes names p.records own (callee schemes i f) n a) c) (sym is) (are_put p.records s k.scheme.signature.params c.params k.params, is_put p.records s k.scheme.signature.result c.result k.result)
    offers n j c (inr h) =
        let later : ltb j i ≡ false = let same = h.0 in grind (arith, nat_tests, same) in
        let test : eqb j i && may_recur f ≡ true = and_from _ _ (eq-eqb j i h.0) (recurs_test f h.1) in
        let is : callee schemes i f j ≡ itself = ap (λ b. cond b (known_function (slice_get schemes j)) (cond (eqb j i && may_recur f) itself nobody)) later ∙ ap (λ b. cond b itself nobody) test in
        let shapes = its_shapes p i f g declared shaped in
        let result = own_result (notes_holes f.params) f.result h.1.noted (well.functions i f declared).result shapes.result in
        subst (λ (x : ShapeSignature). IsOffer p.records (offered holes names p.records own (callee schemes i f) n (callee schemes i f j)) x) (sym h.2)
        (subst (λ a. IsOffer p.records (offered holes names p.records own (callee schemes i f) n a) g) (sym is) (own_params, result))

    result_is_right : (n : ℕ) (t : TypeTree) (o : Option NoteTree) → ResultFormed p f o → ResultShape o g.result → IsOfShape p.records t g.result → HaveRightShapes (result_rows holes names f.at t n o)
    result_is_right n t None w h k = tt
    result_is_right n t (Some note) w h k = against_is_right p.records f.at t (noted_type holes names n note) g.result k (own_result n (Some note) refl w h)

    pub equations_are_right : HaveRightShapes (equations holes names p.records schemes i f).steps
    equations_are_right =
        let shapes = its_shapes p i f g declared shaped in
        let is = well.functions i f declared in
        let params = noted_types holes names 0 f.params in
        let n = notes_holes f.params in
        let body = derive holes names p.records own (callee schemes i f) (head_holes f) params f.body in
        let inside = right own (callee schemes i f) (CallShapes (shapes_below p i) i f g) offers (head_holes f) (length f.params) params g.params f.body g.result own_params is.body shapes.body in
        let last = result_is_right n body.type f.result is.result shapes.result inside.0 in
        right_append (head_steps holes names f) (body.steps ++ result_rows holes names f.at body.type n f.result) (right_types_at f.at (params ++ noted_result holes names n f.result ∷ []))
        (right_append body.steps (result_rows holes names f.at body.type n f.result) inside.1 last)
