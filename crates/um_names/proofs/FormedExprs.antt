-- The expressions of expression texts are formed: each name of them exists, and they are no taller than their texts.
use Rattle.std.proofs.Common.{◌≡◌, ℕ, suc, ◌<◌, ◌≤◌, ◌+◌, Bool, true, false, ◌&&◌, cond, List, [], ◌∷◌, ◌++◌, length, ℤ, pos, negsuc, refl, sym, ap, subst, ◌∙◌, arith, Ok, Err, length-append}
use Rattle.std.specs.Prelude.{Option, Some, None, slice_get}
use Rattle.std.specs.Str.{bytes_eq}
use Rattle.std.proofs.lemmas.List.{length-map}
use Rattle.um_frac.specs.declared.number.Frac.{Frac}
use Rattle.um_frac.specs.Fraction.{numerator}
use Rattle.um_units.specs.PowerMap.{one}
use Rattle.um_units.proofs.Variables.{IsClosed-one, IsClosed-below_zero}
use Rattle.um_tree.specs.declared.note.UnitNote.TheVariants as note
use Rattle.um_tree.specs.TypeTree.{NoteTree}
use Rattle.um_tree.specs.TreeHeights.{note_tree_height, tree_height, tallest_tree, tree_nodes, all_tree_nodes}
use Rattle.um_tree.specs.Heights.{greatest_height, type_height, expr_height, tallest_expr, tallest_field, expr_nodes, all_expr_nodes, all_field_nodes}
use Rattle.um_tree.specs.ExprTree.{ExprTree, ExprTrees, truth, number, local, call, negate, not_expr, pown, arith as arith_tree, compare, both, either, if, bind, split, nil, list_expr, cons, record_expr, field, none, more}
use Rattle.um_tree.specs.ProgramTree.{RecordTree, FunctionTree, ProgramTree}
use Rattle.um_tree.specs.Formed.{IsNoteTreeIn, count, MayCall, HasFields, IsFormedIn, AllFormedIn}
use Rattle.um_tree.specs.RawTree.{NoteSyntax, hole_syntax, unit_note_syntax, ExprSyntax, ExprSyntaxes, FieldSyntaxes, truth_syntax, number_syntax, name_syntax, call_syntax, negate_syntax, not_syntax, pown_syntax, arith_syntax, compare_syntax, and_syntax, or_syntax, if_syntax, let_syntax, match_syntax, nil_syntax, list_syntax, cons_syntax, fields_syntax, field_syntax, bracket_expr_syntax, no_exprs, more_exprs, no_fields, more_fields}
use Rattle.um_names.specs.declared.callable.Callable.{Callable}
use Rattle.um_names.specs.declared.callable.FieldNumber.{FieldNumber}
use Rattle.um_measures.specs.Faults.{Found, and_then, hole, unless_taken}
use Rattle.um_measures.specs.Known.{Known, number_of, names_of_fields, measure_unit}
use Rattle.um_measures.specs.UnitNames.{resolved_unit}
use Rattle.um_measures.specs.Wildcards.{is_zero}
use Rattle.um_names.specs.TypeNames.{resolved_type}
use Rattle.um_measures.specs.Scopes.{Scope, local_of, same_binding}
use Rattle.um_names.specs.ExprNames.{callable_of, named, called, same_names, field_or, field_of, if_same_names, with_all_fields, record_of, length_of, field_text_names, known_fields, found_record, resolved_fields, found_field, resolved_literal, resolved_expr, resolved_exprs, resolved_parts}
use Rattle.um_names.specs.Readable.{IsReadExpr, AreReadExprs, AreReadFields}
use Rattle.um_measures.proofs.NameLists.{number_of-below}
use Rattle.um_measures.proofs.Scopes.{local_below}
use Rattle.um_names.proofs.FormedUnits.{AreClosedIn, measure_in, resolved_unit_in, in_one}
use Rattle.um_names.proofs.FormedTypes.{then_found, type_in}

-- ---- what is found behind two or three parts

record Pair {A B C : Type 0} (r : Found A) (s : Found B) (make : A → B → C) (c : C) : Type 0 where
  pub first : A
  pub second : B
  pub one : r ≡ Ok first
  pub two : s ≡ Ok second
  pub is : make first second ≡ c

pair_found : {A B C : Type 0} (r : Found A) (s : Found B) (make : A → B → C) (c : C) → and_then r (λ x. and_then s (λ y. Ok (make x y))) ≡ Ok c → Pair r s make c
pair_found (Ok x) (Ok y) make c e = record { first = x; second = y; one = refl; two = refl; is = cc e }
pair_found (Ok x) (Err g) make c e = absurd cc
pair_found (Err g) s make c e = absurd cc

record Triple {A B C D : Type 0} (r : Found A) (s : Found B) (t : Found C) (make : A → B → C → D) (d : D) : Type 0 where
  pub first : A
  pub second : B
  pub third : C
  pub one : r ≡ Ok first
  pub two : s ≡ Ok second
  pub three : t ≡ Ok third
  pub is : make first second third ≡ d

triple_found : {A B C D : Type 0} (r : Found A) (s : Found B) (t : Found C) (make : A → B → C → D) (d : D) → and_then r (λ x. and_then s (λ y. and_then t (λ z. Ok (make x y z)))) ≡ Ok d → Triple r s t make d
triple_found (Ok x) (Ok y) (Ok z) make d e = record { first = x; second = y; third = z; one = refl; two = refl; three = refl; is = cc e }
triple_found (Ok x) (Ok y) (Err g) make d e = absurd cc
triple_found (Ok x) (Err g) t make d e = absurd cc
triple_found (Err g) s t make d e = absurd cc

-- ---- fields

same_names-length : (xs ys : List (List ℕ)) → same_names xs ys ≡ true → length ys ≡ length xs
same_names-length [] [] e = refl
same_names-length [] (y ∷ ys) e = absurd cc
same_names-length (x ∷ xs) [] e = absurd cc
same_names-length (x ∷ xs) (y ∷ ys) e = by (bytes_eq x y) (same_names-length xs ys) e where
  by : (b : Bool) → (same_names xs ys ≡ true → length ys ≡ length xs) → (b && same_names xs ys) ≡ true → length (y ∷ ys) ≡ length (x ∷ xs)
  by true rest h = ap suc (rest h)
  by false rest h = absurd cc

-- the record of this number has so many fields
abbrev FieldsAre : List RecordTree → ℕ → ℕ → Type 0
FieldsAre records r n = (d : RecordTree) × (slice_get records r ≡ Some d) × (n ≡ length d.fields)

with_all-fields : (records : List RecordTree) (o : Option FieldNumber) (names : List (List ℕ)) (r : ℕ) → with_all_fields records o names ≡ Some r → FieldsAre records r (length names)
with_all-fields records None names r e = absurd cc
with_all-fields records (Some f) names r e = by (slice_get records f.record_number) refl e where
  of : (d : RecordTree) (b : Bool) → slice_get records f.record_number ≡ Some d → same_names (names_of_fields d) names ≡ b → cond b (Some f.record_number) None ≡ Some r → FieldsAre records r (length names)
  of d true g h i =
      let same : f.record_number ≡ r = cc i in
      subst (λ k. FieldsAre records k (length names)) same (d, g, same_names-length (names_of_fields d) names h ∙ length-map d.fields (λ z. z.name))
  of d false g h i = absurd cc

  by : (o : Option RecordTree) → slice_get records f.record_number ≡ o → if_same_names o f.record_number names ≡ Some r → FieldsAre records r (length names)
  by None g h = absurd cc
  by (Some d) g h = of d (same_names (names_of_fields d) names) g refl h

record_of-fields : (records : List RecordTree) (names : List (List ℕ)) (r : ℕ) → record_of records names ≡ Some r → FieldsAre records r (length names)
record_of-fields records [] r e = absurd cc
record_of-fields records (x ∷ xs) r e = with_all-fields records (field_of records x) (x ∷ xs) r e

found_record-is : (o : Option ℕ) (at r : ℕ) → found_record o at ≡ Ok r → o ≡ Some r
found_record-is None at r e = absurd cc
found_record-is (Some q) at r e = let same : q ≡ r = cc e in ap Some same

resolved_fields-are : (records : List RecordTree) (fs : FieldSyntaxes) (at r : ℕ) → resolved_fields records fs at ≡ Ok r → FieldsAre records r (length (field_text_names fs))
resolved_fields-are records fs at r e =
    let w = then_found (known_fields records fs) (λ _. found_record (record_of records (field_text_names fs)) at) r e in
    record_of-fields records (field_text_names fs) r (found_record-is (record_of records (field_text_names fs)) at r w.2)

-- the field of this number is one of the record of this number
abbrev FieldIs : List RecordTree → FieldNumber → Type 0
FieldIs records f = (d : RecordTree) × (slice_get records f.record_number ≡ Some d) × (f.field_number < length d.fields)

field_of-is : (records : List RecordTree) (x : List ℕ) (f : FieldNumber) → field_of records x ≡ Some f → FieldIs records f
field_of-is [] x f e = absurd cc
field_of-is (d ∷ ds) x f e = by (number_of (names_of_fields d) x) (field_of ds x) (number_of-below x (names_of_fields d)) (field_of-is ds x) e where
  by : (o : Option ℕ) (q : Option FieldNumber) → ((k : ℕ) → o ≡ Some k → k < length (names_of_fields d)) → ((g : FieldNumber) → q ≡ Some g → FieldIs ds g) → field_or o q ≡ Some f → FieldIs (d ∷ ds) f
  by (Some k) q below later h =
      let same : (let g : FieldNumber = record { record_number = 0; field_number = k } in g) ≡ f = cc h in
      subst (FieldIs (d ∷ ds)) same (d, refl, (let l = below k refl in omega (arith, l, length-map d.fields (λ z. z.name))))
  by None None below later h = absurd cc
  by None (Some g) below later h =
      let same : (let g : FieldNumber = record { record_number = suc g.record_number; field_number = g.field_number } in g) ≡ f = cc h in
      subst (FieldIs (d ∷ ds)) same (later g refl)

found_field-is : (o : Option FieldNumber) (place : ℕ) (f : FieldNumber) → found_field o place ≡ Ok f → o ≡ Some f
found_field-is None place f e = absurd cc
found_field-is (Some g) place f e = let same : g ≡ f = cc e in ap Some same

is_zero-is : (z : ℤ) → is_zero z ≡ true → z ≡ pos 0
is_zero-is (pos n) e = let same : n ≡ 0 = grind arith in ap pos same
is_zero-is (negsuc n) e = absurd cc

no_argument : (callables : List Callable) (o : Option ℕ) (x : List ℕ) (n at j : ℕ) → called callables o x n at ≡ Ok j → callable_of callables x n at ≡ Ok j
no_argument callables None x n at j e = e
no_argument callables (Some k) x n at j e = absurd cc

-- ---- expressions

module _ (known : Known) (variables : List (List ℕ)) (callables : List Callable) (closed : AreClosedIn (length known.program.bases) known.shorts) (functions : List FunctionTree) (i : ℕ) (f : FunctionTree) where
  -- the program behind the function
  abbrev pub program_with : ProgramTree
  program_with = record { bases = known.program.bases; records = known.program.records; functions = functions }

  abbrev pub IsGood : ℕ → ExprTree → ℕ → ℕ → Type 0
  IsGood n e height nodes = IsFormedIn program_with i f n e × (tree_height e ≤ height) × (tree_nodes e ≤ nodes)

  abbrev pub AreGood : ℕ → ExprTrees → ℕ → ℕ → ℕ → Type 0
  AreGood n es k height nodes = AllFormedIn program_with i f n es × (count es ≡ k) × (tallest_tree es ≤ height) × (all_tree_nodes es ≤ nodes)

  literal_in : (n at : ℕ) (c : Frac) (o : Option NoteSyntax) (e : ExprTree) → resolved_literal known at c o ≡ Ok e → IsGood n e 1 1
  literal_in n at c None e h =
      let same : number at c (note.Written one) ≡ e = cc h in
      subst (λ z. IsGood n z 1 1) same ((IsClosed-one, (in_one (length known.program.bases) 0).0), omega arith, omega arith)
  literal_in n at c (Some (hole_syntax place)) e h = by (is_zero (numerator c)) refl h where
    by : (b : Bool) → is_zero (numerator c) ≡ b → and_then (cond b (Ok note.Hole) (Err (hole at))) (λ unit. Ok (number at c unit)) ≡ Ok e → IsGood n e 1 1
    by true g k = let same : number at c note.Hole ≡ e = cc k in subst (λ z. IsGood n z 1 1) same (is_zero-is (numerator c) g, omega arith, omega arith)
    by false g k = absurd cc
  literal_in n at c (Some (unit_note_syntax place u)) e h =
      let w = then_found (resolved_unit (measure_unit known) [] u) (λ v. Ok (number at c (note.Written v))) e h in
      let v = resolved_unit_in (measure_unit known) [] (length known.program.bases) (λ x. measure_in known x closed) u w.0 w.1 in
      let same : number at c (note.Written (w.0)) ≡ e = cc (w.2) in
      subst (λ z. IsGood n z 1 1) same ((IsClosed-below_zero w.0 v.1, v.0), omega arith, omega arith)

  module _ (count_named : f.named ≡ length variables) (calls : (x : List ℕ) (n at j : ℕ) → callable_of callables x n at ≡ Ok j → MayCall program_with i f.recursive j n) where
    name_in : (scope : Scope) (x : List ℕ) (at : ℕ) (e : ExprTree) → named callables (local_of scope x) x at ≡ Ok e → IsGood (length scope) e 1 1
    name_in scope x at e h = by (local_of scope x) (local_below scope x) h where
      by : (o : Option ℕ) → ((k : ℕ) → o ≡ Some k → k < length scope) → named callables o x at ≡ Ok e → IsGood (length scope) e 1 1
      by (Some k) below g = let same : local at k ≡ e = cc g in subst (λ z. IsGood (length scope) z 1 1) same (below k refl, omega arith, omega arith)
      by None below g =
          let w = then_found (callable_of callables x 0 at) (λ j. Ok (call at j none)) e g in
          let same : call at (w.0) none ≡ e = cc (w.2) in
          subst (λ z. IsGood (length scope) z 1 1) same ((calls x 0 at w.0 w.1, tt), omega arith, omega arith)

    nil_in : (at : ℕ) (n : ℕ) (m : NoteTree) (k : ℕ) → k ≤ greatest_height → IsNoteTreeIn (length known.program.bases) (length variables) known.program.records m → note_tree_height m ≤ k → IsGood n (nil at m) 3 1
    nil_in at n m k l h low = ((subst (λ v. IsNoteTreeIn (length known.program.bases) v known.program.records m) (sym count_named) h, omega (arith, low, l)), omega arith, omega arith)

    mutual
      pub expr_in : (t : ExprSyntax) (scope : Scope) (e : ExprTree) → IsReadExpr t → resolved_expr known variables callables scope t ≡ Ok e → IsGood (length scope) e (expr_height t) (expr_nodes t)
      expr_in (truth_syntax at b) scope e r h = let same : truth at b ≡ e = cc h in subst (λ z. IsGood (length scope) z 1 1) same (tt, omega arith, omega arith)
      expr_in (number_syntax at c o) scope e r h = literal_in (length scope) at c o e h
      expr_in (name_syntax at x) scope e r h = name_in scope x at e h
      expr_in (call_syntax at x es) scope e r h =
          let w = pair_found (called callables (local_of scope x) x (length_of es) at) (resolved_exprs known variables callables scope es) (λ j bs. call at j bs) e h in
          let bs = exprs_in es scope w.second r w.two in
          let may = calls x (length_of es) at w.first (no_argument callables (local_of scope x) x (length_of es) at w.first w.one) in
          subst (λ z. IsGood (length scope) z (expr_height (call_syntax at x es)) (expr_nodes (call_syntax at x es))) w.is
          ((subst (MayCall program_with i f.recursive w.first) (sym bs.1) may, bs.0), omega (arith, bs.2), omega (arith, bs.3))
      expr_in (negate_syntax at a) scope e r h =
          let w = then_found (resolved_expr known variables callables scope a) (λ x. Ok (negate at x)) e h in
          let x = expr_in a scope w.0 r w.1 in
          let same : negate at (w.0) ≡ e = cc (w.2) in
          subst (λ z. IsGood (length scope) z (expr_height a + 1) (expr_nodes a + 1)) same (x.0, omega (arith, x.1), omega (arith, x.2))
      expr_in (not_syntax at a) scope e r h =
          let w = then_found (resolved_expr known variables callables scope a) (λ x. Ok (not_expr at x)) e h in
          let x = expr_in a scope w.0 r w.1 in
          let same : not_expr at (w.0) ≡ e = cc (w.2) in
          subst (λ z. IsGood (length scope) z (expr_height a + 1) (expr_nodes a + 1)) same (x.0, omega (arith, x.1), omega (arith, x.2))
      expr_in (pown_syntax at a k) scope e r h =
          let w = then_found (resolved_expr known variables callables scope a) (λ x. Ok (pown at x k)) e h in
          let x = expr_in a scope w.0 r w.1 in
          let same : pown at (w.0) k ≡ e = cc (w.2) in
          subst (λ z. IsGood (length scope) z (expr_height a + 1) (expr_nodes a + 1)) same (x.0, omega (arith, x.1), omega (arith, x.2))
      expr_in (arith_syntax at op a b) scope e r h =
          let w = pair_found (resolved_expr known variables callables scope a) (resolved_expr known variables callables scope b) (λ x y. arith_tree at op x y) e h in
          let x = expr_in a scope w.first r.0 w.one in
          let y = expr_in b scope w.second r.1 w.two in
          subst (λ z. IsGood (length scope) z (expr_height (arith_syntax at op a b)) (expr_nodes (arith_syntax at op a b))) w.is ((x.0, y.0), omega (arith, x.1, y.1), omega (arith, x.2, y.2))
      expr_in (compare_syntax at s a b) scope e r h =
          let w = pair_found (resolved_expr known variables callables scope a) (resolved_expr known variables callables scope b) (λ x y. compare at s x y) e h in
          let x = expr_in a scope w.first r.0 w.one in
          let y = expr_in b scope w.second r.1 w.two in
          subst (λ z. IsGood (length scope) z (expr_height (compare_syntax at s a b)) (expr_nodes (compare_syntax at s a b))) w.is ((x.0, y.0), omega (arith, x.1, y.1), omega (arith, x.2, y.2))
      expr_in (and_syntax at a b) scope e r h =
          let w = pair_found (resolved_expr known variables callables scope a) (resolved_expr known variables callables scope b) (λ x y. both at x y) e h in
          let x = expr_in a scope w.first r.0 w.one in
          let y = expr_in b scope w.second r.1 w.two in
          subst (λ z. IsGood (length scope) z (expr_height (and_syntax at a b)) (expr_nodes (and_syntax at a b))) w.is ((x.0, y.0), omega (arith, x.1, y.1), omega (arith, x.2, y.2))
      expr_in (or_syntax at a b) scope e r h =
          let w = pair_found (resolved_expr known variables callables scope a) (resolved_expr known variables callables scope b) (λ x y. either at x y) e h in
          let x = expr_in a scope w.first r.0 w.one in
          let y = expr_in b scope w.second r.1 w.two in
          subst (λ z. IsGood (length scope) z (expr_height (or_syntax at a b)) (expr_nodes (or_syntax at a b))) w.is ((x.0, y.0), omega (arith, x.1, y.1), omega (arith, x.2, y.2))
      expr_in (cons_syntax at a b) scope e r h =
          let w = pair_found (resolved_expr known variables callables scope a) (resolved_expr known variables callables scope b) (λ x y. cons at x y) e h in
          let x = expr_in a scope w.first r.0 w.one in
          let y = expr_in b scope w.second r.1 w.two in
          subst (λ z. IsGood (length scope) z (expr_height (cons_syntax at a b)) (expr_nodes (cons_syntax at a b))) w.is ((x.0, y.0), omega (arith, x.1, y.1), omega (arith, x.2, y.2))
      expr_in (if_syntax at c a b) scope e r h =
          let w = triple_found (resolved_expr known variables callables scope c) (resolved_expr known variables callables scope a) (resolved_expr known variables callables scope b) (λ x y z. if at x y z) e h in
          let x = expr_in c scope w.first r.0 w.one in
          let y = expr_in a scope w.second r.1 w.two in
          let z = expr_in b scope w.third r.2 w.three in
          subst (λ q. IsGood (length scope) q (expr_height (if_syntax at c a b)) (expr_nodes (if_syntax at c a b))) w.is ((x.0, y.0, z.0), omega (arith, x.1, y.1, z.1), omega (arith, x.2, y.2, z.2))
      expr_in (let_syntax at x a b) scope e r h =
          let w = pair_found (resolved_expr known variables callables scope a) (resolved_expr known variables callables (scope ++ x.name ∷ []) b) (λ u v. bind at u v) e h in
          let u = expr_in a scope w.first r.0 w.one in
          let v = expr_in b (scope ++ x.name ∷ []) w.second r.1 w.two in
          let inner = subst (λ k. IsFormedIn program_with i f k w.second) (length-append scope (x.name ∷ [])) v.0 in
          subst (λ z. IsGood (length scope) z (expr_height (let_syntax at x a b)) (expr_nodes (let_syntax at x a b))) w.is ((u.0, inner), omega (arith, u.1, v.1), omega (arith, u.2, v.2))
      expr_in (match_syntax at l a x y b) scope e r h =
          let w = then_found (resolved_expr known variables callables scope l) (λ d. and_then (resolved_expr known variables callables scope a) (λ c. and_then (unless_taken (same_binding x.name y.name) y.at) (λ _. and_then (resolved_expr known variables callables (scope ++ x.name ∷ y.name ∷ []) b) (λ g. Ok (split at d c g))))) e h in
          let k = triple_found (resolved_expr known variables callables scope a) (unless_taken (same_binding x.name y.name) y.at) (resolved_expr known variables callables (scope ++ x.name ∷ y.name ∷ []) b) (λ c _ g. split at w.0 c g) e w.2 in
          let d = expr_in l scope w.0 r.0 w.1 in
          let c = expr_in a scope k.first r.1 k.one in
          let g = expr_in b (scope ++ x.name ∷ y.name ∷ []) k.third r.2 k.three in
          let inner = subst (λ n. IsFormedIn program_with i f n k.third) (length-append scope (x.name ∷ y.name ∷ [])) g.0 in
          subst (λ z. IsGood (length scope) z (expr_height (match_syntax at l a x y b)) (expr_nodes (match_syntax at l a x y b))) k.is ((d.0, c.0, inner), omega (arith, d.1, c.1, g.1), omega (arith, d.2, c.2, g.2))
      expr_in (nil_syntax at t) scope e r h =
          let w = then_found (resolved_type known variables true t) (λ n. Ok (nil at n)) e h in
          let m = type_in known variables true closed t w.0 w.1 in
          let same : nil at (w.0) ≡ e = cc (w.2) in
          subst (λ z. IsGood (length scope) z 3 1) same (nil_in at (length scope) w.0 (type_height t) r m.0 m.1)
      expr_in (list_syntax at es) scope e r h =
          let w = then_found (resolved_exprs known variables callables scope es) (λ bs. Ok (list_expr at bs)) e h in
          let bs = exprs_in es scope w.0 r.1 w.1 in
          let same : list_expr at (w.0) ≡ e = cc (w.2) in
          subst (λ z. IsGood (length scope) z (expr_height (list_syntax at es)) (expr_nodes (list_syntax at es))) same ((subst (λ k. 0 < k) (sym bs.1) r.0, bs.0), omega (arith, bs.2), omega (arith, bs.3))
      expr_in (fields_syntax at fs) scope e r h =
          let w = pair_found (resolved_fields known.program.records fs at) (resolved_parts known variables callables scope fs) (λ q bs. record_expr at q bs) e h in
          let bs = parts_in fs scope w.second r w.two in
          let fields = subst (HasFields program_with w.first) (sym bs.1) (resolved_fields-are known.program.records fs at w.first w.one) in
          subst (λ z. IsGood (length scope) z (expr_height (fields_syntax at fs)) (expr_nodes (fields_syntax at fs))) w.is ((fields, bs.0), omega (arith, bs.2), omega (arith, bs.3))
      expr_in (field_syntax at place x a) scope e r h =
          let w = pair_found (resolved_expr known variables callables scope a) (found_field (field_of known.program.records x) place) (λ u g. field at g.record_number g.field_number u) e h in
          let u = expr_in a scope w.first r w.one in
          let g = field_of-is known.program.records x w.second (found_field-is (field_of known.program.records x) place w.second w.two) in
          subst (λ z. IsGood (length scope) z (expr_height a + 1) (expr_nodes a + 1)) w.is ((g, u.0), omega (arith, u.1), omega (arith, u.2))
      expr_in (bracket_expr_syntax at a) scope e r h = let x = expr_in a scope e r h in (x.0, omega (arith, x.1), omega (arith, x.2))

      exprs_in : (ts : ExprSyntaxes) (scope : Scope) (es : ExprTrees) → AreReadExprs ts → resolved_exprs known variables callables scope ts ≡ Ok es → AreGood (length scope) es (length_of ts) (tallest_expr ts) (all_expr_nodes ts)
      exprs_in no_exprs scope es r h = let same : none ≡ es = cc h in subst (λ z. AreGood (length scope) z 0 0 0) same (tt, refl, omega arith, omega arith)
      exprs_in (more_exprs t ts) scope es r h =
          let w = pair_found (resolved_expr known variables callables scope t) (resolved_exprs known variables callables scope ts) (λ a bs. more a bs) es h in
          let a = expr_in t scope w.first r.0 w.one in
          let bs = exprs_in ts scope w.second r.1 w.two in
          subst (λ z. AreGood (length scope) z (length_of (more_exprs t ts)) (tallest_expr (more_exprs t ts)) (all_expr_nodes (more_exprs t ts))) w.is
          ((a.0, bs.0), omega (arith, bs.1), omega (arith, a.1, bs.2), omega (arith, a.2, bs.3))

      parts_in : (fs : FieldSyntaxes) (scope : Scope) (es : ExprTrees) → AreReadFields fs → resolved_parts known variables callables scope fs ≡ Ok es → AreGood (length scope) es (length (field_text_names fs)) (tallest_field fs) (all_field_nodes fs)
      parts_in no_fields scope es r h = let same : none ≡ es = cc h in subst (λ z. AreGood (length scope) z 0 0 0) same (tt, refl, omega arith, omega arith)
      parts_in (more_fields at x t fs) scope es r h =
          let w = pair_found (resolved_expr known variables callables scope t) (resolved_parts known variables callables scope fs) (λ a bs. more a bs) es h in
          let a = expr_in t scope w.first r.0 w.one in
          let bs = parts_in fs scope w.second r.1 w.two in
          subst (λ z. AreGood (length scope) z (length (field_text_names (more_fields at x t fs))) (tallest_field (more_fields at x t fs)) (all_field_nodes (more_fields at x t fs))) w.is
          ((a.0, bs.0), omega (arith, bs.1), omega (arith, a.1, bs.2), omega (arith, a.2, bs.3))
