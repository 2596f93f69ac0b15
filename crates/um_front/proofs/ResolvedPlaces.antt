-- What holds of the place of each node of a text's expression holds of those of the expression that it stands for.
use Rattle.std.proofs.Common.{◌≡◌, ℕ, true, List, [], ◌∷◌, ◌++◌, subst, Ok}
use Rattle.std.specs.Prelude.{Option, Some, None}
use Rattle.um_frac.specs.declared.number.Frac.{Frac}
use Rattle.um_units.specs.PowerMap.{one}
use Rattle.um_tree.specs.declared.note.UnitNote.TheVariants as note
use Rattle.um_tree.specs.ExprTree.{ExprTree, ExprTrees, truth, number, local, call, negate, not_expr, pown, arith, compare, both, either, if, bind, split, nil, list_expr, cons, record_expr, field, none, more}
use Rattle.um_tree.specs.RawTree.{NoteSyntax, hole_syntax, unit_note_syntax, ExprSyntax, ExprSyntaxes, FieldSyntaxes, truth_syntax, number_syntax, name_syntax, call_syntax, negate_syntax, not_syntax, pown_syntax, arith_syntax, compare_syntax, and_syntax, or_syntax, if_syntax, let_syntax, match_syntax, nil_syntax, list_syntax, cons_syntax, fields_syntax, field_syntax, bracket_expr_syntax, no_exprs, more_exprs, no_fields, more_fields}
use Rattle.um_measures.specs.Faults.{Found, and_then, unless_taken}
use Rattle.um_measures.specs.Scopes.{Scope, local_of, same_binding}
use Rattle.um_measures.specs.Known.{Known, measure_unit}
use Rattle.um_measures.specs.UnitNames.{resolved_unit}
use Rattle.um_measures.specs.Wildcards.{open_unit}
use Rattle.um_names.specs.declared.callable.Callable.{Callable}
use Rattle.um_names.specs.TypeNames.{resolved_type}
use Rattle.um_names.specs.ExprNames.{callable_of, named, called, length_of, resolved_fields, found_field, field_of, resolved_literal, resolved_expr, resolved_exprs, resolved_parts}
use Rattle.um_names.proofs.FormedTypes.{then_found}
use Rattle.um_front.specs.Places.{EachPlace, EachPlaceOf}
use Rattle.um_front.proofs.ExprPlaces.{NodesHold, EachHolds, FieldsHold}

module _ (P : ℕ → Type 0) (known : Known) (variables : List (List ℕ)) (callables : List Callable) where
  abbrev Gives : Scope → ExprSyntax → ExprTree → Type 0
  Gives scope t e = resolved_expr known variables callables scope t ≡ Ok e

  found : (e f : ExprTree) → ◌≡◌ {A = Found ExprTree} (Ok e) (Ok f) → EachPlace P e → EachPlace P f
  found e f is h = let same : e ≡ f = cc is in subst (EachPlace P) same h

  literal_places : (at : ℕ) (c : Frac) (n : Option NoteSyntax) (e : ExprTree) → P at → resolved_literal known at c n ≡ Ok e → EachPlace P e
  literal_places at c None e h is = found (number at c (note.Written one)) e is h
  literal_places at c (Some (hole_syntax place)) e h is =
      let w = then_found (open_unit c at) (λ unit. Ok (number at c unit)) e is in
      found (number at c w.0) e w.2 h
  literal_places at c (Some (unit_note_syntax place u)) e h is =
      let w = then_found (resolved_unit (measure_unit known) [] u) (λ v. Ok (number at c (note.Written v))) e is in
      found (number at c (note.Written (w.0))) e w.2 h

  named_places : (o : Option ℕ) (x : List ℕ) (at : ℕ) (e : ExprTree) → P at → named callables o x at ≡ Ok e → EachPlace P e
  named_places (Some k) x at e h is = found (local at k) e is h
  named_places None x at e h is =
      let w = then_found (callable_of callables x 0 at) (λ j. Ok (call at j none)) e is in
      found (call at w.0 none) e w.2 (h, tt)

  -- one part, or two
  one_part : (r : Found ExprTree) (make : ExprTree → ExprTree) (e : ExprTree) → and_then r (λ a. Ok (make a)) ≡ Ok e → ((a : ExprTree) → r ≡ Ok a → EachPlace P (make a)) → EachPlace P e
  one_part r make e is go =
      let w = then_found r (λ a. Ok (make a)) e is in
      found (make w.0) e w.2 (go w.0 w.1)

  two_parts : (r s : Found ExprTree) (make : ExprTree → ExprTree → ExprTree) (e : ExprTree) → and_then r (λ a. and_then s (λ b. Ok (make a b))) ≡ Ok e → ((a b : ExprTree) → r ≡ Ok a → s ≡ Ok b → EachPlace P (make a b)) → EachPlace P e
  two_parts r s make e is go =
      let w = then_found r (λ a. and_then s (λ b. Ok (make a b))) e is in
      let v = then_found s (λ b. Ok (make w.0 b)) e w.2 in
      found (make w.0 v.0) e v.2 (go w.0 v.0 w.1 v.1)

  mutual
    pub places : (scope : Scope) (t : ExprSyntax) (e : ExprTree) → NodesHold P t → Gives scope t e → EachPlace P e
    places scope (truth_syntax at b) e h is = found (truth at b) e is h
    places scope (number_syntax at c n) e h is = literal_places at c n e h.0 is
    places scope (name_syntax at x) e h is = named_places (local_of scope x) x at e h is
    places scope (call_syntax at x es) e h is =
        let w = then_found (called callables (local_of scope x) x (length_of es) at) (λ j. and_then (resolved_exprs known variables callables scope es) (λ bs. Ok (call at j bs))) e is in
        let v = then_found (resolved_exprs known variables callables scope es) (λ bs. Ok (call at w.0 bs)) e w.2 in
        found (call at w.0 v.0) e v.2 (h.0, places_of scope es v.0 h.1 v.1)
    places scope (negate_syntax at a) e h is = one_part (resolved_expr known variables callables scope a) (negate at) e is (λ b k. (h.0, places scope a b h.1 k))
    places scope (not_syntax at a) e h is = one_part (resolved_expr known variables callables scope a) (not_expr at) e is (λ b k. (h.0, places scope a b h.1 k))
    places scope (pown_syntax at a n) e h is = one_part (resolved_expr known variables callables scope a) (λ b. pown at b n) e is (λ b k. (h.0, places scope a b h.1 k))
    places scope (arith_syntax at op a b) e h is =
        two_parts (resolved_expr known variables callables scope a) (resolved_expr known variables callables scope b) (arith at op) e is
        (λ c d k l. (h.0, places scope a c h.1 k, places scope b d h.2 l))
    places scope (compare_syntax at sign a b) e h is =
        two_parts (resolved_expr known variables callables scope a) (resolved_expr known variables callables scope b) (compare at sign) e is
        (λ c d k l. (h.0, places scope a c h.1 k, places scope b d h.2 l))
    places scope (and_syntax at a b) e h is =
        two_parts (resolved_expr known variables callables scope a) (resolved_expr known variables callables scope b) (both at) e is
        (λ c d k l. (h.0, places scope a c h.1 k, places scope b d h.2 l))
    places scope (or_syntax at a b) e h is =
        two_parts (resolved_expr known variables callables scope a) (resolved_expr known variables callables scope b) (either at) e is
        (λ c d k l. (h.0, places scope a c h.1 k, places scope b d h.2 l))
    places scope (cons_syntax at a b) e h is =
        two_parts (resolved_expr known variables callables scope a) (resolved_expr known variables callables scope b) (cons at) e is
        (λ c d k l. (h.0, places scope a c h.1 k, places scope b d h.2 l))
    places scope (if_syntax at c a b) e h is =
        let w = then_found (resolved_expr known variables callables scope c) (λ d. and_then (resolved_expr known variables callables scope a) (λ x. and_then (resolved_expr known variables callables scope b) (λ y. Ok (if at d x y)))) e is in
        two_parts (resolved_expr known variables callables scope a) (resolved_expr known variables callables scope b) (if at w.0) e w.2
        (λ x y k l. (h.0, places scope c w.0 h.1 w.1, places scope a x h.2 k, places scope b y h.3 l))
    places scope (let_syntax at x a b) e h is =
        two_parts (resolved_expr known variables callables scope a) (resolved_expr known variables callables (scope ++ x.name ∷ []) b) (bind at) e is
        (λ c d k l. (h.0, places scope a c h.1 k, places (scope ++ x.name ∷ []) b d h.2 l))
    places scope (match_syntax at l a x y b) e h is =
        let inner = scope ++ x.name ∷ y.name ∷ [] in
        let full = resolved_expr known variables callables inner b in
        let w = then_found (resolved_expr known variables callables scope l) (λ d. and_then (resolved_expr known variables callables scope a) (λ c. and_then (unless_taken (same_binding x.name y.name) y.at) (λ _. and_then full (λ f. Ok (split at d c f))))) e is in
        let v = then_found (resolved_expr known variables callables scope a) (λ c. and_then (unless_taken (same_binding x.name y.name) y.at) (λ _. and_then full (λ f. Ok (split at w.0 c f)))) e w.2 in
        let u = then_found (unless_taken (same_binding x.name y.name) y.at) (λ _. and_then full (λ f. Ok (split at w.0 v.0 f))) e v.2 in
        one_part full (split at w.0 v.0) e u.2 (λ f k. (h.0, places scope l w.0 h.1 w.1, places scope a v.0 h.2 v.1, places inner b f h.3 k))
    places scope (nil_syntax at t) e h is =
        let w = then_found (resolved_type known variables true t) (λ n. Ok (nil at n)) e is in
        found (nil at w.0) e w.2 h.0
    places scope (list_syntax at es) e h is =
        let w = then_found (resolved_exprs known variables callables scope es) (λ bs. Ok (list_expr at bs)) e is in
        found (list_expr at w.0) e w.2 (h.0, places_of scope es w.0 h.1 w.1)
    places scope (fields_syntax at fs) e h is =
        let w = then_found (resolved_fields known.program.records fs at) (λ r. and_then (resolved_parts known variables callables scope fs) (λ bs. Ok (record_expr at r bs))) e is in
        let v = then_found (resolved_parts known variables callables scope fs) (λ bs. Ok (record_expr at w.0 bs)) e w.2 in
        found (record_expr at w.0 v.0) e v.2 (h.0, parts_places scope fs v.0 h.1 v.1)
    places scope (field_syntax at place x a) e h is =
        let w = then_found (resolved_expr known variables callables scope a) (λ b. and_then (found_field (field_of known.program.records x) place) (λ f. Ok (field at f.record_number f.field_number b))) e is in
        let v = then_found (found_field (field_of known.program.records x) place) (λ f. Ok (field at f.record_number f.field_number w.0)) e w.2 in
        found (field at (v.0).record_number (v.0).field_number w.0) e v.2 (h.0, places scope a w.0 h.1 w.1)
    places scope (bracket_expr_syntax at a) e h is = places scope a e h is

    places_of : (scope : Scope) (es : ExprSyntaxes) (bs : ExprTrees) → EachHolds P es → resolved_exprs known variables callables scope es ≡ Ok bs → EachPlaceOf P bs
    places_of scope no_exprs bs h is = let same : none ≡ bs = cc is in subst (EachPlaceOf P) same tt
    places_of scope (more_exprs e es) bs h is =
        let w = then_found (resolved_expr known variables callables scope e) (λ a. and_then (resolved_exprs known variables callables scope es) (λ cs. Ok (more a cs))) bs is in
        let v = then_found (resolved_exprs known variables callables scope es) (λ cs. Ok (more w.0 cs)) bs w.2 in
        let same : more w.0 v.0 ≡ bs = cc (v.2) in
        subst (EachPlaceOf P) same (places scope e w.0 h.0 w.1, places_of scope es v.0 h.1 v.1)

    parts_places : (scope : Scope) (fs : FieldSyntaxes) (bs : ExprTrees) → FieldsHold P fs → resolved_parts known variables callables scope fs ≡ Ok bs → EachPlaceOf P bs
    parts_places scope no_fields bs h is = let same : none ≡ bs = cc is in subst (EachPlaceOf P) same tt
    parts_places scope (more_fields at x e fs) bs h is =
        let w = then_found (resolved_expr known variables callables scope e) (λ a. and_then (resolved_parts known variables callables scope fs) (λ cs. Ok (more a cs))) bs is in
        let v = then_found (resolved_parts known variables callables scope fs) (λ cs. Ok (more w.0 cs)) bs w.2 in
        let same : more w.0 v.0 ≡ bs = cc (v.2) in
        subst (EachPlaceOf P) same (places scope e w.0 h.0 w.1, parts_places scope fs v.0 h.1 v.1)
