-- What asks for a slot doesn't depend on places, nor on numbers.
use Rattle.std.proofs.Common.{◌≡◌, ℕ, ◌+◌, List, ◌++◌, map, slice_get, Option, Some, None, refl, ap, ◌∙◌}
use Rattle.std.specs.Option.{option_map}
use Rattle.std.proofs.lemmas.Option.{slice_get-map}
use Rattle.um_frac.specs.declared.number.Frac.{Frac}
use Rattle.um_tree.specs.declared.note.UnitNote.{UnitNote}
use Rattle.um_tree.specs.ExprTree.{ExprTree, ExprTrees, truth, number, local, call, negate, not_expr, pown, arith, compare, both, either, if, bind, split, nil, list_expr, cons, record_expr, field, none, more}
use Rattle.um_tree.specs.ProgramTree.{RecordTree, FunctionTree, SchemeTree}
use Rattle.um_slots.specs.Holes.{Callee, callee_holes, notes_holes, record_holes, expr_holes, exprs_holes}
use Rattle.um_slots.specs.Callees.{callee, head_holes}
use Rattle.um_slots.specs.Keys.{Key, hole_keys, name_keys, notes_keys, result_keys, expr_keys, exprs_keys, function_keys}
use Rattle.um_rescaled.proofs.Changed.{changed_record, changed, all_changed, changed_function}

module _ (place : ℕ → ℕ) (number_of : Frac → UnitNote → Frac) (records : List RecordTree) where
  abbrev pub others : List RecordTree
  others = map (changed_record place) records

  same_record : (o : Option RecordTree) → record_holes (option_map (changed_record place) o) ≡ record_holes o
  same_record None = refl
  same_record (Some d) = refl

  pub same_record_holes : (r : ℕ) → record_holes (slice_get others r) ≡ record_holes (slice_get records r)
  same_record_holes r = ap record_holes (slice_get-map (changed_record place) records r) ∙ same_record (slice_get records r)

  module _ (goes : ℕ → Callee) where
    mutual
      pub same_holes : (e : ExprTree) → expr_holes others goes (changed place number_of e) ≡ expr_holes records goes e
      same_holes (truth at b) = refl
      same_holes (number at c n) = refl
      same_holes (local at k) = refl
      same_holes (call at j es) = λ i. callee_holes (goes j) + all_same_holes es i
      same_holes (negate at a) = same_holes a
      same_holes (not_expr at a) = same_holes a
      same_holes (pown at a k) = same_holes a
      same_holes (arith at op a b) = λ i. same_holes a i + same_holes b i
      same_holes (compare at sign a b) = λ i. same_holes a i + same_holes b i
      same_holes (both at a b) = λ i. same_holes a i + same_holes b i
      same_holes (either at a b) = λ i. same_holes a i + same_holes b i
      same_holes (if at c a b) = λ i. same_holes c i + (same_holes a i + same_holes b i)
      same_holes (bind at a b) = λ i. same_holes a i + same_holes b i
      same_holes (split at l a b) = λ i. same_holes l i + (same_holes a i + same_holes b i)
      same_holes (nil at n) = refl
      same_holes (list_expr at es) = all_same_holes es
      same_holes (cons at a b) = λ i. same_holes a i + same_holes b i
      same_holes (record_expr at r es) = λ i. same_record_holes r i + all_same_holes es i
      same_holes (field at r k a) = same_holes a

      pub all_same_holes : (es : ExprTrees) → exprs_holes others goes (all_changed place number_of es) ≡ exprs_holes records goes es
      all_same_holes none = refl
      all_same_holes (more e es) = λ i. same_holes e i + all_same_holes es i

    -- the keys of an expression, with other places and numbers and as it is
    abbrev new : ℕ → ExprTree → List Key
    new n e = expr_keys others goes n (changed place number_of e)

    abbrev old : ℕ → ExprTree → List Key
    old n e = expr_keys records goes n e

    two_keys : (n : ℕ) (a b : ExprTree) → new n a ≡ old n a → ((m : ℕ) → new m b ≡ old m b) → new n a ++ new (n + expr_holes others goes (changed place number_of a)) b ≡ old n a ++ old (n + expr_holes records goes a) b
    two_keys n a b p q =
        let next : new (n + expr_holes others goes (changed place number_of a)) b ≡ old (n + expr_holes records goes a) b = (λ i. new (n + same_holes a i) b) ∙ q (n + expr_holes records goes a) in
        λ i. p i ++ next i

    three_keys : (n : ℕ) (c a b : ExprTree) → new n c ≡ old n c → ((m : ℕ) → new m a ≡ old m a) → ((m : ℕ) → new m b ≡ old m b)
        → new n c ++ (new (n + expr_holes others goes (changed place number_of c)) a ++ new (n + expr_holes others goes (changed place number_of c) + expr_holes others goes (changed place number_of a)) b)
        ≡ old n c ++ (old (n + expr_holes records goes c) a ++ old (n + expr_holes records goes c + expr_holes records goes a) b)
    three_keys n c a b p q r =
        let next : new (n + expr_holes others goes (changed place number_of c)) a ≡ old (n + expr_holes records goes c) a = (λ i. new (n + same_holes c i) a) ∙ q (n + expr_holes records goes c) in
        let last : new (n + expr_holes others goes (changed place number_of c) + expr_holes others goes (changed place number_of a)) b ≡ old (n + expr_holes records goes c + expr_holes records goes a) b =
        (λ i. new (n + same_holes c i + same_holes a i) b) ∙ r (n + expr_holes records goes c + expr_holes records goes a) in
        λ i. p i ++ (next i ++ last i)

    mutual
      pub same_keys : (n : ℕ) (e : ExprTree) → expr_keys others goes n (changed place number_of e) ≡ expr_keys records goes n e
      same_keys n (truth at b) = refl
      same_keys n (number at c m) = refl
      same_keys n (local at k) = refl
      same_keys n (call at j es) = λ i. hole_keys n (callee_holes (goes j)) ++ all_same_keys (n + callee_holes (goes j)) es i
      same_keys n (negate at a) = same_keys n a
      same_keys n (not_expr at a) = same_keys n a
      same_keys n (pown at a k) = same_keys n a
      same_keys n (arith at op a b) = two_keys n a b (same_keys n a) (λ m. same_keys m b)
      same_keys n (compare at sign a b) = two_keys n a b (same_keys n a) (λ m. same_keys m b)
      same_keys n (both at a b) = two_keys n a b (same_keys n a) (λ m. same_keys m b)
      same_keys n (either at a b) = two_keys n a b (same_keys n a) (λ m. same_keys m b)
      same_keys n (if at c a b) = three_keys n c a b (same_keys n c) (λ m. same_keys m a) (λ m. same_keys m b)
      same_keys n (bind at a b) = two_keys n a b (same_keys n a) (λ m. same_keys m b)
      same_keys n (split at l a b) = three_keys n l a b (same_keys n l) (λ m. same_keys m a) (λ m. same_keys m b)
      same_keys n (nil at m) = refl
      same_keys n (list_expr at es) = all_same_keys n es
      same_keys n (cons at a b) = two_keys n a b (same_keys n a) (λ m. same_keys m b)
      same_keys n (record_expr at r es) =
          let holes = same_record_holes r in
          let rest : exprs_keys others goes (n + record_holes (slice_get others r)) (all_changed place number_of es) ≡ exprs_keys records goes (n + record_holes (slice_get records r)) es =
          (λ i. exprs_keys others goes (n + holes i) (all_changed place number_of es)) ∙ all_same_keys (n + record_holes (slice_get records r)) es in
          λ i. hole_keys n (holes i) ++ rest i
      same_keys n (field at r k a) = same_keys n a

      pub all_same_keys : (n : ℕ) (es : ExprTrees) → exprs_keys others goes n (all_changed place number_of es) ≡ exprs_keys records goes n es
      all_same_keys n none = refl
      all_same_keys n (more e es) =
          let rest : exprs_keys others goes (n + expr_holes others goes (changed place number_of e)) (all_changed place number_of es) ≡ exprs_keys records goes (n + expr_holes records goes e) es =
          (λ i. exprs_keys others goes (n + same_holes e i) (all_changed place number_of es)) ∙ all_same_keys (n + expr_holes records goes e) es in
          λ i. same_keys n e i ++ rest i

  -- the keys of a function
  pub same_function_keys : (schemes : List SchemeTree) (i : ℕ) (f : FunctionTree) → function_keys others schemes i (changed_function place number_of f) ≡ function_keys records schemes i f
  same_function_keys schemes i f = λ x.
      name_keys 0 f.units ++ (notes_keys 0 f.params ++ (result_keys (notes_holes f.params) f.result ++ same_keys (callee schemes i f) (head_holes f) f.body x))
