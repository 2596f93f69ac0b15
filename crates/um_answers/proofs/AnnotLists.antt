-- The listing of a program's functions with their nodes, function by function.
use Rattle.std.proofs.Common.{◌≡◌, ℕ, zero, suc, ◌+◌, ◌≤◌, add-one, List, [], ◌∷◌, ◌++◌, drop, length, Some, slice_get, refl, sym, ap, ◌∙◌, subst, arith}
use Rattle.std.proofs.lemmas.List.{append_assoc, append-nil}
use Rattle.um_tree.specs.ProgramTree.{FunctionTree, ProgramTree, SchemeTree}
use Rattle.um_rows.specs.NodeTypes.{TypedNode}
use Rattle.um_annot.specs.Annotated.{Annotation, annotated, past_range, annotation}
use Rattle.um_answers.specs.AnnotAnswer.{Listing, listed, past, and_rest, with_function, listing, function_lines}
use Rattle.um_answers.specs.AnnotSteps.{AddsFunction}

rest_more : (old new : List ℕ) (l : Listing) → and_rest old (and_rest new l) ≡ and_rest (old ++ new) l
rest_more old new (listed rest) = ap listed (sym (append_assoc old new rest))
rest_more old new (past f at) = refl

drop_at : {A : Type 0} (xs : List A) (i : ℕ) (x : A) → slice_get xs i ≡ Some x → drop i xs ≡ x ∷ drop (suc i) xs
drop_at [] i x h = absurd (cc h)
drop_at (y ∷ ys) zero x h = let same : y ≡ x = cc h in ap (λ z. z ∷ ys) same
drop_at (y ∷ ys) (suc i) x h = drop_at ys i x h

drop_all : {A : Type 0} (xs : List A) (i : ℕ) → length xs ≤ i → drop i xs ≡ []
drop_all [] zero h = refl
drop_all [] (suc i) h = refl
drop_all (x ∷ xs) zero h = absurd (omega (arith, h))
drop_all (x ∷ xs) (suc i) h = drop_all xs i (omega (arith, h))

module _ (bytes : List ℕ) (p : ProgramTree) (schemes : List SchemeTree) where
  abbrev pub whole : Listing
  whole = listing bytes p schemes 0 p.functions schemes

  -- what is left from function i on
  abbrev pub left : ℕ → Listing
  left i = listing bytes p schemes i (drop i p.functions) (drop i schemes)

  abbrev pub own : ℕ → FunctionTree → Annotation
  own i f = annotation (length p.bases) p.records schemes i f

  left_from : (i : ℕ) (f : FunctionTree) (s : SchemeTree) → slice_get p.functions i ≡ Some f → slice_get schemes i ≡ Some s → left i ≡ with_function bytes p f s (own i f) (left (suc i))
  left_from i f s declared stands = λ j. listing bytes p schemes i (drop_at p.functions i f declared j) (drop_at schemes i s stands j)

  pub listing_first : whole ≡ and_rest [] (left 0)
  listing_first = none_before whole
    where
      none_before : (l : Listing) → l ≡ and_rest [] l
      none_before (listed lines) = refl
      none_before (past f at) = refl

  pub listing_next : (i : ℕ) (f : FunctionTree) (s : SchemeTree) → slice_get p.functions i ≡ Some f → slice_get schemes i ≡ Some s → (old new : List ℕ) → whole ≡ and_rest old (left i) → AddsFunction bytes p f s (own i f) old new → whole ≡ and_rest new (left (i + 1))
  listing_next i f s declared stands old new before added =
      before ∙ ap (and_rest old) (left_from i f s declared stands ∙ ap (λ a. with_function bytes p f s a (left (suc i))) added.1)
      ∙ rest_more old (function_lines bytes p f s added.0) (left (suc i))
      ∙ ap (λ lines. and_rest lines (left (suc i))) (sym added.2)
      ∙ ap (λ k. and_rest new (left k)) (sym (add-one i))

  pub listing_stops : (i : ℕ) (f : FunctionTree) (s : SchemeTree) → slice_get p.functions i ≡ Some f → slice_get schemes i ≡ Some s → (old : List ℕ) (at : ℕ) → whole ≡ and_rest old (left i) → own i f ≡ past_range at → whole ≡ past f at
  listing_stops i f s declared stands old at before stop =
      before ∙ ap (and_rest old) (left_from i f s declared stands ∙ ap (λ a. with_function bytes p f s a (left (suc i))) stop)

  pub listing_end : (i : ℕ) (lines : List ℕ) → length p.functions ≤ i → whole ≡ and_rest lines (left i) → whole ≡ listed lines
  listing_end i lines past_all before =
      before ∙ ap (λ fs. and_rest lines (listing bytes p schemes i fs (drop i schemes))) (drop_all p.functions i past_all) ∙ ap listed (append-nil lines)

  -- ---- no node is out of range
  -- function i has types for its nodes
  abbrev pub HasTypes : ℕ → FunctionTree → Type 0
  HasTypes i f = (nodes : List TypedNode) × (own i f ≡ annotated nodes)

  all_listed : (fs : List FunctionTree) (ss : List SchemeTree) (i : ℕ) → ((k : ℕ) (f : FunctionTree) → slice_get fs k ≡ Some f → HasTypes (i + k) f) → (lines : List ℕ) × (listing bytes p schemes i fs ss ≡ listed lines)
  all_listed [] ss i have = ([], refl)
  all_listed (f ∷ fs) [] i have = ([], refl)
  all_listed (f ∷ fs) (s ∷ ss) i have =
      let same : i + 0 ≡ i = omega arith in
      let here = subst (λ n. HasTypes n f) same (have 0 f refl) in
      let more = all_listed fs ss (suc i) (λ k g at. (let moved : i + suc k ≡ suc i + k = omega arith in subst (λ n. HasTypes n g) moved (have (suc k) g at))) in
      let lines = function_lines bytes p f s here.0 in (
        lines ++ more.0,
        ap (λ a. with_function bytes p f s a (listing bytes p schemes (suc i) fs ss)) here.1 ∙ ap (and_rest lines) more.1,
      )

  pub whole_listed : ((k : ℕ) (f : FunctionTree) → slice_get p.functions k ≡ Some f → HasTypes k f) → (lines : List ℕ) × (whole ≡ listed lines)
  whole_listed have = all_listed p.functions schemes 0 (λ k f at. (let same : k ≡ 0 + k = omega arith in subst (λ n. HasTypes n f) same (have k f at)))
