-- A formed program that is rescaled is formed.
use Rattle.std.proofs.Common.{◌≡◌, refl, sym, ap, subst, ◌∙◌, ℕ, zero, suc, ◌+◌, ◌<◌, ◌≤◌, max, List, [], ◌∷◌, length, map, Option, Some, None, slice_get, pos}
use Rattle.um_frac.specs.declared.number.Frac.{Frac}
use Rattle.um_frac.specs.Fraction.{numerator}
use Rattle.um_tree.specs.declared.note.UnitNote.{UnitNote}
use Rattle.um_tree.specs.declared.note.UnitNote.TheVariants.{Hole, Written}
use Rattle.um_tree.specs.TypeTree.{NoteTree}
use Rattle.um_tree.specs.ExprTree.{ExprTree, ExprTrees, truth, number, local, call, negate, not_expr, pown, arith, compare, both, either, if, bind, split, nil, list_expr, cons, record_expr, field, none, more}
use Rattle.um_tree.specs.ProgramTree.{FunctionTree, ProgramTree}
use Rattle.um_tree.specs.TreeHeights.{tree_height, tallest_tree, tree_nodes, all_tree_nodes}
use Rattle.um_tree.specs.Heights.{greatest_height}
use Rattle.um_tree.specs.Formed.{AreNames, AreDistinct, IsLiteral, count, MayCall, IsFormedIn, AllFormedIn, ResultFormed, IsFormedFunction, IsFormed}
use Rattle.um_scaling.specs.Rescaling.{Rescaling}
use Rattle.um_scaling.specs.RescaledProgram.{RescaledNumber, RescaledExpr, RescaledExprs, RescaledFunctions}
use Rattle.um_scaling.specs.Laws.{RescaledIsFormed}
use Rattle.um_scaling.proofs.ScalingLaw.{function_at}

module _ (r : Rescaling) where
  -- ---- heights and nodes
  two_parts : (a b c d : ℕ) → a ≡ b → c ≡ d → max a c + 1 ≡ max b d + 1
  two_parts a b c d e f = λ i. max (e i) (f i) + 1

  three_parts : (a b c d e f : ℕ) → a ≡ b → c ≡ d → e ≡ f → max a (max c e) + 1 ≡ max b (max d f) + 1
  three_parts a b c d e f p q s = λ i. max (p i) (max (q i) (s i)) + 1

  mutual
    same_height : (e y : ExprTree) → RescaledExpr r e y → tree_height y ≡ tree_height e
    same_height (truth at b) y q = ap tree_height q
    same_height (number at c n) y q = ap tree_height q.2
    same_height (local at k) y q = ap tree_height q
    same_height (call at j es) y q = ap tree_height q.2 ∙ ap (λ h. h + 1) (same_tallest es q.0 q.1)
    same_height (negate at a) y q = ap tree_height q.2 ∙ ap (λ h. h + 1) (same_height a q.0 q.1)
    same_height (not_expr at a) y q = ap tree_height q.2 ∙ ap (λ h. h + 1) (same_height a q.0 q.1)
    same_height (pown at a k) y q = ap tree_height q.2 ∙ ap (λ h. h + 1) (same_height a q.0 q.1)
    same_height (arith at op a b) y q = ap tree_height q.4 ∙ two_parts _ _ _ _ (same_height a q.0 q.2) (same_height b q.1 q.3)
    same_height (compare at sign a b) y q = ap tree_height q.4 ∙ two_parts _ _ _ _ (same_height a q.0 q.2) (same_height b q.1 q.3)
    same_height (both at a b) y q = ap tree_height q.4 ∙ two_parts _ _ _ _ (same_height a q.0 q.2) (same_height b q.1 q.3)
    same_height (either at a b) y q = ap tree_height q.4 ∙ two_parts _ _ _ _ (same_height a q.0 q.2) (same_height b q.1 q.3)
    same_height (if at c a b) y q = ap tree_height q.6 ∙ three_parts _ _ _ _ _ _ (same_height c q.0 q.3) (same_height a q.1 q.4) (same_height b q.2 q.5)
    same_height (bind at a b) y q = ap tree_height q.4 ∙ two_parts _ _ _ _ (same_height a q.0 q.2) (same_height b q.1 q.3)
    same_height (split at l a b) y q = ap tree_height q.6 ∙ three_parts _ _ _ _ _ _ (same_height l q.0 q.3) (same_height a q.1 q.4) (same_height b q.2 q.5)
    same_height (nil at n) y q = ap tree_height q
    same_height (list_expr at es) y q = ap tree_height q.2 ∙ ap (λ h. h + 1) (same_tallest es q.0 q.1)
    same_height (cons at a b) y q = ap tree_height q.4 ∙ two_parts _ _ _ _ (same_height a q.0 q.2) (same_height b q.1 q.3)
    same_height (record_expr at m es) y q = ap tree_height q.2 ∙ ap (λ h. h + 1) (same_tallest es q.0 q.1)
    same_height (field at m k a) y q = ap tree_height q.2 ∙ ap (λ h. h + 1) (same_height a q.0 q.1)

    same_tallest : (es ys : ExprTrees) → RescaledExprs r es ys → tallest_tree ys ≡ tallest_tree es
    same_tallest none ys q = ap tallest_tree q
    same_tallest (more e es) ys q = ap tallest_tree q.4 ∙ (λ i. max (same_height e q.0 q.2 i) (same_tallest es q.1 q.3 i))

  mutual
    same_nodes : (e y : ExprTree) → RescaledExpr r e y → tree_nodes y ≡ tree_nodes e
    same_nodes (truth at b) y q = ap tree_nodes q
    same_nodes (number at c n) y q = ap tree_nodes q.2
    same_nodes (local at k) y q = ap tree_nodes q
    same_nodes (call at j es) y q = ap tree_nodes q.2 ∙ ap (λ h. h + 1) (same_all_nodes es q.0 q.1)
    same_nodes (negate at a) y q = ap tree_nodes q.2 ∙ ap (λ h. h + 1) (same_nodes a q.0 q.1)
    same_nodes (not_expr at a) y q = ap tree_nodes q.2 ∙ ap (λ h. h + 1) (same_nodes a q.0 q.1)
    same_nodes (pown at a k) y q = ap tree_nodes q.2 ∙ ap (λ h. h + 1) (same_nodes a q.0 q.1)
    same_nodes (arith at op a b) y q = ap tree_nodes q.4 ∙ (λ i. same_nodes a q.0 q.2 i + same_nodes b q.1 q.3 i + 1)
    same_nodes (compare at sign a b) y q = ap tree_nodes q.4 ∙ (λ i. same_nodes a q.0 q.2 i + same_nodes b q.1 q.3 i + 1)
    same_nodes (both at a b) y q = ap tree_nodes q.4 ∙ (λ i. same_nodes a q.0 q.2 i + same_nodes b q.1 q.3 i + 1)
    same_nodes (either at a b) y q = ap tree_nodes q.4 ∙ (λ i. same_nodes a q.0 q.2 i + same_nodes b q.1 q.3 i + 1)
    same_nodes (if at c a b) y q = ap tree_nodes q.6 ∙ (λ i. same_nodes c q.0 q.3 i + same_nodes a q.1 q.4 i + same_nodes b q.2 q.5 i + 1)
    same_nodes (bind at a b) y q = ap tree_nodes q.4 ∙ (λ i. same_nodes a q.0 q.2 i + same_nodes b q.1 q.3 i + 1)
    same_nodes (split at l a b) y q = ap tree_nodes q.6 ∙ (λ i. same_nodes l q.0 q.3 i + same_nodes a q.1 q.4 i + same_nodes b q.2 q.5 i + 1)
    same_nodes (nil at n) y q = ap tree_nodes q
    same_nodes (list_expr at es) y q = ap tree_nodes q.2 ∙ ap (λ h. h + 1) (same_all_nodes es q.0 q.1)
    same_nodes (cons at a b) y q = ap tree_nodes q.4 ∙ (λ i. same_nodes a q.0 q.2 i + same_nodes b q.1 q.3 i + 1)
    same_nodes (record_expr at m es) y q = ap tree_nodes q.2 ∙ ap (λ h. h + 1) (same_all_nodes es q.0 q.1)
    same_nodes (field at m k a) y q = ap tree_nodes q.2 ∙ ap (λ h. h + 1) (same_nodes a q.0 q.1)

    same_all_nodes : (es ys : ExprTrees) → RescaledExprs r es ys → all_tree_nodes ys ≡ all_tree_nodes es
    same_all_nodes none ys q = ap all_tree_nodes q
    same_all_nodes (more e es) ys q = ap all_tree_nodes q.4 ∙ (λ i. same_nodes e q.0 q.2 i + same_all_nodes es q.1 q.3 i)

  same_count : (es ys : ExprTrees) → RescaledExprs r es ys → count ys ≡ count es
  same_count none ys q = ap count q
  same_count (more e es) ys q = ap count q.4 ∙ ap (λ n. n + 1) (same_count es q.1 q.3)

  -- ---- literals
  literal_formed : (bases : ℕ) (c d : Frac) (n : UnitNote) → RescaledNumber r c n d → IsLiteral bases c n → IsLiteral bases d n
  literal_formed bases c d Hole q w = subst (λ x. numerator x ≡ pos 0) (sym q) w
  literal_formed bases c d (Written u) q w = w

  module _ (p : ProgramTree) (gs : List FunctionTree) (rescaled : RescaledFunctions r p.functions gs) where
    abbrev q : ProgramTree
    q = record p { functions = gs }

    module _ (i : ℕ) (f : FunctionTree) (x : ExprTree) where
      abbrev g : FunctionTree
      g = record f { body = x }

      -- an equal expression
      carried : (n : ℕ) (e y : ExprTree) → y ≡ e → IsFormedIn q i g n e → IsFormedIn q i g n y
      carried n e y same w = subst (IsFormedIn q i g n) (sym same) w

      -- a function of the same number is called with as many arguments
      called : (j n m : ℕ) → m ≡ n → MayCall p i f.recursive j n → MayCall q i f.recursive j m
      called j n m e w =
          let there = function_at r p.functions gs j w.function rescaled w.declared in
          record { function = record w.function { body = there.0 }; known = w.known; declared = there.2; arguments = e ∙ w.arguments }

      mutual
        expr_formed : (n : ℕ) (e y : ExprTree) → RescaledExpr r e y → IsFormedIn p i f n e → IsFormedIn q i g n y
        expr_formed n (truth at b) y s w = carried n (truth at b) y s tt
        expr_formed n (number at c note) y s w = carried n (number at s.0 note) y s.2 (literal_formed (length p.bases) c s.0 note s.1 w)
        expr_formed n (local at k) y s w = carried n (local at k) y s w
        expr_formed n (call at j es) y s w = carried n (call at j s.0) y s.2 (called j (count es) (count s.0) (same_count es s.0 s.1) w.0, exprs_formed n es s.0 s.1 w.1)
        expr_formed n (negate at a) y s w = carried n (negate at s.0) y s.2 (expr_formed n a s.0 s.1 w)
        expr_formed n (not_expr at a) y s w = carried n (not_expr at s.0) y s.2 (expr_formed n a s.0 s.1 w)
        expr_formed n (pown at a k) y s w = carried n (pown at s.0 k) y s.2 (expr_formed n a s.0 s.1 w)
        expr_formed n (arith at op a b) y s w = carried n (arith at op s.0 s.1) y s.4 (expr_formed n a s.0 s.2 w.0, expr_formed n b s.1 s.3 w.1)
        expr_formed n (compare at sign a b) y s w = carried n (compare at sign s.0 s.1) y s.4 (expr_formed n a s.0 s.2 w.0, expr_formed n b s.1 s.3 w.1)
        expr_formed n (both at a b) y s w = carried n (both at s.0 s.1) y s.4 (expr_formed n a s.0 s.2 w.0, expr_formed n b s.1 s.3 w.1)
        expr_formed n (either at a b) y s w = carried n (either at s.0 s.1) y s.4 (expr_formed n a s.0 s.2 w.0, expr_formed n b s.1 s.3 w.1)
        expr_formed n (if at c a b) y s w = carried n (if at s.0 s.1 s.2) y s.6 (expr_formed n c s.0 s.3 w.0, expr_formed n a s.1 s.4 w.1, expr_formed n b s.2 s.5 w.2)
        expr_formed n (bind at a b) y s w = carried n (bind at s.0 s.1) y s.4 (expr_formed n a s.0 s.2 w.0, expr_formed (n + 1) b s.1 s.3 w.1)
        expr_formed n (split at l a b) y s w = carried n (split at s.0 s.1 s.2) y s.6 (expr_formed n l s.0 s.3 w.0, expr_formed n a s.1 s.4 w.1, expr_formed (n + 2) b s.2 s.5 w.2)
        expr_formed n (nil at note) y s w = carried n (nil at note) y s w
        expr_formed n (list_expr at es) y s w =
            carried n (list_expr at s.0) y s.2 (subst (λ m. 0 < m) (sym (same_count es s.0 s.1)) w.0, exprs_formed n es s.0 s.1 w.1)
        expr_formed n (cons at a b) y s w = carried n (cons at s.0 s.1) y s.4 (expr_formed n a s.0 s.2 w.0, expr_formed n b s.1 s.3 w.1)
        expr_formed n (record_expr at m es) y s w =
            carried n (record_expr at m s.0) y s.2 ((w.0.0, w.0.1, same_count es s.0 s.1 ∙ w.0.2), exprs_formed n es s.0 s.1 w.1)
        expr_formed n (field at m k a) y s w = carried n (field at m k s.0) y s.2 (w.0, expr_formed n a s.0 s.1 w.1)

        exprs_formed : (n : ℕ) (es ys : ExprTrees) → RescaledExprs r es ys → AllFormedIn p i f n es → AllFormedIn q i g n ys
        exprs_formed n none ys s w = subst (AllFormedIn q i g n) (sym s) tt
        exprs_formed n (more e es) ys s w = subst (AllFormedIn q i g n) (sym s.4) (expr_formed n e s.0 s.2 w.0, exprs_formed n es s.1 s.3 w.1)

      result_formed : (o : Option NoteTree) → ResultFormed p f o → ResultFormed q g o
      result_formed None w = tt
      result_formed (Some n) w = w

      function_formed : RescaledExpr r f.body x → IsFormedFunction p i f → IsFormedFunction q i g
      function_formed s w = record {
        few_params = w.few_params;
        few_units = w.few_units;
        units = w.units;
        params = w.params;
        result = result_formed f.result w.result;
        noted = w.noted;
        body = expr_formed (length f.params) f.body x s w.body;
        height = subst (λ h. h ≤ greatest_height) (sym (same_height f.body x s)) w.height;
        nodes = subst (λ n. n ≤ 20000) (sym (same_nodes f.body x s)) w.nodes;
      }

    -- the function in some place is one of before with another body
    function_before : (fs hs : List FunctionTree) (i : ℕ) (h : FunctionTree) → RescaledFunctions r fs hs → slice_get hs i ≡ Some h → (f : FunctionTree) × (x : ExprTree) × (slice_get fs i ≡ Some f) × RescaledExpr r f.body x × (h ≡ record f { body = x })
    function_before [] hs zero h s e = let none : slice_get [] 0 ≡ Some h = subst (λ xs. slice_get xs 0 ≡ Some h) s e in absurd cc
    function_before [] hs (suc i) h s e = let none : slice_get [] (suc i) ≡ Some h = subst (λ xs. slice_get xs (suc i) ≡ Some h) s e in absurd cc
    function_before (f ∷ fs) hs zero h s e =
        let first : slice_get (s.0 ∷ s.1) 0 ≡ Some h = subst (λ xs. slice_get xs 0 ≡ Some h) s.4 e in
        let same : s.0 ≡ h = cc first in
        let is = s.2 in
        (f, is.0, refl, is.1, sym same ∙ is.2)
    function_before (f ∷ fs) hs (suc i) h s e = function_before fs s.1 i h s.3 (subst (λ xs. slice_get xs (suc i) ≡ Some h) s.4 e)

    same_names : (fs hs : List FunctionTree) → RescaledFunctions r fs hs → map (λ (f : FunctionTree). f.name) hs ≡ map (λ (f : FunctionTree). f.name) fs
    same_names [] hs s = ap (map (λ (f : FunctionTree). f.name)) s
    same_names (f ∷ fs) hs s =
        let is = s.2 in
        ap (map (λ (f : FunctionTree). f.name)) s.4 ∙ (λ i. (is.2 i).name ∷ same_names fs s.1 s.3 i)

    same_many : (fs hs : List FunctionTree) → RescaledFunctions r fs hs → length hs ≡ length fs
    same_many [] hs s = ap length s
    same_many (f ∷ fs) hs s = ap length s.4 ∙ ap suc (same_many fs s.1 s.3)

    program_formed : IsFormed p → IsFormed q
    program_formed w = record {
      few_bases = w.few_bases;
      few_records = w.few_records;
      few_functions = subst (λ n. n ≤ 2000) (sym (same_many p.functions gs rescaled)) w.few_functions;
      names = w.names;
      once = w.once;
      names_of_fields = w.names_of_fields;
      fields_once = w.fields_once;
      names_of_functions = subst AreNames (sym (same_names p.functions gs rescaled)) w.names_of_functions;
      functions_once = subst AreDistinct (sym (same_names p.functions gs rescaled)) w.functions_once;
      records = λ m d at. record {
        some_field = (w.records m d at).some_field;
        few_fields = (w.records m d at).few_fields;
        few_units = (w.records m d at).few_units;
        fields = (w.records m d at).fields;
      };
      functions = λ i h at.
          let before = function_before p.functions gs i h rescaled at in
          subst (IsFormedFunction q i) (sym before.4) (function_formed i before.0 before.1 before.3 (w.functions i before.0 before.2));
    }

pub rescaled_is_formed : RescaledIsFormed
rescaled_is_formed p q r s w =
    let same : q ≡ record p { functions = q.functions } = λ i. record { bases = s.bases i; records = s.records i; functions = q.functions } in
    subst IsFormed (sym same) (program_formed r p q.functions s.functions w)
