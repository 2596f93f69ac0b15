-- Inputs as expressions, one after another: what is left when the first ones were made.
use Rattle.std.proofs.Common.{◌≡◌, refl, sym, ap, ◌∙◌, ℕ, zero, suc, ◌+◌, ◌<◌, ◌≤◌, List, [], ◌∷◌, ◌++◌, map, drop, length, get_or, arith}
use Rattle.std.proofs.lemmas.List.{map-append, drop_more}
use Rattle.um_tree.specs.declared.expression.Expr.{Expr}
use Rattle.um_tree.specs.declared.program.FieldDecl.{FieldDecl}
use Rattle.um_tree.specs.declared.types.Shape.{Shape}
use Rattle.um_tree.specs.declared.value.Input.{Input}
use Rattle.um_tree.specs.TypeTree.{NoteTree, ShapeTree, bool_shape, shape_tree, type_tree}
use Rattle.um_tree.specs.Shapes.{type_shape}
use Rattle.um_tree.specs.ExprTree.{ExprTree, ExprTrees, nil, list_expr, none, more, expr_tree, in_order}
use Rattle.um_tree.specs.ValueTree.{InputTree, InputTrees, no_inputs, more_inputs, input_tree, inputs_in_order}
use Rattle.um_tree.specs.ProgramTree.{RecordTree, FieldTree, field_tree}
use Rattle.um_slots.specs.CallFunction.{list_of, input_text, item_texts, input_texts}

-- these expressions, and then others
abbrev pub then_others : List ExprTree → ExprTrees → ExprTrees
then_others [] ts = ts
then_others (e ∷ es) ts = more e (then_others es ts)

then_none : (es : List ExprTree) → then_others es none ≡ in_order es
then_none [] = refl
then_none (e ∷ es) = ap (more e) (then_none es)

then_one : (es : List ExprTree) (e : ExprTree) (ts : ExprTrees) → then_others (es ++ e ∷ []) ts ≡ then_others es (more e ts)
then_one [] e ts = refl
then_one (d ∷ es) e ts = ap (more d) (then_one es e ts)

-- the inputs from the i-th on
abbrev pub inputs_from : List Input → ℕ → InputTrees
inputs_from is i = inputs_in_order (map input_tree (drop i is))

inputs_more : (is : List Input) (i : ℕ) (x : Input) → i < length is → x ≡ get_or is i x → inputs_from is i ≡ more_inputs (input_tree x) (inputs_from is (i + 1))
inputs_more is i x h s = ap (λ xs. inputs_in_order (map input_tree xs)) (drop_more is i x h) ∙ ap (λ y. more_inputs (input_tree y) (inputs_from is (i + 1))) (sym s)

inputs_end : (is : List Input) (i : ℕ) → length is ≤ i → inputs_from is i ≡ no_inputs
inputs_end [] zero h = refl
inputs_end [] (suc i) h = refl
inputs_end (x ∷ is) zero h = absurd (omega (arith, h))
inputs_end (x ∷ is) (suc i) h = inputs_end is i (omega (arith, h))

module _ (records : List RecordTree) where
  -- ---- items of one shape
  abbrev pub ItemsLeft : ShapeTree → List Input → ℕ → List Expr → Type 0
  ItemsLeft s is i es = item_texts records s (inputs_from is 0) ≡ then_others (map expr_tree es) (item_texts records s (inputs_from is i))

  pub items_next : (s : ShapeTree) (is : List Input) (i : ℕ) (x : Input) (es : List Expr) (e : Expr) → i < length is → x ≡ get_or is i x → ItemsLeft s is i es → expr_tree e ≡ input_text records s (input_tree x) → ItemsLeft s is (i + 1) (es ++ e ∷ [])
  items_next s is i x es e h g left made =
      left ∙ ap (λ r. then_others (map expr_tree es) (item_texts records s r)) (inputs_more is i x h g)
      ∙ ap (λ d. then_others (map expr_tree es) (more d (item_texts records s (inputs_from is (i + 1))))) (sym made)
      ∙ sym (then_one (map expr_tree es) (expr_tree e) (item_texts records s (inputs_from is (i + 1))))
      ∙ ap (λ ds. then_others ds (item_texts records s (inputs_from is (i + 1)))) (sym (map-append expr_tree es (e ∷ [])))

  pub items_last : (s : ShapeTree) (is : List Input) (i : ℕ) (es : List Expr) → length is ≤ i → ItemsLeft s is i es → in_order (map expr_tree es) ≡ item_texts records s (inputs_in_order (map input_tree is))
  items_last s is i es h left = sym (left ∙ ap (λ r. then_others (map expr_tree es) (item_texts records s r)) (inputs_end is i h) ∙ then_none (map expr_tree es))

  -- ---- inputs of shapes
  abbrev shape_of : List ShapeTree → ℕ → ShapeTree
  shape_of ss k = get_or ss k bool_shape

  texts_after : (ss : List ShapeTree) (k : ℕ) (i : InputTree) (is : InputTrees) → input_texts records (drop k ss) (more_inputs i is) ≡ more (input_text records (shape_of ss k) i) (input_texts records (drop (suc k) ss) is)
  texts_after [] zero i is = refl
  texts_after [] (suc k) i is = refl
  texts_after (s ∷ ss) zero i is = refl
  texts_after (s ∷ ss) (suc k) i is = texts_after ss k i is

  texts_more : (ss : List ShapeTree) (k : ℕ) (i : InputTree) (is : InputTrees) → input_texts records (drop k ss) (more_inputs i is) ≡ more (input_text records (shape_of ss k) i) (input_texts records (drop (k + 1) ss) is)
  texts_more ss k i is = let next : suc k ≡ k + 1 = omega arith in texts_after ss k i is ∙ ap (λ m. more (input_text records (shape_of ss k) i) (input_texts records (drop m ss) is)) next

  abbrev pub TextsLeft : List Shape → List Input → ℕ → List Expr → Type 0
  TextsLeft ss is i es = input_texts records (map shape_tree ss) (inputs_from is 0) ≡ then_others (map expr_tree es) (input_texts records (drop i (map shape_tree ss)) (inputs_from is i))

  pub texts_next : (ss : List Shape) (is : List Input) (i : ℕ) (x : Input) (es : List Expr) (e : Expr) → i < length is → x ≡ get_or is i x → TextsLeft ss is i es → expr_tree e ≡ input_text records (get_or (map shape_tree ss) i bool_shape) (input_tree x) → TextsLeft ss is (i + 1) (es ++ e ∷ [])
  texts_next ss is i x es e h g left made =
      let rest = input_texts records (drop (i + 1) (map shape_tree ss)) (inputs_from is (i + 1)) in
      left ∙ ap (λ r. then_others (map expr_tree es) (input_texts records (drop i (map shape_tree ss)) r)) (inputs_more is i x h g)
      ∙ ap (then_others (map expr_tree es)) (texts_more (map shape_tree ss) i (input_tree x) (inputs_from is (i + 1)))
      ∙ ap (λ d. then_others (map expr_tree es) (more d rest)) (sym made)
      ∙ sym (then_one (map expr_tree es) (expr_tree e) rest)
      ∙ ap (λ ds. then_others ds rest) (sym (map-append expr_tree es (e ∷ [])))

  none_left : (ss : List ShapeTree) → input_texts records ss no_inputs ≡ none
  none_left [] = refl
  none_left (s ∷ ss) = refl

  pub texts_last : (ss : List Shape) (is : List Input) (i : ℕ) (es : List Expr) → length is ≤ i → TextsLeft ss is i es → in_order (map expr_tree es) ≡ input_texts records (map shape_tree ss) (inputs_in_order (map input_tree is))
  texts_last ss is i es h left =
      sym (left ∙ ap (λ r. then_others (map expr_tree es) (input_texts records (drop i (map shape_tree ss)) r)) (inputs_end is i h)
      ∙ ap (then_others (map expr_tree es)) (none_left (drop i (map shape_tree ss))) ∙ then_none (map expr_tree es))

-- ---- the shapes of fields
pub field_shapes-are : (fs : List FieldDecl) → map (λ (f : FieldDecl). type_shape (type_tree f.ty)) fs ≡ map type_shape (map (λ (f : FieldTree). f.type) (map field_tree fs))
field_shapes-are [] = refl
field_shapes-are (f ∷ fs) = ap (λ ss. type_shape (type_tree f.ty) ∷ ss) (field_shapes-are fs)

-- ---- a list without items is the empty list
pub list-none : (n : NoteTree) (es : List Expr) → length es ≡ 0 → list_of n (in_order (map expr_tree es)) ≡ nil 0 n
list-none n [] h = refl
list-none n (e ∷ es) h = absurd (omega (arith, h))

pub list-some : (n : NoteTree) (es : List Expr) → 0 < length es → list_of n (in_order (map expr_tree es)) ≡ list_expr 0 (in_order (map expr_tree es))
list-some n [] h = absurd (omega (arith, h))
list-some n (e ∷ es) h = refl
