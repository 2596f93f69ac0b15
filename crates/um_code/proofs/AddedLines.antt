-- The lines of instructions and of functions, as they are added one after another.
use Rattle.std.proofs.Common.{◌≡◌, sym, ap, ◌∙◌, ℕ, ◌+◌, ◌<◌, ◌≤◌, List, ◌∷◌, ◌++◌, map, drop, length, get_or, codes, arith, append_assoc}
use Rattle.std.proofs.lemmas.List.{append-nil, drop_more, drop_all}
use Rattle.std.specs.Fmt.{decimal}
use Rattle.um_tree.specs.ProgramTree.{ProgramTree, function_tree}
use Rattle.um_tree.specs.declared.program.Function.{Function}
use Rattle.um_machine.specs.declared.op.Op.{Op}
use Rattle.um_machine.specs.declared.code.Entry.{Entry}
use Rattle.um_code.specs.Listing.{op_text, op_lines, function_lines, functions_lines}

abbrev pub op_line : ProgramTree → ℕ → Op → List ℕ
op_line p a i = decimal a ++ codes " " ++ op_text p i ++ codes "\n"

module _ (p : ProgramTree) (a : ℕ) (is : List Op) where
  -- the lines of the first k instructions are added to the text
  abbrev pub LinesLeft : ℕ → List ℕ → List ℕ → Type 0
  LinesLeft k before text = text ++ op_lines p (a + k) (drop k is) ≡ before ++ op_lines p a is

  pub lines_first : (text : List ℕ) → LinesLeft 0 text text
  lines_first text = let same : a + 0 ≡ a = omega arith in ap (λ b. text ++ op_lines p b is) same

  next_line : (k : ℕ) (i : Op) → k < length is → i ≡ get_or is k i → op_lines p (a + k) (drop k is) ≡ op_line p (a + k) i ++ op_lines p (a + (k + 1)) (drop (k + 1) is)
  next_line k i h s =
      let deep : a + k + 1 ≡ a + (k + 1) = omega arith in
      ap (op_lines p (a + k)) (drop_more is k i h)
      ∙ ap (λ j. op_lines p (a + k) (j ∷ drop (k + 1) is)) (sym s)
      ∙ ap (λ b. op_line p (a + k) i ++ op_lines p b (drop (k + 1) is)) deep

  pub lines_next : (k : ℕ) (i : Op) (before text more : List ℕ) → k < length is → i ≡ get_or is k i → LinesLeft k before text → more ≡ text ++ op_line p (a + k) i → LinesLeft (k + 1) before more
  lines_next k i before text more h s left added =
      ap (λ t. t ++ op_lines p (a + (k + 1)) (drop (k + 1) is)) added
      ∙ append_assoc text (op_line p (a + k) i) (op_lines p (a + (k + 1)) (drop (k + 1) is))
      ∙ ap (λ r. text ++ r) (sym (next_line k i h s))
      ∙ left

  pub lines_last : (k : ℕ) (before text : List ℕ) → length is ≤ k → LinesLeft k before text → text ≡ before ++ op_lines p a is
  lines_last k before text h left =
      sym (append-nil text) ∙ ap (λ js. text ++ op_lines p (a + k) js) (sym (drop_all k is h)) ∙ left

module _ (p : ProgramTree) (ops : List Op) (fs : List Function) (es : List Entry) where
  -- the lines of the first k functions are the text
  abbrev pub FunctionsLeft : ℕ → List ℕ → Type 0
  FunctionsLeft k text = text ++ functions_lines p ops (map function_tree (drop k fs)) (drop k es) ≡ functions_lines p ops (map function_tree fs) es

  next_function : (k : ℕ) (f : Function) (e : Entry) → k < length fs → k < length es → f ≡ get_or fs k f → e ≡ get_or es k e → functions_lines p ops (map function_tree (drop k fs)) (drop k es) ≡ function_lines p ops (function_tree f) e ++ functions_lines p ops (map function_tree (drop (k + 1) fs)) (drop (k + 1) es)
  next_function k f e h g s q =
      (λ i. functions_lines p ops (map function_tree (drop_more fs k f h i)) (drop_more es k e g i))
      ∙ (λ i. function_lines p ops (function_tree (sym s i)) (sym q i) ++ functions_lines p ops (map function_tree (drop (k + 1) fs)) (drop (k + 1) es))

  pub functions_next : (k : ℕ) (f : Function) (e : Entry) (text more : List ℕ) → k < length fs → k < length es → f ≡ get_or fs k f → e ≡ get_or es k e → FunctionsLeft k text → more ≡ text ++ function_lines p ops (function_tree f) e → FunctionsLeft (k + 1) more
  functions_next k f e text more h g s q left added =
      let rest = functions_lines p ops (map function_tree (drop (k + 1) fs)) (drop (k + 1) es) in
      ap (λ t. t ++ rest) added
      ∙ append_assoc text (function_lines p ops (function_tree f) e) rest
      ∙ ap (λ r. text ++ r) (sym (next_function k f e h g s q))
      ∙ left

  pub functions_last : (k : ℕ) (text : List ℕ) → length fs ≤ k → FunctionsLeft k text → text ≡ functions_lines p ops (map function_tree fs) es
  functions_last k text h left =
      sym (append-nil text) ∙ ap (λ gs. text ++ functions_lines p ops (map function_tree gs) (drop k es)) (sym (drop_all k fs h)) ∙ left
