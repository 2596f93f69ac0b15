-- The functions of a program one after another, and the names of unit parameters.
use Rattle.std.proofs.Common.{◌≡◌, ℕ, zero, suc, ◌+◌, ◌-◌, ◌<◌, ◌≤◌, Bool, true, false, cond, List, [], ◌∷◌, ◌++◌, drop, length, get_or, slice_get, Some, None, refl, ap, ◌∙◌, arith}
use Rattle.std.proofs.lemmas.List.{drop_more, drop_all}
use Rattle.um_tree.specs.RawTree.{DeclSyntax, FunctionSyntax, base_syntax, short_syntax, record_decl_syntax, function_syntax}
use Rattle.um_measures.specs.Known.{is_among}
use Rattle.um_measures.specs.Variables.{first_occurrences}
use Rattle.um_unit_reasons.specs.VariableNames.{function_of, functions_of}

pub enough : (d : DeclSyntax) (left : ℕ) → slice_get (function_of d) left ≡ None → length (function_of d) ≤ left
enough (base_syntax at x) left e = omega arith
enough (short_syntax at x u) left e = omega arith
enough (record_decl_syntax at x us fs) left e = omega arith
enough (function_syntax f) zero e = absurd (cc e)
enough (function_syntax f) (suc left) e = omega arith

passed : (d : DeclSyntax) (rest : List DeclSyntax) (left : ℕ) → slice_get (function_of d) left ≡ None → slice_get (functions_of (d ∷ rest)) left ≡ slice_get (functions_of rest) (left - length (function_of d))
passed (base_syntax at x) rest left e = let same : left ≡ left - 0 = omega arith in ap (slice_get (functions_of rest)) same
passed (short_syntax at x u) rest left e = let same : left ≡ left - 0 = omega arith in ap (slice_get (functions_of rest)) same
passed (record_decl_syntax at x us fs) rest left e = let same : left ≡ left - 0 = omega arith in ap (slice_get (functions_of rest)) same
passed (function_syntax f) rest zero e = absurd (cc e)
passed (function_syntax f) rest (suc left) e = let same : left ≡ suc left - 1 = omega arith in ap (slice_get (functions_of rest)) same

there : (d : DeclSyntax) (rest : List DeclSyntax) (left : ℕ) (f : FunctionSyntax) → slice_get (function_of d) left ≡ Some f → slice_get (functions_of (d ∷ rest)) left ≡ Some f
there (base_syntax at x) rest left f e = absurd (cc e)
there (short_syntax at x u) rest left f e = absurd (cc e)
there (record_decl_syntax at x us fs) rest left f e = absurd (cc e)
there (function_syntax g) rest zero f e = e
there (function_syntax g) rest (suc left) f e = absurd (cc e)

module _ (ds : List DeclSyntax) (i : ℕ) where
  abbrev pub FunctionsLeft : ℕ → ℕ → Type 0
  FunctionsLeft k left = slice_get (functions_of ds) i ≡ slice_get (functions_of (drop k ds)) left

  module _ (k left : ℕ) (d : DeclSyntax) (inside : k < length ds) (is : get_or ds k d ≡ d) (so_far : FunctionsLeft k left) where
    here : slice_get (functions_of ds) i ≡ slice_get (functions_of (d ∷ drop (k + 1) ds)) left
    here = so_far ∙ ap (λ xs. slice_get (functions_of xs) left) (drop_more ds k d inside ∙ ap (λ x. x ∷ drop (k + 1) ds) is)

    pub next_function : slice_get (function_of d) left ≡ None → FunctionsLeft (k + 1) (left - length (function_of d))
    next_function e = here ∙ passed d (drop (k + 1) ds) left e

    pub this_function : (f : FunctionSyntax) → slice_get (function_of d) left ≡ Some f → slice_get (functions_of ds) i ≡ Some f
    this_function f e = here ∙ there d (drop (k + 1) ds) left f e

  pub no_function : (k left : ℕ) → length ds ≤ k → FunctionsLeft k left → slice_get (functions_of ds) i ≡ None
  no_function k left past so_far = so_far ∙ ap (λ xs. slice_get (functions_of xs) left) (drop_all k ds past)

pub one_name : (before : List (List ℕ)) (x : List ℕ) (xs : List (List ℕ)) → first_occurrences before (x ∷ xs) ≡ first_occurrences (cond (is_among before x) before (before ++ x ∷ [])) xs
one_name before x xs = by (is_among before x) where
  by : (b : Bool) → cond b (first_occurrences before xs) (first_occurrences (before ++ x ∷ []) xs) ≡ first_occurrences (cond b before (before ++ x ∷ [])) xs
  by true = refl
  by false = refl
