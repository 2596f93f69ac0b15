-- What may be called, by the numbers of names.
use Rattle.std.proofs.Common.{◌≡◌, ℕ, zero, suc, Bool, true, false, List, [], ◌∷◌, ◌++◌, map, cond, length, refl, ap, sym, ◌∙◌, append-nil}
use Rattle.std.specs.Prelude.{Option, Some, None, Ok, Err, slice_get, ◌==◌}
use Rattle.std.specs.Str.{bytes_eq}
use Rattle.std.proofs.lemmas.List.{map-append}
use Rattle.um_tree.specs.ProgramTree.{FunctionTree}
use Rattle.um_measures.specs.Faults.{unknown, wrong_count}
use Rattle.um_measures.specs.Known.{number_of, one_later, function_names}
use Rattle.um_names.specs.ExprNames.{callable_of, numbered_function, with_arguments}
use Rattle.um_names.specs.Resolution.{callable}
use Rattle.um_names.specs.Tables.{own_callable, own_found}
use Rattle.um_names.specs.declared.callable.Callable.{Callable}
use Rattle.um_measures.proofs.NameLists.{or_else, if_named, number_of-append}

pub number_of-prefix : (xs ys : List (List ℕ)) (x : List ℕ) (j : ℕ) → number_of xs x ≡ Some j → number_of (xs ++ ys) x ≡ Some j
number_of-prefix [] ys x j e = absurd cc
number_of-prefix (z ∷ xs) ys x j e = by (bytes_eq x z) (number_of xs x) (number_of-prefix xs ys x) e where
  by : (b : Bool) (o : Option ℕ) → ((i : ℕ) → o ≡ Some i → number_of (xs ++ ys) x ≡ Some i) → cond b (Some 0) (one_later o) ≡ Some j → cond b (Some 0) (one_later (number_of (xs ++ ys) x)) ≡ Some j
  by true o h f = f
  by false None h f = absurd cc
  by false (Some i) h f = ap one_later (h i refl) ∙ f

pub slice_get-prefix : {A : Type 0} (xs ys : List A) (j : ℕ) (a : A) → slice_get xs j ≡ Some a → slice_get (xs ++ ys) j ≡ Some a
slice_get-prefix [] ys j a e = absurd cc
slice_get-prefix (x ∷ xs) ys zero a e = e
slice_get-prefix (x ∷ xs) ys (suc j) a e = slice_get-prefix xs ys j a e

pub slice_get-last : {A : Type 0} (xs : List A) (a : A) → slice_get (xs ++ a ∷ []) (length xs) ≡ Some a
slice_get-last [] a = refl
slice_get-last (x ∷ xs) a = slice_get-last xs a

names-callable : (fs : List FunctionTree) → map (λ f. f.name) (map callable fs) ≡ function_names fs
names-callable [] = refl
names-callable (f ∷ fs) = ap (λ ns. f.name ∷ ns) (names-callable fs)

slice_get-callable : (fs : List FunctionTree) (j : ℕ) (f : FunctionTree) → slice_get fs j ≡ Some f → slice_get (map callable fs) j ≡ Some (callable f)
slice_get-callable [] j f e = absurd cc
slice_get-callable (g ∷ fs) zero f e = let same : g ≡ f = cc e in ap (λ h. Some (callable h)) same
slice_get-callable (g ∷ fs) (suc j) f e = slice_get-callable fs j f e

length-callable : (fs : List FunctionTree) → length (map callable fs) ≡ length fs
length-callable [] = refl
length-callable (f ∷ fs) = ap suc (length-callable fs)

length-names : (fs : List FunctionTree) → length (function_names fs) ≡ length fs
length-names [] = refl
length-names (f ∷ fs) = ap suc (length-names fs)

all_names : (fs : List FunctionTree) (own : List Callable) → map (λ f. f.name) (map callable fs ++ own) ≡ function_names fs ++ map (λ f. f.name) own
all_names fs own = map-append (λ f. f.name) (map callable fs) own ∙ ap (λ (ns : List (List ℕ)). ns ++ map (λ f. f.name) own) (names-callable fs)

pub callable_declared : (fs : List FunctionTree) (own : Option Callable) (x : List ℕ) (n at j : ℕ) (f : FunctionTree) → number_of (function_names fs) x ≡ Some j → slice_get fs j ≡ Some f
    → callable_of (map callable fs ++ own_callable own) x n at ≡ cond (n == length f.params) (Ok j) (Err (wrong_count at))
callable_declared fs own x n at j f e g =
    let cs = map callable fs ++ own_callable own in
    let numbered : number_of (map (λ f. f.name) cs) x ≡ Some j = ap (λ (ns : List (List ℕ)). number_of ns x) (all_names fs (own_callable own)) ∙ number_of-prefix (function_names fs) (map (λ f. f.name) (own_callable own)) x j e in
    let there : slice_get cs j ≡ Some (callable f) = slice_get-prefix (map callable fs) (own_callable own) j (callable f) (slice_get-callable fs j f g) in
    ap (λ o. numbered_function cs o n at) numbered ∙ ap (λ o. with_arguments o j n at) there

pub callable_else : (fs : List FunctionTree) (own : Option Callable) (x : List ℕ) (n at : ℕ) → number_of (function_names fs) x ≡ None → callable_of (map callable fs ++ own_callable own) x n at ≡ own_found own (length fs) x n at
callable_else fs None x n at e =
    let numbered : number_of (map (λ f. f.name) (map callable fs ++ [])) x ≡ None = ap (λ (ns : List (List ℕ)). number_of ns x) (all_names fs [] ∙ append-nil (function_names fs)) ∙ e in
    ap (λ o. numbered_function (map callable fs ++ []) o n at) numbered
callable_else fs (Some f) x n at e = by (bytes_eq x f.name) refl where
  numbered : number_of (map (λ f. f.name) (map callable fs ++ f ∷ [])) x ≡ if_named x f.name (length fs)
  numbered = ap (λ (ns : List (List ℕ)). number_of ns x) (all_names fs (f ∷ [])) ∙ number_of-append x (function_names fs) f.name
      ∙ ap (λ o. or_else o (if_named x f.name (length (function_names fs)))) e ∙ ap (if_named x f.name) (length-names fs)

  last : slice_get (map callable fs ++ f ∷ []) (length fs) ≡ Some f
  last = ap (slice_get (map callable fs ++ f ∷ [])) (sym (length-callable fs)) ∙ slice_get-last (map callable fs) f

  by : (b : Bool) → bytes_eq x f.name ≡ b → callable_of (map callable fs ++ f ∷ []) x n at ≡ cond b (cond (n == f.params) (Ok (length fs)) (Err (wrong_count at))) (Err (unknown at))
  by true h = ap (λ o. numbered_function (map callable fs ++ f ∷ []) o n at) (numbered ∙ ap (λ b. cond b (Some (length fs)) None) h) ∙ ap (λ o. with_arguments o (length fs) n at) last
  by false h = ap (λ o. numbered_function (map callable fs ++ f ∷ []) o n at) (numbered ∙ ap (λ b. cond b (Some (length fs)) None) h)
