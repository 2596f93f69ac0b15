-- Where the text of a sign ends: no longer sign and no comment stands there with the next character.
use Rattle.std.proofs.Common.{◌≡◌, ◌≢◌, ℕ, Bool, false, ◌==◌, ◌||◌, ◌&&◌, List, [], ◌∷◌, Option, Some, is_some, sym, ap, ◌∙◌, subst, ⊎_elim}
use Rattle.std.proofs.lemmas.Bool.{false≢true}
use Rattle.um_vocabulary.specs.declared.vocabulary.Symbol.{Symbol}
use Rattle.um_vocabulary.specs.Vocabulary.{symbol_text}
use Rattle.um_syntax.specs.Lexeme.{SignEnds}
use Rattle.um_vocabulary.specs.Tables.{double_symbol}
use Rattle.um_vocabulary.proofs.Tables.{symbol_form, symbol_text-double, symbol_text-three}
use Rattle.um_syntax.proofs.Closing.{or_false}

-- a longer sign or a comment stands where this character follows the text of a sign
abbrev pub grows : List ℕ → ℕ → Bool
grows [] c = false
grows (a ∷ []) c = is_some (double_symbol a c) || (a == 47 && c == 47)
grows (a ∷ b ∷ more) c = false

some_none : (o : Option Symbol) (k : Symbol) → is_some o ≡ false → o ≡ Some k → ⊥
some_none o k none is = false≢true (sym none ∙ ap is_some is)

no_comment : (a c : ℕ) → (a == 47 && c == 47) ≡ false → ◌≢◌ {A = List ℕ} (a ∷ c ∷ []) (47 ∷ 47 ∷ [])
no_comment a c refused e = let p : a ≡ 47 = cc in let q : c ≡ 47 = cc in false≢true (sym refused ∙ ap (λ x. x == 47 && c == 47) p ∙ ap (λ x. 47 == 47 && x == 47) q)

single_ends : (a c : ℕ) (more : List ℕ) → grows (a ∷ []) c ≡ false → SignEnds (a ∷ []) (c ∷ more)
single_ends a c more refused =
    let parts = or_false (is_some (double_symbol a c)) (a == 47 && c == 47) refused in
    ((λ k e. some_none (double_symbol a c) k parts.0 (symbol_text-double a c k e)), no_comment a c parts.1)

double_ends : (a b c : ℕ) (more : List ℕ) → SignEnds (a ∷ b ∷ []) (c ∷ more)
double_ends a b c more = ((λ k e. symbol_text-three a b c [] k e), λ e. cc)

pub sign_ends : (k : Symbol) (c : ℕ) (more : List ℕ) → grows (symbol_text k) c ≡ false → SignEnds (symbol_text k) (c ∷ more)
sign_ends k c more refused =
    ⊎_elim (λ f. subst (λ t. SignEnds t (c ∷ more)) (sym f.1) (single_ends f.0 c more (subst (λ t. grows t c ≡ false) f.1 refused)))
    (λ f. subst (λ t. SignEnds t (c ∷ more)) (sym f.2) (double_ends f.0 f.1 c more)) (symbol_form k)
