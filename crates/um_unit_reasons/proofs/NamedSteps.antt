-- Named variables one after another.
use Rattle.std.proofs.Common.{◌≡◌, ℕ, suc, ◌+◌, ◌<◌, ◌≤◌, add-one, List, [], ◌∷◌, ◌++◌, drop, length, get_or, Option, Some, None, refl, sym, ap, ◌∙◌}
use Rattle.std.proofs.lemmas.List.{append-nil, append_assoc, drop_more, drop_all}
use Rattle.um_unit_reasons.specs.declared.named.Named.{Named}
use Rattle.um_unit_reasons.specs.VariableNames.{with_variable, named_from}

pub before_others : (o : Option ℕ) (x : List ℕ) (others : List Named) → with_variable o x others ≡ with_variable o x [] ++ others
before_others None x others = refl
before_others (Some k) x others = refl

-- variables that are alike give the same
pub named_alike : (s t : ℕ → Option ℕ) → ((v : ℕ) → s v ≡ t v) → (v : ℕ) (names : List (List ℕ)) → named_from s v names ≡ named_from t v names
named_alike s t same v [] = refl
named_alike s t same v (x ∷ names) =
    ap (λ o. with_variable o x (named_from s (suc v) names)) (same v)
    ∙ ap (with_variable (t v) x) (named_alike s t same (suc v) names)

module _ (variable : ℕ → Option ℕ) (names : List (List ℕ)) where
  abbrev pub NamedLeft : ℕ → List Named → Type 0
  NamedLeft v named = named_from variable 0 names ≡ named ++ named_from variable v (drop v names)

  pub more_named : (v : ℕ) (named new : List Named) → v < length names → NamedLeft v named → new ≡ named ++ with_variable (variable v) (get_or names v []) [] → NamedLeft (v + 1) new
  more_named v named new l left is =
      let rest : List Named = named_from variable (v + 1) (drop (v + 1) names) in
      left ∙ ap (λ xs. named ++ named_from variable v xs) (drop_more names v [] l)
      ∙ ap (λ k. named ++ with_variable (variable v) (get_or names v []) (named_from variable k (drop (v + 1) names))) (sym (add-one v))
      ∙ ap (λ xs. named ++ xs) (before_others (variable v) (get_or names v []) rest)
      ∙ sym (append_assoc named (with_variable (variable v) (get_or names v []) []) rest)
      ∙ ap (λ xs. xs ++ rest) (sym is)

  pub all_named : (v : ℕ) (named : List Named) → length names ≤ v → NamedLeft v named → named ≡ named_from variable 0 names
  all_named v named past left = sym (left ∙ ap (λ xs. named ++ named_from variable v xs) (drop_all v names past) ∙ append-nil named)
