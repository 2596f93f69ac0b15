-- What holds of each name among the tokens holds of each declared name.
use Rattle.std.proofs.Common.{◌≡◌, ℕ, Bool, true, false, List, [], ◌∷◌, ◌++◌, refl, sym, ap, subst, ◌∙◌}
use Rattle.um_syntax.specs.declared.token.Token.{Token}
use Rattle.um_syntax.specs.declared.token.Kind.{Kind}
use Rattle.um_syntax.specs.declared.token.Kind.TheVariants as kind
use Rattle.um_tree.specs.RawTree.{FieldDeclSyntax, DeclSyntax, base_syntax, short_syntax, record_decl_syntax, function_syntax}
use Rattle.um_vocabulary.specs.declared.vocabulary.Keyword.{Keyword}
use Rattle.um_vocabulary.specs.declared.vocabulary.Keyword.TheVariants as keyword
use Rattle.um_vocabulary.specs.declared.vocabulary.Symbol.{Symbol}
use Rattle.um_vocabulary.specs.declared.vocabulary.Symbol.TheVariants as symbol
use Rattle.um_forms.specs.declared.token.ExprToken.{ExprToken}
use Rattle.um_forms.specs.declared.token.ExprToken.TheVariants.{Name as name}
use Rattle.um_forms.specs.ExprTokens.{expr_token, keyword_token, symbol_token}
use Rattle.um_expr.specs.ExprGrammar.{FirstAt}
use Rattle.um_parse.specs.DeclGrammar.{MoreFieldDecls, FieldDeclsSpell, DeclSpells, DeclsSpell, FieldDeclsFit, DeclFits, DeclsFit}
use Rattle.um_front.proofs.NameTokens.{IsNamed, AllNamed}
use Rattle.um_front.proofs.TokensLeft.{Leaves, thence, first_leaves, at_leaves}
use Rattle.um_front.proofs.DeclReading.{attribute_leaves, vars_leave, field_leaves, rec_leaves, decl_leaves}

-- ---- a name is no word and no sign

abbrev is_name : ExprToken → Bool
is_name (name x) = true
is_name _ = false

word_no_name : (k : Keyword) → is_name (keyword_token k) ≡ false
word_no_name keyword.True = refl
word_no_name _ = refl

sign_no_name : (s : Symbol) → is_name (symbol_token s) ≡ false
sign_no_name symbol.Less = refl
sign_no_name _ = refl

no_name : (t : ExprToken) (x : List ℕ) → is_name t ≡ false → t ≡ name x → ⊥
no_name t x none e = let bad : true ≡ false = sym (ap is_name e) ∙ none in cc

same_name : (x y : List ℕ) → name x ≡ name y → x ≡ y
same_name x y e = cc

module _ (P : List ℕ → Type 0) where
  name_kind : (k : Kind) (x : List ℕ) → expr_token k ≡ name x → IsNamed P k → P x
  name_kind (kind.Name y) x e h = subst P (same_name y x e) h
  name_kind (kind.Var y) x e h = absurd cc
  name_kind (kind.Number value digits one) x e h = absurd cc
  name_kind (kind.Word k) x e h = absurd (no_name (keyword_token k) x (word_no_name k) e)
  name_kind kind.Hole x e h = absurd cc
  name_kind (kind.Sign k) x e h = absurd (no_name (symbol_token k) x (sign_no_name k) e)

  -- ---- the names of what is left

  all_behind : (read rest : List Token) → AllNamed P (read ++ rest) → AllNamed P rest
  all_behind [] rest h = h
  all_behind (t ∷ ts) rest h = all_behind ts rest h.1

  pub named_rest : (tokens rest : List Token) → Leaves tokens rest → AllNamed P tokens → AllNamed P rest
  named_rest tokens rest l h = all_behind l.0 rest (subst (λ w. AllNamed P w) l.1 h)

  name_at : (x : List ℕ) (at : ℕ) (tokens rest : List Token) → FirstAt (name x) at tokens rest → AllNamed P tokens → P x
  name_at x at tokens rest f h = name_kind f.0.kind x f.1 (subst (λ w. AllNamed P w) f.3 h).0

  -- ---- fields and declarations

  abbrev pub FieldsNamed : List FieldDeclSyntax → Type 0
  FieldsNamed [] = Unit {0}
  FieldsNamed (f ∷ fs) = P f.name × FieldsNamed fs

  -- P holds of each name that the declaration declares
  abbrev pub DeclNamed : DeclSyntax → Type 0
  DeclNamed (base_syntax at x) = P x
  DeclNamed (short_syntax at x u) = P x
  DeclNamed (record_decl_syntax at x vs fs) = P x × FieldsNamed fs
  DeclNamed (function_syntax f) = P f.name

  abbrev pub DeclsNamed : List DeclSyntax → Type 0
  DeclsNamed [] = Unit {0}
  DeclsNamed (d ∷ ds) = DeclNamed d × DeclsNamed ds

  more_fields_named : (fs : List FieldDeclSyntax) (tokens rest : List Token) → MoreFieldDecls fs tokens rest → FieldDeclsFit fs → AllNamed P tokens → FieldsNamed fs
  more_fields_named [] tokens rest s fits h = tt
  more_fields_named (f ∷ fs) tokens rest s fits h =
      let here = named_rest tokens s.0 (first_leaves _ tokens s.0 s.2) h in
      let behind = named_rest s.0 s.1 (field_leaves f s.0 s.1 s.3 fits.0) here in
      (name_at f.name f.at s.0 s.3.0 s.3.2 here, more_fields_named fs s.1 rest s.4 fits.1 behind)

  fields_named : (fs : List FieldDeclSyntax) (tokens rest : List Token) → FieldDeclsSpell fs tokens rest → FieldDeclsFit fs → AllNamed P tokens → FieldsNamed fs
  fields_named [] tokens rest s fits h = tt
  fields_named (f ∷ fs) tokens rest s fits h =
      let behind = named_rest tokens s.0 (field_leaves f tokens s.0 s.1 fits.0) h in
      (name_at f.name f.at tokens s.1.0 s.1.2 h, more_fields_named fs s.0 rest s.2 fits.1 behind)

  decl_named : (d : DeclSyntax) (tokens rest : List Token) → DeclSpells d tokens rest → DeclFits d → AllNamed P tokens → DeclNamed d
  decl_named (base_syntax at x) tokens rest s fits h =
      name_at x at s.1 rest s.4 (named_rest tokens s.1 (thence (attribute_leaves tokens s.0 s.2) (first_leaves _ s.0 s.1 s.3)) h)
  decl_named (short_syntax at x u) tokens rest s fits h =
      name_at x at s.1 s.2 s.6 (named_rest tokens s.1 (thence (attribute_leaves tokens s.0 s.4) (first_leaves _ s.0 s.1 s.5)) h)
  decl_named (record_decl_syntax at x vs fs) tokens rest s fits h =
      let named = named_rest tokens s.0 (first_leaves _ tokens s.0 s.6) h in
      let behind_vars = named_rest s.0 s.2 (thence (at_leaves _ at s.0 s.1 s.7) (vars_leave vs s.1 s.2 s.8)) named in
      let in_braces = named_rest s.2 s.4 (thence (first_leaves _ s.2 s.3 s.9) (first_leaves _ s.3 s.4 s.10)) behind_vars in
      (name_at x at s.0 s.1 s.7 named, fields_named fs s.4 s.5 s.11 fits in_braces)
  decl_named (function_syntax f) tokens rest s fits h =
      name_at f.name f.at s.1 s.2 s.9 (named_rest tokens s.1 (thence (first_leaves _ tokens s.0 s.7) (rec_leaves f.recursive s.0 s.1 s.8)) h)

  pub decls_named : (ds : List DeclSyntax) (tokens rest : List Token) → DeclsSpell ds tokens rest → DeclsFit ds → AllNamed P tokens → DeclsNamed ds
  decls_named [] tokens rest s fits h = tt
  decls_named (d ∷ ds) tokens rest s fits h =
      (decl_named d tokens s.0 s.1 fits.0 h, decls_named ds s.0 rest s.2 fits.1 (named_rest tokens s.0 (decl_leaves d tokens s.0 s.1 fits.0).0 h))
