-- What holds of the place of each token holds of the places in declarations that are read from the tokens.
use Rattle.std.proofs.Common.{ℕ, ◌+◌, Bool, List, [], ◌∷◌, Option, Some, None, sym, subst}
use Rattle.um_types.specs.TypeGrammar.{TypeFits}
use Rattle.um_syntax.specs.declared.token.Token.{Token}
use Rattle.um_tree.specs.RawTree.{TypeSyntax, VarSyntax, FieldDeclSyntax, ParamSyntax, FunctionSyntax, DeclSyntax, base_syntax, short_syntax, record_decl_syntax, function_syntax}
use Rattle.um_types.specs.declared.parse.LimitKind.{LimitKind}
use Rattle.um_forms.specs.declared.token.ExprToken.{ExprToken}
use Rattle.um_expr.specs.ExprGrammar.{FirstAt}
use Rattle.um_parse.specs.DeclGrammar.{VarSpells, MoreVars, VarsSpell, FieldDeclSpells, MoreFieldDecls, FieldDeclsSpell, ParamsSpell, ResultSpells, FunctionSpells, DeclSpells, DeclsSpell, FieldDeclsFit, ParamsFit, ResultFits, DeclFits, DeclsFit}
use Rattle.um_parse.specs.ProgramLimits.{name_place, passed_limit, functions_in, FirstPassed, PassesAt}
use Rattle.um_front.proofs.TokensLeft.{Leaves, thence, first_leaves, at_leaves, type_leaves}
use Rattle.um_front.proofs.DeclReading.{attribute_leaves, var_leaves, vars_leave, field_leaves, params_leave, result_leaves, rec_leaves, decl_leaves}
use Rattle.um_front.proofs.TokenPlaces.{AllStarts}
use Rattle.um_front.proofs.NotePlaces.{leaves_starts, UnitHolds, TypeHolds, unit_holds, type_holds}
use Rattle.um_front.proofs.ExprPlaces.{NodesHold, nodes_hold}

module _ (P : ℕ → Type 0) where
  abbrev pub VarsHold : List VarSyntax → Type 0
  VarsHold [] = Unit {0}
  VarsHold (v ∷ vs) = P v.at × VarsHold vs

  abbrev pub FieldDeclsHold : List FieldDeclSyntax → Type 0
  FieldDeclsHold [] = Unit {0}
  FieldDeclsHold (f ∷ fs) = P f.at × TypeHolds P f.type × FieldDeclsHold fs

  abbrev pub ParamsHold : List ParamSyntax → Type 0
  ParamsHold [] = Unit {0}
  ParamsHold (p ∷ ps) = P p.binder.at × TypeHolds P p.type × ParamsHold ps

  abbrev pub ResultHolds : Option TypeSyntax → Type 0
  ResultHolds None = Unit {0}
  ResultHolds (Some t) = TypeHolds P t

  abbrev pub FunctionHolds : FunctionSyntax → Type 0
  FunctionHolds f = P f.at × VarsHold f.units × ParamsHold f.params × ResultHolds f.result × NodesHold P f.body

  -- P holds of each place in the declaration
  abbrev pub DeclHolds : DeclSyntax → Type 0
  DeclHolds (base_syntax at x) = P at
  DeclHolds (short_syntax at x u) = P at × UnitHolds P u
  DeclHolds (record_decl_syntax at x vs fs) = P at × VarsHold vs × FieldDeclsHold fs
  DeclHolds (function_syntax f) = FunctionHolds f

  abbrev pub DeclsHold : List DeclSyntax → Type 0
  DeclsHold [] = Unit {0}
  DeclsHold (d ∷ ds) = DeclHolds d × DeclsHold ds

  abbrev Starts : List Token → Type 0
  Starts tokens = AllStarts P tokens

  behind : {tokens rest : List Token} → Leaves tokens rest → Starts tokens → Starts rest
  behind {tokens = tokens} {rest = rest} l h = leaves_starts P tokens rest l h

  first_at : (what : ExprToken) (at : ℕ) (tokens rest : List Token) → FirstAt what at tokens rest → Starts tokens → P at
  first_at what at tokens rest f h = subst P f.2 (subst Starts f.3 h).0

  -- ---- unit parameters

  var_holds : (v : VarSyntax) (tokens rest : List Token) → VarSpells v tokens rest → Starts tokens → P v.at
  var_holds v tokens rest s h = first_at _ v.at s.0 rest s.2 (behind (attribute_leaves tokens s.0 s.1) h)

  more_vars_hold : (vs : List VarSyntax) (tokens rest : List Token) → MoreVars vs tokens rest → Starts tokens → VarsHold vs
  more_vars_hold [] tokens rest s h = tt
  more_vars_hold (v ∷ vs) tokens rest s h =
      let here = behind (first_leaves _ tokens s.0 s.2) h in
      (var_holds v s.0 s.1 s.3 here, more_vars_hold vs s.1 rest s.4 (behind (var_leaves v s.0 s.1 s.3) here))

  vars_hold : (vs : List VarSyntax) (tokens rest : List Token) → VarsSpell vs tokens rest → Starts tokens → VarsHold vs
  vars_hold [] tokens rest s h = tt
  vars_hold (v ∷ vs) tokens rest s h =
      let here = behind (first_leaves _ tokens s.0 s.3) h in
      (var_holds v s.0 s.1 s.4 here, more_vars_hold vs s.1 s.2 s.5 (behind (var_leaves v s.0 s.1 s.4) here))

  -- ---- fields

  field_holds : (f : FieldDeclSyntax) (tokens rest : List Token) → FieldDeclSpells f tokens rest → TypeFits f.type → Starts tokens → P f.at × TypeHolds P f.type
  field_holds f tokens rest s fits h =
      let written = behind (thence (at_leaves _ f.at tokens s.0 s.2) (first_leaves _ s.0 s.1 s.3)) h in
      (first_at _ f.at tokens s.0 s.2 h, type_holds P f.type s.1 rest s.4 fits written)

  more_fields_hold : (fs : List FieldDeclSyntax) (tokens rest : List Token) → MoreFieldDecls fs tokens rest → FieldDeclsFit fs → Starts tokens → FieldDeclsHold fs
  more_fields_hold [] tokens rest s fits h = tt
  more_fields_hold (f ∷ fs) tokens rest s fits h =
      let here = behind (first_leaves _ tokens s.0 s.2) h in
      let one = field_holds f s.0 s.1 s.3 fits.0 here in
      (one.0, one.1, more_fields_hold fs s.1 rest s.4 fits.1 (behind (field_leaves f s.0 s.1 s.3 fits.0) here))

  fields_hold : (fs : List FieldDeclSyntax) (tokens rest : List Token) → FieldDeclsSpell fs tokens rest → FieldDeclsFit fs → Starts tokens → FieldDeclsHold fs
  fields_hold [] tokens rest s fits h = tt
  fields_hold (f ∷ fs) tokens rest s fits h =
      let one = field_holds f tokens s.0 s.1 fits.0 h in
      (one.0, one.1, more_fields_hold fs s.0 rest s.2 fits.1 (behind (field_leaves f tokens s.0 s.1 fits.0) h))

  -- ---- functions

  params_hold : (ps : List ParamSyntax) (tokens rest : List Token) → ParamsSpell ps tokens rest → ParamsFit ps → Starts tokens → ParamsHold ps
  params_hold [] tokens rest s fits h = tt
  params_hold (p ∷ ps) tokens rest s fits h =
      let one = s.1 in
      let bound = behind (first_leaves _ tokens one.0 one.4) h in
      let written = behind (thence (at_leaves _ p.binder.at one.0 one.1 one.5) (first_leaves _ one.1 one.2 one.6)) bound in
      let after = behind (thence (type_leaves p.type one.2 one.3 one.7 fits.0) (first_leaves _ one.3 s.0 one.8)) written in
      (first_at _ p.binder.at one.0 one.1 one.5 bound, type_holds P p.type one.2 one.3 one.7 fits.0 written, params_hold ps s.0 rest s.2 fits.1 after)

  result_holds : (recursive : Bool) (r : Option TypeSyntax) (tokens rest : List Token) → ResultSpells r tokens rest → ResultFits recursive r → Starts tokens → ResultHolds r
  result_holds recursive None tokens rest s fits h = tt
  result_holds recursive (Some t) tokens rest s fits h = type_holds P t s.0 rest s.2 fits (behind (first_leaves _ tokens s.0 s.1) h)

  function_holds : (f : FunctionSyntax) (tokens rest : List Token) → FunctionSpells f tokens rest → DeclFits (function_syntax f) → Starts tokens → FunctionHolds f
  function_holds f tokens rest s fits h =
      let named = behind (thence (first_leaves _ tokens s.0 s.7) (rec_leaves f.recursive s.0 s.1 s.8)) h in
      let units = behind (at_leaves _ f.at s.1 s.2 s.9) named in
      let params = behind (vars_leave f.units s.2 s.3 s.10) units in
      let result = behind (params_leave f.params s.3 s.4 s.11 fits.0) params in
      let body = behind (thence (result_leaves f.recursive f.result s.4 s.5 s.12 fits.1) (first_leaves _ s.5 s.6 s.13)) result in (
        first_at _ f.at s.1 s.2 s.9 named,
        vars_hold f.units s.2 s.3 s.10 units,
        params_hold f.params s.3 s.4 s.11 fits.0 params,
        result_holds f.recursive f.result s.4 s.5 s.12 fits.1 result,
        nodes_hold P f.body s.6 rest s.14 fits.2 body,
      )

  -- ---- declarations

  decl_holds : (d : DeclSyntax) (tokens rest : List Token) → DeclSpells d tokens rest → DeclFits d → Starts tokens → DeclHolds d
  decl_holds (base_syntax at x) tokens rest s fits h = first_at _ at s.1 rest s.4 (behind (thence (attribute_leaves tokens s.0 s.2) (first_leaves _ s.0 s.1 s.3)) h)
  decl_holds (short_syntax at x u) tokens rest s fits h =
      let named = behind (thence (attribute_leaves tokens s.0 s.4) (first_leaves _ s.0 s.1 s.5)) h in
      let unit = behind (thence (at_leaves _ at s.1 s.2 s.6) (first_leaves _ s.2 s.3 s.7)) named in
      (first_at _ at s.1 s.2 s.6 named, unit_holds P u s.3 rest s.8 fits unit)
  decl_holds (record_decl_syntax at x vs fs) tokens rest s fits h =
      let named = behind (first_leaves _ tokens s.0 s.6) h in
      let vars = behind (at_leaves _ at s.0 s.1 s.7) named in
      let fields = behind (thence (vars_leave vs s.1 s.2 s.8) (thence (first_leaves _ s.2 s.3 s.9) (first_leaves _ s.3 s.4 s.10))) vars in
      (first_at _ at s.0 s.1 s.7 named, vars_hold vs s.1 s.2 s.8 vars, fields_hold fs s.4 s.5 s.11 fits fields)
  decl_holds (function_syntax f) tokens rest s fits h = function_holds f tokens rest s fits h

  pub decls_hold : (ds : List DeclSyntax) (tokens rest : List Token) → DeclsSpell ds tokens rest → DeclsFit ds → Starts tokens → DeclsHold ds
  decls_hold [] tokens rest s fits h = tt
  decls_hold (d ∷ ds) tokens rest s fits h =
      (decl_holds d tokens s.0 s.1 fits.0 h, decls_hold ds s.0 rest s.2 fits.1 (behind (decl_leaves d tokens s.0 s.1 fits.0).0 h))

  -- ---- the name of a declaration that passes a limit

  name_holds : (d : DeclSyntax) → DeclHolds d → P (name_place d)
  name_holds (base_syntax at x) h = h
  name_holds (short_syntax at x u) h = h.0
  name_holds (record_decl_syntax at x vs fs) h = h.0
  name_holds (function_syntax f) h = h.0

  pub passed_holds : (before : ℕ) (ds : List DeclSyntax) (kind : LimitKind) (at : ℕ) → DeclsHold ds → PassesAt before ds kind at → P at
  passed_holds before [] kind at h p = absurd p
  passed_holds before (d ∷ ds) kind at h p = by (passed_limit before d) (λ q. passed_holds (before + functions_in d) ds kind at h.1 q) p
    where
      by : (o : Option LimitKind) → (PassesAt (before + functions_in d) ds kind at → P at) → FirstPassed o (name_place d) kind at (PassesAt (before + functions_in d) ds kind at) → P at
      by None later p = later p
      by (Some passed) later p = subst P (sym p.1) (name_holds d h.0)
