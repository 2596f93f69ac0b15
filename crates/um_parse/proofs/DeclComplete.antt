-- What a declaration spells is read as it, whatever follows.
use Rattle.std.proofs.Common.{◌≡◌, ◌≢◌, ℕ, List, [], ◌∷◌, ◌++◌, Bool, true, false, Option, Some, None, refl, sym, ap, subst, ◌∙◌, append_assoc}
use Rattle.std.proofs.lemmas.List.{append-nil}
use Rattle.um_syntax.specs.declared.token.Token.{Token}
use Rattle.um_syntax.specs.declared.token.Kind.{Kind}
use Rattle.um_tree.specs.RawTree.{TypeSyntax, VarSyntax, FieldDeclSyntax, ParamSyntax, FunctionSyntax, DeclSyntax, base_syntax, short_syntax, record_decl_syntax, function_syntax}
use Rattle.um_unit_texts.specs.UnitMachine.{Need as NeedUnit}
use Rattle.um_types.specs.TypeGrammar.{TypeFits}
use Rattle.um_types.specs.TypeMachine.{NeedType, HaveType, NoType, type_after}
use Rattle.um_unit_texts.proofs.UnitComplete.{into as unit_into}
use Rattle.um_unit_texts.proofs.UnitNested.{unit_finds}
use Rattle.um_vocabulary.specs.declared.vocabulary.Keyword.TheVariants as keyword
use Rattle.um_vocabulary.specs.declared.vocabulary.Symbol.TheVariants as symbol
use Rattle.um_reader.specs.Machine.{runs, Yields}
use Rattle.um_reader.proofs.Reaching.{yields_here, yields_as}
use Rattle.um_tree.specs.declared.expression.Sign.TheVariants as compare
use Rattle.um_operands.specs.declared.infix.Infix.TheVariants as between
use Rattle.um_operands.specs.ExprBegun.{Need}
use Rattle.um_forms.specs.declared.token.ExprToken.{ExprToken}
use Rattle.um_forms.specs.declared.token.ExprToken.TheVariants.{Name as name, Variable as variable, Operator as operator, Word as word, Mark as mark}
use Rattle.um_forms.specs.ExprTokens.{expr_token, equal, less, greater}
use Rattle.um_expr.specs.ExprGrammar.{First, FirstAt}
use Rattle.um_parse.specs.DeclGrammar.{Attribute, VarSpells, MoreVars, VarsSpell, FieldDeclSpells, MoreFieldDecls, ParamSpells, ParamsSpell, ResultSpells, RecSpells, FunctionSpells, DeclSpells, FieldDeclsFit, ParamsFit, ResultFits, DeclFits}
use Rattle.um_decls.specs.DeclMachine.{FunctionStart, start_of, VarOwner, OfRecord, OfFunction, started, body_begins_if, decl_act, DeclBegin, AttributeWord, AttributeGreater, AttributeClose, MeasureType, MeasureName, RecordName, RecordVars, VarBegin, VarWord, VarGreater, VarClose, VarName, VarEnd, RecordEqual, RecordBrace, FieldName, FieldColon, LetName, RecName, FunctionVars, Params, ParamBinder, ParamColon, DeclState, Expects, HaveBase, InShort, HaveRecord, InField, InParam, InResult, InBody, field_ends, param_ends, result_ends, field_goes, param_goes, result_goes, short_found, body_found, decl_finish, decl_step}
use Rattle.um_expr.proofs.ExprTokenKinds.{mark_is, equal_is}
use Rattle.um_expr.proofs.ExprEnds.{opened, last_atom}
use Rattle.um_expr.proofs.ExprAtEnd.{at_end}
use Rattle.um_expr.proofs.ExprLaws.{expr_finds}
use Rattle.um_parse.proofs.DeclYields.{thence, yields_first, yields_at, yields_binder, yields_attribute, yields_type, yields_unit, yields_body, field_inside, param_inside, result_inside}

-- the state once a declaration was read; the flag says whether the number of a whole power is the last token
abbrev pub decl_into : Bool → DeclSyntax → DeclState
decl_into b (base_syntax at x) = HaveBase at x
decl_into b (short_syntax at x u) = InShort at x (unit_into [] u)
decl_into b (record_decl_syntax at x vs fs) = HaveRecord at x vs fs
decl_into b (function_syntax f) = InBody (start_of f) f.params f.result (at_end b (opened [] f.body) (last_atom f.body))

pub decl_finds : (b : Bool) (d : DeclSyntax) → DeclFits d → decl_finish (decl_into b d) ≡ Some d
decl_finds b (base_syntax at x) fits = refl
decl_finds b (short_syntax at x u) fits = ap (short_found at x) (unit_finds u fits)
decl_finds b (record_decl_syntax at x vs fs) fits = refl
decl_finds b (function_syntax f) fits = ap (body_found (start_of f) f.params f.result) (expr_finds b f.body fits.2)

-- ---- measures

yields_measure : (at : ℕ) (x : List ℕ) (tokens behind named rest : List Token) → Attribute tokens behind → First (word keyword.Type) behind named → FirstAt (name x) at named rest
    → Yields decl_step (Expects DeclBegin) tokens (HaveBase at x) rest
yields_measure at x tokens behind named rest a t n =
    thence
    (
    yields_attribute (Expects DeclBegin) (Expects AttributeWord) (Expects AttributeGreater) (Expects AttributeClose) (Expects MeasureType) tokens behind a (λ p g k. refl) (λ p g k. refl) (λ p g k. refl)
    (λ p g k. refl)
    )
    (
    thence (yields_first (Expects MeasureType) (Expects MeasureName) (word keyword.Type) behind named t (λ p g k. refl))
    (yields_at (Expects MeasureName) (HaveBase at x) (name x) at named rest n (λ g k. refl))
    )

-- ---- records

yields_var : (owner : VarOwner) (before : List VarSyntax) (v : VarSyntax) (tokens rest : List Token) → VarSpells v tokens rest → Yields decl_step (Expects (VarBegin owner before)) tokens (Expects (VarEnd owner (before ++ v ∷ []))) rest
yields_var owner before v tokens rest s =
    thence
    (
    yields_attribute (Expects (VarBegin owner before)) (Expects (VarWord owner before)) (Expects (VarGreater owner before)) (Expects (VarClose owner before)) (Expects (VarName owner before)) tokens s.0 s.1
    (λ p g k. refl) (λ p g k. refl) (λ p g k. refl) (λ p g k. refl)
    )
    (yields_at (Expects (VarName owner before)) (Expects (VarEnd owner (before ++ v ∷ []))) (variable v.name) v.at s.0 rest s.2 (λ g k. refl))

yields_more_vars : (vs : List VarSyntax) (owner : VarOwner) (before : List VarSyntax) (tokens rest : List Token) → MoreVars vs tokens rest
    → Yields decl_step (Expects (VarEnd owner before)) tokens (Expects (VarEnd owner (before ++ vs))) rest
yields_more_vars [] owner before tokens rest s = yields_here decl_step (Expects (VarEnd owner before)) (Expects (VarEnd owner (before ++ []))) tokens rest (ap (λ w. Expects (VarEnd owner w)) (sym (append-nil before))) s
yields_more_vars (v ∷ vs) owner before tokens rest s =
    thence (yields_first (Expects (VarEnd owner before)) (Expects (VarBegin owner before)) (mark symbol.Comma) tokens s.0 s.2 (λ p g k. refl))
    (
    thence (yields_var owner before v s.0 s.1 s.3)
    (
    yields_as decl_step (Expects (VarEnd owner (before ++ v ∷ []))) (Expects (VarEnd owner ((before ++ v ∷ []) ++ vs))) (Expects (VarEnd owner (before ++ v ∷ vs))) s.1 rest
    (yields_more_vars vs owner (before ++ v ∷ []) s.1 rest s.4) (ap (λ w. Expects (VarEnd owner w)) (append_assoc before (v ∷ []) vs))
    )
    )

yields_vars : (vs : List VarSyntax) (at : ℕ) (x : List ℕ) (tokens mid rest : List Token) → VarsSpell vs tokens mid → First equal mid rest → Yields decl_step (Expects (RecordVars at x)) tokens (Expects (RecordBrace at x vs)) rest
yields_vars [] at x tokens mid rest s e =
    yields_first (Expects (RecordVars at x)) (Expects (RecordBrace at x [])) equal tokens rest (subst (λ w. First equal w rest) (sym s) e) (λ p g k. refl)
yields_vars (v ∷ vs) at x tokens mid rest s e =
    thence (yields_first (Expects (RecordVars at x)) (Expects (VarBegin (OfRecord at x) [])) less tokens s.0 s.3 (λ p g k. refl))
    (
    thence (yields_var (OfRecord at x) [] v s.0 s.1 s.4)
    (
    thence (yields_more_vars vs (OfRecord at x) (v ∷ []) s.1 s.2 s.5)
    (
    thence (yields_first (Expects (VarEnd (OfRecord at x) (v ∷ vs))) (Expects (RecordEqual at x (v ∷ vs))) greater s.2 mid s.6 (λ p g k. refl))
    (yields_first (Expects (RecordEqual at x (v ∷ vs))) (Expects (RecordBrace at x (v ∷ vs))) equal mid rest e (λ p g k. refl))
    )
    )
    )

yields_field : (at : ℕ) (x : List ℕ) (vs : List VarSyntax) (before : List FieldDeclSyntax) (f : FieldDeclSyntax) (tokens rest : List Token) → FieldDeclSpells f tokens rest → TypeFits f.type
    → Yields decl_step (Expects (FieldName at x vs before)) tokens (InField at x vs before f.at f.name (HaveType 0 f.type)) rest
yields_field at x vs before f tokens rest s fits =
    thence (yields_at (Expects (FieldName at x vs before)) (Expects (FieldColon at x vs before f.at f.name)) (name f.name) f.at tokens s.0 s.2 (λ g k. refl))
    (
    thence (yields_first (Expects (FieldColon at x vs before f.at f.name)) (InField at x vs before f.at f.name (NeedType 0)) (mark symbol.Colon) s.0 s.1 s.3 (λ p g k. refl))
    (yields_type (λ w. InField at x vs before f.at f.name w) (field_inside at x vs before f.at f.name) f.type s.1 rest s.4 fits)
    )

-- the token after the type of a field
ends_field : (at : ℕ) (x : List ℕ) (vs : List VarSyntax) (before : List FieldDeclSyntax) (f : FieldDeclSyntax) (what : ExprToken) (new : DeclState) (tokens rest : List Token) → First what tokens rest
    → ((k : Kind) → expr_token k ≡ what → type_after 0 f.type k ≡ NoType) → field_ends at x vs before f.at f.name (Some f.type) what ≡ new
    → Yields decl_step (InField at x vs before f.at f.name (HaveType 0 f.type)) tokens new rest
ends_field at x vs before f what new tokens rest n stops e =
    let over : DeclState = field_ends at x vs before f.at f.name (Some f.type) (expr_token n.0.kind) in (
      n.0 ∷ [],
      n.2,
      ap (λ w. field_goes at x vs before f.at f.name w over) (stops n.0.kind n.1) ∙ ap (field_ends at x vs before f.at f.name (Some f.type)) n.1 ∙ e,
    )

yields_fields : (fs : List FieldDeclSyntax) (at : ℕ) (x : List ℕ) (vs : List VarSyntax) (before : List FieldDeclSyntax) (f : FieldDeclSyntax) (tokens mid rest : List Token) → MoreFieldDecls fs tokens mid
    → FieldDeclsFit fs → First (mark symbol.RightBrace) mid rest → Yields decl_step (InField at x vs before f.at f.name (HaveType 0 f.type)) tokens (HaveRecord at x vs (before ++ f ∷ fs)) rest
yields_fields [] at x vs before f tokens mid rest s fits c =
    ends_field at x vs before f (mark symbol.RightBrace) (HaveRecord at x vs (before ++ f ∷ [])) tokens rest (subst (λ w. First (mark symbol.RightBrace) w rest) (sym s) c)
    (λ k e. ap (type_after 0 f.type) (mark_is k symbol.RightBrace e)) refl
yields_fields (d ∷ fs) at x vs before f tokens mid rest s fits c =
    let more : List FieldDeclSyntax = before ++ f ∷ [] in
    thence
    (ends_field at x vs before f (mark symbol.Semicolon) (Expects (FieldName at x vs more)) tokens s.0 s.2 (λ k e. ap (type_after 0 f.type) (mark_is k symbol.Semicolon e)) refl)
    (
    thence (yields_field at x vs more d s.0 s.1 s.3 fits.0)
    (
    yields_as decl_step (InField at x vs more d.at d.name (HaveType 0 d.type)) (HaveRecord at x vs (more ++ d ∷ fs)) (HaveRecord at x vs (before ++ f ∷ d ∷ fs)) s.1 rest
    (yields_fields fs at x vs more d s.1 mid rest s.4 fits.1 c) (ap (HaveRecord at x vs) (append_assoc before (f ∷ []) (d ∷ fs)))
    )
    )

-- ---- functions

yields_param : (head : FunctionStart) (before : List ParamSyntax) (q : ParamSyntax) (tokens rest : List Token) → ParamSpells q tokens rest → TypeFits q.type
    → Yields decl_step (Expects (Params head before)) tokens (Expects (Params head (before ++ q ∷ []))) rest
yields_param head before q tokens rest s fits =
    thence (yields_first (Expects (Params head before)) (Expects (ParamBinder head before)) (mark symbol.LeftParen) tokens s.0 s.4 (λ p g k. refl))
    (
    thence
    (yields_binder (Expects (ParamBinder head before)) (λ z. Expects (ParamColon head before z)) q.binder s.0 s.1 s.5 (λ z p g k. refl) (λ p g k. refl))
    (
    thence
    (yields_first (Expects (ParamColon head before q.binder)) (InParam head before q.binder (NeedType 0)) (mark symbol.Colon) s.1 s.2 s.6 (λ p g k. refl))
    (
    thence (yields_type (λ w. InParam head before q.binder w) (param_inside head before q.binder) q.type s.2 s.3 s.7 fits) (
      s.8.0 ∷ [],
      s.8.2,
      ap (λ w. param_goes head before q.binder (type_after 0 q.type w) (param_ends head before q.binder (Some q.type) (expr_token s.8.0.kind))) (mark_is s.8.0.kind symbol.RightParen s.8.1)
          ∙ ap (param_ends head before q.binder (Some q.type)) s.8.1,
    )
    )
    )
    )

yields_params : (ps : List ParamSyntax) (head : FunctionStart) (before : List ParamSyntax) (tokens rest : List Token) → ParamsSpell ps tokens rest → ParamsFit ps
    → Yields decl_step (Expects (Params head before)) tokens (Expects (Params head (before ++ ps))) rest
yields_params [] head before tokens rest s fits =
    yields_here decl_step (Expects (Params head before)) (Expects (Params head (before ++ []))) tokens rest (ap (λ w. Expects (Params head w)) (sym (append-nil before))) s
yields_params (q ∷ ps) head before tokens rest s fits =
    thence (yields_param head before q tokens s.0 s.1 fits.0)
    (
    yields_as decl_step (Expects (Params head (before ++ q ∷ []))) (Expects (Params head ((before ++ q ∷ []) ++ ps))) (Expects (Params head (before ++ q ∷ ps))) s.0 rest
    (yields_params ps head (before ++ q ∷ []) s.0 rest s.2 fits.1) (ap (λ w. Expects (Params head w)) (append_assoc before (q ∷ []) ps))
    )

yields_result : (r : Option TypeSyntax) (head : FunctionStart) (ps : List ParamSyntax) (tokens mid rest : List Token) → ResultSpells r tokens mid → First equal mid rest → ResultFits head.recursive r
    → Yields decl_step (Expects (Params head ps)) tokens (InBody head ps r (Need [])) rest
yields_result None head ps tokens mid rest s e fits =
    yields_first (Expects (Params head ps)) (InBody head ps None (Need [])) equal tokens rest (subst (λ w. First equal w rest) (sym s) e) (λ p g k. ap (λ b. body_begins_if b head ps) fits)
yields_result (Some t) head ps tokens mid rest s e fits =
    let over : DeclState = result_ends head ps (Some t) (expr_token e.0.kind) in
    thence (yields_first (Expects (Params head ps)) (InResult head ps (NeedType 0)) (mark symbol.Colon) tokens s.0 s.1 (λ p g k. refl))
    (
    thence (yields_type (λ w. InResult head ps w) (result_inside head ps) t s.0 mid s.2 fits) (
      e.0 ∷ [],
      e.2,
      ap (λ w. result_goes head ps (type_after 0 t w) over) (equal_is e.0.kind e.1) ∙ ap (result_ends head ps (Some t)) e.1,
    )
    )

yields_name : (recursive : Bool) (at : ℕ) (x : List ℕ) (tokens mid rest : List Token) → RecSpells recursive tokens mid → FirstAt (name x) at mid rest
    → Yields decl_step (Expects LetName) tokens (Expects (FunctionVars recursive at x)) rest
yields_name false at x tokens mid rest s n =
    yields_at (Expects LetName) (Expects (FunctionVars false at x)) (name x) at tokens rest (subst (λ w. FirstAt (name x) at w rest) (sym s) n) (λ g k. refl)
yields_name true at x tokens mid rest s n =
    thence (yields_first (Expects LetName) (Expects RecName) (word keyword.Rec) tokens mid s (λ p g k. refl))
    (yields_at (Expects RecName) (Expects (FunctionVars true at x)) (name x) at mid rest n (λ g k. refl))

-- no `<` begins parameters, a result type or a body
abbrev is_no_less : ExprToken → Bool
is_no_less (operator (between.Compare compare.Lt)) = false
is_no_less _ = true

vars_alike : (recursive : Bool) (at : ℕ) (x : List ℕ) (w : ExprToken) (p : ℕ) (g : Bool) (k : Kind) → is_no_less w ≡ true
    → decl_act (Expects (FunctionVars recursive at x)) w p g k ≡ decl_act (Expects (Params (started recursive at x []) [])) w p g k
vars_alike recursive at x (operator (between.Compare compare.Lt)) p g k h = absurd cc
vars_alike recursive at x w p g k h = refl

abbrev FirstPasses : List Token → Type 0
FirstPasses tokens = (token : Token) × (more : List Token) × (tokens ≡ token ∷ more) × (is_no_less (expr_token token.kind) ≡ true)

passes : (what : ExprToken) (tokens rest : List Token) → First what tokens rest → is_no_less what ≡ true → FirstPasses tokens
passes what tokens rest f e = (f.0, rest, f.2, ap is_no_less f.1 ∙ e)

-- what stands after the unit parameters begins with no `<`
first_behind : (ps : List ParamSyntax) (r : Option TypeSyntax) (tokens result mid rest : List Token) → ParamsSpell ps tokens result → ResultSpells r result mid → First equal mid rest → FirstPasses tokens
first_behind (q ∷ ps) r tokens result mid rest s t e = passes (mark symbol.LeftParen) tokens s.1.0 s.1.4 refl
first_behind [] (Some t) tokens result mid rest s u e = passes (mark symbol.Colon) tokens u.0 (subst (λ w. First (mark symbol.Colon) w u.0) (sym s) u.1) refl
first_behind [] None tokens result mid rest s u e = passes equal tokens rest (subst (λ w. First equal w rest) (sym (s ∙ u)) e) refl

pub same_head : (x y : Token) (xs ys : List Token) → x ∷ xs ≡ y ∷ ys → x ≡ y
same_head x y xs ys e = cc

-- parameters, result and `=` are read after the name as after unit parameters
unparametered : (recursive : Bool) (at : ℕ) (x : List ℕ) (new : DeclState) (tokens rest : List Token) → FirstPasses tokens → Expects (Params (started recursive at x []) []) ≢ new
    → Yields decl_step (Expects (Params (started recursive at x []) [])) tokens new rest → Yields decl_step (Expects (FunctionVars recursive at x)) tokens new rest
unparametered recursive at x new tokens rest f apart y = alike y.0 y.1 y.2
  where
    alike : (read : List Token) → tokens ≡ read ++ rest → runs decl_step (Expects (Params (started recursive at x []) [])) read ≡ new → Yields decl_step (Expects (FunctionVars recursive at x)) tokens new rest
    alike [] parts ends = absurd (apart ends)
    alike (t ∷ ts) parts ends =
        let same : f.0 ≡ t = same_head f.0 t f.1 (ts ++ rest) (sym f.2 ∙ parts) in
        let free : is_no_less (expr_token t.kind) ≡ true = ap (λ (w : Token). is_no_less (expr_token w.kind)) (sym same) ∙ f.3 in
        (t ∷ ts, parts, ap (λ w. runs decl_step w ts) (vars_alike recursive at x (expr_token t.kind) t.start t.glued t.kind free) ∙ ends)

-- the unit parameters of a function
yields_units : (vs : List VarSyntax) (v : VarSyntax) (recursive : Bool) (at : ℕ) (x : List ℕ) (tokens rest : List Token) → VarsSpell (v ∷ vs) tokens rest
    → Yields decl_step (Expects (FunctionVars recursive at x)) tokens (Expects (Params (started recursive at x (v ∷ vs)) [])) rest
yields_units vs v recursive at x tokens rest s =
    let owner : VarOwner = OfFunction recursive at x in
    thence (yields_first (Expects (FunctionVars recursive at x)) (Expects (VarBegin owner [])) less tokens s.0 s.3 (λ p g k. refl))
    (
    thence (yields_var owner [] v s.0 s.1 s.4)
    (
    thence (yields_more_vars vs owner (v ∷ []) s.1 s.2 s.5)
    (yields_first (Expects (VarEnd owner (v ∷ vs))) (Expects (Params (started recursive at x (v ∷ vs)) [])) greater s.2 rest s.6 (λ p g k. refl))
    )
    )

-- parameters, result and `=`
yields_behind : (head : FunctionStart) (ps : List ParamSyntax) (r : Option TypeSyntax) (tokens result mid rest : List Token) → ParamsSpell ps tokens result → ParamsFit ps → ResultSpells r result mid → First equal mid rest
    → ResultFits head.recursive r → Yields decl_step (Expects (Params head [])) tokens (InBody head ps r (Need [])) rest
yields_behind head ps r tokens result mid rest s fit t e fits = thence (yields_params ps head [] tokens result s fit) (yields_result r head ps result mid rest t e fits)

yields_units_behind : (vs : List VarSyntax) (recursive : Bool) (at : ℕ) (x : List ℕ) (ps : List ParamSyntax) (r : Option TypeSyntax) (tokens params result mid rest : List Token) → VarsSpell vs tokens params
    → ParamsSpell ps params result → ParamsFit ps → ResultSpells r result mid → First equal mid rest → ResultFits recursive r
    → Yields decl_step (Expects (FunctionVars recursive at x)) tokens (InBody (started recursive at x vs) ps r (Need [])) rest
yields_units_behind [] recursive at x ps r tokens params result mid rest v s fit t e fits =
    let y = yields_behind (started recursive at x []) ps r params result mid rest s fit t e fits in
    subst (λ w. Yields decl_step (Expects (FunctionVars recursive at x)) w (InBody (started recursive at x []) ps r (Need [])) rest) (sym v)
    (unparametered recursive at x (InBody (started recursive at x []) ps r (Need [])) params rest (first_behind ps r params result mid rest s t e) (λ h. cc) y)
yields_units_behind (u ∷ us) recursive at x ps r tokens params result mid rest v s fit t e fits =
    thence (yields_units us u recursive at x tokens params v) (yields_behind (started recursive at x (u ∷ us)) ps r params result mid rest s fit t e fits)

yields_function : (f : FunctionSyntax) (tokens rest : List Token) → FunctionSpells f tokens rest → DeclFits (function_syntax f)
    → (b : Bool) × Yields decl_step (Expects DeclBegin) tokens (decl_into b (function_syntax f)) rest
yields_function f tokens rest s fits =
    let body = yields_body (start_of f) f.params f.result f.body s.6 rest s.14 fits.2 in (
      body.0,
      thence (yields_first (Expects DeclBegin) (Expects LetName) (word keyword.Let) tokens s.0 s.7 (λ p g k. refl))
          (
          thence (yields_name f.recursive f.at f.name s.0 s.1 s.2 s.8 s.9)
          (thence (yields_units_behind f.units f.recursive f.at f.name f.params f.result s.2 s.3 s.4 s.5 s.6 s.10 s.11 fits.0 s.12 s.13 fits.1) body.1)
          ),
    )

-- ---- declarations

pub decl_yields : (d : DeclSyntax) (tokens rest : List Token) → DeclSpells d tokens rest → DeclFits d → (b : Bool) × Yields decl_step (Expects DeclBegin) tokens (decl_into b d) rest
decl_yields (base_syntax at x) tokens rest s fits = (false, yields_measure at x tokens s.0 s.1 rest s.2 s.3 s.4)
decl_yields (short_syntax at x u) tokens rest s fits = (
  false,
  thence (yields_measure at x tokens s.0 s.1 s.2 s.4 s.5 s.6)
      (
      thence (yields_first (HaveBase at x) (InShort at x (NeedUnit [])) equal s.2 s.3 s.7 (λ p g k. refl)) (yields_unit at x u s.3 rest s.8 fits)
      ),
)
decl_yields (record_decl_syntax at x vs []) tokens rest s fits = absurd s.11
decl_yields (record_decl_syntax at x vs (f ∷ fs)) tokens rest s fits = (
  false,
  thence (yields_first (Expects DeclBegin) (Expects RecordName) (word keyword.Type) tokens s.0 s.6 (λ p g k. refl))
      (
      thence (yields_at (Expects RecordName) (Expects (RecordVars at x)) (name x) at s.0 s.1 s.7 (λ g k. refl))
      (
      thence (yields_vars vs at x s.1 s.2 s.3 s.8 s.9)
      (
      thence (yields_first (Expects (RecordBrace at x vs)) (Expects (FieldName at x vs [])) (mark symbol.LeftBrace) s.3 s.4 s.10 (λ p g k. refl))
      (thence (yields_field at x vs [] f s.4 s.11.0 s.11.1 fits.0) (yields_fields fs at x vs [] f s.11.0 s.5 rest s.11.2 fits.1 s.12))
      )
      )
      ),
)
decl_yields (function_syntax f) tokens rest s fits = yields_function f tokens rest s fits
