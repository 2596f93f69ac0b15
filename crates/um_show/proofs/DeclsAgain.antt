-- The tokens of the layout of a program are those of the same program, places aside.
use Rattle.std.proofs.Common.{◌≡◌, Bool, true, false, List, [], ◌∷◌, ◌++◌, Option, Some, None, map, refl, sym, ap, ◌∙◌, subst}
use Rattle.std.specs.List.{flat_map, join_by}
use Rattle.um_syntax.specs.declared.token.Token.{Token}
use Rattle.um_tree.specs.RawTree.{TypeSyntax, ExprSyntax, VarSyntax, FieldDeclSyntax, ParamSyntax, FunctionSyntax, DeclSyntax, base_syntax, short_syntax, record_decl_syntax, function_syntax}
use Rattle.um_types.specs.TypeGrammar.{TypeFits}
use Rattle.um_forms.specs.ExprTokens.{expr_token}
use Rattle.um_parse.specs.DeclGrammar.{Attribute, VarSpells, MoreVars, VarsSpell, FieldDeclSpells, MoreFieldDecls, FieldDeclsSpell, ParamSpells, ParamsSpell, ResultSpells, RecSpells, DeclSpells, DeclsSpell, FieldDeclsFit, ParamsFit, ResultFits, DeclFits, DeclsFit, IsProgram}
use Rattle.um_show.specs.Pieces.{Piece, space, line_end, name, variable, less, greater, equal, comma, semi, colon, let_word, type_word, measure_word, attribute_open, list_close, bracket_open, bracket_close, record_open, record_close}
use Rattle.um_show.specs.Layout.{unit_pieces, type_pieces, binder_piece, expr_pieces, var_pieces, var_list_pieces, field_decl_pieces, param_pieces, result_pieces, rec_pieces, function_pieces, decl_pieces, line_pieces, program_pieces}
use Rattle.um_show.specs.Unplaced.{bare_type, bare_expr, bare_var, bare_field_decl, bare_param, bare_result, bare_decl, bare_program}
use Rattle.um_show.proofs.PieceTokens.{PiecesSpell, both, only}
use Rattle.um_show.proofs.UnitsAgain.{unit_again}
use Rattle.um_show.proofs.TypesAgain.{type_again}
use Rattle.um_show.proofs.ExprsAgain.{past, led, spaced, binder_again, expr_again}

record Attributed (ps : List Piece) (tokens : List Token) (h : Bool) (rest : List Token) : Type 0 where
  pub flag : Bool
  pub next : List Token
  pub attribute : Attribute tokens next
  pub later : PiecesSpell ps flag next h rest

attributed : (ps : List Piece) (g : Bool) (tokens : List Token) (h : Bool) (rest : List Token) → PiecesSpell (attribute_open ∷ measure_word ∷ greater ∷ list_close ∷ ps) g tokens h rest → Attributed ps tokens h rest
attributed ps g tokens h rest s =
    let w = s.later in let c = w.later in let l = c.later in let o = s.here in let ow = w.here in let oc = c.here in let ol = l.here in
    record { flag = l.flag; next = l.next; attribute = (s.next, w.next, c.next, (o.token, ap expr_token o.kind, o.first), (ow.token, ap expr_token ow.kind, ow.first), (oc.token, ap expr_token oc.kind, oc.first), (ol.token, ap expr_token ol.kind, ol.first)); later = l.later }

record VarAgain (v : VarSyntax) (tokens rest : List Token) : Type 0 where
  pub again : VarSyntax
  pub spelled : VarSpells again tokens rest
  pub same : bare_var again ≡ bare_var v

var_again : (v : VarSyntax) (g : Bool) (tokens : List Token) (h : Bool) (rest : List Token) → PiecesSpell (var_pieces v) g tokens h rest → VarAgain v tokens rest
var_again v g tokens h rest s =
    let a = attributed (space ∷ variable v.name ∷ []) g tokens h rest s in let o = only (variable v.name) false a.next h rest (past (variable v.name ∷ []) a.flag a.next h rest a.later) in
    record { again = record { at = o.token.start; name = v.name }; spelled = (a.next, a.attribute, (o.token, ap expr_token o.kind, refl, o.first)); same = refl }

record MoreVarsAgain (vs : List VarSyntax) (tokens rest : List Token) : Type 0 where
  pub again : List VarSyntax
  pub spelled : MoreVars again tokens rest
  pub same : map bare_var again ≡ map bare_var vs

abbrev later_vars : List VarSyntax → List Piece
later_vars vs = flat_map (λ v. (comma ∷ space ∷ []) ++ var_pieces v) vs

more_vars_again : (vs : List VarSyntax) (g : Bool) (tokens : List Token) (h : Bool) (rest : List Token) → PiecesSpell (later_vars vs) g tokens h rest → MoreVarsAgain vs tokens rest
more_vars_again [] g tokens h rest s = record { again = []; spelled = s.same; same = refl }
more_vars_again (v ∷ vs) g tokens h rest s =
    let b = both (comma ∷ space ∷ var_pieces v) (later_vars vs) g tokens h rest s in let l = led comma (var_pieces v) g tokens b.flag b.next b.here in let o = l.here in
    let x = var_again v false l.next b.flag b.next l.later in let r = more_vars_again vs b.flag b.next h rest b.later in
    record { again = x.again ∷ r.again; spelled = (l.next, b.next, (o.token, ap expr_token o.kind, o.first), x.spelled, r.spelled); same = ap (λ y. y ∷ map bare_var r.again) x.same ∙ ap (λ ys. bare_var v ∷ ys) r.same }

record VarsAgain (vs : List VarSyntax) (tokens rest : List Token) : Type 0 where
  pub again : List VarSyntax
  pub spelled : VarsSpell again tokens rest
  pub same : map bare_var again ≡ map bare_var vs

vars_again : (vs : List VarSyntax) (g : Bool) (tokens : List Token) (h : Bool) (rest : List Token) → PiecesSpell (var_list_pieces vs) g tokens h rest → VarsAgain vs tokens rest
vars_again [] g tokens h rest s = record { again = []; spelled = s.same; same = refl }
vars_again (v ∷ vs) g tokens h rest s =
    let p = both (less ∷ (var_pieces v ++ later_vars vs)) (greater ∷ []) g tokens h rest s in let o = p.here.here in
    let b = both (var_pieces v) (later_vars vs) p.here.flag p.here.next p.flag p.next p.here.later in
    let x = var_again v p.here.flag p.here.next b.flag b.next b.here in let r = more_vars_again vs b.flag b.next p.flag p.next b.later in let c = only greater p.flag p.next h rest p.later in
    record { again = x.again ∷ r.again; spelled = (p.here.next, b.next, p.next, (o.token, ap expr_token o.kind, o.first), x.spelled, r.spelled, (c.token, ap expr_token c.kind, c.first)); same = ap (λ y. y ∷ map bare_var r.again) x.same ∙ ap (λ ys. bare_var v ∷ ys) r.same }

record FieldDeclAgain (f : FieldDeclSyntax) (tokens rest : List Token) : Type 0 where
  pub again : FieldDeclSyntax
  pub spelled : FieldDeclSpells again tokens rest
  pub fits : TypeFits again.type
  pub same : bare_field_decl again ≡ bare_field_decl f

field_decl_again : (f : FieldDeclSyntax) → TypeFits f.type → (g : Bool) (tokens : List Token) (h : Bool) (rest : List Token) → PiecesSpell (field_decl_pieces f) g tokens h rest → FieldDeclAgain f tokens rest
field_decl_again f fit g tokens h rest s =
    let o = s.here in let l = led colon (type_pieces f.type) s.flag s.next h rest s.later in let c = l.here in let r = type_again f.type fit false l.next h rest l.later in
    record { again = record { at = o.token.start; name = f.name; type = r.again }; spelled = (s.next, l.next, (o.token, ap expr_token o.kind, refl, o.first), (c.token, ap expr_token c.kind, c.first), r.spelled); fits = r.fits; same = ap (λ t. record { at = 0; name = f.name; type = t }) r.same }

record MoreFieldDeclsAgain (fs : List FieldDeclSyntax) (tokens rest : List Token) : Type 0 where
  pub again : List FieldDeclSyntax
  pub spelled : MoreFieldDecls again tokens rest
  pub fits : FieldDeclsFit again
  pub same : map bare_field_decl again ≡ map bare_field_decl fs

abbrev later_fields : List FieldDeclSyntax → List Piece
later_fields fs = flat_map (λ f. (semi ∷ space ∷ []) ++ field_decl_pieces f) fs

more_field_decls_again : (fs : List FieldDeclSyntax) → FieldDeclsFit fs → (g : Bool) (tokens : List Token) (h : Bool) (rest : List Token) → PiecesSpell (later_fields fs) g tokens h rest → MoreFieldDeclsAgain fs tokens rest
more_field_decls_again [] fit g tokens h rest s = record { again = []; spelled = s.same; fits = tt; same = refl }
more_field_decls_again (f ∷ fs) fit g tokens h rest s =
    let b = both (semi ∷ space ∷ field_decl_pieces f) (later_fields fs) g tokens h rest s in let l = led semi (field_decl_pieces f) g tokens b.flag b.next b.here in let o = l.here in
    let x = field_decl_again f fit.0 false l.next b.flag b.next l.later in let r = more_field_decls_again fs fit.1 b.flag b.next h rest b.later in
    record { again = x.again ∷ r.again; spelled = (l.next, b.next, (o.token, ap expr_token o.kind, o.first), x.spelled, r.spelled); fits = (x.fits, r.fits); same = ap (λ y. y ∷ map bare_field_decl r.again) x.same ∙ ap (λ ys. bare_field_decl f ∷ ys) r.same }

record FieldDeclsAgain (fs : List FieldDeclSyntax) (tokens rest : List Token) : Type 0 where
  pub again : List FieldDeclSyntax
  pub spelled : FieldDeclsSpell again tokens rest
  pub fits : FieldDeclsFit again
  pub same : map bare_field_decl again ≡ map bare_field_decl fs

field_decls_again : (fs : List FieldDeclSyntax) → FieldDeclsFit fs → (old end : List Token) → FieldDeclsSpell fs old end → (g : Bool) (tokens : List Token) (h : Bool) (rest : List Token) → PiecesSpell (join_by field_decl_pieces (semi ∷ space ∷ []) fs) g tokens h rest → FieldDeclsAgain fs tokens rest
field_decls_again [] fit old end q g tokens h rest s = absurd q
field_decls_again (f ∷ fs) fit old end q g tokens h rest s =
    let b = both (field_decl_pieces f) (later_fields fs) g tokens h rest s in
    let x = field_decl_again f fit.0 g tokens b.flag b.next b.here in let r = more_field_decls_again fs fit.1 b.flag b.next h rest b.later in
    record { again = x.again ∷ r.again; spelled = (b.next, x.spelled, r.spelled); fits = (x.fits, r.fits); same = ap (λ y. y ∷ map bare_field_decl r.again) x.same ∙ ap (λ ys. bare_field_decl f ∷ ys) r.same }

record ParamAgain (p : ParamSyntax) (tokens rest : List Token) : Type 0 where
  pub again : ParamSyntax
  pub spelled : ParamSpells again tokens rest
  pub fits : TypeFits again.type
  pub same : bare_param again ≡ bare_param p

param_again : (p : ParamSyntax) → TypeFits p.type → (g : Bool) (tokens : List Token) (h : Bool) (rest : List Token) → PiecesSpell (param_pieces p) g tokens h rest → ParamAgain p tokens rest
param_again p fit g tokens h rest s =
    let b = both (space ∷ bracket_open ∷ binder_piece p.binder ∷ colon ∷ space ∷ type_pieces p.type) (bracket_close ∷ []) g tokens h rest s in
    let e = past (bracket_open ∷ binder_piece p.binder ∷ colon ∷ space ∷ type_pieces p.type) g tokens b.flag b.next b.here in let o = e.here in let n = e.later in
    let x = binder_again p.binder.at p.binder.name e.flag e.next n.flag n.next n.here in let l = led colon (type_pieces p.type) n.flag n.next b.flag b.next n.later in let c = l.here in
    let r = type_again p.type fit false l.next b.flag b.next l.later in let z = only bracket_close b.flag b.next h rest b.later in
    record { again = record { binder = x.again; type = r.again }; spelled = (e.next, n.next, l.next, b.next, (o.token, ap expr_token o.kind, o.first), x.spelled, (c.token, ap expr_token c.kind, c.first), r.spelled, (z.token, ap expr_token z.kind, z.first)); fits = r.fits; same = ap (λ y. record { binder = y; type = bare_type r.again }) x.same ∙ ap (λ t. record { binder = record { at = 0; name = p.binder.name }; type = t }) r.same }

record ParamsAgain (ps : List ParamSyntax) (tokens rest : List Token) : Type 0 where
  pub again : List ParamSyntax
  pub spelled : ParamsSpell again tokens rest
  pub fits : ParamsFit again
  pub same : map bare_param again ≡ map bare_param ps

params_again : (ps : List ParamSyntax) → ParamsFit ps → (g : Bool) (tokens : List Token) (h : Bool) (rest : List Token) → PiecesSpell (flat_map param_pieces ps) g tokens h rest → ParamsAgain ps tokens rest
params_again [] fit g tokens h rest s = record { again = []; spelled = s.same; fits = tt; same = refl }
params_again (p ∷ ps) fit g tokens h rest s =
    let b = both (param_pieces p) (flat_map param_pieces ps) g tokens h rest s in let x = param_again p fit.0 g tokens b.flag b.next b.here in let r = params_again ps fit.1 b.flag b.next h rest b.later in
    record { again = x.again ∷ r.again; spelled = (b.next, x.spelled, r.spelled); fits = (x.fits, r.fits); same = ap (λ y. y ∷ map bare_param r.again) x.same ∙ ap (λ ys. bare_param p ∷ ys) r.same }

record ResultAgain (recursive : Bool) (t : Option TypeSyntax) (tokens rest : List Token) : Type 0 where
  pub again : Option TypeSyntax
  pub spelled : ResultSpells again tokens rest
  pub fits : ResultFits recursive again
  pub same : bare_result again ≡ bare_result t

result_again : (recursive : Bool) (t : Option TypeSyntax) → ResultFits recursive t → (g : Bool) (tokens : List Token) (h : Bool) (rest : List Token) → PiecesSpell (result_pieces t) g tokens h rest → ResultAgain recursive t tokens rest
result_again recursive None fit g tokens h rest s = record { again = None; spelled = s.same; fits = fit; same = refl }
result_again recursive (Some t) fit g tokens h rest s =
    let l = spaced colon (type_pieces t) g tokens h rest s in let o = l.here in let r = type_again t fit false l.next h rest l.later in
    record { again = Some r.again; spelled = (l.next, (o.token, ap expr_token o.kind, o.first), r.spelled); fits = r.fits; same = ap (λ x. Some x) r.same }

rec_again : (recursive : Bool) (g : Bool) (tokens : List Token) (h : Bool) (rest : List Token) → PiecesSpell (rec_pieces recursive) g tokens h rest → RecSpells recursive tokens rest
rec_again false g tokens h rest s = s.same
rec_again true g tokens h rest s =
    let o = s.here in let blank = only space s.flag s.next h rest s.later in
    (o.token, ap expr_token o.kind, o.first ∙ ap (λ t. o.token ∷ t) blank.none)

pub record DeclAgain (d : DeclSyntax) (tokens rest : List Token) : Type 0 where
  pub again : DeclSyntax
  pub spelled : DeclSpells again tokens rest
  pub fits : DeclFits again
  pub same : bare_decl again ≡ bare_decl d

-- a function without places, by its parts
abbrev bare_parts : FunctionSyntax → List VarSyntax → List ParamSyntax → Option TypeSyntax → ExprSyntax → DeclSyntax
bare_parts f vs ps r e = function_syntax (record { at = 0; name = f.name; recursive = f.recursive; units = vs; params = ps; result = r; body = e })

function_again : (f : FunctionSyntax) → DeclFits (function_syntax f) → (old end : List Token) → DeclSpells (function_syntax f) old end → (g : Bool) (tokens : List Token) (h : Bool) (rest : List Token) → PiecesSpell (function_pieces f) g tokens h rest → DeclAgain (function_syntax f) tokens rest
function_again f fit old end q g tokens h rest s =
    let start = let_word ∷ space ∷ rec_pieces f.recursive in let named = name f.name ∷ var_list_pieces f.units in let params = flat_map param_pieces f.params in
    let b = both (((start ++ named) ++ params) ++ result_pieces f.result) (space ∷ equal ∷ space ∷ expr_pieces f.body) g tokens h rest s in
    let c = both ((start ++ named) ++ params) (result_pieces f.result) g tokens b.flag b.next b.here in
    let k = both (start ++ named) params g tokens c.flag c.next c.here in let d = both start named g tokens k.flag k.next k.here in
    let l = led let_word (rec_pieces f.recursive) g tokens d.flag d.next d.here in let ol = l.here in let n = d.later in let on = n.here in
    let vs = vars_again f.units n.flag n.next k.flag k.next n.later in
    let ps = params_again f.params fit.0 k.flag k.next c.flag c.next k.later in let t = result_again f.recursive f.result fit.1 c.flag c.next b.flag b.next c.later in
    let e = spaced equal (expr_pieces f.body) b.flag b.next h rest b.later in let oe = e.here in let x = expr_again f.body fit.2 q.6 end q.14 false e.next h rest e.later in
    let units = map bare_var f.units in let bare = map bare_param f.params in
    record { again = function_syntax (record { at = on.token.start; name = f.name; recursive = f.recursive; units = vs.again; params = ps.again; result = t.again; body = x.again }); spelled = (l.next, d.next, n.next, k.next, c.next, b.next, e.next, (ol.token, ap expr_token ol.kind, ol.first), rec_again f.recursive false l.next d.flag d.next l.later, (on.token, ap expr_token on.kind, refl, on.first), vs.spelled, ps.spelled, t.spelled, (oe.token, ap expr_token oe.kind, oe.first), x.spelled); fits = (ps.fits, t.fits, x.fits); same = ap (λ y. bare_parts f y (map bare_param ps.again) (bare_result t.again) (bare_expr x.again)) vs.same ∙ ap (λ y. bare_parts f units y (bare_result t.again) (bare_expr x.again)) ps.same ∙ ap (λ y. bare_parts f units bare y (bare_expr x.again)) t.same ∙ ap (bare_parts f units bare (bare_result f.result)) x.same }

pub decl_again : (d : DeclSyntax) → DeclFits d → (old end : List Token) → DeclSpells d old end → (g : Bool) (tokens : List Token) (h : Bool) (rest : List Token) → PiecesSpell (decl_pieces d) g tokens h rest → DeclAgain d tokens rest
decl_again (base_syntax at x) fit old end q g tokens h rest s =
    let a = attributed (space ∷ type_word ∷ space ∷ name x ∷ []) g tokens h rest s in let t = spaced type_word (name x ∷ []) a.flag a.next h rest a.later in
    let o = t.here in let n = only (name x) false t.next h rest t.later in
    record { again = base_syntax n.token.start x; spelled = (a.next, t.next, a.attribute, (o.token, ap expr_token o.kind, o.first), (n.token, ap expr_token n.kind, refl, n.first)); fits = tt; same = refl }
decl_again (short_syntax at x u) fit old end q g tokens h rest s =
    let a = attributed (space ∷ type_word ∷ space ∷ name x ∷ space ∷ equal ∷ space ∷ unit_pieces u) g tokens h rest s in
    let t = spaced type_word (name x ∷ space ∷ equal ∷ space ∷ unit_pieces u) a.flag a.next h rest a.later in let n = led (name x) (equal ∷ space ∷ unit_pieces u) false t.next h rest t.later in
    let e = led equal (unit_pieces u) false n.next h rest n.later in let ot = t.here in let on = n.here in let oe = e.here in let r = unit_again u fit false e.next h rest e.later in
    record { again = short_syntax on.token.start x r.again; spelled = (a.next, t.next, n.next, e.next, a.attribute, (ot.token, ap expr_token ot.kind, ot.first), (on.token, ap expr_token on.kind, refl, on.first), (oe.token, ap expr_token oe.kind, oe.first), r.spelled); fits = r.fits; same = ap (short_syntax 0 x) r.same }
decl_again (record_decl_syntax at x vs fs) fit old end q g tokens h rest s =
    let fields = join_by field_decl_pieces (semi ∷ space ∷ []) fs in
    let b = both ((type_word ∷ space ∷ name x ∷ var_list_pieces vs) ++ space ∷ equal ∷ space ∷ record_open ∷ space ∷ fields) (space ∷ record_close ∷ []) g tokens h rest s in
    let c = both (type_word ∷ space ∷ name x ∷ var_list_pieces vs) (space ∷ equal ∷ space ∷ record_open ∷ space ∷ fields) g tokens b.flag b.next b.here in
    let t = led type_word (name x ∷ var_list_pieces vs) g tokens c.flag c.next c.here in let n = t.later in let ot = t.here in let on = n.here in
    let v = vars_again vs n.flag n.next c.flag c.next n.later in let e = spaced equal (record_open ∷ space ∷ fields) c.flag c.next b.flag b.next c.later in
    let p = led record_open fields false e.next b.flag b.next e.later in let oe = e.here in let op = p.here in
    let r = field_decls_again fs fit q.4 q.5 q.11 false p.next b.flag b.next p.later in let z = only record_close false b.next h rest (past (record_close ∷ []) b.flag b.next h rest b.later) in
    record { again = record_decl_syntax on.token.start x v.again r.again; spelled = (t.next, n.next, c.next, e.next, p.next, b.next, (ot.token, ap expr_token ot.kind, ot.first), (on.token, ap expr_token on.kind, refl, on.first), v.spelled, (oe.token, ap expr_token oe.kind, oe.first), (op.token, ap expr_token op.kind, op.first), r.spelled, (z.token, ap expr_token z.kind, z.first)); fits = r.fits; same = ap (λ y. record_decl_syntax 0 x y (map bare_field_decl r.again)) v.same ∙ ap (record_decl_syntax 0 x (map bare_var vs)) r.same }
decl_again (function_syntax f) fit old end q g tokens h rest s = function_again f fit old end q g tokens h rest s

pub record DeclsAgain (ds : List DeclSyntax) (tokens rest : List Token) : Type 0 where
  pub again : List DeclSyntax
  pub spelled : DeclsSpell again tokens rest
  pub fits : DeclsFit again
  pub same : bare_program again ≡ bare_program ds

pub decls_again : (ds : List DeclSyntax) → DeclsFit ds → (old end : List Token) → DeclsSpell ds old end → (g : Bool) (tokens : List Token) (h : Bool) (rest : List Token) → PiecesSpell (program_pieces ds) g tokens h rest → DeclsAgain ds tokens rest
decls_again [] fit old end q g tokens h rest s = record { again = []; spelled = s.same; fits = tt; same = refl }
decls_again (d ∷ ds) fit old end q g tokens h rest s =
    let b = both (line_pieces d) (program_pieces ds) g tokens h rest s in let c = both (decl_pieces d) (line_end ∷ []) g tokens b.flag b.next b.here in
    let z = only line_end c.flag c.next b.flag b.next c.later in let x = decl_again d fit.0 old q.0 q.1 g tokens c.flag c.next c.here in let r = decls_again ds fit.1 q.0 end q.2 b.flag b.next h rest b.later in
    record { again = x.again ∷ r.again; spelled = (c.next, x.spelled, subst (λ ts. DeclsSpell r.again ts rest) (sym z.none) r.spelled); fits = (x.fits, r.fits); same = ap (λ y. y ∷ bare_program r.again) x.same ∙ ap (λ ys. bare_decl d ∷ ys) r.same }

-- where the tokens of a layout are those of its pieces, they are the same program, places aside
pub program_again : (ds : List DeclSyntax) (old tokens : List Token) (h : Bool) → IsProgram old ds → PiecesSpell (program_pieces ds) false tokens h [] → (again : List DeclSyntax) × IsProgram tokens again × (bare_program again ≡ bare_program ds)
program_again ds old tokens h program s =
    let r = decls_again ds program.fits old [] program.spelled false tokens h [] s in
    (r.again, record { spelled = r.spelled; fits = r.fits }, r.same)
