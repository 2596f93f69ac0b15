-- What a program spells is read as it; what is refused begins none; one program per list of tokens.
use Rattle.std.proofs.Common.{◌≡◌, ◌≢◌, ℕ, List, [], ◌∷◌, ◌++◌, Bool, true, false, Some, refl, sym, ap, ◌∙◌, append_assoc}
use Rattle.std.proofs.lemmas.List.{append-nil}
use Rattle.um_syntax.specs.declared.token.Token.{Token}
use Rattle.um_syntax.specs.declared.token.Kind.{Kind}
use Rattle.um_tree.specs.RawTree.{ExprSyntax, DeclSyntax, base_syntax, short_syntax, record_decl_syntax, function_syntax}
use Rattle.um_reader.specs.Machine.{runs, Yields}
use Rattle.um_reader.proofs.Reaching.{yields_then, lift}
use Rattle.um_unit_texts.proofs.UnitComplete.{into as unit_into}
use Rattle.um_unit_texts.specs.UnitTokens.{unit_token}
use Rattle.um_unit_texts.proofs.ForeignTokens.{foreign_refused}
use Rattle.um_vocabulary.specs.declared.vocabulary.Keyword.TheVariants as keyword
use Rattle.um_vocabulary.specs.declared.vocabulary.Symbol.TheVariants as symbol
use Rattle.um_operands.specs.ExprBegun.{Frame, Refused}
use Rattle.um_forms.specs.declared.token.ExprToken.{ExprToken}
use Rattle.um_forms.specs.declared.token.ExprToken.TheVariants.{Word as word, Mark as mark}
use Rattle.um_forms.specs.ExprTokens.{expr_token}
use Rattle.um_expr.specs.ExprMachine.{act}
use Rattle.um_parse.specs.DeclGrammar.{DeclSpells, DeclsSpell, DeclFits, DeclsFit, IsProgram}
use Rattle.um_decls.specs.DeclMachine.{start_of, DeclBegin, DeclState, Expects, NoDecl, base_after, short_goes, body_goes, decl_step, decl_finish, ProgramState, InProgram, program_goes, next_decl, program_step, program_found, program_finish}
use Rattle.um_expr.proofs.ExprTokenKinds.{begins_decl, decl_is_foreign}
use Rattle.um_expr.proofs.ExprEnds.{opened, last_atom}
use Rattle.um_expr.proofs.ExprAtEnd.{at_end}
use Rattle.um_parse.proofs.DeclComplete.{decl_into, decl_finds, decl_yields, same_head}

-- ---- what begins a declaration ends the one before it

base_stops : (at : ℕ) (x : List ℕ) (w : ExprToken) → begins_decl w ≡ true → base_after at x w ≡ NoDecl
base_stops at x (mark symbol.AttributeOpen) h = refl
base_stops at x (word keyword.Type) h = refl
base_stops at x (word keyword.Let) h = refl
base_stops at x _ h = absurd cc

expr_stops : (b : Bool) (frames : List Frame) (t : ExprSyntax) (w : ExprToken) (p : ℕ) (g : Bool) (k : Kind) → begins_decl w ≡ true → act (at_end b frames t) w p g k ≡ Refused
expr_stops false frames t (mark symbol.AttributeOpen) p g k h = refl
expr_stops false frames t (word keyword.Type) p g k h = refl
expr_stops false frames t (word keyword.Let) p g k h = refl
expr_stops true frames t (mark symbol.AttributeOpen) p g k h = refl
expr_stops true frames t (word keyword.Type) p g k h = refl
expr_stops true frames t (word keyword.Let) p g k h = refl
expr_stops b frames t _ p g k h = absurd cc

decl_stops : (b : Bool) (d : DeclSyntax) (token : Token) → begins_decl (expr_token token.kind) ≡ true → decl_step (decl_into b d) token ≡ NoDecl
decl_stops b (base_syntax at x) token h = base_stops at x (expr_token token.kind) h
decl_stops b (short_syntax at x u) token h =
    ap (short_goes at x) (foreign_refused (unit_into [] u) (unit_token token.kind) token.start (decl_is_foreign token.kind h))
decl_stops b (record_decl_syntax at x vs fs) token h = refl
decl_stops b (function_syntax f) token h =
    ap (body_goes (start_of f) f.params f.result) (expr_stops b (opened [] f.body) (last_atom f.body) (expr_token token.kind) token.start token.glued token.kind h)

-- ---- declarations one after the other

goes_on : (decls : List DeclSyntax) (new : DeclState) (over : ProgramState) → new ≢ NoDecl → program_goes decls new over ≡ InProgram decls new
goes_on decls NoDecl over ok = absurd (ok refl)
goes_on decls _ over ok = refl

pub decl_inside : (decls : List DeclSyntax) (d new : DeclState) (token : Token) → decl_step d token ≡ new → new ≢ NoDecl → program_step (InProgram decls d) token ≡ InProgram decls new
decl_inside decls d new token e ok =
    let over : ProgramState = next_decl decls (decl_finish d) (decl_step (Expects DeclBegin) token) in
    ap (λ w. program_goes decls w over) e ∙ goes_on decls new over ok

into_on : (b : Bool) (d : DeclSyntax) → decl_into b d ≢ NoDecl
into_on b (base_syntax at x) e = cc
into_on b _ e = cc

begin_apart : (b : Bool) (d : DeclSyntax) → Expects DeclBegin ≢ decl_into b d
begin_apart b (base_syntax at x) e = cc
begin_apart b _ e = cc

-- a declaration is read
yields_decl : (decls : List DeclSyntax) (d : DeclSyntax) (tokens rest : List Token) → DeclSpells d tokens rest → DeclFits d
    → (b : Bool) × Yields program_step (InProgram decls (Expects DeclBegin)) tokens (InProgram decls (decl_into b d)) rest
yields_decl decls d tokens rest s fits =
    let r = decl_yields d tokens rest s fits in
    let y = r.1 in
    (r.0, (y.0, y.1, lift decl_step NoDecl (λ t. refl) program_step (λ w. InProgram decls w) (decl_inside decls) y.0 (Expects DeclBegin) (decl_into r.0 d) y.2 (into_on r.0 d)))

abbrev FirstPasses : List Token → Type 0
FirstPasses tokens = (token : Token) × (more : List Token) × (tokens ≡ token ∷ more) × (begins_decl (expr_token token.kind) ≡ true)

decl_first : (d : DeclSyntax) (tokens rest : List Token) → DeclSpells d tokens rest → FirstPasses tokens
decl_first (base_syntax at x) tokens rest s = let a = s.2.3 in (a.0, s.2.0, a.2, ap begins_decl a.1)
decl_first (short_syntax at x u) tokens rest s = let a = s.4.3 in (a.0, s.4.0, a.2, ap begins_decl a.1)
decl_first (record_decl_syntax at x vs fs) tokens rest s = let a = s.6 in (a.0, s.0, a.2, ap begins_decl a.1)
decl_first (function_syntax f) tokens rest s = let a = s.7 in (a.0, s.0, a.2, ap begins_decl a.1)

-- after a declaration the next begins as at the start
next_alike : (decls : List DeclSyntax) (b : Bool) (d : DeclSyntax) (token : Token) → DeclFits d → begins_decl (expr_token token.kind) ≡ true
    → program_step (InProgram decls (decl_into b d)) token ≡ program_step (InProgram (decls ++ d ∷ []) (Expects DeclBegin)) token
next_alike decls b d token fits h =
    let begun : DeclState = decl_step (Expects DeclBegin) token in
    ap (λ w. program_goes decls w (next_decl decls (decl_finish (decl_into b d)) begun)) (decl_stops b d token h) ∙ ap (λ o. next_decl decls o begun) (decl_finds b d fits)

yields_next : (decls : List DeclSyntax) (b : Bool) (d e : DeclSyntax) (tokens rest : List Token) → DeclFits d → DeclSpells e tokens rest → DeclFits e
    → (c : Bool) × Yields program_step (InProgram decls (decl_into b d)) tokens (InProgram (decls ++ d ∷ []) (decl_into c e)) rest
yields_next decls b d e tokens rest fit s fits =
    let p = yields_decl (decls ++ d ∷ []) e tokens rest s fits in
    let y = p.1 in
    (p.0, alike p.0 y.0 y.1 y.2)
  where
    first : FirstPasses tokens
    first = decl_first e tokens rest s

    same_decl : (more : List DeclSyntax) (x y : DeclState) → InProgram more x ≡ InProgram more y → x ≡ y
    same_decl more x y h = cc

    alike : (c : Bool) (read : List Token) → tokens ≡ read ++ rest → runs program_step (InProgram (decls ++ d ∷ []) (Expects DeclBegin)) read ≡ InProgram (decls ++ d ∷ []) (decl_into c e)
        → Yields program_step (InProgram decls (decl_into b d)) tokens (InProgram (decls ++ d ∷ []) (decl_into c e)) rest
    alike c [] parts ends = absurd (begin_apart c e (same_decl (decls ++ d ∷ []) (Expects DeclBegin) (decl_into c e) ends))
    alike c (x ∷ xs) parts ends =
        let same : first.0 ≡ x = same_head first.0 x first.1 (xs ++ rest) (sym first.2 ∙ parts) in
        let passes : begins_decl (expr_token x.kind) ≡ true = ap (λ (t : Token). begins_decl (expr_token t.kind)) (sym same) ∙ first.3 in
        (x ∷ xs, parts, ap (λ w. runs program_step w xs) (next_alike decls b d x fit passes) ∙ ends)

-- the state once declarations were read
abbrev pub program_into : Bool → List DeclSyntax → List DeclSyntax → ProgramState
program_into b decls [] = InProgram decls (Expects DeclBegin)
program_into b decls (d ∷ []) = InProgram decls (decl_into b d)
program_into b decls (d ∷ e ∷ ds) = program_into b (decls ++ d ∷ []) (e ∷ ds)

more_decls : (ds : List DeclSyntax) (b : Bool) (d : DeclSyntax) (decls : List DeclSyntax) (tokens rest : List Token) → DeclFits d → DeclsSpell ds tokens rest → DeclsFit ds
    → (c : Bool) × Yields program_step (InProgram decls (decl_into b d)) tokens (program_into c decls (d ∷ ds)) rest
more_decls [] b d decls tokens rest fit s fits = (b, ([], s, refl))
more_decls (e ∷ ds) b d decls tokens rest fit s fits =
    let next = yields_next decls b d e tokens s.0 fit s.1 fits.0 in
    let more = more_decls ds next.0 e (decls ++ d ∷ []) s.0 rest fits.0 s.2 fits.1 in
    (more.0, yields_then program_step (InProgram decls (decl_into b d)) (InProgram (decls ++ d ∷ []) (decl_into next.0 e)) (program_into more.0 decls (d ∷ e ∷ ds)) tokens s.0 rest next.1 more.1)

program_leads : (ds : List DeclSyntax) (tokens rest : List Token) → DeclsSpell ds tokens rest → DeclsFit ds
    → (b : Bool) × Yields program_step (InProgram [] (Expects DeclBegin)) tokens (program_into b [] ds) rest
program_leads [] tokens rest s fits = (false, ([], s, refl))
program_leads (d ∷ ds) tokens rest s fits =
    let one = yields_decl [] d tokens s.0 s.1 fits.0 in
    let more = more_decls ds one.0 d [] s.0 rest fits.0 s.2 fits.1 in
    (more.0, yields_then program_step (InProgram [] (Expects DeclBegin)) (InProgram [] (decl_into one.0 d)) (program_into more.0 [] (d ∷ ds)) tokens s.0 rest one.1 more.1)

-- ---- laws

found_one : (decls : List DeclSyntax) (b : Bool) (d : DeclSyntax) → program_finish (InProgram decls (decl_into b d)) ≡ program_found decls (decl_finish (decl_into b d))
found_one decls b (base_syntax at x) = refl
found_one decls b _ = refl

finds_all : (ds : List DeclSyntax) (b : Bool) (d : DeclSyntax) (decls : List DeclSyntax) → DeclsFit (d ∷ ds) → program_finish (program_into b decls (d ∷ ds)) ≡ Some (decls ++ d ∷ ds)
finds_all [] b d decls fits = found_one decls b d ∙ ap (program_found decls) (decl_finds b d fits.0)
finds_all (e ∷ ds) b d decls fits = finds_all ds b e (decls ++ d ∷ []) fits.1 ∙ ap Some (append_assoc decls (d ∷ []) (e ∷ ds))

pub program_finds : (b : Bool) (ds : List DeclSyntax) → DeclsFit ds → program_finish (program_into b [] ds) ≡ Some ds
program_finds b [] fits = refl
program_finds b (d ∷ ds) fits = finds_all ds b d [] fits

pub reads_as : (ds : List DeclSyntax) (tokens : List Token) → IsProgram tokens ds → (b : Bool) × (runs program_step (InProgram [] (Expects DeclBegin)) tokens ≡ program_into b [] ds)
reads_as ds tokens p =
    let r = program_leads ds tokens [] p.spelled p.fits in
    let y = r.1 in
    (r.0, ap (runs program_step (InProgram [] (Expects DeclBegin))) (y.1 ∙ append-nil y.0) ∙ y.2)

-- a program is found
pub finds : (tokens : List Token) (ds : List DeclSyntax) → IsProgram tokens ds → program_finish (runs program_step (InProgram [] (Expects DeclBegin)) tokens) ≡ Some ds
finds tokens ds p = let r = reads_as ds tokens p in ap program_finish r.1 ∙ program_finds r.0 ds p.fits

-- one program per list of tokens
pub one_program : (tokens : List Token) (ds es : List DeclSyntax) → IsProgram tokens ds → IsProgram tokens es → ds ≡ es
one_program tokens ds es p q = let e : Some ds ≡ Some es = sym (finds tokens ds p) ∙ finds tokens es q in cc
