-- Tokens that are a program, and then a declaration: what goes on the whole goes on the declaration alone.
use Rattle.std.proofs.Common.{◌≡◌, ℕ, ◌≤◌, Bool, true, false, cond, List, [], ◌∷◌, ◌++◌, Option, Some, None, refl, sym, ap, subst, ◌∙◌, inl, inr, arith}
use Rattle.std.proofs.lemmas.Bool.{cases_lt}
use Rattle.um_syntax.specs.declared.token.Kind.{Kind}
use Rattle.um_syntax.specs.declared.token.Kind.TheVariants as kind
use Rattle.um_syntax.specs.declared.token.Token.{Token}
use Rattle.um_vocabulary.specs.declared.vocabulary.Keyword.TheVariants as keyword
use Rattle.um_vocabulary.specs.declared.vocabulary.Symbol.TheVariants as symbol
use Rattle.um_tree.specs.RawTree.{DeclSyntax}
use Rattle.um_reader.specs.Texts.{BeginsText, BeginsTextWithin}
use Rattle.um_reader.specs.Machine.{runs, reached}
use Rattle.um_reader.proofs.Readers.{none_some, begins_text, begins_within, begins_none, none_within}
use Rattle.um_reader.proofs.Reaching.{runs_append}
use Rattle.um_unit_texts.specs.UnitStops.{greatest_height}
use Rattle.um_unit_texts.specs.UnitMachine.{Need as NeedUnit, Have as HaveUnit, Raised, Lowered, Refused as NoUnit}
use Rattle.um_operands.specs.ExprBegun.{Need, Have, HavePower, Greater, Inside, InNote, InType, Refused}
use Rattle.um_decls.specs.DeclMachine.{DeclState, DeclBegin, Expects, HaveBase, InShort, HaveRecord, InField, InParam, InResult, InBody, NoDecl}
use Rattle.um_decls.specs.DeclMachine.{decl_act, decl_step, decl_finish, ProgramState, InProgram, NoProgram, program_goes, next_decl, program_step, program_finish, program_found, at_start}
use Rattle.um_decls.specs.DeclLeast.{decl_least}
use Rattle.um_forms.specs.ExprTokens.{expr_token}
use Rattle.um_parse.specs.DeclGrammar.{IsProgram}
use Rattle.um_parse.specs.ProgramHeights.{program_height}
use Rattle.um_parse.specs.ProgramLeast.{program_least, machine_of_programs}
use Rattle.um_parse.proofs.ProgramSound.{found_is}
use Rattle.um_parse.proofs.ProgramLow.{programs_read, height_last}
use Rattle.um_parse.specs.Laws.{begins_declaration, DeclarationsAreCut}

-- ---- a whole declaration goes on with no token that begins one

-- the kinds that begin one
record Refuses (k : Kind) : Type 0 where
  by_decl : (d : DeclState) (c : DeclSyntax) (p : ℕ) (g : Bool) → decl_finish d ≡ Some c → decl_act d (expr_token k) p g k ≡ NoDecl

let_refused : (d : DeclState) (c : DeclSyntax) (p : ℕ) (g : Bool) → decl_finish d ≡ Some c → decl_act d (expr_token (kind.Word keyword.Let)) p g (kind.Word keyword.Let) ≡ NoDecl
let_refused (HaveBase at x) c p g e = refl
let_refused (InShort at x (HaveUnit frames t)) c p g e = refl
let_refused (InShort at x (NeedUnit frames)) c p g e = absurd (none_some c e)
let_refused (InShort at x (Raised frames t)) c p g e = absurd (none_some c e)
let_refused (InShort at x (Lowered frames t)) c p g e = absurd (none_some c e)
let_refused (InShort at x NoUnit) c p g e = absurd (none_some c e)
let_refused (HaveRecord at x vs fs) c p g e = refl
let_refused (InBody head ps r (Have frames t)) c p g e = refl
let_refused (InBody head ps r (HavePower frames t)) c p g e = refl
let_refused (InBody head ps r (Need frames)) c p g e = absurd (none_some c e)
let_refused (InBody head ps r (Greater frames at t)) c p g e = absurd (none_some c e)
let_refused (InBody head ps r (Inside frames expected)) c p g e = absurd (none_some c e)
let_refused (InBody head ps r (InNote frames at v note)) c p g e = absurd (none_some c e)
let_refused (InBody head ps r (InType frames at s)) c p g e = absurd (none_some c e)
let_refused (InBody head ps r Refused) c p g e = absurd (none_some c e)
let_refused (Expects expected) c p g e = absurd (none_some c e)
let_refused (InField at x vs fs place y s) c p g e = absurd (none_some c e)
let_refused (InParam head ps b s) c p g e = absurd (none_some c e)
let_refused (InResult head ps s) c p g e = absurd (none_some c e)
let_refused NoDecl c p g e = absurd (none_some c e)

type_refused : (d : DeclState) (c : DeclSyntax) (p : ℕ) (g : Bool) → decl_finish d ≡ Some c → decl_act d (expr_token (kind.Word keyword.Type)) p g (kind.Word keyword.Type) ≡ NoDecl
type_refused (HaveBase at x) c p g e = refl
type_refused (InShort at x (HaveUnit frames t)) c p g e = refl
type_refused (InShort at x (NeedUnit frames)) c p g e = absurd (none_some c e)
type_refused (InShort at x (Raised frames t)) c p g e = absurd (none_some c e)
type_refused (InShort at x (Lowered frames t)) c p g e = absurd (none_some c e)
type_refused (InShort at x NoUnit) c p g e = absurd (none_some c e)
type_refused (HaveRecord at x vs fs) c p g e = refl
type_refused (InBody head ps r (Have frames t)) c p g e = refl
type_refused (InBody head ps r (HavePower frames t)) c p g e = refl
type_refused (InBody head ps r (Need frames)) c p g e = absurd (none_some c e)
type_refused (InBody head ps r (Greater frames at t)) c p g e = absurd (none_some c e)
type_refused (InBody head ps r (Inside frames expected)) c p g e = absurd (none_some c e)
type_refused (InBody head ps r (InNote frames at v note)) c p g e = absurd (none_some c e)
type_refused (InBody head ps r (InType frames at s)) c p g e = absurd (none_some c e)
type_refused (InBody head ps r Refused) c p g e = absurd (none_some c e)
type_refused (Expects expected) c p g e = absurd (none_some c e)
type_refused (InField at x vs fs place y s) c p g e = absurd (none_some c e)
type_refused (InParam head ps b s) c p g e = absurd (none_some c e)
type_refused (InResult head ps s) c p g e = absurd (none_some c e)
type_refused NoDecl c p g e = absurd (none_some c e)

attribute_refused : (d : DeclState) (c : DeclSyntax) (p : ℕ) (g : Bool) → decl_finish d ≡ Some c → decl_act d (expr_token (kind.Sign symbol.AttributeOpen)) p g (kind.Sign symbol.AttributeOpen) ≡ NoDecl
attribute_refused (HaveBase at x) c p g e = refl
attribute_refused (InShort at x (HaveUnit frames t)) c p g e = refl
attribute_refused (InShort at x (NeedUnit frames)) c p g e = absurd (none_some c e)
attribute_refused (InShort at x (Raised frames t)) c p g e = absurd (none_some c e)
attribute_refused (InShort at x (Lowered frames t)) c p g e = absurd (none_some c e)
attribute_refused (InShort at x NoUnit) c p g e = absurd (none_some c e)
attribute_refused (HaveRecord at x vs fs) c p g e = refl
attribute_refused (InBody head ps r (Have frames t)) c p g e = refl
attribute_refused (InBody head ps r (HavePower frames t)) c p g e = refl
attribute_refused (InBody head ps r (Need frames)) c p g e = absurd (none_some c e)
attribute_refused (InBody head ps r (Greater frames at t)) c p g e = absurd (none_some c e)
attribute_refused (InBody head ps r (Inside frames expected)) c p g e = absurd (none_some c e)
attribute_refused (InBody head ps r (InNote frames at v note)) c p g e = absurd (none_some c e)
attribute_refused (InBody head ps r (InType frames at s)) c p g e = absurd (none_some c e)
attribute_refused (InBody head ps r Refused) c p g e = absurd (none_some c e)
attribute_refused (Expects expected) c p g e = absurd (none_some c e)
attribute_refused (InField at x vs fs place y s) c p g e = absurd (none_some c e)
attribute_refused (InParam head ps b s) c p g e = absurd (none_some c e)
attribute_refused (InResult head ps s) c p g e = absurd (none_some c e)
attribute_refused NoDecl c p g e = absurd (none_some c e)

no_start : false ≡ true → ⊥
no_start e = cc

start_refused : (k : Kind) → begins_declaration k ≡ true → Refuses k
start_refused (kind.Name x) e = absurd (no_start e)
start_refused (kind.Var x) e = absurd (no_start e)
start_refused (kind.Number v digits one) e = absurd (no_start e)
start_refused kind.Hole e = absurd (no_start e)
start_refused (kind.Word keyword.Let) e = record { by_decl = let_refused }
start_refused (kind.Word keyword.Rec) e = absurd (no_start e)
start_refused (kind.Word keyword.In) e = absurd (no_start e)
start_refused (kind.Word keyword.If) e = absurd (no_start e)
start_refused (kind.Word keyword.Then) e = absurd (no_start e)
start_refused (kind.Word keyword.Else) e = absurd (no_start e)
start_refused (kind.Word keyword.Match) e = absurd (no_start e)
start_refused (kind.Word keyword.With) e = absurd (no_start e)
start_refused (kind.Word keyword.Type) e = record { by_decl = type_refused }
start_refused (kind.Word keyword.True) e = absurd (no_start e)
start_refused (kind.Word keyword.False) e = absurd (no_start e)
start_refused (kind.Word keyword.Not) e = absurd (no_start e)
start_refused (kind.Word keyword.Num) e = absurd (no_start e)
start_refused (kind.Word keyword.Bool) e = absurd (no_start e)
start_refused (kind.Word keyword.List) e = absurd (no_start e)
start_refused (kind.Word keyword.Measure) e = absurd (no_start e)
start_refused (kind.Word keyword.Pown) e = absurd (no_start e)
start_refused (kind.Sign symbol.LeftParen) e = absurd (no_start e)
start_refused (kind.Sign symbol.RightParen) e = absurd (no_start e)
start_refused (kind.Sign symbol.LeftBracket) e = absurd (no_start e)
start_refused (kind.Sign symbol.RightBracket) e = absurd (no_start e)
start_refused (kind.Sign symbol.LeftBrace) e = absurd (no_start e)
start_refused (kind.Sign symbol.RightBrace) e = absurd (no_start e)
start_refused (kind.Sign symbol.AttributeOpen) e = record { by_decl = attribute_refused }
start_refused (kind.Sign symbol.Less) e = absurd (no_start e)
start_refused (kind.Sign symbol.Greater) e = absurd (no_start e)
start_refused (kind.Sign symbol.Equal) e = absurd (no_start e)
start_refused (kind.Sign symbol.LessEqual) e = absurd (no_start e)
start_refused (kind.Sign symbol.NotEqual) e = absurd (no_start e)
start_refused (kind.Sign symbol.Plus) e = absurd (no_start e)
start_refused (kind.Sign symbol.Minus) e = absurd (no_start e)
start_refused (kind.Sign symbol.Star) e = absurd (no_start e)
start_refused (kind.Sign symbol.Slash) e = absurd (no_start e)
start_refused (kind.Sign symbol.Caret) e = absurd (no_start e)
start_refused (kind.Sign symbol.Semicolon) e = absurd (no_start e)
start_refused (kind.Sign symbol.Colon) e = absurd (no_start e)
start_refused (kind.Sign symbol.ColonColon) e = absurd (no_start e)
start_refused (kind.Sign symbol.Comma) e = absurd (no_start e)
start_refused (kind.Sign symbol.Dot) e = absurd (no_start e)
start_refused (kind.Sign symbol.Bar) e = absurd (no_start e)
start_refused (kind.Sign symbol.BarBar) e = absurd (no_start e)
start_refused (kind.Sign symbol.AndAnd) e = absurd (no_start e)
start_refused (kind.Sign symbol.Arrow) e = absurd (no_start e)

-- ---- states that differ in the declarations before alone

abbrev Same : ProgramState → ProgramState → Type 0
Same (InProgram ds d) (InProgram es e) = (d ≡ e) × (program_height es ≤ program_height ds)
Same NoProgram NoProgram = Unit {0}
Same s t = ⊥

goes_same : (ds es : List DeclSyntax) (d : DeclState) (s t : ProgramState) → program_height es ≤ program_height ds → Same s t
    → Same (program_goes ds d s) (program_goes es d t)
goes_same ds es NoDecl s t low same = same
goes_same ds es _ s t low same = (refl, low)

next_same : (ds es : List DeclSyntax) (o : Option DeclSyntax) (b : DeclState) → program_height es ≤ program_height ds
    → Same (next_decl ds o b) (next_decl es o b)
next_same ds es None b low = tt
next_same ds es (Some c) b low =
    let one = height_last ds c in
    let other = height_last es c in
    goes_same (ds ++ c ∷ []) (es ++ c ∷ []) b NoProgram NoProgram (omega (arith, one, other, low)) tt

step_same : (s t : ProgramState) (x : Token) → Same s t → Same (program_step s x) (program_step t x)
step_same (InProgram ds d) (InProgram es e) x h =
    let begun : DeclState = decl_step (Expects DeclBegin) x in
    subst (λ z. Same (program_step (InProgram ds d) x) (program_step (InProgram es z) x)) h.0
    (goes_same ds es (decl_step d x) (next_decl ds (decl_finish d) begun) (next_decl es (decl_finish d) begun) h.1
    (next_same ds es (decl_finish d) begun h.1))
step_same NoProgram NoProgram x h = tt
step_same (InProgram ds d) NoProgram x h = absurd h
step_same NoProgram (InProgram es e) x h = absurd h

runs_same : (xs : List Token) (s t : ProgramState) → Same s t → Same (runs program_step s xs) (runs program_step t xs)
runs_same [] s t h = h
runs_same (x ∷ xs) s t h = runs_same xs (program_step s x) (program_step t x) (step_same s t x h)

-- what they have in common
both_refused : (s t : ProgramState) → Same s t → s ≡ NoProgram → t ≡ NoProgram
both_refused (InProgram ds d) (InProgram es e) h r = absurd cc
both_refused NoProgram NoProgram h r = refl
both_refused (InProgram ds d) NoProgram h r = refl
both_refused NoProgram (InProgram es e) h r = absurd h

refused_both : (s t : ProgramState) → Same s t → t ≡ NoProgram → s ≡ NoProgram
refused_both (InProgram ds d) (InProgram es e) h r = absurd cc
refused_both NoProgram NoProgram h r = refl
refused_both (InProgram ds d) NoProgram h r = absurd h
refused_both NoProgram (InProgram es e) h r = refl

lower : (s t : ProgramState) → Same s t → program_least t ≤ program_least s
lower (InProgram ds d) (InProgram es e) h =
    let same = ap decl_least h.0 in
    let low = h.1 in
    omega (arith, same, low)
lower NoProgram NoProgram h = omega arith
lower (InProgram ds d) NoProgram h = absurd h
lower NoProgram (InProgram es e) h = absurd h

abbrev Whole : ProgramState → Type 0
Whole s = (ds : List DeclSyntax) × (program_finish s ≡ Some ds)

starting_whole : (es : List DeclSyntax) (e : DeclState) → e ≡ Expects DeclBegin → Whole (InProgram es e)
starting_whole es e same = subst (λ z. Whole (InProgram es z)) (sym same) (es, refl)

-- a declaration that is found ends a program
found_whole : (es : List DeclSyntax) (e : DeclState) (b : Bool) (c : DeclSyntax) → decl_finish e ≡ Some c
    → (fs : List DeclSyntax) × (cond b (Some es) (program_found es (decl_finish e)) ≡ Some fs)
found_whole es e true c f = (es, refl)
found_whole es e false c f = (es ++ c ∷ [], ap (λ o. program_found es o) f)

both_whole : (s t : ProgramState) → Same s t → Whole s → Whole t
both_whole (InProgram ds d) (InProgram es e) h w =
    elim (found_is ds d w.0 w.1) [
      | inl x ↦ starting_whole es e (sym h.0 ∙ x.0)
      | inr x ↦ found_whole es e (at_start e) x.0 (ap decl_finish (sym h.0) ∙ x.1)
    ]
both_whole NoProgram NoProgram h w = absurd (none_some w.0 w.1)
both_whole (InProgram ds d) NoProgram h w = absurd h
both_whole NoProgram (InProgram es e) h w = absurd h

whole_both : (s t : ProgramState) → Same s t → Whole t → Whole s
whole_both (InProgram ds d) (InProgram es e) h w =
    elim (found_is es e w.0 w.1) [
      | inl x ↦ starting_whole ds d (h.0 ∙ x.0)
      | inr x ↦ found_whole ds d (at_start d) x.0 (ap decl_finish h.0 ∙ x.1)
    ]
whole_both NoProgram NoProgram h w = absurd (none_some w.0 w.1)
whole_both (InProgram ds d) NoProgram h w = absurd h
whole_both NoProgram (InProgram es e) h w = absurd h

-- ---- the token that begins a declaration after a program

abbrev begun : Token → DeclState
begun t = decl_step (Expects DeclBegin) t

after_whole : (ds : List DeclSyntax) (d next : DeclState) (c : DeclSyntax) (t : Token) → next ≡ NoDecl → decl_finish d ≡ Some c
    → Same (program_goes ds next (next_decl ds (decl_finish d) (begun t))) (program_step (InProgram [] (Expects DeclBegin)) t)
after_whole ds d next c t refused f =
    subst (λ n. Same (program_goes ds n (next_decl ds (decl_finish d) (begun t))) (program_step (InProgram [] (Expects DeclBegin)) t)) (sym refused)
    (subst (λ o. Same (next_decl ds o (begun t)) (program_step (InProgram [] (Expects DeclBegin)) t)) (sym f)
    (goes_same (ds ++ c ∷ []) [] (begun t) NoProgram NoProgram (omega arith) tt))

begins_next : (ds : List DeclSyntax) (d : DeclState) (t : Token) → begins_declaration t.kind ≡ true → Whole (InProgram ds d)
    → Same (program_step (InProgram ds d) t) (program_step (InProgram [] (Expects DeclBegin)) t)
begins_next ds d t starts w =
    elim (found_is ds d w.0 w.1) [
      | inl x ↦
          subst (λ z. Same (program_step (InProgram ds z) t) (program_step (InProgram [] (Expects DeclBegin)) t)) (sym x.0)
          (goes_same ds [] (begun t) NoProgram NoProgram (omega arith) tt)
      | inr x ↦ after_whole ds d (decl_step d t) x.0 t ((start_refused t.kind starts).by_decl d x.0 t.start t.glued x.1) x.1
    ]

next_after : (s : ProgramState) (t : Token) → begins_declaration t.kind ≡ true → Whole s → Same (program_step s t) (program_step (InProgram [] (Expects DeclBegin)) t)
next_after (InProgram ds d) t starts w = begins_next ds d t starts w
next_after NoProgram t starts w = absurd (none_some w.0 w.1)

abbrev State : List Token → ProgramState
State tokens = reached machine_of_programs tokens

module _ (pre : List Token) (ds : List DeclSyntax) (is : IsProgram pre ds) (t : Token) (starts : begins_declaration t.kind ≡ true) where
  same_after : (more : List Token) → Same (State (pre ++ t ∷ more)) (State (t ∷ more))
  same_after more =
      subst (λ s. Same s (State (t ∷ more))) (sym (runs_append program_step pre (t ∷ more) (InProgram [] (Expects DeclBegin))))
      (runs_same more (program_step (State pre) t) (program_step (InProgram [] (Expects DeclBegin)) t)
      (next_after (State pre) t starts (ds, programs_read.finds pre ds is)))

  begins_after : (more : List Token) → BeginsText IsProgram (pre ++ t ∷ more) → BeginsText IsProgram (t ∷ more)
  begins_after more b =
      begins_text programs_read (t ∷ more) (λ e. begins_none programs_read (pre ++ t ∷ more)
      (refused_both (State (pre ++ t ∷ more)) (State (t ∷ more)) (same_after more) e) b)

  after_begins : (more : List Token) → BeginsText IsProgram (t ∷ more) → BeginsText IsProgram (pre ++ t ∷ more)
  after_begins more b =
      begins_text programs_read (pre ++ t ∷ more) (λ e. begins_none programs_read (t ∷ more)
      (both_refused (State (pre ++ t ∷ more)) (State (t ∷ more)) (same_after more) e) b)

  within_after : (more : List Token) → BeginsTextWithin IsProgram program_height greatest_height (pre ++ t ∷ more)
      → BeginsTextWithin IsProgram program_height greatest_height (t ∷ more)
  within_after more b =
      begins_within programs_read (t ∷ more) greatest_height
      (λ e. begins_none programs_read (pre ++ t ∷ more)
      (refused_both (State (pre ++ t ∷ more)) (State (t ∷ more)) (same_after more) e) (b.0, b.1, b.2))
      (let low = lower (State (pre ++ t ∷ more)) (State (t ∷ more)) (same_after more) in
      elim (cases_lt greatest_height (program_least (State (pre ++ t ∷ more)))) [
        | inl high ↦ absurd (none_within programs_read (pre ++ t ∷ more) greatest_height high b)
        | inr le ↦ omega (arith, low, le)
      ])

  whole_after : (more : List Token) → ((es : List DeclSyntax) × IsProgram (pre ++ t ∷ more) es) → (fs : List DeclSyntax) × IsProgram (t ∷ more) fs
  whole_after more w =
      let v = both_whole (State (pre ++ t ∷ more)) (State (t ∷ more)) (same_after more) (w.0, programs_read.finds (pre ++ t ∷ more) w.0 w.1) in
      (v.0, programs_read.found (t ∷ more) v.0 v.1)

  after_whole_is : (more : List Token) → ((fs : List DeclSyntax) × IsProgram (t ∷ more) fs) → (es : List DeclSyntax) × IsProgram (pre ++ t ∷ more) es
  after_whole_is more w =
      let v = whole_both (State (pre ++ t ∷ more)) (State (t ∷ more)) (same_after more) (w.0, programs_read.finds (t ∷ more) w.0 w.1) in
      (v.0, programs_read.found (pre ++ t ∷ more) v.0 v.1)

pub declarations_are_cut : DeclarationsAreCut
declarations_are_cut pre ds t rest is starts =
    record {
      begins = (begins_after pre ds is t starts rest, after_begins pre ds is t starts rest);
      within = within_after pre ds is t starts rest;
      whole = (whole_after pre ds is t starts rest, after_whole_is pre ds is t starts rest);
    }
