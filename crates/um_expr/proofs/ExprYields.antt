-- Reading in parts: from one state the tokens up to the rest lead to another.
use Rattle.std.proofs.Common.{◌≡◌, ◌≢◌, ℕ, List, [], ◌∷◌, ◌++◌, Bool, true, Some, refl, sym, ap, ◌∙◌}
use Rattle.um_frac.specs.declared.number.Frac.{Frac}
use Rattle.um_syntax.specs.declared.token.Token.{Token}
use Rattle.um_syntax.specs.declared.token.Kind.{Kind}
use Rattle.um_tree.specs.RawTree.{NoteSyntax, TypeSyntax, number_syntax, nil_syntax}
use Rattle.um_reader.specs.Machine.{runs}
use Rattle.um_types.specs.TypeGrammar.{NoteSpells, NoteFits, TypeSpells, TypeFits}
use Rattle.um_types.specs.NoteMachine.{NoteState, NeedNote, HaveHole, InUnit, NoNote, note_step, note_finish}
use Rattle.um_types.specs.TypeMachine.{TypeState, NeedType, HaveType, NoType, type_after, type_step, type_finish, InNote as InTypeNote}
use Rattle.um_unit_texts.specs.UnitTokens.{unit_token}
use Rattle.um_unit_texts.specs.UnitMachine.{is_foreign}
use Rattle.um_reader.proofs.Reaching.{lift}
use Rattle.um_types.proofs.NoteComplete.{note_into, note_reaches, note_finds, note_stops}
use Rattle.um_types.proofs.TypeComplete.{type_reaches}
use Rattle.um_vocabulary.specs.declared.vocabulary.Symbol.TheVariants as symbol
use Rattle.um_reader.specs.Machine.{Yields}
use Rattle.um_reader.proofs.Reaching.{yields_then}
use Rattle.um_operands.specs.ExprBegun.{Frame, State, Have, InNote, InType}
use Rattle.um_forms.specs.declared.token.ExprToken.{ExprToken}
use Rattle.um_forms.specs.declared.token.ExprToken.TheVariants.{Mark as mark}
use Rattle.um_forms.specs.ExprTokens.{expr_token, greater}
use Rattle.um_expr.specs.ExprGrammar.{First, FirstAt, FirstGlued}
use Rattle.um_expr.specs.ExprMachine.{note_ends, type_ends, note_goes, type_goes, act, step}
use Rattle.um_expr.proofs.ExprTokenKinds.{greater_is, mark_is}

pub thence : {a b c : State} → {s t r : List Token} → Yields step a s b t → Yields step b t c r → Yields step a s c r
thence {a = a} {b = b} {c = c} {s = s} {t = t} {r = r} p q = yields_then step a b c s t r p q

pub yields_first : (old new : State) (what : ExprToken) (tokens rest : List Token) → First what tokens rest → ((at : ℕ) (glued : Bool) (k : Kind) → act old what at glued k ≡ new) → Yields step old tokens new rest
yields_first old new what tokens rest f e =
    (f.0 ∷ [], f.2, ap (λ w. act old w f.0.start f.0.glued f.0.kind) f.1 ∙ e f.0.start f.0.glued f.0.kind)

pub yields_at : (old new : State) (what : ExprToken) (at : ℕ) (tokens rest : List Token) → FirstAt what at tokens rest → ((glued : Bool) (k : Kind) → act old what at glued k ≡ new) → Yields step old tokens new rest
yields_at old new what at tokens rest f e = (
  f.0 ∷ [],
  f.3,
  ap (λ w. act old w f.0.start f.0.glued f.0.kind) f.1 ∙ ap (λ a. act old what a f.0.glued f.0.kind) f.2 ∙ e f.0.glued f.0.kind,
)

pub yields_glued : (old new : State) (what : ExprToken) (tokens rest : List Token) → FirstGlued what tokens rest → ((at : ℕ) (k : Kind) → act old what at true k ≡ new) → Yields step old tokens new rest
yields_glued old new what tokens rest f e = (
  f.0 ∷ [],
  f.3,
  ap (λ w. act old w f.0.start f.0.glued f.0.kind) f.1 ∙ ap (λ g. act old what f.0.start g f.0.kind) f.2 ∙ e f.0.start f.0.kind,
)

-- the first token passes a test
abbrev pub FirstPasses : (ExprToken → Bool) → List Token → Type 0
FirstPasses test tokens = (token : Token) × (more : List Token) × (tokens ≡ token ∷ more) × (test (expr_token token.kind) ≡ true)

same_head : (x y : Token) (xs ys : List Token) → x ∷ xs ≡ y ∷ ys → x ≡ y
same_head x y xs ys e = cc

-- two states that take the first token alike lead alike
pub yields_alike : (test : ExprToken → Bool) (old other new : State) (tokens rest : List Token) → FirstPasses test tokens
    → ((w : ExprToken) (at : ℕ) (glued : Bool) (k : Kind) → test w ≡ true → act old w at glued k ≡ act other w at glued k) → other ≢ new → Yields step other tokens new rest → Yields step old tokens new rest
yields_alike test old other new tokens rest f e apart p = alike p.0 p.1 p.2
  where
    alike : (read : List Token) → tokens ≡ read ++ rest → runs step other read ≡ new → Yields step old tokens new rest
    alike [] parts ends = absurd (apart ends)
    alike (x ∷ xs) parts ends =
        let same : f.0 ≡ x = same_head f.0 x f.1 (xs ++ rest) (sym f.2 ∙ parts) in
        let passes : test (expr_token x.kind) ≡ true = ap (λ (t : Token). test (expr_token t.kind)) (sym same) ∙ f.3 in
        (x ∷ xs, parts, ap (λ s. runs step s xs) (e (expr_token x.kind) x.start x.glued x.kind passes) ∙ ends)

-- ---- the note of a number

note_on : (frames : List Frame) (at : ℕ) (c : Frac) (n : NoteState) (ended : State) → n ≢ NoNote → note_goes frames at c n ended ≡ InNote frames at c n
note_on frames at c NeedNote ended ok = refl
note_on frames at c (HaveHole p) ended ok = refl
note_on frames at c (InUnit p u) ended ok = refl
note_on frames at c NoNote ended ok = absurd (ok refl)

note_inside : (frames : List Frame) (at : ℕ) (c : Frac) (n new : NoteState) (token : Token) → note_step n token ≡ new → new ≢ NoNote → step (InNote frames at c n) token ≡ InNote frames at c new
note_inside frames at c n new token e ok =
    let ended : State = note_ends frames at c (note_finish n) (expr_token token.kind) in
    ap (λ s. note_goes frames at c s ended) e ∙ note_on frames at c new ended ok

pub yields_note : (frames : List Frame) (at : ℕ) (c : Frac) (n : NoteSyntax) (tokens rest : List Token) → NoteSpells n tokens rest → NoteFits n
    → Yields step (InNote frames at c NeedNote) tokens (InNote frames at c (note_into n)) rest
yields_note frames at c n tokens rest s fits =
    let r = note_reaches n tokens rest s fits in
    (r.0, r.1, lift note_step NoNote (λ t. refl) step (λ w. InNote frames at c w) (note_inside frames at c) r.0 NeedNote (note_into n) r.2 r.3)

pub yields_note_end : (frames : List Frame) (at : ℕ) (c : Frac) (n : NoteSyntax) (tokens rest : List Token) → NoteFits n → First greater tokens rest
    → Yields step (InNote frames at c (note_into n)) tokens (Have frames (number_syntax at c (Some n))) rest
yields_note_end frames at c n tokens rest fits f =
    let ended : State = note_ends frames at c (note_finish (note_into n)) (expr_token f.0.kind) in (
      f.0 ∷ [],
      f.2,
      ap (λ s. note_goes frames at c s ended) (note_stops n f.0.kind f.0.start (ap (λ k. is_foreign (unit_token k)) (greater_is f.0.kind f.1)))
          ∙ ap (λ o. note_ends frames at c o (expr_token f.0.kind)) (note_finds n fits)
          ∙ ap (note_ends frames at c (Some n)) f.1,
    )

-- ---- the type of an empty list

type_on : (frames : List Frame) (at : ℕ) (s : TypeState) (ended : State) → s ≢ NoType → type_goes frames at s ended ≡ InType frames at s
type_on frames at (NeedType depth) ended ok = refl
type_on frames at (HaveType depth t) ended ok = refl
type_on frames at (InTypeNote depth owner n) ended ok = refl
type_on frames at NoType ended ok = absurd (ok refl)

type_inside : (frames : List Frame) (at : ℕ) (s new : TypeState) (token : Token) → type_step s token ≡ new → new ≢ NoType → step (InType frames at s) token ≡ InType frames at new
type_inside frames at s new token e ok =
    let ended : State = type_ends frames at (type_finish s) (expr_token token.kind) in
    ap (λ w. type_goes frames at w ended) e ∙ type_on frames at new ended ok

pub yields_type : (frames : List Frame) (at : ℕ) (t : TypeSyntax) (tokens rest : List Token) → TypeSpells t tokens rest → TypeFits t
    → Yields step (InType frames at (NeedType 0)) tokens (InType frames at (HaveType 0 t)) rest
yields_type frames at t tokens rest s fits =
    let r = type_reaches t 0 tokens rest s fits in
    (r.0, r.1, lift type_step NoType (λ x. refl) step (λ w. InType frames at w) (type_inside frames at) r.0 (NeedType 0) (HaveType 0 t) r.2 r.3)

pub yields_type_end : (frames : List Frame) (at : ℕ) (t : TypeSyntax) (tokens rest : List Token) → First (mark symbol.RightParen) tokens rest
    → Yields step (InType frames at (HaveType 0 t)) tokens (Have frames (nil_syntax at t)) rest
yields_type_end frames at t tokens rest f =
    let ended : State = type_ends frames at (Some t) (expr_token f.0.kind) in (
      f.0 ∷ [],
      f.2,
      ap (λ w. type_goes frames at (type_after 0 t w) ended) (mark_is f.0.kind symbol.RightParen f.1) ∙ ap (type_ends frames at (Some t)) f.1,
    )
