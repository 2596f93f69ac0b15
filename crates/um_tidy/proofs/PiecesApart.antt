-- Where a piece may stand directly behind another, no token runs into the next.
use Rattle.std.proofs.Common.{◌≡◌, refl, ap, ◌∙◌, true, false}
use Rattle.um_syntax.specs.declared.token.Kind.{Kind}
use Rattle.um_vocabulary.specs.declared.vocabulary.Symbol.{Symbol}
use Rattle.um_vocabulary.specs.declared.vocabulary.Symbol.TheVariants as symbol
use Rattle.um_vocabulary.specs.Vocabulary.{symbol_text}
use Rattle.um_show.specs.Pieces.{Piece, name, variable, number, digits, word, sign, hole, space, line_end}
use Rattle.um_show.proofs.PieceTokens.{IsKind}
use Rattle.um_show.proofs.Chain.{Place, fresh, full, raised, lowered, pointed, lowering, role, after_role, after, is_fresh, takes_digit, takes_sign, may}
use Rattle.um_show.proofs.Opens.{is_token}
use Rattle.um_tidy.specs.Spaces.{goes_on, is_dot, sign_runs_into, begins_lettered, runs_into}
use Rattle.um_tidy.proofs.SpacedPieces.{never}

-- what may stand at the place doesn't go on the token before it
abbrev pub Apart : Place → Kind → Type 0
Apart place k = (p : Piece) (l : Kind) → is_token p ≡ true → may place p ≡ true → IsKind p l → runs_into k l ≡ false

-- ---- behind a name, a number or a word

unlettered : (p : Piece) (l : Kind) → is_token p ≡ true → may full p ≡ true → IsKind p l → begins_lettered l ≡ false
unlettered (name x) l t m k = never m
unlettered (variable x) l t m k = never m
unlettered (number c) l t m k = never m
unlettered (digits n) l t m k = never m
unlettered (word w) l t m k = never m
unlettered (sign s) l t m k = ap begins_lettered k
unlettered hole l t m k = never m
unlettered space l t m k = never t
unlettered line_end l t m k = never t

-- ---- behind a sign

minus_apart : (place : Place) → takes_sign (after_role lowering place) (symbol_text symbol.Greater) ≡ true → ⊥
minus_apart (fresh g d) m = never m
minus_apart full m = never m
minus_apart raised m = never m
minus_apart lowered m = never m
minus_apart pointed m = never m

signs_apart : (s t : Symbol) (place : Place) → takes_sign (after_role (role s) place) (symbol_text t) ≡ true → goes_on s t ≡ false
signs_apart symbol.LeftBracket symbol.Less place m = never m
signs_apart symbol.LeftBracket symbol.LessEqual place m = never m
signs_apart symbol.LeftBracket symbol.NotEqual place m = never m
signs_apart symbol.Less symbol.Equal place m = never m
signs_apart symbol.Less symbol.Greater place m = never m
signs_apart symbol.Colon symbol.Colon place m = never m
signs_apart symbol.Colon symbol.ColonColon place m = never m
signs_apart symbol.Bar symbol.Bar place m = never m
signs_apart symbol.Bar symbol.BarBar place m = never m
signs_apart symbol.Minus symbol.Greater place m = absurd (minus_apart place m)
signs_apart symbol.Slash symbol.Slash place m = never m
signs_apart _ _ place m = refl

number_apart : (s : Symbol) (place : Place) → is_fresh (after_role (role s) place) ≡ true → is_dot s ≡ false
number_apart symbol.Dot place m = never m
number_apart _ place m = refl

digits_apart : (s : Symbol) (place : Place) → takes_digit (after_role (role s) place) ≡ true → is_dot s ≡ false
digits_apart symbol.Dot place m = never m
digits_apart _ place m = refl

sign_apart : (s : Symbol) (place : Place) (p : Piece) (l : Kind) → is_token p ≡ true → may (after_role (role s) place) p ≡ true → IsKind p l → sign_runs_into s l ≡ false
sign_apart s place (name x) l t m k = ap (sign_runs_into s) k
sign_apart s place (variable x) l t m k = ap (sign_runs_into s) k
sign_apart s place (number c) l t m k = ap (sign_runs_into s) k.2 ∙ number_apart s place m
sign_apart s place (digits n) l t m k = ap (sign_runs_into s) k.is ∙ digits_apart s place m
sign_apart s place (word w) l t m k = ap (sign_runs_into s) k
sign_apart s place (sign u) l t m k = ap (sign_runs_into s) k ∙ signs_apart s u place m
sign_apart s place hole l t m k = ap (sign_runs_into s) k
sign_apart s place space l t m k = never t
sign_apart s place line_end l t m k = never t

-- ---- behind a piece

pub apart_after : (p : Piece) (place : Place) (k : Kind) → is_token p ≡ true → IsKind p k → Apart (after p place) k
apart_after (name x) place k t e = λ q l u m i. ap (λ z. runs_into z l) e ∙ unlettered q l u m i
apart_after (variable x) place k t e = λ q l u m i. ap (λ z. runs_into z l) e ∙ unlettered q l u m i
apart_after (number c) place k t e = λ q l u m i. ap (λ z. runs_into z l) e.2 ∙ unlettered q l u m i
apart_after (digits n) place k t e = λ q l u m i. ap (λ z. runs_into z l) e.is ∙ unlettered q l u m i
apart_after (word w) place k t e = λ q l u m i. ap (λ z. runs_into z l) e ∙ unlettered q l u m i
apart_after (sign s) place k t e = λ q l u m i. ap (λ z. runs_into z l) e ∙ sign_apart s place q l u m i
apart_after hole place k t e = λ q l u m i. ap (λ z. runs_into z l) e ∙ unlettered q l u m i
apart_after space place k t e = never t
apart_after line_end place k t e = never t
