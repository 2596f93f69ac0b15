-- In a program, a number with `<` directly after it is no power.
use Rattle.std.proofs.Common.{◌≡◌, ℕ, zero, suc, ◌-◌, ◌<◌, ◌⊎◌, inl, inr, Bool, true, false, ◌&&◌, ◌||◌, cond, List, [], ◌∷◌, ◌++◌, length, length-append, slice_get, Option, Some, None, refl, sym, ap, ◌∙◌, arith}
use Rattle.std.proofs.lemmas.Bool.{false≢true}
use Rattle.um_frac.specs.declared.number.Frac.{Frac}
use Rattle.um_syntax.specs.declared.token.Kind.{Kind}
use Rattle.um_syntax.specs.declared.token.Kind.TheVariants as kind
use Rattle.um_syntax.specs.declared.token.Token.{Token}
use Rattle.um_vocabulary.specs.declared.vocabulary.Symbol.{Symbol}
use Rattle.um_vocabulary.specs.declared.vocabulary.Symbol.TheVariants as symbol
use Rattle.um_syntax.specs.Lexing.{is_caret_kind, is_minus_kind, is_caret, is_minus, is_power_place}
use Rattle.um_tree.specs.RawTree.{DeclSyntax}
use Rattle.um_parse.specs.DeclGrammar.{IsProgram}
use Rattle.um_scale.specs.RescaledText.{is_number, is_less, opens_unit}
use Rattle.um_rescaled.specs.RespelledTokens.{NoPowers}
use Rattle.um_rescaled.proofs.Ends.{both_true}
use Rattle.um_rescaled.proofs.CaretTokens.{NotLess, AfterMinus, AfterCaret, AllSafe}
use Rattle.um_rescaled.proofs.ExprPowers.{decls_safe}

-- the last tokens of a list
at_end : (before : List Token) (t : Token) → slice_get (before ++ t ∷ []) (length (before ++ t ∷ []) - 1) ≡ Some t
at_end before t =
    let long = length-append before (t ∷ []) in
    let same : length (before ++ t ∷ []) - 1 ≡ length before = omega (arith, long) in
    ap (λ n. slice_get (before ++ t ∷ []) n) same ∙ there before
  where
    there : (ts : List Token) → slice_get (ts ++ t ∷ []) (length ts) ≡ Some t
    there [] = refl
    there (x ∷ ts) = there ts

-- what is known of the tokens after these: a `^` that is the last, or the last but `-`
abbrev Known : Option Token → Option Token → List Token → Type 0
Known last one ts = (is_caret last ≡ true → AfterCaret ts) × (is_minus last ≡ true → is_caret one ≡ true → AfterMinus ts)

no_power : (b : Bool) → (b ≡ true → ⊥) → b ≡ false
no_power true h = absurd (h refl)
no_power false h = refl

either : (a b c : Bool) (X : Type 0) → (a || (b && c)) ≡ true → (a ≡ true → X) → (b ≡ true → c ≡ true → X) → X
either true b c X e f g = f refl
either false true true X e f g = g refl refl
either false true false X e f g = absurd (false≢true e)
either false false c X e f g = absurd (false≢true e)

asked : (x : Bool) (o : Option Frac) (c : Frac) → cond x o None ≡ Some c → x ≡ true
asked true o c e = refl
asked false o c e = absurd (cc e)

opens_less : (ts : List Token) → opens_unit (slice_get ts 0) ≡ true → NotLess ts → ⊥
opens_less [] e h = false≢true e
opens_less (t ∷ ts) e h = false≢true (sym h ∙ (both_true t.glued (is_less t.kind) e).1)

minus_no_caret : (k : Kind) → is_minus_kind k ≡ true → is_caret_kind k ≡ true → ⊥
minus_no_caret (kind.Name x) m c = false≢true m
minus_no_caret (kind.Var x) m c = false≢true m
minus_no_caret (kind.Number v d o) m c = false≢true m
minus_no_caret (kind.Word w) m c = false≢true m
minus_no_caret kind.Hole m c = false≢true m
minus_no_caret (kind.Sign s) m c = by s m c where
  by : (s : Symbol) → is_minus_kind (kind.Sign s) ≡ true → is_caret_kind (kind.Sign s) ≡ true → ⊥
  by symbol.Minus m c = false≢true c
  by _ m c = false≢true m

front_at : (ys zs : List Token) (i : ℕ) → i < length ys → slice_get (ys ++ zs) i ≡ slice_get ys i
front_at [] zs i h = absurd (omega (arith, h))
front_at (y ∷ ys) zs zero h = refl
front_at (y ∷ ys) zs (suc i) h = front_at ys zs i (omega (arith, h))

-- of one token alone, the last but one is itself
second_last : (before : List Token) (t : Token) → (slice_get (before ++ t ∷ []) (length (before ++ t ∷ []) - 2) ≡ slice_get before (length before - 1)) ⊎ (slice_get (before ++ t ∷ []) (length (before ++ t ∷ []) - 2) ≡ Some t)
second_last [] t = inr refl
second_last (x ∷ xs) t =
    let long = length-append (x ∷ xs) (t ∷ []) in
    let same : length ((x ∷ xs) ++ t ∷ []) - 2 ≡ length (x ∷ xs) - 1 = omega (arith, long) in
    inl (ap (λ n. slice_get ((x ∷ xs) ++ t ∷ []) n) same ∙ front_at (x ∷ xs) (t ∷ []) (length (x ∷ xs) - 1) (omega arith))

known_next : (before : List Token) (t : Token) (ts : List Token) (last one : Option Token) → slice_get before (length before - 1) ≡ last → Known last one (t ∷ ts) → (is_caret_kind t.kind ≡ true → AfterCaret ts) → Known (Some t) (slice_get (before ++ t ∷ []) (length (before ++ t ∷ []) - 2)) ts
known_next before t ts last one l known h = (h, by (second_last before t))
  where
    by : (slice_get (before ++ t ∷ []) (length (before ++ t ∷ []) - 2) ≡ slice_get before (length before - 1)) ⊎ (slice_get (before ++ t ∷ []) (length (before ++ t ∷ []) - 2) ≡ Some t) → is_minus_kind t.kind ≡ true → is_caret (slice_get (before ++ t ∷ []) (length (before ++ t ∷ []) - 2)) ≡ true → AfterMinus ts
    by (inl e) m c = (known.0 (sym (ap is_caret (e ∙ l)) ∙ c)).1 m
    by (inr e) m c = absurd (minus_no_caret t.kind m (sym (ap is_caret e) ∙ c))

module _ (numbers : ℕ → Option Frac) where
  no_powers : (tokens before : List Token) (last one : Option Token) → slice_get before (length before - 1) ≡ last → slice_get before (length before - 2) ≡ one → Known last one tokens → AllSafe tokens → NoPowers numbers before tokens
  no_powers [] before last one l o known h = tt
  no_powers (t ∷ ts) before last one l o known h =
      let place : is_power_place before ≡ (is_caret last || (is_minus last && is_caret one)) = λ i. is_caret (l i) || (is_minus (l i) && is_caret (o i)) in (
        (
            λ c e. let parts = both_true (is_number t.kind) (opens_unit (slice_get ts 0)) (asked (is_number t.kind && opens_unit (slice_get ts 0)) (numbers t.start) c e) in
            no_power (is_power_place before)
            (λ p. either (is_caret last) (is_minus last) (is_caret one) ⊥ (sym place ∙ p) (λ x. opens_less ts parts.1 ((known.0 x).0 parts.0)) (λ x y. opens_less ts parts.1 (known.1 x y)))
            ),
        no_powers ts (before ++ t ∷ []) (Some t) (slice_get (before ++ t ∷ []) (length (before ++ t ∷ []) - 2)) (at_end before t) refl (known_next before t ts last one l known h.0) h.1,
      )

pub program_no_powers : (numbers : ℕ → Option Frac) (tokens : List Token) (ds : List DeclSyntax) → IsProgram tokens ds → NoPowers numbers [] tokens
program_no_powers numbers tokens ds is =
    let safe = (decls_safe ds tokens [] is.spelled tt tt).0 in
    no_powers numbers tokens [] None None refl refl ((λ e. absurd (false≢true e)), (λ e c. absurd (false≢true e))) safe
