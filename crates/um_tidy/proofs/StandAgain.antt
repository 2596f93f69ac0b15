-- A token stands in the text laid out anew as it stood.
use Rattle.std.proofs.Common.{◌≡◌, refl, sym, ap, ◌∙◌, Bool, true, false, cond}
use Rattle.std.proofs.lemmas.Bool.{false≢true}
use Rattle.um_syntax.specs.declared.token.Kind.{Kind}
use Rattle.um_syntax.specs.declared.token.Kind.TheVariants as kind
use Rattle.um_vocabulary.specs.declared.vocabulary.Keyword.{Keyword}
use Rattle.um_vocabulary.specs.declared.vocabulary.Keyword.TheVariants as keyword
use Rattle.um_vocabulary.specs.declared.vocabulary.Symbol.{Symbol}
use Rattle.um_vocabulary.specs.declared.vocabulary.Symbol.TheVariants as symbol
use Rattle.um_tidy.specs.declared.stand.Next.{Next}
use Rattle.um_tidy.specs.declared.stand.Next.TheVariants as next
use Rattle.um_tidy.specs.declared.stand.Within.{Within}
use Rattle.um_tidy.specs.declared.stand.Within.TheVariants as within
use Rattle.um_tidy.specs.declared.stand.Stand.{Stand}
use Rattle.um_tidy.specs.Stands.{apart, after, before, between, has_ended, in_unit, in_attribute, in_angle, after_measure_word, after_bound, opens_units, name_stand, hole_stand, keyword_stand, bracket_stand, less_stand, equal_stand, symbol_stand, kind_stand}
use Rattle.um_tidy.specs.Spaces.{begins_lettered, runs_into}

abbrev pub is_number_next : Next → Bool
is_number_next next.Number = true
is_number_next _ = false

abbrev pub is_less : Kind → Bool
is_less (kind.Sign symbol.Less) = true
is_less _ = false

-- ---- where nothing stands between a token and the one before it matters for a `<` after a number alone

opens_same : (n : Next) (g h : Bool) → (is_number_next n ≡ true → g ≡ h) → opens_units n g ≡ opens_units n h
opens_same next.Number g h e = e refl
opens_same next.Head g h e = refl
opens_same _ g h e = refl

sign_same : (n : Next) (w : Within) (g h : Bool) (s : Symbol) → (is_number_next n ≡ true → is_less (kind.Sign s) ≡ true → g ≡ h) → symbol_stand n w g s ≡ symbol_stand n w h s
sign_same n w g h symbol.Less e = ap (λ o. less_stand o w) (opens_same n g h (λ number. e number refl))
sign_same n w g h _ e = refl

pub stand_same : (n : Next) (w : Within) (g h : Bool) (k : Kind) → (is_number_next n ≡ true → is_less k ≡ true → g ≡ h) → kind_stand n w g k ≡ kind_stand n w h k
stand_same n w g h (kind.Name x) e = refl
stand_same n w g h (kind.Var x) e = refl
stand_same n w g h (kind.Number value digits one) e = refl
stand_same n w g h (kind.Word k) e = refl
stand_same n w g h kind.Hole e = refl
stand_same n w g h (kind.Sign s) e = sign_same n w g h s e

-- a `<` after a number stands directly after it if it stood so
less_after : (n : Next) (w : Within) (g : Bool) → is_number_next n ≡ true → (less_stand (opens_units n g) w).after ≡ g
less_after next.Number w true e = refl
less_after next.Number w false e = refl
less_after _ w g e = absurd (false≢true e)

sign_after : (n : Next) (w : Within) (g : Bool) (s : Symbol) → is_number_next n ≡ true → is_less (kind.Sign s) ≡ true → (symbol_stand n w g s).after ≡ g
sign_after n w g symbol.Less number less = less_after n w g number
sign_after n w g _ number less = absurd (false≢true less)

pub after_number : (n : Next) (w : Within) (g : Bool) (k : Kind) → is_number_next n ≡ true → is_less k ≡ true → (kind_stand n w g k).after ≡ g
after_number n w g (kind.Name x) number less = absurd (false≢true less)
after_number n w g (kind.Var x) number less = absurd (false≢true less)
after_number n w g (kind.Number value digits one) number less = absurd (false≢true less)
after_number n w g (kind.Word k) number less = absurd (false≢true less)
after_number n w g kind.Hole number less = absurd (false≢true less)
after_number n w g (kind.Sign s) number less = sign_after n w g s number less

pub less_unlettered : (k : Kind) → is_less k ≡ true → begins_lettered k ≡ false
less_unlettered (kind.Name x) less = absurd (false≢true less)
less_unlettered (kind.Var x) less = absurd (false≢true less)
less_unlettered (kind.Number value digits one) less = absurd (false≢true less)
less_unlettered (kind.Word k) less = absurd (false≢true less)
less_unlettered kind.Hole less = absurd (false≢true less)
less_unlettered (kind.Sign s) less = refl

-- ---- what a number's stand is

abbrev pub NumberStands : Stand → Kind → Type 0
NumberStands s k = is_number_next s.next ≡ true → (s.before ≡ false) × ((j : Kind) → runs_into k j ≡ begins_lettered j)

abbrev number_next : Stand → Bool
number_next s = is_number_next s.next

either : (b : Bool) (x y : Stand) → number_next x ≡ false → number_next y ≡ false → number_next (cond b x y) ≡ false
either true x y e g = e
either false x y e g = g

name_next : (n : Next) (w : Within) → number_next (name_stand n w) ≡ false
name_next next.Heads w = refl
name_next next.Measures w = refl
name_next next.Binds w = refl
name_next _ w = refl

hole_next : (n : Next) (w : Within) → number_next (hole_stand n w) ≡ false
hole_next next.Binds w = refl
hole_next _ w = refl

type_next : (b : Bool) → is_number_next (cond b next.Measures next.Heads) ≡ false
type_next true = refl
type_next false = refl

keyword_next : (n : Next) (w : Within) (k : Keyword) → number_next (keyword_stand n w k) ≡ false
keyword_next n w keyword.Type = type_next (in_attribute w)
keyword_next n w _ = refl

bracket_next : (n : Next) (w : Within) → number_next (bracket_stand n w) ≡ false
bracket_next next.Heads w = refl
bracket_next _ w = refl

equal_next : (n : Next) (w : Within) → number_next (equal_stand n w) ≡ false
equal_next next.Greater w = refl
equal_next next.Measure w = refl
equal_next _ w = refl

sign_next : (n : Next) (w : Within) (g : Bool) (s : Symbol) → number_next (symbol_stand n w g s) ≡ false
sign_next n w g symbol.LeftParen = bracket_next n w
sign_next n w g symbol.Less = either (opens_units n g) (between next.Operand within.Angle) (apart next.Operand w) refl refl
sign_next n w g symbol.Greater =
    either (after_measure_word n) (after next.Ended w) (cond (in_angle w) (after next.Ended within.Plain) (apart next.Greater w)) refl
    (either (in_angle w) (after next.Ended within.Plain) (apart next.Greater w) refl refl)
sign_next n w g symbol.Equal = equal_next n w
sign_next n w g symbol.Minus = either (has_ended n) (apart next.Operand w) (before next.Operand w) refl refl
sign_next n w g symbol.Star = either (in_unit w) (between next.Operand w) (apart next.Operand w) refl refl
sign_next n w g symbol.Slash =
    either (in_unit w) (cond (has_ended n) (between next.Operand w) (before next.Operand w)) (apart next.Operand w)
    (either (has_ended n) (between next.Operand w) (before next.Operand w) refl refl) refl
sign_next n w g symbol.Colon = either (after_bound n) (after next.Heads w) (apart next.Heads w) refl refl
sign_next n w g _ = refl

pub number_stands : (n : Next) (w : Within) (g : Bool) (k : Kind) → NumberStands (kind_stand n w g k) k
number_stands n w g (kind.Name x) = λ e. absurd (false≢true (sym (name_next n w) ∙ e))
number_stands n w g (kind.Var x) = λ e. absurd (false≢true e)
number_stands n w g (kind.Number value digits one) = λ e. (refl, λ j. refl)
number_stands n w g (kind.Word k) = λ e. absurd (false≢true (sym (keyword_next n w k) ∙ e))
number_stands n w g kind.Hole = λ e. absurd (false≢true (sym (hole_next n w) ∙ e))
number_stands n w g (kind.Sign s) = λ e. absurd (false≢true (sym (sign_next n w g s) ∙ e))
