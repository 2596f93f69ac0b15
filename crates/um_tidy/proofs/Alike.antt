-- Tokens that stand as those of a program do, in a text laid out anew.
use Rattle.std.proofs.Common.{◌≡◌, refl, sym, ap, ◌∙◌, subst, Bool, true, false, not, ◌||◌, List, [], ◌∷◌}
use Rattle.std.proofs.lemmas.Bool.{false≢true}
use Rattle.um_syntax.specs.declared.token.Token.{Token}
use Rattle.um_syntax.specs.declared.token.Kind.{Kind}
use Rattle.um_syntax.specs.declared.token.Kind.TheVariants as kind
use Rattle.um_vocabulary.specs.declared.vocabulary.Symbol.{Symbol}
use Rattle.um_vocabulary.specs.declared.vocabulary.Symbol.TheVariants as symbol
use Rattle.um_tidy.specs.declared.stand.Next.{Next}
use Rattle.um_tidy.specs.declared.stand.Next.TheVariants as next_of
use Rattle.um_tidy.specs.declared.stand.Within.{Within}
use Rattle.um_tidy.specs.declared.stand.Stand.{Stand}
use Rattle.um_tidy.specs.Stands.{start, opens_units, less_stand, equal_stand, kind_stand, symbol_stand, stand_of}
use Rattle.um_tidy.specs.Spaces.{goes_on, runs_into, is_spaced}
use Rattle.um_tidy.proofs.StandAgain.{is_number_next, is_less, after_number, less_unlettered, NumberStands, number_stands}
use Rattle.um_tidy.proofs.GlueAnew.{GlueStays, AllStay, FirstStays}

abbrev pub is_greater_next : Next → Bool
is_greater_next next_of.Greater = true
is_greater_next _ = false

abbrev pub is_equal : Kind → Bool
is_equal (kind.Sign symbol.Equal) = true
is_equal _ = false

-- A token of the same kind. A `<` behind a number stands directly behind it exactly if it did. The `=` of a `>=` still
-- stands directly behind the `>`.
pub record Stays (t : Token) (n : Next) (w : Within) (others : List Token) (later : Next → Within → List Token → Type 0) : Type 0 where
  pub token : Token
  pub left : List Token
  pub first : others ≡ token ∷ left
  pub same : token.kind ≡ t.kind
  pub number : is_number_next n ≡ true → is_less t.kind ≡ true → token.glued ≡ t.glued
  pub greater : is_greater_next n ≡ true → is_equal t.kind ≡ true → t.glued ≡ true → token.glued ≡ true
  pub rest : later (kind_stand n w t.glued t.kind).next (kind_stand n w t.glued t.kind).within left

abbrev pub Alike : List Token → Next → Within → List Token → Type 0
Alike [] n w others = others ≡ []
Alike (t ∷ ts) n w others = Stays t n w others (Alike ts)

-- ---- one token

pub record Stepped (t : Token) (n m : Next) (v : Within) (rest others : List Token) : Type 0 where
  pub token : Token
  pub left : List Token
  pub first : others ≡ token ∷ left
  pub same : token.kind ≡ t.kind
  pub number : is_number_next n ≡ true → is_less t.kind ≡ true → token.glued ≡ t.glued
  pub greater : is_greater_next n ≡ true → is_equal t.kind ≡ true → t.glued ≡ true → token.glued ≡ true
  pub later : Alike rest m v left

-- the next token, which is of this kind and leaves the table so
pub step : (t : Token) (tokens rest : List Token) (k : Kind) (n m : Next) (w v : Within) (others : List Token) → t.kind ≡ k → (kind_stand n w t.glued k).next ≡ m → (kind_stand n w t.glued k).within ≡ v → tokens ≡ t ∷ rest → Alike tokens n w others → Stepped t n m v rest others
step t tokens rest k n m w v others is next within e a =
    let b : Stays t n w others (Alike rest) = subst (λ ts. Alike ts n w others) e a in
    record {
      token = b.token;
      left = b.left;
      first = b.first;
      same = b.same;
      number = b.number;
      greater = b.greater;
      later =
          subst (λ x. Alike rest x v b.left) next (subst (λ x. Alike rest (kind_stand n w t.glued k).next x b.left) within
          (subst (λ x. Alike rest (kind_stand n w t.glued x).next (kind_stand n w t.glued x).within b.left) is b.rest));
    }

-- ---- from the text laid out anew

less_no_greater : (b : Bool) (w : Within) → is_greater_next (less_stand b w).next ≡ false
less_no_greater true w = refl
less_no_greater false w = refl

greater_goes : (n : Next) (w : Within) (g : Bool) (s : Symbol) → is_greater_next (symbol_stand n w g s).next ≡ true → goes_on s symbol.Equal ≡ false
greater_goes n w g symbol.Less e = absurd (false≢true (sym (less_no_greater (opens_units n g) w) ∙ e))
greater_goes n w g _ e = refl

-- what a comparing `>` is
abbrev GreaterStands : Stand → Kind → Type 0
GreaterStands s k = is_greater_next s.next ≡ true → runs_into k (kind.Sign symbol.Equal) ≡ false

greater_stands : (n : Next) (w : Within) (g : Bool) (k : Kind) → GreaterStands (kind_stand n w g k) k
greater_stands n w g (kind.Name x) = λ e. refl
greater_stands n w g (kind.Var x) = λ e. refl
greater_stands n w g (kind.Number value digits one) = λ e. refl
greater_stands n w g (kind.Word k) = λ e. refl
greater_stands n w g kind.Hole = λ e. refl
greater_stands n w g (kind.Sign s) = λ e. greater_goes n w g s e

equal_after : (n : Next) (w : Within) → is_greater_next n ≡ true → (equal_stand n w).after ≡ true
equal_after next_of.Greater w e = refl
equal_after _ w e = absurd (false≢true e)

sign_after : (n : Next) (w : Within) (g : Bool) (s : Symbol) → is_greater_next n ≡ true → is_equal (kind.Sign s) ≡ true → (symbol_stand n w g s).after ≡ true
sign_after n w g symbol.Equal greater equal = equal_after n w greater
sign_after n w g _ greater equal = absurd (false≢true equal)

after_greater : (n : Next) (w : Within) (g : Bool) (k : Kind) → is_greater_next n ≡ true → is_equal k ≡ true → (kind_stand n w g k).after ≡ true
after_greater n w g (kind.Name x) greater equal = absurd (false≢true equal)
after_greater n w g (kind.Var x) greater equal = absurd (false≢true equal)
after_greater n w g (kind.Number value digits one) greater equal = absurd (false≢true equal)
after_greater n w g (kind.Word k) greater equal = absurd (false≢true equal)
after_greater n w g kind.Hole greater equal = absurd (false≢true equal)
after_greater n w g (kind.Sign s) greater equal = sign_after n w g s greater equal

equal_sign : (s : Symbol) → is_equal (kind.Sign s) ≡ true → s ≡ symbol.Equal
equal_sign symbol.Equal e = refl
equal_sign _ e = absurd (false≢true e)

equal_kind : (k : Kind) → is_equal k ≡ true → k ≡ kind.Sign symbol.Equal
equal_kind (kind.Name x) e = absurd (false≢true e)
equal_kind (kind.Var x) e = absurd (false≢true e)
equal_kind (kind.Number value digits one) e = absurd (false≢true e)
equal_kind (kind.Word k) e = absurd (false≢true e)
equal_kind kind.Hole e = absurd (false≢true e)
equal_kind (kind.Sign s) e = ap (λ x. kind.Sign x) (equal_sign s e)

or_true : (b : Bool) → (b || true) ≡ true
or_true true = refl
or_true false = refl

-- where the table sees a `<` behind a number
number_stays : (s : Stand) (t u v : Token) → NumberStands s t.kind → GlueStays s t u v → is_number_next s.next ≡ true → is_less u.kind ≡ true → v.glued ≡ u.glued
number_stays s t u v stands g number less = by_glue u.glued refl
  where
    spaced : is_spaced s t.kind (stand_of s u) u.kind ≡ (not (false || u.glued) || false)
    spaced = λ i. not ((stands number).0 i || after_number s.next s.within u.glued u.kind number less i) || ((stands number).1 u.kind ∙ less_unlettered u.kind less) i

    by_glue : (b : Bool) → u.glued ≡ b → v.glued ≡ u.glued
    by_glue true e = g.joined e (spaced ∙ ap (λ b. not (false || b) || false) e) ∙ sym e
    by_glue false e = g.parted e (spaced ∙ ap (λ b. not (false || b) || false) e) ∙ sym e

greater_stays : (s : Stand) (t u v : Token) → GreaterStands s t.kind → GlueStays s t u v → is_greater_next s.next ≡ true → is_equal u.kind ≡ true → u.glued ≡ true → v.glued ≡ true
greater_stays s t u v stands g greater equal on =
    let runs : runs_into t.kind u.kind ≡ false = ap (runs_into t.kind) (equal_kind u.kind equal) ∙ stands greater in
    let after = after_greater s.next s.within u.glued u.kind greater equal in
    let unspaced : is_spaced s t.kind (stand_of s u) u.kind ≡ false =
    ap (λ b. not (s.before || b) || runs_into t.kind u.kind) after ∙ ap (λ b. not b || runs_into t.kind u.kind) (or_true s.before) ∙ runs in
    g.joined on unspaced

alike_from : (us : List Token) (s : Stand) (t : Token) (vs : List Token) → NumberStands s t.kind → GreaterStands s t.kind → AllStay us s t vs → Alike us s.next s.within vs
alike_from [] s t vs number greater a = a
alike_from (u ∷ us) s t vs number greater a = record {
  token = a.token;
  left = a.rest;
  first = a.first;
  same = a.stays.kind;
  number = number_stays s t u a.token number a.stays;
  greater = greater_stays s t u a.token greater a.stays;
  rest = alike_from us (stand_of s u) u a.rest (number_stands s.next s.within u.glued u.kind) (greater_stands s.next s.within u.glued u.kind) a.others;
}

pub alike_all : (tokens others : List Token) → FirstStays tokens others → Alike tokens start.next start.within others
alike_all [] others a = a
alike_all (t ∷ ts) others a = record {
  token = a.0;
  left = a.1;
  first = a.2;
  same = a.3;
  number = λ e. absurd (false≢true e);
  greater = λ e. absurd (false≢true e);
  rest = alike_from ts (stand_of start t) t a.1 (number_stands start.next start.within t.glued t.kind) (greater_stands start.next start.within t.glued t.kind) a.4;
}
