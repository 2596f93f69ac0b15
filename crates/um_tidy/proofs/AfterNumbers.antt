-- A `<` between two operands, in a text laid out anew, stands directly behind a number only if it did.
use Rattle.std.proofs.Common.{◌≡◌, refl, sym, ap, ◌∙◌, subst, Bool, true, false, List, [], ◌∷◌, ◌++◌, length, append_assoc, length-append, arith}
use Rattle.um_frac.specs.declared.number.Frac.{Frac}
use Rattle.um_syntax.specs.declared.token.Token.{Token}
use Rattle.um_syntax.specs.declared.token.Kind.{Kind}
use Rattle.um_syntax.specs.declared.token.Kind.TheVariants as kind
use Rattle.um_vocabulary.specs.declared.vocabulary.Keyword.TheVariants as keyword
use Rattle.um_vocabulary.specs.declared.vocabulary.Symbol.TheVariants as symbol
use Rattle.um_forms.specs.declared.token.ExprToken.TheVariants.{Number as number}
use Rattle.um_forms.specs.ExprTokens.{expr_token}
use Rattle.um_expr.specs.ExprGrammar.{AfterNumber}
use Rattle.um_tidy.specs.declared.stand.Next.{Next}
use Rattle.um_tidy.specs.declared.stand.Within.{Within}
use Rattle.um_tidy.specs.Stands.{kind_stand}
use Rattle.um_tidy.specs.Laws.{kinds}
use Rattle.um_tidy.proofs.StandAgain.{is_number_next, is_less}
use Rattle.um_tidy.proofs.Alike.{Stays, Alike}

-- ---- what the table holds behind tokens

abbrev next_after : List Token → Next → Within → Next
next_after [] n w = n
next_after (t ∷ ts) n w = next_after ts (kind_stand n w t.glued t.kind).next (kind_stand n w t.glued t.kind).within

abbrev within_after : List Token → Next → Within → Within
within_after [] n w = w
within_after (t ∷ ts) n w = within_after ts (kind_stand n w t.glued t.kind).next (kind_stand n w t.glued t.kind).within

abbrev is_number : Kind → Bool
is_number (kind.Number value digits one) = true
is_number _ = false

number_next : (n : Next) (w : Within) (g : Bool) (k : Kind) → is_number k ≡ true → is_number_next (kind_stand n w g k).next ≡ true
number_next n w g (kind.Name x) e = absurd cc
number_next n w g (kind.Var x) e = absurd cc
number_next n w g (kind.Number value digits one) e = refl
number_next n w g (kind.Word k) e = absurd cc
number_next n w g kind.Hole e = absurd cc
number_next n w g (kind.Sign s) e = absurd cc

last_number : (front : List Token) (t : Token) (n : Next) (w : Within) → is_number t.kind ≡ true → is_number_next (next_after (front ++ t ∷ []) n w) ≡ true
last_number [] t n w e = number_next n w t.glued t.kind e
last_number (u ∷ us) t n w e = last_number us t (kind_stand n w u.glued u.kind).next (kind_stand n w u.glued u.kind).within e

-- ---- the first of such tokens, and the others

record Split (reads mid : List Token) (n : Next) (w : Within) (others : List Token) : Type 0 where
  pub read : List Token
  pub left : List Token
  pub parts : others ≡ read ++ left
  pub same : kinds read ≡ kinds reads
  pub later : Alike mid (next_after reads n w) (within_after reads n w) left

split : (reads mid : List Token) (n : Next) (w : Within) (others : List Token) → Alike (reads ++ mid) n w others → Split reads mid n w others
split [] mid n w others a = record { read = []; left = others; parts = refl; same = refl; later = a }
split (t ∷ ts) mid n w others a =
    let r = split ts mid (kind_stand n w t.glued t.kind).next (kind_stand n w t.glued t.kind).within a.left a.rest in
    record {
      read = a.token ∷ r.read;
      left = r.left;
      parts = a.first ∙ ap (λ xs. a.token ∷ xs) r.parts;
      same = λ i. a.same i ∷ r.same i;
      later = r.later;
    }

alike_kinds : (ts : List Token) (n : Next) (w : Within) (others : List Token) → Alike ts n w others → kinds others ≡ kinds ts
alike_kinds [] n w others a = ap kinds a
alike_kinds (t ∷ ts) n w others a =
    ap kinds a.first ∙ (λ i. a.same i ∷ alike_kinds ts (kind_stand n w t.glued t.kind).next (kind_stand n w t.glued t.kind).within a.left a.rest i)

pub alike_length : (ts : List Token) (n : Next) (w : Within) (others : List Token) → Alike ts n w others → length others ≡ length ts
alike_length [] n w others a = ap length a
alike_length (t ∷ ts) n w others a =
    let more = alike_length ts (kind_stand n w t.glued t.kind).next (kind_stand n w t.glued t.kind).within a.left a.rest in
    let whole : length others ≡ length (a.token ∷ a.left) = ap length a.first in
    omega (arith, whole, more)

-- ---- lists cut at the same place

parts_same : {A : Type 0} (a b x y : List A) → a ++ x ≡ b ++ y → length x ≡ length y → (a ≡ b) × (x ≡ y)
parts_same [] [] x y e n = (refl, e)
parts_same [] (c ∷ b) x y e n =
    let whole : length x ≡ length (c ∷ (b ++ y)) = ap length e in
    let size = length-append b y in
    absurd (omega (arith, n, whole, size))
parts_same (c ∷ a) [] x y e n =
    let whole : length y ≡ length (c ∷ (a ++ x)) = ap length (sym e) in
    let size = length-append a x in
    absurd (omega (arith, n, whole, size))
parts_same (c ∷ a) (d ∷ b) x y e n =
    let first : c ≡ d = cc in let others : a ++ x ≡ b ++ y = cc in
    let r = parts_same a b x y others n in
    ((λ i. first i ∷ r.0 i), r.1)

-- the last token, where the kinds of all are those of others
record EndsAlike (reads : List Token) (t : Token) : Type 0 where
  pub front : List Token
  pub last : Token
  pub parts : reads ≡ front ++ last ∷ []
  pub same : last.kind ≡ t.kind

ends_alike : (reads front : List Token) (t : Token) → kinds (front ++ t ∷ []) ≡ kinds reads → EndsAlike reads t
ends_alike [] [] t e = absurd cc
ends_alike [] (u ∷ us) t e = absurd cc
ends_alike (r ∷ []) [] t e = record { front = []; last = r; parts = refl; same = cc }
ends_alike (r ∷ s ∷ rs) [] t e = absurd cc
ends_alike (r ∷ rs) (u ∷ us) t e =
    let more : kinds (us ++ t ∷ []) ≡ kinds rs = cc in
    let q = ends_alike rs us t more in
    record { front = r ∷ q.front; last = q.last; parts = ap (λ xs. r ∷ xs) q.parts; same = q.same }

-- ---- what a number is

number_is : (k : Kind) (c : Frac) → expr_token k ≡ number c → is_number k ≡ true
number_is (kind.Number value digits one) c e = refl
number_is (kind.Sign symbol.Less) c e = absurd cc
number_is (kind.Word keyword.True) c e = absurd cc
number_is _ c e = absurd cc

-- Both texts have read an operand, and a token follows that isn't a `<` directly behind a number. It is none in the second.
pub less_stays : (tokens reads mid next others again left more : List Token) (n : Next) (w : Within) (t u : Token) → tokens ≡ reads ++ mid → mid ≡ t ∷ next → Alike tokens n w others → others ≡ again ++ left → length left ≡ length mid → left ≡ u ∷ more → is_less t.kind ≡ true
    → (AfterNumber tokens mid → t.glued ≡ false) → AfterNumber others left → u.glued ≡ false
less_stays tokens reads mid next others again left more n w t u whole is a parts size first less apart after =
    let p = split reads mid n w others (subst (λ ts. Alike ts n w others) whole a) in
    let long : length left ≡ length p.left = size ∙ sym (alike_length mid (next_after reads n w) (within_after reads n w) p.left p.later) in
    let x = after.4.0 in
    let cut : others ≡ (after.0 ++ x ∷ []) ++ left = after.3 ∙ ap (λ xs. after.0 ++ xs) after.4.2 ∙ sym (append_assoc after.0 (x ∷ []) left) in
    let both = parts_same (after.0 ++ x ∷ []) p.read left p.left (sym cut ∙ p.parts) long in
    let b : Stays t (next_after reads n w) (within_after reads n w) left (Alike next) =
    subst (λ ts. Alike ts (next_after reads n w) (within_after reads n w) left) is (subst (λ ls. Alike mid (next_after reads n w) (within_after reads n w) ls) (sym both.1) p.later) in
    let q = ends_alike reads after.0 x (ap kinds both.0 ∙ p.same) in
    let numbered : is_number q.last.kind ≡ true = ap is_number q.same ∙ number_is x.kind after.2 after.4.1 in
    let next_number : is_number_next (next_after reads n w) ≡ true = subst (λ rs. is_number_next (next_after rs n w) ≡ true) (sym q.parts) (last_number q.front q.last n w numbered) in
    let old : AfterNumber tokens mid =
    (q.front, q.last ∷ mid, after.2, whole ∙ ap (λ rs. rs ++ mid) q.parts ∙ append_assoc q.front (q.last ∷ []) mid, (q.last, ap expr_token q.same ∙ after.4.1, refl)) in
    let same : u ≡ b.token = cc in
    ap (λ (z : Token). z.glued) same ∙ b.number next_number less ∙ apart old
