-- Parts of a program's tokens in which numbers before units are replaced, and how such parts are joined.
use Rattle.std.proofs.Common.{◌≡◌, ℕ, Bool, true, false, ◌&&◌, cond, List, [], ◌∷◌, ◌++◌, slice_get, Option, Some, None, refl, sym, ap, subst, ◌∙◌, append_assoc}
use Rattle.std.proofs.lemmas.List.{append-nil}
use Rattle.um_frac.specs.declared.number.Frac.{Frac}
use Rattle.um_syntax.specs.declared.token.Kind.{Kind}
use Rattle.um_syntax.specs.declared.token.Kind.TheVariants as kind
use Rattle.um_syntax.specs.declared.token.Token.{Token}
use Rattle.um_show.proofs.GoodTokens.{IsNatural}
use Rattle.um_rescaled.specs.Replaced.{IsReplaced, AreReplaced}
use Rattle.um_scale.specs.RescaledText.{is_number, opens_unit, new_number}

-- a token, and the number of the literal that it begins, if it does
pub record Pick : Type 0 where
  pub token : Token
  pub number : Option Frac

abbrev pub front : List Pick → List Token
front [] = []
front (p ∷ ps) = p.token ∷ front ps

abbrev pub with_place : ℕ → Option Frac → List (ℕ × Frac)
with_place at None = []
with_place at (Some c) = (at, c) ∷ []

abbrev pub picked : List Pick → List (ℕ × Frac)
picked [] = []
picked (p ∷ ps) = with_place p.token.start p.number ++ picked ps

-- the literal's number is not below 0 if the token's isn't
abbrev pub KeepsSign : Kind → Option Frac → Type 0
KeepsSign k None = Unit {0}
KeepsSign k (Some d) = (c : Frac) × (digits one : Bool) × (k ≡ kind.Number c digits one) × (IsNatural c → IsNatural d)

abbrev pub AllKeepSigns : List Pick → Type 0
AllKeepSigns [] = Unit {0}
AllKeepSigns (p ∷ ps) = KeepsSign p.token.kind p.number × AllKeepSigns ps

-- ---- two lists of them

front_append : (ps qs : List Pick) → front (ps ++ qs) ≡ front ps ++ front qs
front_append [] qs = refl
front_append (p ∷ ps) qs = ap (λ ts. p.token ∷ ts) (front_append ps qs)

picked_append : (ps qs : List Pick) → picked (ps ++ qs) ≡ picked ps ++ picked qs
picked_append [] qs = refl
picked_append (p ∷ ps) qs =
    ap (λ ls. with_place p.token.start p.number ++ ls) (picked_append ps qs) ∙ sym (append_assoc (with_place p.token.start p.number) (picked ps) (picked qs))

signs_append : (ps qs : List Pick) → AllKeepSigns ps → AllKeepSigns qs → AllKeepSigns (ps ++ qs)
signs_append [] qs h k = k
signs_append (p ∷ ps) qs h k = (h.0, signs_append ps qs h.1 k)

module _ (numbers : ℕ → Option Frac) where
  -- the table has these numbers, and no others at these tokens
  abbrev pub AreTold : List Pick → Type 0
  AreTold [] = Unit {0}
  AreTold (p ∷ ps) = (numbers p.token.start ≡ p.number) × AreTold ps

  told_parts : (ps qs : List Pick) → AreTold (ps ++ qs) → AreTold ps × AreTold qs
  told_parts [] qs h = (tt, h)
  told_parts (p ∷ ps) qs h = let r = told_parts ps qs h.1 in ((h.0, r.0), r.1)

  -- ---- parts

  pub same_start : (o : Option Frac) (t u : Token) → IsReplaced o t u → u.start ≡ t.start
  same_start None t u r = ap (λ (z : Token). z.start) r
  same_start (Some c) t u r = ap (λ (z : Token). z.start) r.2

  -- what the other tokens are up to the rest
  pub record Read (Good : List Token → List Token → Type 0) (rest others : List Token) : Type 0 where
    pub left : List Token
    pub later : AreReplaced numbers rest left
    pub good : Good others left

  -- from the tokens up to the rest, with these literals
  pub record Segment (literals : List (ℕ × Frac)) (tokens rest : List Token) (Good : List Token → List Token → Type 0) : Type 0 where
    pub picks : List Pick
    pub cut : tokens ≡ front picks ++ rest
    pub marked : picked picks ≡ literals
    pub signs : AllKeepSigns picks
    pub again : AreTold picks → (others : List Token) → AreReplaced numbers tokens others → Read Good rest others

  -- one part and then another
  pub record Joint (F G : List Token → List Token → Type 0) (others left : List Token) : Type 0 where
    pub mid : List Token
    pub first : F others mid
    pub second : G mid left

  pub joint : {ls ms : List (ℕ × Frac)} → {a b c : List Token} → {F G : List Token → List Token → Type 0} → Segment ls a b F → Segment ms b c G → Segment (ls ++ ms) a c (Joint F G)
  joint {c = c} s z = record {
    picks = s.picks ++ z.picks;
    cut =
        s.cut ∙ ap (λ ts. front s.picks ++ ts) z.cut ∙ sym (append_assoc (front s.picks) (front z.picks) c)
        ∙ sym (ap (λ ts. ts ++ c) (front_append s.picks z.picks));
    marked = picked_append s.picks z.picks ∙ (λ i. s.marked i ++ z.marked i);
    signs = signs_append s.picks z.picks s.signs z.signs;
    again = λ told others r.
        let parts = told_parts s.picks z.picks told in
        let x = s.again parts.0 others r in
        let y = z.again parts.1 x.left x.later in
        record { left = y.left; later = y.later; good = record { mid = x.left; first = x.good; second = y.good } };
  }

  pub made : {ls : List (ℕ × Frac)} → {a b : List Token} → {F G : List Token → List Token → Type 0} → Segment ls a b F → ((x y : List Token) → F x y → G x y) → Segment ls a b G
  made s f = record {
    picks = s.picks;
    cut = s.cut;
    marked = s.marked;
    signs = s.signs;
    again = λ told others r. let x = s.again told others r in record { left = x.left; later = x.later; good = f others x.left x.good };
  }

  pub listed : {ls ms : List (ℕ × Frac)} → {a b : List Token} → {F : List Token → List Token → Type 0} → ls ≡ ms → Segment ls a b F → Segment ms a b F
  listed e s = record { picks = s.picks; cut = s.cut; marked = s.marked ∙ e; signs = s.signs; again = s.again }

  -- the first part has no literals
  pub before : {ls : List (ℕ × Frac)} → {a b c : List Token} → {F G : List Token → List Token → Type 0} → Segment [] a b F → Segment ls b c G → Segment ls a c (Joint F G)
  before {ls = ls} s z = joint {ls = []} {ms = ls} s z

  -- the second part has no literals
  pub ended : {ls : List (ℕ × Frac)} → {a b c : List Token} → {F G : List Token → List Token → Type 0} → Segment ls a b F → Segment [] b c G → Segment ls a c (Joint F G)
  ended {ls = ls} s z = listed (append-nil ls) (joint {ls = ls} {ms = []} s z)

  pub empty : (a b : List Token) → a ≡ b → Segment [] a b (λ x y. x ≡ y)
  empty a b e = record {
    picks = [];
    cut = e;
    marked = refl;
    signs = tt;
    again = λ told others r. record { left = others; later = subst (λ ts. AreReplaced numbers ts others) e r; good = refl };
  }

  -- ---- one token

  none_new : (t : Token) (b : Bool) → numbers t.start ≡ None → new_number numbers t b ≡ None
  none_new t b e = by (is_number t.kind && b)
    where
      by : (x : Bool) → cond x (numbers t.start) None ≡ None
      by true = e
      by false = refl

  kept : (t : Token) (rest others : List Token) → numbers t.start ≡ None → AreReplaced numbers (t ∷ rest) others → Read (λ x y. x ≡ t ∷ y) rest others
  kept t rest others none r =
      let same : r.0 ≡ t = subst (λ o. IsReplaced o t r.0) (none_new t (opens_unit (slice_get rest 0)) none) r.3 in
      record { left = r.1; later = r.4; good = r.2 ∙ ap (λ u. u ∷ r.1) same }

  -- it begins no literal, and stays
  pub single : (t : Token) (tokens rest : List Token) → tokens ≡ t ∷ rest → Segment [] tokens rest (λ x y. x ≡ t ∷ y)
  single t tokens rest e = record {
    picks = record { token = t; number = None } ∷ [];
    cut = e;
    marked = refl;
    signs = (tt, tt);
    again = λ told others r. kept t rest others told.0 (subst (λ ts. AreReplaced numbers ts others) e r);
  }

  -- the first token of a literal
  pub record LiteralToken (t : Token) (next : List Token) (d : Frac) (others left : List Token) : Type 0 where
    pub token : Token
    pub first : others ≡ token ∷ left
    pub replaced : IsReplaced (new_number numbers t (opens_unit (slice_get next 0))) t token
    pub told : numbers t.start ≡ Some d

  pub literal : (t : Token) (tokens next : List Token) (d : Frac) → tokens ≡ t ∷ next → KeepsSign t.kind (Some d) → Segment ((t.start, d) ∷ []) tokens next (LiteralToken t next d)
  literal t tokens next d e sign = record {
    picks = record { token = t; number = Some d } ∷ [];
    cut = e;
    marked = refl;
    signs = (sign, tt);
    again = λ told others r.
        let x : AreReplaced numbers (t ∷ next) others = subst (λ ts. AreReplaced numbers ts others) e r in
        record { left = x.1; later = x.4; good = record { token = x.0; first = x.2; replaced = x.3; told = told.0 } };
  }

  -- with the tokens where a part begins and ends
  pub seen : {ls : List (ℕ × Frac)} → {a b : List Token} → {F : List Token → List Token → Type 0} → Segment ls a b F → Segment ls a b (λ x y. AreReplaced numbers a x × AreReplaced numbers b y × F x y)
  seen s = record {
    picks = s.picks;
    cut = s.cut;
    marked = s.marked;
    signs = s.signs;
    again = λ told others r. let x = s.again told others r in record { left = x.left; later = x.later; good = (r, x.later, x.good) };
  }
