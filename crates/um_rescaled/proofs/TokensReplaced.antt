-- Tokens of expressions and declarations that stay where numbers before units are replaced.
use Rattle.std.proofs.Common.{◌≡◌, ◌⊎◌, inl, inr, ℕ, suc, ℤ, Bool, true, false, ◌&&◌, cond, List, [], ◌∷◌, ◌++◌, length, length-append, slice_get, Option, Some, None, refl, sym, ap, subst, ◌∙◌, arith}
use Rattle.um_frac.specs.declared.number.Frac.{Frac}
use Rattle.um_syntax.specs.declared.token.Kind.{Kind}
use Rattle.um_syntax.specs.declared.token.Kind.TheVariants as kind
use Rattle.um_syntax.specs.declared.token.Token.{Token}
use Rattle.um_vocabulary.specs.declared.vocabulary.Symbol.TheVariants as symbol
use Rattle.um_tree.specs.declared.expression.Sign.TheVariants as compare
use Rattle.um_tree.specs.RawTree.{NoteSyntax, TypeSyntax, BinderSyntax}
use Rattle.um_operands.specs.declared.infix.Infix.{Infix}
use Rattle.um_operands.specs.declared.infix.Infix.TheVariants as between
use Rattle.um_forms.specs.declared.token.ExprToken.{ExprToken}
use Rattle.um_forms.specs.declared.token.ExprToken.TheVariants.{Number as number, Operator as operator, Mark as mark}
use Rattle.um_forms.specs.ExprTokens.{expr_token, less}
use Rattle.um_expr.specs.ExprGrammar.{First, FirstAt, FirstGlued, BinderSpells, AfterNumber, InfixAt, WrittenNote, FirstPower, PowerSpells, EmptyArm, FullArm, NilSpells}
use Rattle.um_scale.specs.RescaledText.{is_number, is_less, opens_unit, new_number}
use Rattle.um_tidy.proofs.TokenKinds.{number_is, operator_is}
use Rattle.um_rescaled.specs.Replaced.{IsReplaced, AreReplaced}
use Rattle.um_rescaled.proofs.Picks.{front, Segment, made, before, ended, empty, single, seen}
use Rattle.um_rescaled.proofs.UnitsReplaced.{note_replaced, type_replaced}

-- a number before units is of this kind
pub number_kind : (k : Kind) (c : Frac) → expr_token k ≡ number c → (digits one : Bool) × (k ≡ kind.Number c digits one)
number_kind k c e =
    let n = number_is k c e in
    let same : number n.value ≡ number c = ap expr_token (sym n.is) ∙ e in
    let value : n.value ≡ c = cc same in
    (n.digits, n.one, n.is ∙ ap (λ v. kind.Number v n.digits n.one) value)

-- the next token is a `<` directly after
pub opens_after : (tokens rest : List Token) → FirstGlued less tokens rest → opens_unit (slice_get tokens 0) ≡ true
opens_after tokens rest f =
    ap (λ ts. opens_unit (slice_get ts 0)) f.3 ∙ (λ i. f.2 i && is_less ((f.0).kind)) ∙ ap is_less (operator_is (f.0).kind (between.Compare compare.Lt) f.1)

module _ (numbers : ℕ → Option Frac) where
  abbrev pub Stays : List Token → List Token → (List Token → List Token → Type 0) → Type 0
  Stays tokens rest Good = Segment numbers [] tokens rest Good

  pub first : (what : ExprToken) (tokens rest : List Token) → First what tokens rest → Stays tokens rest (λ x y. First what x y)
  first what tokens rest f = made numbers (single numbers f.0 tokens rest f.2) (λ x y e. (f.0, f.1, e))

  pub first_at : (what : ExprToken) (at : ℕ) (tokens rest : List Token) → FirstAt what at tokens rest → Stays tokens rest (λ x y. FirstAt what at x y)
  first_at what at tokens rest f = made numbers (single numbers f.0 tokens rest f.3) (λ x y e. (f.0, f.1, f.2, e))

  pub first_glued : (what : ExprToken) (tokens rest : List Token) → FirstGlued what tokens rest → Stays tokens rest (λ x y. FirstGlued what x y)
  first_glued what tokens rest f = made numbers (single numbers f.0 tokens rest f.3) (λ x y e. (f.0, f.1, f.2, e))

  -- ---- what a replaced token is

  -- the same number where the table has it
  pub same_number : (t u : Token) (b : Bool) (c : Frac) → numbers t.start ≡ Some c → expr_token t.kind ≡ number c → IsReplaced (new_number numbers t b) t u → expr_token u.kind ≡ number c
  same_number t u b c told e r = by (is_number t.kind && b) r
    where
      by : (x : Bool) → IsReplaced (cond x (numbers t.start) None) t u → expr_token u.kind ≡ number c
      by true r =
          let s : IsReplaced (Some c) t u = subst (λ o. IsReplaced o t u) told r in
          ap (λ (z : Token). expr_token z.kind) s.2
      by false r = ap (λ (z : Token). expr_token z.kind) r ∙ e

  -- before a unit, the number that the table has
  pub new_kind : (t u : Token) (b : Bool) (c d : Frac) → numbers t.start ≡ Some d → expr_token t.kind ≡ number c → b ≡ true → IsReplaced (new_number numbers t b) t u → expr_token u.kind ≡ number d
  new_kind t u b c d told e opens r =
      let n = number_kind t.kind c e in
      let is : new_number numbers t b ≡ Some d = (λ i. cond (is_number (n.2 i) && opens i) (numbers t.start) None) ∙ told in
      let s : IsReplaced (Some d) t u = subst (λ o. IsReplaced o t u) is r in
      ap (λ (z : Token). expr_token z.kind) s.2

  -- it was a number if it is one
  number_before : (t u : Token) (b : Bool) (c : Frac) → expr_token u.kind ≡ number c → IsReplaced (new_number numbers t b) t u → (d : Frac) × (expr_token t.kind ≡ number d)
  number_before t u b c e r = by t.kind refl
    where
      same : is_number t.kind ≡ false → expr_token t.kind ≡ number c
      same none = let s : u ≡ t = subst (λ x. IsReplaced (cond (x && b) (numbers t.start) None) t u) none r in ap (λ (z : Token). expr_token z.kind) (sym s) ∙ e

      by : (k : Kind) → t.kind ≡ k → (d : Frac) × (expr_token t.kind ≡ number d)
      by (kind.Number value digits one) is = (value, ap expr_token is)
      by (kind.Name x) is = (c, same (ap is_number is))
      by (kind.Var x) is = (c, same (ap is_number is))
      by (kind.Word w) is = (c, same (ap is_number is))
      by kind.Hole is = (c, same (ap is_number is))
      by (kind.Sign s) is = (c, same (ap is_number is))

  -- ---- a `<` after an operand

  same_length : (ts us : List Token) → AreReplaced numbers ts us → length us ≡ length ts
  same_length [] us r = ap length r
  same_length (t ∷ ts) us r = ap length r.2 ∙ ap suc (same_length ts r.1 r.4)

  -- the last token that was read is a number
  last_number : (reads read mid left : List Token) (u : Token) (c : Frac) → expr_token u.kind ≡ number c → length left ≡ length mid → AreReplaced numbers (reads ++ mid) (read ++ u ∷ left) → AfterNumber (reads ++ mid) mid
  last_number [] read mid left u c e size r =
      let long = same_length mid (read ++ u ∷ left) r in
      let parts = length-append read (u ∷ left) in
      absurd (omega (arith, long, parts, size))
  last_number (t ∷ []) [] mid left u c e size r =
      let same : r.0 ≡ u = cc r.2 in
      let b = opens_unit (slice_get mid 0) in
      let n = number_before t u b c e (subst (λ v. IsReplaced (new_number numbers t b) t v) same r.3) in
      ([], t ∷ mid, n.0, refl, (t, n.1, refl))
  last_number (t ∷ s ∷ ts) [] mid left u c e size r =
      let long = same_length (t ∷ s ∷ (ts ++ mid)) (u ∷ left) r in
      let parts = length-append ts mid in
      absurd (omega (arith, long, parts, size))
  last_number (t ∷ ts) (v ∷ read) mid left u c e size r =
      let same : read ++ u ∷ left ≡ r.1 = cc r.2 in
      let q = last_number ts read mid left u c e size (subst (λ us. AreReplaced numbers (ts ++ mid) us) (sym same) r.4) in
      (t ∷ q.0, q.1, q.2, ap (λ us. t ∷ us) q.3, q.4)

  after_number : (tokens mid reads others left : List Token) → tokens ≡ reads ++ mid → AreReplaced numbers tokens others → AreReplaced numbers mid left → AfterNumber others left → AfterNumber tokens mid
  after_number tokens mid reads others left cut r later after =
      let u = after.4.0 in
      let whole : others ≡ after.0 ++ u ∷ left = after.3 ∙ ap (λ us. after.0 ++ us) after.4.2 in
      let moved : AreReplaced numbers (reads ++ mid) (after.0 ++ u ∷ left) = subst (λ us. AreReplaced numbers (reads ++ mid) us) whole (subst (λ ts. AreReplaced numbers ts others) cut r) in
      subst (λ ts. AfterNumber ts mid) (sym cut) (last_number reads after.0 mid left u after.2 after.4.1 (same_length mid left later) moved)

  -- ---- a sign after its left operand

  pub record Signed (op : Infix) (at : ℕ) (F : List Token → List Token → Type 0) (others left : List Token) : Type 0 where
    pub mid : List Token
    pub first : F others mid
    pub sign : InfixAt op others at mid left

  at_sign : {ls : List (ℕ × Frac)} → {F : List Token → List Token → Type 0} → (op : Infix) (at : ℕ) (tokens mid next : List Token) → FirstAt (operator op) at mid next → ((x y z : List Token) → FirstAt (operator op) at y z → InfixAt op x at y z) → Segment numbers ls tokens mid F → Segment numbers ls tokens next (Signed op at F)
  at_sign op at tokens mid next s is p =
      made numbers (ended numbers p (first_at _ at mid next s)) (λ x y g. record { mid = g.mid; first = g.first; sign = is x g.mid y g.second })

  pub signed : {ls : List (ℕ × Frac)} → {F : List Token → List Token → Type 0} → (op : Infix) (at : ℕ) (tokens mid next : List Token) → InfixAt op tokens at mid next → Segment numbers ls tokens mid F → Segment numbers ls tokens next (Signed op at F)
  signed (between.Compare compare.Lt) at tokens mid next s p =
      made numbers (ended numbers (seen numbers p) (single numbers s.0 mid next s.4))
      (λ x y g. record {
        mid = g.mid;
        first = g.first.2;
        sign = (s.0, s.1, s.2, (λ after. s.3 (after_number tokens mid (front p.picks) x g.mid p.cut g.first.0 g.first.1 after)), g.second);
      })
  signed (between.Compare compare.Ge) at tokens mid next s p =
      made numbers (ended numbers p (before numbers (first_at _ at mid s.0 s.1) (first_glued _ s.0 next s.2)))
      (λ x y g. record { mid = g.mid; first = g.first; sign = (g.second.mid, g.second.first, g.second.second) })
  signed (between.Compare compare.Le) at tokens mid next s p = at_sign (between.Compare compare.Le) at tokens mid next s (λ x y z f. f) p
  signed (between.Compare compare.Gt) at tokens mid next s p = at_sign (between.Compare compare.Gt) at tokens mid next s (λ x y z f. f) p
  signed (between.Compare compare.Eq) at tokens mid next s p = at_sign (between.Compare compare.Eq) at tokens mid next s (λ x y z f. f) p
  signed (between.Compare compare.Ne) at tokens mid next s p = at_sign (between.Compare compare.Ne) at tokens mid next s (λ x y z f. f) p
  signed between.Or at tokens mid next s p = at_sign between.Or at tokens mid next s (λ x y z f. f) p
  signed between.And at tokens mid next s p = at_sign between.And at tokens mid next s (λ x y z f. f) p
  signed between.Cons at tokens mid next s p = at_sign between.Cons at tokens mid next s (λ x y z f. f) p
  signed (between.Arith op) at tokens mid next s p = at_sign (between.Arith op) at tokens mid next s (λ x y z f. f) p

  -- ---- parts of expressions

  pub bound_replaced : (b : BinderSyntax) (tokens rest : List Token) → BinderSpells b tokens rest → Stays tokens rest (λ x y. BinderSpells b x y)
  bound_replaced b tokens rest s = first_at _ b.at tokens rest s

  pub written_replaced : (n : Option NoteSyntax) (tokens rest : List Token) → WrittenNote n tokens rest → Stays tokens rest (λ x y. WrittenNote n x y)
  written_replaced None tokens rest s = empty numbers tokens rest s
  written_replaced (Some n) tokens rest s =
      made numbers (before numbers (first_glued _ tokens s.0 s.2) (before numbers (note_replaced numbers n s.0 s.1 s.3) (first _ s.1 rest s.4)))
      (λ x y g. (g.mid, g.second.mid, g.first, g.second.first, g.second.second))

  power_first : (n : ℕ) (tokens rest : List Token) → FirstPower n tokens rest → Stays tokens rest (λ x y. FirstPower n x y)
  power_first n tokens rest f = made numbers (single numbers f.0 tokens rest f.2) (λ x y e. (f.0, f.1, e))

  pub power_replaced : (k : ℤ) (tokens rest : List Token) → PowerSpells k tokens rest → Stays tokens rest (λ x y. PowerSpells k x y)
  power_replaced k tokens rest (inl s) = made numbers (power_first s.0 tokens rest s.2) (λ x y f. inl (s.0, s.1, f))
  power_replaced k tokens rest (inr s) =
      made numbers (before numbers (first _ tokens s.1 s.5) (before numbers (first _ s.1 s.2 s.6) (before numbers (power_first s.0 s.2 s.3 s.7) (first _ s.3 rest s.8))))
      (λ x y g. inr (s.0, g.mid, g.second.mid, g.second.second.mid, s.4, g.first, g.second.first, g.second.second.first, g.second.second.second))

  bar_replaced : (arm empty_list : List Token) → (arm ≡ empty_list) ⊎ First (mark symbol.Bar) arm empty_list → Stays arm empty_list (λ x y. (x ≡ y) ⊎ First (mark symbol.Bar) x y)
  bar_replaced arm empty_list (inl e) = made numbers (empty numbers arm empty_list e) (λ x y f. inl f)
  bar_replaced arm empty_list (inr b) = made numbers (first _ arm empty_list b) (λ x y f. inr f)

  pub empty_arm_replaced : (tokens rest : List Token) → EmptyArm tokens rest → Stays tokens rest (λ x y. EmptyArm x y)
  empty_arm_replaced tokens rest s =
      made numbers
      (before numbers (first _ tokens s.0 s.4) (before numbers (bar_replaced s.0 s.1 s.5) (before numbers (first _ s.1 s.2 s.6) (before numbers (first _ s.2 s.3 s.7) (first _ s.3 rest s.8)))))
      (λ x y g. let h = g.second in let i = h.second in let j = i.second in (g.mid, h.mid, i.mid, j.mid, g.first, h.first, i.first, j.first, j.second))

  pub full_arm_replaced : (b c : BinderSyntax) (tokens rest : List Token) → FullArm b c tokens rest → Stays tokens rest (λ x y. FullArm b c x y)
  full_arm_replaced b c tokens rest s =
      made numbers
      (before numbers (first _ tokens s.0 s.4) (before numbers (bound_replaced b s.0 s.1 s.5) (before numbers (first _ s.1 s.2 s.6) (before numbers (bound_replaced c s.2 s.3 s.7) (first _ s.3 rest s.8)))))
      (λ x y g. let h = g.second in let i = h.second in let j = i.second in (g.mid, h.mid, i.mid, j.mid, g.first, h.first, i.first, j.first, j.second))

  pub nil_replaced : (at : ℕ) (t : TypeSyntax) (tokens rest : List Token) → NilSpells at t tokens rest → Stays tokens rest (λ x y. NilSpells at t x y)
  nil_replaced at t tokens rest s =
      made numbers
      (before numbers (first_at _ at tokens s.0 s.5)
      (before numbers (first _ s.0 s.1 s.6) (before numbers (first _ s.1 s.2 s.7) (before numbers (first _ s.2 s.3 s.8) (before numbers (type_replaced numbers t s.3 s.4 s.9) (first _ s.4 rest s.10))))))
      (λ x y g. let h = g.second in let i = h.second in let j = i.second in let k = j.second in (g.mid, h.mid, i.mid, j.mid, k.mid, g.first, h.first, i.first, j.first, k.first, k.second))
