-- What was tried decides which numbers and signs are told.
use Rattle.std.proofs.Common.{◌≡◌, ◌&&◌, ◌||◌, not, Bool, true, false, Some, None, ℤ, refl, sym, subst, ◌∙◌}
use Rattle.std.specs.Bool.{Decides}
use Rattle.um_frac.specs.declared.number.Frac.{Frac}
use Rattle.um_frac.specs.Fraction.{reduced}
use Rattle.um_syntax.specs.declared.token.Kind.TheVariants as kind
use Rattle.um_vocabulary.specs.declared.vocabulary.Symbol.{Symbol}
use Rattle.um_text_details.specs.declared.word.Word.TheVariants as word
use Rattle.um_text_details.specs.declared.tell.Tried.{Tried}
use Rattle.um_text_details.specs.Words.{is_operator}
use Rattle.um_text_details.specs.Expected.{Place, CanStand, NumberCanStand, IsPower, FractionCanStand, TwoCanStand}
use Rattle.um_text_details.specs.Expected.{OneCanStand, AllOperatorsStand, IsExpected}
use Rattle.um_text_details.specs.Trials.{IsTried, number_told, whole_told, one_told}

pub clash : false ≡ true → ⊥
clash e = cc

-- ---- a number by its value

same_value : (x y : Frac) → Some x ≡ Some y → x ≡ y
same_value x y e = cc

pub number_stands : (p : Place) (n d : ℤ) (digits one : Bool) (value : Frac) (b : Bool) → reduced n d ≡ Some value
    → Decides b (CanStand p (kind.Number value digits one)) → Decides b (NumberCanStand p n d digits one)
number_stands p n d digits one value b e h = (
  (λ t. (value, e, h.0 t)),
  (λ s. h.1 (subst (λ v. CanStand p (kind.Number v digits one)) (same_value s.0 value (sym s.1 ∙ e)) s.2)),
)

no_value : (x : Frac) → None ≡ Some x → ⊥
no_value x e = cc

pub no_number : (p : Place) (n d : ℤ) (digits one : Bool) → reduced n d ≡ None → Decides false (NumberCanStand p n d digits one)
no_number p n d digits one e = ((λ t. absurd (clash t)), (λ s. absurd (no_value s.0 (sym e ∙ s.1))))

-- ---- by the answers to several tries

module _ (P F W O : Type 0) where
  number_by : (power fraction : Bool) → Decides power P → Decides fraction F
      → Decides (not power && fraction) ((P → ⊥) × F)
  number_by true fraction p f = ((λ e. absurd (clash e)), (λ x. absurd (x.0 (p.0 refl))))
  number_by false true p f = ((λ e. ((λ x. clash (p.1 x)), f.0 refl)), (λ x. refl))
  number_by false false p f = ((λ e. absurd (clash e)), (λ x. f.1 x.1))

  whole_by : (power fraction two : Bool) → Decides power P → Decides fraction F → Decides two W
      → Decides ((power || not fraction) && two) ((F → P) × W)
  whole_by true fraction true p f w = ((λ e. ((λ x. p.0 refl), w.0 refl)), (λ x. refl))
  whole_by true fraction false p f w = ((λ e. absurd (clash e)), (λ x. w.1 x.1))
  whole_by false true two p f w = ((λ e. absurd (clash e)), (λ x. p.1 (x.0 (f.0 refl))))
  whole_by false false true p f w = ((λ e. ((λ x. absurd (clash (f.1 x))), w.0 refl)), (λ x. refl))
  whole_by false false false p f w = ((λ e. absurd (clash e)), (λ x. w.1 x.1))

  one_by : (power fraction two one : Bool) → Decides power P → Decides fraction F → Decides two W → Decides one O
      → Decides (not power && (not fraction && (not two && one))) ((P → ⊥) × (F → ⊥) × (W → ⊥) × O)
  one_by true fraction two one p f w o = ((λ e. absurd (clash e)), (λ x. absurd (x.0 (p.0 refl))))
  one_by false true two one p f w o = ((λ e. absurd (clash e)), (λ x. absurd (x.1 (f.0 refl))))
  one_by false false true one p f w o = ((λ e. absurd (clash e)), (λ x. absurd (x.2 (w.0 refl))))
  one_by false false false true p f w o =
      ((λ e. ((λ x. clash (p.1 x)), (λ x. clash (f.1 x)), (λ x. clash (w.1 x)), o.0 refl)), (λ x. refl))
  one_by false false false false p f w o = ((λ e. absurd (clash e)), (λ x. o.1 x.3))

-- an operator, where all of them stand
alone_never : (A S : Type 0) (all operator : Bool) → Decides all A → all && operator ≡ true → Decides false ((A → operator ≡ false) × S)
alone_never A S true true a h = ((λ e. absurd (clash e)), (λ x. absurd (clash (sym (x.0 (a.0 refl))))))
alone_never A S true false a h = absurd (clash h)
alone_never A S false operator a h = absurd (clash h)

-- a sign that isn't one of them, or not all of them stand
alone_by : (A S : Type 0) (all operator stands : Bool) → Decides all A → all && operator ≡ false → Decides stands S
    → Decides stands ((A → operator ≡ false) × S)
alone_by A S true true stands a h s = absurd (clash (sym h))
alone_by A S true false true a h s = ((λ e. ((λ y. refl), s.0 refl)), (λ x. refl))
alone_by A S true false false a h s = ((λ e. absurd (clash e)), (λ x. s.1 x.1))
alone_by A S false operator true a h s = ((λ e. ((λ y. absurd (clash (a.1 y))), s.0 refl)), (λ x. refl))
alone_by A S false operator false a h s = ((λ e. absurd (clash e)), (λ x. s.1 x.1))

-- ---- the words

module _ (p : Place) (t : Tried) (tried : IsTried p t) where
  power : Decides t.power (IsPower p)
  power = ((λ e. sym tried.power ∙ e), (λ e. tried.power ∙ e))

  pub number_is_told : Decides (number_told t) (IsExpected p word.Number)
  number_is_told = number_by (IsPower p) (FractionCanStand p) (TwoCanStand p) (OneCanStand p) t.power t.fraction power tried.fraction

  pub whole_is_told : Decides (whole_told t) (IsExpected p word.Whole)
  whole_is_told =
      whole_by (IsPower p) (FractionCanStand p) (TwoCanStand p) (OneCanStand p) t.power t.fraction t.two power tried.fraction tried.two

  pub one_is_told : Decides (one_told t) (IsExpected p word.One)
  one_is_told =
      one_by (IsPower p) (FractionCanStand p) (TwoCanStand p) (OneCanStand p) t.power t.fraction t.two t.one power tried.fraction tried.two tried.one

  pub operator_not_told : (s : Symbol) → t.operators && is_operator s ≡ true → Decides false (IsExpected p (word.Sign s))
  operator_not_told s h = alone_never (AllOperatorsStand p) (CanStand p (kind.Sign s)) t.operators (is_operator s) tried.operators h

  pub sign_is_told : (s : Symbol) (stands : Bool) → t.operators && is_operator s ≡ false → Decides stands (CanStand p (kind.Sign s))
      → Decides stands (IsExpected p (word.Sign s))
  sign_is_told s stands h d =
      alone_by (AllOperatorsStand p) (CanStand p (kind.Sign s)) t.operators (is_operator s) stands tried.operators h d
