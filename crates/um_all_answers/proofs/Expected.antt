-- It is decided which words could stand at a place, so the words that are told exist.
use Rattle.std.proofs.Common.{◌≡◌, inl, inr, Bool, true, false, List, [], ◌∷◌, ◌++◌, ℤ, pos, codes, Option, Some, None, refl, sym, subst, ◌∙◌}
use Rattle.um_frac.specs.declared.number.Frac.{Frac}
use Rattle.um_frac.specs.Fraction.{reduced}
use Rattle.um_syntax.specs.declared.token.Kind.{Kind}
use Rattle.um_syntax.specs.declared.token.Kind.TheVariants as kind
use Rattle.um_syntax.specs.Lexing.{is_power_place}
use Rattle.um_vocabulary.specs.declared.vocabulary.Symbol.{Symbol}
use Rattle.um_parse.specs.Laws.{ProgramsAreDecided}
use Rattle.um_text_details.specs.declared.word.Word.{Word}
use Rattle.um_text_details.specs.declared.word.Word.TheVariants as word
use Rattle.um_text_details.specs.Words.{is_operator, operators, words}
use Rattle.um_text_details.specs.Expected.{Place, put_there, CanStand, NumberCanStand, FractionCanStand, TwoCanStand, OneCanStand, IsPower, AllOperatorsStand, IsWhole, IsExpected, AreChosen, AreExpected}
use Rattle.um_verifier.proofs.Decisions.{Dec, both, as_well, if_so, fails, is_test, all}

module _ (decided : ProgramsAreDecided) (p : Place) where
  can_stand : (k : Kind) → Dec (CanStand p k)
  can_stand k = (decided (p.before ++ put_there p k ∷ [])).0

  whole : Dec (IsWhole p)
  whole =
      elim (decided p.before).1 [
        | inl is ↦ inl is
        | inr none ↦ inr (λ h. none h.0 h.1)
      ]

  number_by : (n d : ℤ) (digits one : Bool) (o : Option Frac) → reduced n d ≡ o → Dec (NumberCanStand p n d digits one)
  number_by n d digits one None e = inr (λ h. cc (sym e ∙ h.1))
  number_by n d digits one (Some value) e =
      elim (can_stand (kind.Number value digits one)) [
        | inl stands ↦ inl (value, e, stands)
        | inr none ↦ inr (λ h. let both : Some value ≡ Some h.0 = sym e ∙ h.1 in let same : h.0 ≡ value = cc (sym both) in none (subst (λ v. CanStand p (kind.Number v digits one)) same h.2))
      ]

  number : (n d : ℤ) (digits one : Bool) → Dec (NumberCanStand p n d digits one)
  number n d digits one = number_by n d digits one (reduced n d) refl

  fraction_stands : Dec (FractionCanStand p)
  fraction_stands = number (pos 5) (pos 2) false false

  two_stands : Dec (TwoCanStand p)
  two_stands = number (pos 2) (pos 1) true false

  one_stands : Dec (OneCanStand p)
  one_stands = number (pos 1) (pos 1) true true

  power : Dec (IsPower p)
  power = is_test (is_power_place p.before) true

  abbrev Stands : Symbol → Type 0
  Stands s = CanStand p (kind.Sign s)

  operators_stand : Dec (AllOperatorsStand p)
  operators_stand = all Stands (λ s. can_stand (kind.Sign s)) operators

  is_expected : (w : Word) → Dec (IsExpected p w)
  is_expected word.Name = can_stand (kind.Name (codes "a"))
  is_expected word.Variable = can_stand (kind.Var (codes "a"))
  is_expected word.Hole = can_stand kind.Hole
  is_expected word.Number = both (fails power) fraction_stands
  is_expected word.Whole = both (if_so fraction_stands power) two_stands
  is_expected word.One =
      as_well (both (fails power) (both (fails fraction_stands) (both (fails two_stands) one_stands)))
      (λ h. (h.0, h.1.0, h.1.1.0, h.1.1.1)) (λ h. (h.0, (h.1, (h.2, h.3))))
  is_expected (word.Keyword k) = can_stand (kind.Word k)
  is_expected word.Operator = operators_stand
  is_expected (word.Sign s) = both (if_so operators_stand (is_test (is_operator s) false)) (can_stand (kind.Sign s))
  is_expected word.End = whole

  chosen : (ws : List Word) → (told : List Word) × AreChosen (IsExpected p) ws told
  chosen [] = ([], refl)
  chosen (w ∷ ws) =
      let (more, are) = chosen ws in
      elim (is_expected w) [
        | inl is ↦ (w ∷ more, inl (is, more, refl, are))
        | inr none ↦ (more, inr (none, are))
      ]

  pub expected : (told : List Word) × AreExpected p told
  expected = chosen words
