-- The text of a closed unit in base units is a unit text that stands for the unit.
use Rattle.std.proofs.Common.{◌≡◌, ℕ, ◌+◌, ◌≤◌, ◌<◌, max, ℤ, pos, neg_ℤ, ◌+ℤ◌, ◌*ℤ◌, nat_abs, Bool, true, false, ◌&&◌, cond, IsTrue, List, [], ◌∷◌, ◌++◌, codes, Option, Some, None, is_some, inl, refl, sym, ap, subst, ◌∙◌, arith}
use Rattle.std.specs.Prelude.{nat_eq}
use Rattle.std.specs.List.{flat_map}
use Rattle.std.specs.Fmt.{decimal}
use Rattle.std.proofs.lemmas.Bool.{eqb-true, and_from}
use Rattle.std.proofs.lemmas.Int.{ints}
use Rattle.std.proofs.lemmas.List.{append-nil}
use Rattle.um_units.specs.declared.Atom.{Atom}
use Rattle.um_units.specs.declared.Atom.TheVariants.{Base}
use Rattle.um_units.specs.declared.Term.{Term}
use Rattle.um_units.specs.Atoms.{same_atom}
use Rattle.um_units.specs.Terms.{indicator}
use Rattle.um_units.specs.PowerMap.{PowerMap, one, atom, mul, inv, pow, power_of}
use Rattle.um_units.specs.Range.{fits}
use Rattle.um_units.proofs.Group.{pow-one, weight-atom, weight-one, power_of-mul, power_of-inv, power_of-pow}
use Rattle.um_units.proofs.Equality.{same_unit}
use Rattle.um_units.proofs.InRange.{fits_from_powers}
use Rattle.um_syntax.specs.declared.token.Token.{Token}
use Rattle.um_syntax.specs.declared.token.Kind.TheVariants as kind
use Rattle.um_vocabulary.specs.declared.vocabulary.Symbol.TheVariants as symbol
use Rattle.um_tree.specs.RawTree.{UnitSyntax, UnitSyntaxes, measure_syntax, power_syntax, side_syntax, over_syntax, inverse_syntax, no_units, more_units}
use Rattle.um_tree.specs.Heights.{unit_height, tallest_unit}
use Rattle.um_unit_texts.specs.UnitTokens.{unit_token, number, power_from}
use Rattle.um_unit_texts.specs.UnitGrammar.{Spells, AllSpell, Several, Fits, ArePowers, rank}
use Rattle.um_unit_texts.proofs.UnitCut.{unit_cut}
use Rattle.um_measures.specs.UnitNames.{or_else, or_one, unless, unknown_in, unknown_among, unit_of, product_of, parts_fit, products_fit}
use Rattle.um_show.specs.UnitText.{base_name, variable_text, atom_text, factor_text, factors_text, divisors_text}
use Rattle.um_show.proofs.Chain.{fresh, full, raised, IsGoodName}
use Rattle.um_all_answers.proofs.Segments.{Segment, Then, segment_then, segment_as, segment_of, segment_none, segment_token, segment_blank, Skips, FirstToken}
use Rattle.um_all_answers.proofs.Tokens.{name_token, sign_token, PowerToken, power_token}
use Rattle.um_all_answers.proofs.BareUnits.{IsResolved}
use Rattle.um_all_answers.proofs.UnitTexts.{IsUnitOf}
use Rattle.um_all_answers.proofs.UnitSizes.{size_at, size_in}

-- a declared base unit with a power in range, which isn't 0
pub record IsBaseTerm (n : ℕ) (t : Term) : Type 0 where
  pub base : ℕ
  pub atom : t.atom ≡ Base base
  pub low : base < n
  pub some : 0 < nat_abs t.power
  pub small : nat_abs t.power ≤ 2147483647

abbrev pub AreBaseTerms : ℕ → List Term → Type 0
AreBaseTerms n [] = Unit {0}
AreBaseTerms n (t ∷ ts) = IsBaseTerm n t × AreBaseTerms n ts

both_known : (a b : Option ℕ) → a ≡ None → b ≡ None → or_else a b ≡ None
both_known a b e f = ap (λ x. or_else x b) e ∙ f

size_power : (j : ℕ) (t : Term) (x : Atom) → t.atom ≡ Base j → pos (nat_abs t.power) *ℤ indicator x (Base j) ≡ pos (size_at x t)
size_power j t x is = go (same_atom x (Base j)) refl where
  go : (b : Bool) → same_atom x (Base j) ≡ b → pos (nat_abs t.power) *ℤ indicator x (Base j) ≡ pos (size_at x t)
  go true e =
      let one : indicator x (Base j) ≡ pos 1 = ap (λ b. cond b (pos 1) (pos 0)) e in
      let size : size_at x t ≡ nat_abs t.power = ap (λ a. cond (same_atom x a) (nat_abs t.power) 0) is ∙ ap (λ b. cond b (nat_abs t.power) 0) e in
      let product : pos (nat_abs t.power) *ℤ indicator x (Base j) ≡ pos (nat_abs t.power) *ℤ pos 1 = ap (λ z. pos (nat_abs t.power) *ℤ z) one in
      omega (arith, ints, size, product)
  go false e =
      let none : indicator x (Base j) ≡ pos 0 = ap (λ b. cond b (pos 1) (pos 0)) e in
      let size : size_at x t ≡ 0 = ap (λ a. cond (same_atom x a) (nat_abs t.power) 0) is ∙ ap (λ b. cond b (nat_abs t.power) 0) e in
      let product : pos (nat_abs t.power) *ℤ indicator x (Base j) ≡ pos (nat_abs t.power) *ℤ pos 0 = ap (λ z. pos (nat_abs t.power) *ℤ z) none in
      omega (arith, ints, size, product)

size_small : (t : Term) (x : Atom) → nat_abs t.power ≤ 2147483647 → size_at x t ≤ 2147483647
size_small t x low = go (same_atom x t.atom) where
  go : (b : Bool) → cond b (nat_abs t.power) 0 ≤ 2147483647
  go true = low
  go false = omega arith

module _ (measures : List ℕ → Option PowerMap) (bases : List (List ℕ)) (n : ℕ) (names : (k : ℕ) → k < n → IsGoodName (base_name bases k)) (known : (k : ℕ) → k < n → measures (base_name bases k) ≡ Some (atom (Base k))) where
  -- a base unit with its power, if that isn't 1
  record IsFactorOf (t : Term) (tokens rest : List Token) : Type 0 where
    pub syntax : UnitSyntax
    pub spelled : Spells syntax tokens rest
    pub fit : Fits syntax
    pub ranked : rank syntax ≤ 1
    pub low : unit_height syntax ≤ 2
    pub named : unknown_in measures [] syntax ≡ None
    pub parts : parts_fit measures [] syntax ≡ true
    pub is : (x : Atom) → power_of (unit_of measures [] syntax) x ≡ pos (size_at x t)

  base_is : (k : ℕ) → k < n → (at : ℕ) → unit_of measures [] (measure_syntax at (base_name bases k)) ≡ atom (Base k)
  base_is k low at = ap (λ o. or_one o) (known k low)

  base_known : (k : ℕ) → k < n → (at : ℕ) → unknown_in measures [] (measure_syntax at (base_name bases k)) ≡ None
  base_known k low at = ap (λ o. unless (is_some o) at) (known k low)

  alone : (t : Term) (h : IsBaseTerm n t) (g : Bool) → nat_abs t.power ≡ 1 → (tokens rest : List Token) → FirstToken (kind.Name (base_name bases h.base)) g tokens rest → IsFactorOf t tokens rest
  alone t h g unit tokens rest (token, is, glued, first) = record {
    syntax = measure_syntax token.start (base_name bases h.base);
    spelled = (token, ap unit_token is, refl, first);
    fit = tt;
    ranked = omega arith;
    low = omega arith;
    named = base_known h.base h.low token.start;
    parts = refl;
    is = λ x.
        ap (λ v. power_of v x) (base_is h.base h.low token.start ∙ sym (pow-one (atom (Base h.base))))
        ∙ power_of-pow (atom (Base h.base)) (pos 1) x
        ∙ (λ i. pos (sym unit i) *ℤ weight-atom (indicator x) (Base h.base) i)
        ∙ size_power h.base t x h.atom;
  }

  powered : (t : Term) (h : IsBaseTerm n t) (g : Bool) (p : PowerToken (nat_abs t.power)) (tokens rest : List Token)
      → Then (FirstToken (kind.Name (base_name bases h.base)) g) (Then (FirstToken (kind.Sign symbol.Caret) true) (FirstToken (kind.Number p.value true p.one) true)) tokens rest → IsFactorOf t tokens rest
  powered t h g p tokens rest (mid, (token, is, glued, first), (next, (caret, raise, behind, second), (digits, value, close, third))) =
      let power : unit_token digits.kind ≡ number p.one (Some (nat_abs t.power)) =
      ap unit_token value ∙ ap (λ z. number p.one (power_from true z)) p.above ∙ ap (λ b. number p.one (cond b (Some (nat_abs t.power)) None)) p.low in
      let unit : (x : Atom) → power_of (pow (unit_of measures [] (measure_syntax token.start (base_name bases h.base))) (pos (nat_abs t.power))) x ≡ pos (size_at x t) = λ x.
      ap (λ v. power_of (pow v (pos (nat_abs t.power))) x) (base_is h.base h.low token.start)
      ∙ power_of-pow (atom (Base h.base)) (pos (nat_abs t.power)) x
      ∙ ap (λ z. pos (nat_abs t.power) *ℤ z) (weight-atom (indicator x) (Base h.base))
      ∙ size_power h.base t x h.atom in
      record {
        syntax = power_syntax (measure_syntax token.start (base_name bases h.base)) (pos (nat_abs t.power));
        spelled = (mid, next, (token, ap unit_token is, refl, first), (caret, ap unit_token raise, second), (nat_abs t.power, inl (refl, (p.one, (digits, power, third)))));
        fit = (refl, tt);
        ranked = omega arith;
        low = omega arith;
        named = base_known h.base h.low token.start;
        parts = fits_from_powers (pow (unit_of measures [] (measure_syntax token.start (base_name bases h.base))) (pos (nat_abs t.power)))
            (λ x. let size = ap nat_abs (unit x) in let low = size_small t x h.small in omega (arith, size, low));
        is = unit;
      }

  segment_factor : (t : Term) → IsBaseTerm n t → (g d : Bool) → Segment (factor_text variable_text bases t) (fresh g d) full (IsFactorOf t)
  segment_factor t h g d = go (nat_eq (nat_abs t.power) 1) refl where
    x : List ℕ
    x = base_name bases h.base

    named : Segment (base_name bases h.base) (fresh g d) full (FirstToken (kind.Name (base_name bases h.base)) g)
    named = segment_token (base_name bases h.base) (fresh g d) full (kind.Name (base_name bases h.base)) (name_token (base_name bases h.base) (fresh g d) (names h.base h.low) refl)

    atom_is : base_name bases h.base ≡ atom_text variable_text bases t.atom
    atom_is = ap (atom_text variable_text bases) (sym h.atom)

    go : (b : Bool) → nat_eq (nat_abs t.power) 1 ≡ b → Segment (factor_text variable_text bases t) (fresh g d) full (IsFactorOf t)
    go true e =
        segment_of (base_name bases h.base) (factor_text variable_text bases t) (fresh g d) full (IsFactorOf t)
        (atom_is ∙ sym (append-nil (atom_text variable_text bases t.atom)) ∙ ap (λ b. atom_text variable_text bases t.atom ++ cond b [] (codes "^" ++ decimal (nat_abs t.power))) (sym e))
        (segment_as (base_name bases h.base) (fresh g d) full (FirstToken (kind.Name (base_name bases h.base)) g) (IsFactorOf t) (alone t h g (eqb-true (nat_abs t.power) 1 e)) named)
    go false e =
        let p = power_token (nat_abs t.power) h.small in
        let P = FirstToken (kind.Number p.value true p.one) true in
        let C = FirstToken (kind.Sign symbol.Caret) true in
        segment_of (base_name bases h.base ++ (codes "^" ++ decimal (nat_abs t.power))) (factor_text variable_text bases t) (fresh g d) full (IsFactorOf t)
        (ap (λ w. w ++ (codes "^" ++ decimal (nat_abs t.power))) atom_is ∙ ap (λ b. atom_text variable_text bases t.atom ++ cond b [] (codes "^" ++ decimal (nat_abs t.power))) (sym e))
        (
        segment_as (base_name bases h.base ++ (codes "^" ++ decimal (nat_abs t.power))) (fresh g d) full (Then (FirstToken (kind.Name (base_name bases h.base)) g) (Then C P)) (IsFactorOf t) (powered t h g p)
        (
        segment_then (base_name bases h.base) (codes "^" ++ decimal (nat_abs t.power)) (fresh g d) full full (FirstToken (kind.Name (base_name bases h.base)) g) (Then C P) named
        (
        segment_then (codes "^") (decimal (nat_abs t.power)) full raised full C P
        (segment_token (codes "^") full raised (kind.Sign symbol.Caret) (sign_token symbol.Caret full refl))
        (segment_token (decimal (nat_abs t.power)) raised full (kind.Number p.value true p.one) p.token)
        )
        )
        )

  -- ---- factors with a space between each two

  record AreFactorsOf (ts : List Term) (tokens rest : List Token) : Type 0 where
    pub units : UnitSyntaxes
    pub spelled : AllSpell units tokens rest
    pub powers : ArePowers units
    pub low : tallest_unit units ≤ 2
    pub named : unknown_among measures [] units ≡ None
    pub parts : (before : PowerMap) (f : Atom → ℕ) → ((x : Atom) → power_of before x ≡ pos (f x)) → ((x : Atom) → f x + size_in ts x ≤ 2147483647) → products_fit measures [] before units ≡ true
    pub is : (before : PowerMap) (f : Atom → ℕ) → ((x : Atom) → power_of before x ≡ pos (f x)) → (x : Atom) → power_of (product_of measures [] before units) x ≡ pos (f x + size_in ts x)

  no_factors : (tokens rest : List Token) → Skips tokens rest → AreFactorsOf [] tokens rest
  no_factors tokens rest s = record {
    units = no_units;
    spelled = s;
    powers = tt;
    low = omega arith;
    named = refl;
    parts = λ before f e low. refl;
    is = λ before f e x. let h = e x in h ∙ ap pos (omega arith);
  }

  more_factors : (t : Term) (ts : List Term) (tokens rest : List Token) → Then (IsFactorOf t) (AreFactorsOf ts) tokens rest → AreFactorsOf (t ∷ ts) tokens rest
  more_factors t ts tokens rest (mid, a, b) =
      let u = unit_of measures [] a.syntax in
      let times : (before : PowerMap) (f : Atom → ℕ) → ((x : Atom) → power_of before x ≡ pos (f x)) → (x : Atom) → power_of (mul before u) x ≡ pos (f x + size_at x t) = λ before f e x.
      let h = e x in let k = a.is x in power_of-mul before u x ∙ (λ i. h i +ℤ k i) in
      record {
        units = more_units a.syntax b.units;
        spelled = (mid, a.spelled, b.spelled);
        powers = (a.ranked, a.fit, b.powers);
        low = lower (unit_height a.syntax) (tallest_unit b.units) a.low b.low;
        named = both_known (unknown_in measures [] a.syntax) (unknown_among measures [] b.units) a.named b.named;
        parts = λ before f e low.
            and_from (parts_fit measures [] a.syntax) (fits (mul before u) && products_fit measures [] (mul before u) b.units) a.parts
            (
            and_from (fits (mul before u)) (products_fit measures [] (mul before u) b.units)
            (fits_from_powers (mul before u) (λ x. let size = ap nat_abs (times before f e x) in let small = low x in omega (arith, size, small)))
            (b.parts (mul before u) (λ x. f x + size_at x t) (times before f e) (λ x. let small = low x in omega (arith, small)))
            );
        is = λ before f e x. b.is (mul before u) (λ y. f y + size_at y t) (times before f e) x ∙ ap pos (omega arith);
      }
    where
      lower : (a b : ℕ) → a ≤ 2 → b ≤ 2 → max a b ≤ 2
      lower a b h k = omega (arith, h, k)

  segment_more_factors : (ts : List Term) → AreBaseTerms n ts → Segment (flat_map (λ y. codes " " ++ factor_text variable_text bases y) ts) full full (AreFactorsOf ts)
  segment_more_factors [] h = segment_as [] full full Skips (AreFactorsOf []) no_factors (segment_none full)
  segment_more_factors (t ∷ ts) h =
      let others = flat_map (λ y. codes " " ++ factor_text variable_text bases y) ts in
      segment_as (codes " " ++ (factor_text variable_text bases t ++ others)) full full (Then Skips (Then (IsFactorOf t) (AreFactorsOf ts))) (AreFactorsOf (t ∷ ts)) (behind_blank t ts)
      (
      segment_then (codes " ") (factor_text variable_text bases t ++ others) full (fresh false false) full Skips (Then (IsFactorOf t) (AreFactorsOf ts)) (segment_blank full refl)
      (segment_then (factor_text variable_text bases t) others (fresh false false) full full (IsFactorOf t) (AreFactorsOf ts) (segment_factor t h.0 false false) (segment_more_factors ts h.1))
      )
    where
      behind_blank : (t : Term) (ts : List Term) (tokens rest : List Token) → Then Skips (Then (IsFactorOf t) (AreFactorsOf ts)) tokens rest → AreFactorsOf (t ∷ ts) tokens rest
      behind_blank t ts tokens rest (start, skip, h) = subst (λ w. AreFactorsOf (t ∷ ts) w rest) (sym skip) (more_factors t ts start rest h)

  -- some factors as one unit text
  record IsSideOf (ts : List Term) (tokens rest : List Token) : Type 0 where
    pub syntax : UnitSyntax
    pub spelled : Spells syntax tokens rest
    pub fit : Fits syntax
    pub ranked : rank syntax ≤ 2
    pub low : unit_height syntax ≤ 3
    pub named : unknown_in measures [] syntax ≡ None
    pub parts : ((x : Atom) → size_in ts x ≤ 2147483647) → parts_fit measures [] syntax ≡ true
    pub is : (x : Atom) → power_of (unit_of measures [] syntax) x ≡ pos (size_in ts x)

  one_none : (x : Atom) → power_of one x ≡ pos 0
  one_none x = weight-one (indicator x)

  side_of : (t : Term) (ts : List Term) (tokens rest : List Token) → Then (IsFactorOf t) (AreFactorsOf ts) tokens rest → IsSideOf (t ∷ ts) tokens rest
  unfolding more_factors
  side_of t ts tokens rest (mid, a, b) = by b.units refl where
    all : AreFactorsOf (t ∷ ts) tokens rest
    all = more_factors t ts tokens rest (mid, a, b)

    by : (us : UnitSyntaxes) → b.units ≡ us → IsSideOf (t ∷ ts) tokens rest
    by no_units none =
        let last : mid ≡ rest = subst (λ us. AllSpell us mid rest) none b.spelled in
        let nothing : (x : Atom) → size_in ts x ≡ 0 = λ x.
        let sum = b.is one (λ y. 0) one_none x in let empty = ap (λ us. power_of (product_of measures [] one us) x) none in let zero = one_none x in
        let same : pos (0 + size_in ts x) ≡ pos 0 = sym sum ∙ empty ∙ zero in let count : 0 + size_in ts x ≡ 0 = cc same in omega (arith, count) in
        record {
          syntax = a.syntax;
          spelled = subst (λ w. Spells a.syntax tokens w) last a.spelled;
          fit = a.fit;
          ranked = let r = a.ranked in omega (arith, r);
          low = let l = a.low in omega (arith, l);
          named = a.named;
          parts = λ low. a.parts;
          is = λ x. let zero = nothing x in a.is x ∙ ap pos (omega (arith, zero));
        }
    by (more_units v vs) some = record {
      syntax = side_syntax all.units;
      spelled = all.spelled;
      fit = (subst (λ us. Several (more_units a.syntax us)) (sym some) tt, all.powers);
      ranked = omega arith;
      low = let l = all.low in omega (arith, l);
      named = all.named;
      parts = λ low. all.parts one (λ y. 0) one_none (λ x. let l = low x in omega (arith, l));
      is = λ x. all.is one (λ y. 0) one_none x ∙ ap pos (omega arith);
    }

  segment_side : (t : Term) (ts : List Term) → AreBaseTerms n (t ∷ ts) → (g d : Bool) → Segment (factors_text variable_text bases (t ∷ ts)) (fresh g d) full (IsSideOf (t ∷ ts))
  segment_side t ts h g d =
      let others = flat_map (λ y. codes " " ++ factor_text variable_text bases y) ts in
      segment_as (factor_text variable_text bases t ++ others) (fresh g d) full (Then (IsFactorOf t) (AreFactorsOf ts)) (IsSideOf (t ∷ ts)) (side_of t ts)
      (segment_then (factor_text variable_text bases t) others (fresh g d) full full (IsFactorOf t) (AreFactorsOf ts) (segment_factor t h.0 g d) (segment_more_factors ts h.1))

  -- ---- the unit

  as_unit : (w : PowerMap) (syntax : UnitSyntax) (tokens rest : List Token) → Spells syntax tokens rest → Fits syntax → IsResolved measures syntax w → unit_height syntax ≤ 400 → IsUnitOf measures w tokens rest
  as_unit w syntax tokens rest s fit resolved low =
      let cut = unit_cut syntax tokens rest s in
      record {
        inside = cut.0;
        cut = cut.1;
        syntax = syntax;
        is = record { spelled = subst (λ ts. Spells syntax ts []) (append-nil cut.0) (cut.2 []); fits = fit };
        resolved = resolved;
        low = low;
      }

  module _ (w : PowerMap) (fit : IsTrue (fits w)) where
    -- the unit's powers, by its factors and divisors
    abbrev Splits : List Term → List Term → Type 0
    Splits fs ds = (x : Atom) → power_of w x ≡ pos (size_in fs x) +ℤ neg_ℤ (pos (size_in ds x))

    abbrev Small : List Term → Type 0
    Small ts = (x : Atom) → size_in ts x ≤ 2147483647

    factors_alone : (f : Term) (fs : List Term) → Splits (f ∷ fs) [] → Small (f ∷ fs) → (tokens rest : List Token) → IsSideOf (f ∷ fs) tokens rest → IsUnitOf measures w tokens rest
    factors_alone f fs split small tokens rest a =
        as_unit w a.syntax tokens rest a.spelled a.fit
        (record {
          known = a.named;
          fit = a.parts small;
          is = same_unit (unit_of measures [] a.syntax) w (λ x. let p = a.is x in let s = split x in p ∙ sym (s ∙ plus_none (pos (size_in (f ∷ fs) x))));
        })
        (let l = a.low in omega (arith, l))
      where
        plus_none : (z : ℤ) → z +ℤ neg_ℤ (pos 0) ≡ z
        plus_none z = omega (arith, ints)

    divisors_alone : (d : Term) (ds : List Term) → Splits [] (d ∷ ds) → Small (d ∷ ds) → (g : Bool) (tokens rest : List Token) → Then (FirstToken (kind.Sign symbol.Slash) g) (IsSideOf (d ∷ ds)) tokens rest → IsUnitOf measures w tokens rest
    divisors_alone d ds split small g tokens rest (next, (slash, is, glued, first), a) =
        as_unit w (inverse_syntax slash.start a.syntax) tokens rest (next, (slash, ap unit_token is, refl, first), a.spelled) (a.ranked, a.fit)
        (record {
          known = a.named;
          fit = a.parts small;
          is = same_unit (inv (unit_of measures [] a.syntax)) w (λ x. let p = a.is x in let s = split x in power_of-inv (unit_of measures [] a.syntax) x ∙ ap neg_ℤ p ∙ sym (s ∙ none_plus (neg_ℤ (pos (size_in (d ∷ ds) x)))));
        })
        (let l = a.low in omega (arith, l))
      where
        none_plus : (z : ℤ) → pos 0 +ℤ z ≡ z
        none_plus z = omega (arith, ints)

    both_sides : (f : Term) (fs : List Term) (d : Term) (ds : List Term) → Splits (f ∷ fs) (d ∷ ds) → Small (f ∷ fs) → Small (d ∷ ds) → (tokens rest : List Token)
        → Then (IsSideOf (f ∷ fs)) (Then (FirstToken (kind.Sign symbol.Slash) true) (IsSideOf (d ∷ ds))) tokens rest → IsUnitOf measures w tokens rest
    both_sides f fs d ds split small other tokens rest (mid, a, (next, (slash, is, glued, first), b)) =
        let u = unit_of measures [] a.syntax in let v = unit_of measures [] b.syntax in
        let whole : mul u (inv v) ≡ w = same_unit (mul u (inv v)) w (λ x.
        let p = a.is x in let q = b.is x in let s = split x in
        power_of-mul u (inv v) x ∙ (λ i. p i +ℤ power_of-inv v x i) ∙ ap (λ z. pos (size_in (f ∷ fs) x) +ℤ neg_ℤ z) q ∙ sym s) in
        as_unit w (over_syntax a.syntax b.syntax) tokens rest (mid, next, a.spelled, (slash, ap unit_token is, first), b.spelled) (b.ranked, a.fit, b.fit)
        (record {
          known = both_known (unknown_in measures [] a.syntax) (unknown_in measures [] b.syntax) a.named b.named;
          fit =
              and_from (parts_fit measures [] a.syntax) (parts_fit measures [] b.syntax && fits (mul u (inv v))) (a.parts small)
              (and_from (parts_fit measures [] b.syntax) (fits (mul u (inv v))) (b.parts other) (subst (λ x. IsTrue (fits x)) (sym whole) fit));
          is = whole;
        })
        (lower (unit_height a.syntax) (unit_height b.syntax) a.low b.low)
      where
        lower : (a b : ℕ) → a ≤ 3 → b ≤ 3 → max a b + 1 ≤ 400
        lower a b h k = omega (arith, h, k)

    pub segment_parts : (fs ds : List Term) → AreBaseTerms n fs → AreBaseTerms n ds → Splits fs ds → Small fs → Small ds → (fs ≡ [] → ds ≡ [] → ⊥)
        → Segment (factors_text variable_text bases fs ++ divisors_text variable_text bases ds) (fresh true false) full (IsUnitOf measures w)
    segment_parts [] [] h k split small other some = absurd (some refl refl)
    segment_parts (f ∷ fs) [] h k split small other some =
        segment_of (factors_text variable_text bases (f ∷ fs)) (factors_text variable_text bases (f ∷ fs) ++ []) (fresh true false) full (IsUnitOf measures w) (sym (append-nil (factors_text variable_text bases (f ∷ fs))))
        (segment_as (factors_text variable_text bases (f ∷ fs)) (fresh true false) full (IsSideOf (f ∷ fs)) (IsUnitOf measures w) (factors_alone f fs split small) (segment_side f fs h true false))
    segment_parts [] (d ∷ ds) h k split small other some =
        let S = FirstToken (kind.Sign symbol.Slash) true in
        segment_as (codes "/" ++ factors_text variable_text bases (d ∷ ds)) (fresh true false) full (Then S (IsSideOf (d ∷ ds))) (IsUnitOf measures w) (divisors_alone d ds split other true)
        (
        segment_then (codes "/") (factors_text variable_text bases (d ∷ ds)) (fresh true false) (fresh true true) full S (IsSideOf (d ∷ ds))
        (segment_token (codes "/") (fresh true false) (fresh true true) (kind.Sign symbol.Slash) (sign_token symbol.Slash (fresh true false) refl))
        (segment_side d ds k true true)
        )
    segment_parts (f ∷ fs) (d ∷ ds) h k split small other some =
        let S = FirstToken (kind.Sign symbol.Slash) true in
        segment_as (factors_text variable_text bases (f ∷ fs) ++ (codes "/" ++ factors_text variable_text bases (d ∷ ds))) (fresh true false) full (Then (IsSideOf (f ∷ fs)) (Then S (IsSideOf (d ∷ ds)))) (IsUnitOf measures w) (both_sides f fs d ds split small other)
        (
        segment_then (factors_text variable_text bases (f ∷ fs)) (codes "/" ++ factors_text variable_text bases (d ∷ ds)) (fresh true false) full full (IsSideOf (f ∷ fs)) (Then S (IsSideOf (d ∷ ds))) (segment_side f fs h true false)
        (
        segment_then (codes "/") (factors_text variable_text bases (d ∷ ds)) full (fresh true true) full S (IsSideOf (d ∷ ds))
        (segment_token (codes "/") full (fresh true true) (kind.Sign symbol.Slash) (sign_token symbol.Slash full refl))
        (segment_side d ds k true true)
        )
        )
