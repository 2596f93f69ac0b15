-- The text of a number with decimals, in the unit of a part without a size or in its own, is read as the number.
use Rattle.std.proofs.Common.{◌≡◌, ℕ, ◌≤◌, pos, Bool, true, false, cond, List, [], ◌∷◌, ◌++◌, append_assoc, codes, Option, Some, None, Result, Ok, Err, refl, sym, ap, subst, ◌∙◌}
use Rattle.std.specs.Prelude.{All}
use Rattle.std.proofs.lemmas.List.Elements.{All-head, All-tail}
use Rattle.um_frac.specs.declared.number.Frac.{Frac}
use Rattle.um_frac.specs.Fraction.{numerator}
use Rattle.um_units.specs.declared.Term.{Term}
use Rattle.um_units.specs.PowerMap.{PowerMap, one, mul, inv}
use Rattle.um_units.specs.PowerMapCode.{same_from_terms}
use Rattle.um_units.specs.Variables.{IsClosed, variables_below}
use Rattle.um_units.proofs.Group.{same_from_quotient, terms-one}
use Rattle.um_units.proofs.Variables.{IsClosed-below_zero, VariablesBelow-closed, VariablesBelow-from_terms, variables_below-from_VariablesBelow}
use Rattle.um_syntax.specs.declared.token.Token.{Token}
use Rattle.um_tree.specs.TypeTree.{num_type}
use Rattle.um_tree.specs.ProgramTree.{RecordTree}
use Rattle.um_measures.specs.Faults.{Found}
use Rattle.um_measures.specs.UnitNames.{resolved_unit}
use Rattle.um_value.specs.ValueGrammar.{NumberSpells}
use Rattle.um_decimals.specs.Decimals.{is_exact, decimal_text, marks_text, digits_text, last_digits, is_below_zero}
use Rattle.um_show.specs.NumberText.{number_text}
use Rattle.um_show.specs.UnitText.{unit_text}
use Rattle.um_show.specs.ValueText.{suffix_text}
use Rattle.um_show.specs.ValueText.{number_at as plain_number_at}
use Rattle.um_show.proofs.Chain.{fresh, full}
use Rattle.um_display.specs.declared.unit.DisplayUnit.{DisplayUnit}
use Rattle.um_display.specs.declared.unit.UnitsStop.{UnitsStop}
use Rattle.um_display.specs.UnitWords.{PartSyntax}
use Rattle.um_display.specs.DisplayUnits.{unit_of_part, before_others, part_unit, part_units}
use Rattle.um_display.specs.DisplayText.{is_one, same_unit, first_at, divided, own_text, labelled, in_unit, number_display}
use Rattle.um_all_answers.specs.DisplayLaws.{has_mark, IsWithoutSize}
use Rattle.um_all_answers.proofs.Segments.{Segment, Then, segment_then, segment_as, segment_of}
use Rattle.um_all_answers.proofs.Decimals.{SignedSpells, IsDigitsOf, segment_number, segment_decimal}
use Rattle.um_all_answers.proofs.UnitTexts.{IsUnitOf}
use Rattle.um_all_answers.proofs.UnitNotes.{IsNoteOf, segment_no_note, segment_unit_note, segment_hole_note}
use Rattle.um_all_answers.proofs.LabelTexts.{segment_label}
use Rattle.um_all_answers.proofs.ReadValues.{IsNumberOf}

-- ---- the part of a unit

-- the part that states the unit
record FoundPart (measures : List ℕ → Option PowerMap) (d : DisplayUnit) : Type 0 where
  pub part : PartSyntax
  pub is : IsWithoutSize part
  pub found : resolved_unit measures [] part.unit ≡ Ok d.unit
  pub label : part.label ≡ d.label
  pub size : d.size ≡ None

one_part : (measures : List ℕ → Option PowerMap) (part : PartSyntax) (d : DisplayUnit) → IsWithoutSize part → (r : Found PowerMap) → resolved_unit measures [] part.unit ≡ r → unit_of_part part r ≡ Ok d → FoundPart measures d
one_part measures part d is (Ok u) found e =
    let made : record { label = part.label; size = part.size; unit = u } ≡ d = cc e in
    record {
      part = part;
      is = is;
      found = found ∙ ap (λ (x : DisplayUnit). Ok x.unit) made;
      label = ap (λ (x : DisplayUnit). x.label) made;
      size = sym (ap (λ (x : DisplayUnit). x.size) made) ∙ is.3;
    }
one_part measures part d is (Err fault) found e = absurd (cc e)

found_part : (measures : List ℕ → Option PowerMap) (u : PowerMap) (parts : List PartSyntax) (units : List DisplayUnit) (d : DisplayUnit) → All IsWithoutSize parts → part_units measures parts ≡ Ok units → first_at u units ≡ Some d
    → FoundPart measures d × (same_unit u d.unit ≡ true)
found_part measures u [] units d are e first = absurd (let none : [] ≡ units = cc e in cc (ap (first_at u) none ∙ first))
found_part measures u (part ∷ parts) units d are e first = by (part_unit measures part) (part_units measures parts) refl refl (λ xs f g. found_part measures u parts xs d (All-tail IsWithoutSize part parts are) f g) where
  Later : Type 0
  Later = (xs : List DisplayUnit) → part_units measures parts ≡ Ok xs → first_at u xs ≡ Some d → FoundPart measures d × (same_unit u d.unit ≡ true)

  by : (r : Result DisplayUnit UnitsStop) (q : Result (List DisplayUnit) UnitsStop) → part_unit measures part ≡ r → part_units measures parts ≡ q → Later → FoundPart measures d × (same_unit u d.unit ≡ true)
  by (Err stop) q is are_units later = absurd (cc (sym (ap (λ x. before_others x (part_units measures parts)) is) ∙ e))
  by (Ok x) (Err stop) is are_units later = absurd (cc (sym (λ i. before_others (is i) (are_units i)) ∙ e))
  by (Ok x) (Ok xs) is are_units later = go (same_unit u x.unit) refl where
    all : x ∷ xs ≡ units
    all = let both : ◌≡◌ {A = Result (List DisplayUnit) UnitsStop} (Ok (x ∷ xs)) (Ok units) = sym (λ i. before_others (is i) (are_units i)) ∙ e in cc both

    chosen : cond (same_unit u x.unit) (Some x) (first_at u xs) ≡ Some d
    chosen = ap (first_at u) all ∙ first

    go : (b : Bool) → same_unit u x.unit ≡ b → FoundPart measures d × (same_unit u d.unit ≡ true)
    go true same =
        let here : Some x ≡ Some d = sym (ap (λ b. cond b (Some x) (first_at u xs)) same) ∙ chosen in
        let it : x ≡ d = cc here in (
          one_part measures part d (All-head IsWithoutSize part parts are) (resolved_unit measures [] part.unit) refl (is ∙ ap Ok it),
          subst (λ (y : DisplayUnit). same_unit u y.unit ≡ true) it same,
        )
    go false same = later xs are_units (sym (ap (λ b. cond b (Some x) (first_at u xs)) same) ∙ chosen)

same_from : (u v : PowerMap) → same_unit u v ≡ true → u ≡ v
same_from u v e = by (mul u (inv v)).terms refl e where
  by : (ts : List Term) → (mul u (inv v)).terms ≡ ts → is_one ts ≡ true → u ≡ v
  by [] none t = same_from_quotient u v (same_from_terms (mul u (inv v)) one (none ∙ sym terms-one))
  by (x ∷ ts) some t = absurd (cc t)

-- ---- a number and its unit

number_of : (records : List RecordTree) (measures : List ℕ → Option PowerMap) (x : Frac) (u : PowerMap) (free : Bool) (tokens rest : List Token) → (free ≡ true → numerator x ≡ pos 0)
    → Then (IsDigitsOf x) (IsNoteOf measures free u) tokens rest → IsNumberOf records measures x u tokens rest
number_of records measures x u free tokens rest zero (mid, d, n) = record {
  at = d.at;
  negative = d.negative;
  value = d.value;
  note = n.note;
  spelled = by d.negative d.spelled;
  signed = d.signed;
  named = n.named d.at d.value (λ e. d.zero_too (zero e));
  fit = n.fit;
  low = n.low;
  literal = n.literal x zero;
} where
  by : (negative : Bool) → SignedSpells d.at negative d.value tokens mid → NumberSpells d.at negative d.value n.note tokens rest
  by false s = (mid, s, n.spelled)
  by true (next, minus, s) = (next, minus, (mid, s, n.spelled))

module _ (records : List RecordTree) (measures : List ℕ → Option PowerMap) where
  joined : (a b : List ℕ) (x : Frac) (u : PowerMap) (free g : Bool) → (free ≡ true → numerator x ≡ pos 0) → Segment a (fresh g false) full (IsDigitsOf x) → Segment b full full (IsNoteOf measures free u)
      → Segment (a ++ b) (fresh g false) full (IsNumberOf records measures x u)
  joined a b x u free g zero d n =
      segment_as (a ++ b) (fresh g false) full (Then (IsDigitsOf x) (IsNoteOf measures free u)) (IsNumberOf records measures x u) (λ tokens rest. number_of records measures x u free tokens rest zero)
      (segment_then a b (fresh g false) full full (IsDigitsOf x) (IsNoteOf measures free u) d n)

  never : (x : Frac) → false ≡ true → numerator x ≡ pos 0
  never x e = absurd (cc e)

  -- ---- with decimals

  -- without `~` the number is exact
  exact_from : (k : ℕ) (x : Frac) (more : List ℕ) → has_mark (decimal_text k x ++ more) ≡ false → is_exact k x ≡ true
  unfolding decimal_text
  exact_from k x more e = go (is_exact k x) refl where
    go : (b : Bool) → is_exact k x ≡ b → is_exact k x ≡ true
    go true is = is
    go false is = absurd (cc (sym (ap (λ b. has_mark ((marks_text b (is_below_zero k x) ++ digits_text k (last_digits k x)) ++ more)) is) ∙ e))

  module _ (bases : List (List ℕ)) (k : ℕ) (few : k ≤ 18) (parts : List PartSyntax) (units : List DisplayUnit) (are : All IsWithoutSize parts) (resolved : part_units measures parts ≡ Ok units) where
    -- in its own unit
    module _ (u : PowerMap) (own : IsClosed u → (u.terms ≡ [] → ⊥) → Segment (unit_text bases u) (fresh true false) full (IsUnitOf measures u)) where
      segment_own : (x : Frac) (g : Bool) → variables_below 0 u.terms ≡ true → IsClosed u → has_mark (own_text bases k x u) ≡ false → Segment (own_text bases k x u) (fresh g false) full (IsNumberOf records measures x u)
      segment_own x g below closed e = by u.terms refl where
        digits : Segment (decimal_text k x) (fresh g false) full (IsDigitsOf x)
        digits = segment_decimal k x few (exact_from k x (suffix_text (unit_text bases u) (variables_below 0 u.terms) u.terms) e) g

        by : (ts : List Term) → u.terms ≡ ts → Segment (own_text bases k x u) (fresh g false) full (IsNumberOf records measures x u)
        by [] none =
            let unit : u ≡ one = same_from_terms u one (none ∙ sym terms-one) in
            segment_of (decimal_text k x ++ []) (own_text bases k x u) (fresh g false) full (IsNumberOf records measures x u) (ap (λ ts. decimal_text k x ++ suffix_text (unit_text bases u) (variables_below 0 u.terms) ts) (sym none))
            (joined (decimal_text k x) [] x u false g (never x) digits (subst (λ v. Segment [] full full (IsNoteOf measures false v)) (sym unit) (segment_no_note measures)))
        by (t ∷ ts) some =
            segment_of (decimal_text k x ++ (codes "<" ++ unit_text bases u ++ codes ">")) (own_text bases k x u) (fresh g false) full (IsNumberOf records measures x u)
            (λ i. decimal_text k x ++ suffix_text (unit_text bases u) (sym below i) (sym some i))
            (joined (decimal_text k x) (codes "<" ++ unit_text bases u ++ codes ">") x u false g (never x) digits (segment_unit_note measures (unit_text bases u) u (own closed (λ none. cc (sym none ∙ some)))))

      -- in the unit of a part
      segment_labelled : (x : Frac) (g : Bool) (d : DisplayUnit) → first_at u units ≡ Some d → has_mark (in_unit bases k x u (Some d)) ≡ false → Segment (in_unit bases k x u (Some d)) (fresh g false) full (IsNumberOf records measures x u)
      segment_labelled x g d first e =
          let h = found_part measures u parts units d are resolved first in
          let found = h.0 in
          let unit : d.unit ≡ u = sym (same_from u d.unit h.1) in
          let whole : decimal_text k x ++ (codes "<" ++ d.label ++ codes ">") ≡ in_unit bases k x u (Some d) = flat (decimal_text k x) d.label ∙ ap (λ s. labelled bases k d.label (divided x s) (own_text bases k x u)) (sym found.size) in
          let exact = exact_from k x (codes "<" ++ d.label ++ codes ">") (ap has_mark whole ∙ e) in
          let label : Segment d.label (fresh true false) full (IsUnitOf measures u) =
          subst (λ v. Segment d.label (fresh true false) full (IsUnitOf measures v)) unit
          (subst (λ w. Segment w (fresh true false) full (IsUnitOf measures d.unit)) found.label (segment_label measures found.is.0 found.part d.unit found.is.1 found.is.2 found.is.3 found.found)) in
          segment_of (decimal_text k x ++ (codes "<" ++ d.label ++ codes ">")) (in_unit bases k x u (Some d)) (fresh g false) full (IsNumberOf records measures x u) whole
          (joined (decimal_text k x) (codes "<" ++ d.label ++ codes ">") x u false g (never x) (segment_decimal k x few exact g) (segment_unit_note measures d.label u label))
        where
          flat : (a b : List ℕ) → a ++ (codes "<" ++ b ++ codes ">") ≡ a ++ codes "<" ++ b ++ codes ">"
          flat a b = sym (append_assoc (a ++ codes "<") b (codes ">") ∙ append_assoc a (codes "<") (b ++ codes ">"))

      segment_closed : (x : Frac) (g : Bool) → variables_below 0 u.terms ≡ true → IsClosed u → (o : Option DisplayUnit) → first_at u units ≡ o → has_mark (in_unit bases k x u o) ≡ false
          → Segment (in_unit bases k x u o) (fresh g false) full (IsNumberOf records measures x u)
      segment_closed x g below closed None first e = segment_own x g below closed e
      segment_closed x g below closed (Some d) first e = segment_labelled x g d first e

      -- at any unit: 0 if it holds a variable
      pub segment_number_at : (x : Frac) (g : Bool) → ((IsClosed u → ⊥) → numerator x ≡ pos 0) → has_mark (number_display bases k units x (num_type u)) ≡ false
          → Segment (number_display bases k units x (num_type u)) (fresh g false) full (IsNumberOf records measures x u)
      segment_number_at x g zero e = go (variables_below 0 u.terms) refl where
        go : (b : Bool) → variables_below 0 u.terms ≡ b → Segment (number_display bases k units x (num_type u)) (fresh g false) full (IsNumberOf records measures x u)
        go true below =
            let closed = IsClosed-below_zero u (VariablesBelow-from_terms 0 u below) in
            let text : in_unit bases k x u (first_at u units) ≡ number_display bases k units x (num_type u) = ap (λ b. cond b (in_unit bases k x u (first_at u units)) (plain_number_at bases x (num_type u))) (sym below) in
            segment_of (in_unit bases k x u (first_at u units)) (number_display bases k units x (num_type u)) (fresh g false) full (IsNumberOf records measures x u) text
            (segment_closed x g below closed (first_at u units) refl (ap has_mark text ∙ e))
        go false free =
            let none = zero (λ closed. cc (sym (variables_below-from_VariablesBelow 0 u (VariablesBelow-closed 0 u closed)) ∙ free)) in
            let text : number_text x ++ codes "<_>" ≡ number_display bases k units x (num_type u) =
            ap (λ w. number_text x ++ w) (hole u.terms refl free) ∙ ap (λ b. cond b (in_unit bases k x u (first_at u units)) (plain_number_at bases x (num_type u))) (sym free) in
            segment_of (number_text x ++ codes "<_>") (number_display bases k units x (num_type u)) (fresh g false) full (IsNumberOf records measures x u) text
            (joined (number_text x) (codes "<_>") x u true g (λ e. none) (segment_number x 0 g none) (segment_hole_note measures u))
          where
            hole : (ts : List Term) → u.terms ≡ ts → variables_below 0 u.terms ≡ false → codes "<_>" ≡ suffix_text (unit_text bases u) (variables_below 0 u.terms) u.terms
            hole [] is f = absurd (cc (sym (ap (variables_below 0) is) ∙ f))
            hole (t ∷ ts) is f = λ i. suffix_text (unit_text bases u) (sym f i) (sym is i)
