-- The input of a value text without faults is formed.
use Rattle.std.proofs.Common.{◌≡◌, ℕ, Bool, true, false, cond, List, [], ◌∷◌, ◌++◌, length, pos, Option, Some, None, refl, sym, ap, subst, ◌∙◌, append_assoc, Ok, Err}
use Rattle.std.specs.Prelude.{All, neg_ℤ}
use Rattle.std.proofs.lemmas.List.{append-nil}
use Rattle.std.proofs.lemmas.List.Elements.{All-head, All-tail}
use Rattle.std.proofs.lemmas.Bool.Decides.{Decides-int_eq}
use Rattle.um_frac.specs.declared.number.Frac.{Frac}
use Rattle.um_frac.specs.Fraction.{numerator}
use Rattle.um_frac.proofs.FractionLaws.{negation, negation_from}
use Rattle.um_units.specs.PowerMap.{PowerMap}
use Rattle.um_units.specs.Variables.{IsClosed}
use Rattle.um_units.proofs.Variables.{IsClosed-one, IsClosed-below_zero}
use Rattle.um_tree.specs.RawTree.{UnitSyntax, NoteSyntax, hole_syntax, unit_note_syntax}
use Rattle.um_tree.specs.Formed.{BasesBelow, IsUnitIn, IsLiteral, IsFormedInput, AreFormedInputs}
use Rattle.um_measures.specs.declared.abbreviation.Abbreviation.{Abbreviation}
use Rattle.um_measures.specs.Faults.{range, Found}
use Rattle.um_measures.specs.Known.{Known, measure_unit}
use Rattle.um_measures.specs.UnitNames.{first_place, or_else, or_one, unless, unknown_in, unit_of, parts_fit, ranged, resolved_unit}
use Rattle.um_names.proofs.FormedUnits.{in_one, AreClosedIn, closed_last, closed_none, measure_in, resolved_unit_in}
use Rattle.um_value.specs.ValueSyntax.{ValueSyntax, ValueSyntaxes, raw_truth, raw_number, raw_list, raw_record, raw_none, raw_more}
use Rattle.um_value.specs.ValueNames.{signed_number, is_zero, fault_in, note_fault, name_fault, name_fault_among, note_range_fault, range_fault, range_fault_among, unit_note_of, input_of, inputs_of}

-- the unit of a text without faults is its unit
pub resolved_is : (measures : List ℕ → Option PowerMap) (u : UnitSyntax) (v : PowerMap) → resolved_unit measures [] u ≡ Ok v → v ≡ unit_of measures [] u
resolved_is measures u v e = by (unknown_in measures [] u) e where
  fit : (b : Bool) → cond b (Ok (unit_of measures [] u)) (Err (range (first_place u))) ≡ Ok v → v ≡ unit_of measures [] u
  fit true h = cc
  fit false h = absurd cc

  by : (o : Option ℕ) → ranged measures [] u o ≡ Ok v → v ≡ unit_of measures [] u
  by (Some at) h = absurd cc
  by None h = fit (parts_fit measures [] u) h

or_none : (o p : Option ℕ) → or_else o p ≡ None → (o ≡ None) × (p ≡ None)
or_none None p e = (refl, e)
or_none (Some at) p e = absurd cc

unless_none : (b : Bool) (at : ℕ) → unless b at ≡ None → b ≡ true
unless_none true at e = refl
unless_none false at e = absurd cc

no_fault : (r : Found PowerMap) → fault_in r ≡ None → (v : PowerMap) × (r ≡ Ok v)
no_fault (Ok v) e = (v, refl)
no_fault (Err f) e = absurd cc

zero_signed : (negative : Bool) (c : Frac) → numerator c ≡ pos 0 → numerator (signed_number negative c) ≡ pos 0
zero_signed false c e = e
zero_signed true c e = let n = negation c in ap numerator (sym (negation_from c n.0 n.1)) ∙ n.1.0 ∙ ap neg_ℤ e

module _ (measures : List ℕ → Option PowerMap) (n : ℕ) (closed : (x : List ℕ) → IsUnitIn n 0 (or_one (measures x))) where
  literal_formed : (at : ℕ) (negative : Bool) (value : Frac) (note : Option NoteSyntax) → note_fault measures at value note ≡ None → note_range_fault measures note ≡ None → IsLiteral n (signed_number negative value) (unit_note_of measures note)
  literal_formed at negative value None names ranges = (IsClosed-one, (in_one n 0).0)
  literal_formed at negative value (Some (hole_syntax place)) names ranges = zero_signed negative value ((Decides-int_eq (numerator value) (pos 0)).0 (unless_none (is_zero value) at names))
  literal_formed at negative value (Some (unit_note_syntax place u)) names ranges =
      let r = no_fault (resolved_unit measures [] u) ranges in
      let w : IsUnitIn n (length {A = List ℕ} []) r.0 = resolved_unit_in measures [] n closed u r.0 r.1 in
      subst (λ v. IsClosed v × BasesBelow n v) (resolved_is measures u r.0 r.1) (IsClosed-below_zero r.0 w.1, w.0)

  mutual
    pub input_formed : (v : ValueSyntax) → name_fault measures v ≡ None → range_fault measures v ≡ None → IsFormedInput n (input_of measures v)
    input_formed (raw_truth b) names ranges = tt
    input_formed (raw_number at negative value note) names ranges = literal_formed at negative value note names ranges
    input_formed (raw_list vs) names ranges = inputs_formed vs names ranges
    input_formed (raw_record r vs) names ranges = inputs_formed vs names ranges

    inputs_formed : (vs : ValueSyntaxes) → name_fault_among measures vs ≡ None → range_fault_among measures vs ≡ None → AreFormedInputs n (inputs_of measures vs)
    inputs_formed raw_none names ranges = tt
    inputs_formed (raw_more v vs) names ranges =
        let a = or_none (name_fault measures v) (name_fault_among measures vs) names in
        let b = or_none (range_fault measures v) (range_fault_among measures vs) ranges in
        (input_formed v a.0 b.0, inputs_formed vs a.1 b.1)

-- ---- the units of measures

all_closed : (n : ℕ) (front rest : List Abbreviation) → AreClosedIn n front → All (λ (s : Abbreviation). IsUnitIn n 0 s.unit) rest → AreClosedIn n (front ++ rest)
all_closed n front [] h all = subst (λ ss. AreClosedIn n ss) (sym (append-nil front)) h
all_closed n front (s ∷ rest) h all =
    let more = closed_last n front s h (All-head (λ (t : Abbreviation). IsUnitIn n 0 t.unit) s rest all) in
    subst (λ ss. AreClosedIn n ss) (append_assoc front (s ∷ []) rest) (all_closed n (front ++ s ∷ []) rest more (All-tail (λ (t : Abbreviation). IsUnitIn n 0 t.unit) s rest all))

pub measures_closed : (known : Known) → All (λ (s : Abbreviation). IsUnitIn (length known.program.bases) 0 s.unit) known.shorts → (x : List ℕ) → IsUnitIn (length known.program.bases) 0 (or_one (measure_unit known x))
measures_closed known all x = let n = length known.program.bases in measure_in known x (all_closed n [] known.shorts (closed_none n) all)
