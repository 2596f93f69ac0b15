-- The names of the space that measures, abbreviations and records share.
use Rattle.std.proofs.Common.{◌≡◌, ℕ, Bool, true, false, ◌||◌, List, refl, ap, ◌∙◌}
use Rattle.std.specs.Prelude.{Option, Some, None, is_some}
use Rattle.um_units.specs.PowerMap.{PowerMap}
use Rattle.um_measures.specs.declared.abbreviation.Abbreviation.{Abbreviation}
use Rattle.um_measures.specs.Known.{Known, number_of, is_among, short_unit, short_names, record_names, base_or, measure_unit, is_taken}
use Rattle.um_measures.proofs.NameLists.{is_among-number, is_some-short_unit}

either_is : (o : Option ℕ) (p : Option PowerMap) (a b c : Bool) → a ≡ is_some o → b ≡ is_some p → (is_some (base_or o p) || c) ≡ (a || (b || c))
either_is None None a b c e f = rw (e, f) refl
either_is None (Some u) a b c e f = rw (e, f) refl
either_is (Some k) p a b c e f = rw e refl

-- a measure stands for something, or a record has this name
pub taken_is : (known : Known) (x : List ℕ) (m : List Abbreviation) → short_unit m x ≡ measure_unit known x → (is_some (short_unit m x) || is_among (record_names known.program.records) x) ≡ is_taken known x
taken_is known x m e =
    ap (λ o. is_some o || is_among (record_names known.program.records) x) e
    ∙ either_is (number_of known.program.bases x) (short_unit known.shorts x) (is_among known.program.bases x) (is_among (short_names known.shorts) x) (is_among (record_names known.program.records) x)
    (is_among-number x known.program.bases) (is_some-short_unit x known.shorts)

-- a name that isn't taken is no record's
pub not_record : (known : Known) (x : List ℕ) → is_taken known x ≡ false → is_among (record_names known.program.records) x ≡ false
not_record known x = by (is_among known.program.bases x) (is_among (short_names known.shorts) x) (is_among (record_names known.program.records) x) where
  by : (a b c : Bool) → (a || (b || c)) ≡ false → c ≡ false
  by true b c e = cc
  by false true c e = cc
  by false false c e = e
