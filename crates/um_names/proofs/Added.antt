-- What measures stand for where one more is declared.
use Rattle.std.proofs.Common.{◌≡◌, ℕ, Bool, true, false, ◌||◌, List, [], ◌∷◌, ◌++◌, cond, length, refl, ap, sym, ◌∙◌}
use Rattle.std.specs.Prelude.{Option, Some, None, is_some}
use Rattle.std.specs.Str.{bytes_eq}
use Rattle.std.proofs.lemmas.Slice.Eq.{bytes_eq-Decides}
use Rattle.um_units.specs.declared.Atom.TheVariants.{Base}
use Rattle.um_units.specs.PowerMap.{PowerMap, atom}
use Rattle.um_measures.specs.declared.abbreviation.Abbreviation.{Abbreviation}
use Rattle.um_measures.specs.Known.{Known, number_of, is_among, short_unit, short_names, record_names, base_or, measure_unit, is_taken}
use Rattle.um_measures.proofs.NameLists.{or_else, if_named, short_unit-append, number_of-append, is_some-short_unit}

or_false : (a b c : Bool) → (a || (b || c)) ≡ false → b ≡ false
or_false true b c e = cc
or_false false true c e = cc
or_false false false c e = refl

none_of : (o : Option PowerMap) → is_some o ≡ false → o ≡ None
none_of None e = refl
none_of (Some u) e = cc

or_none : (o : Option PowerMap) → or_else o None ≡ o
or_none None = refl
or_none (Some u) = refl

-- a name that isn't taken is no abbreviation
not_short : (known : Known) (x : List ℕ) → is_taken known x ≡ false → short_unit known.shorts x ≡ None
not_short known x e =
    none_of (short_unit known.shorts x) (sym (is_some-short_unit x known.shorts) ∙ or_false (is_among known.program.bases x) (is_among (short_names known.shorts) x) (is_among (record_names known.program.records) x) e)

pub base_added : (known : Known) (x : List ℕ) (m more : List Abbreviation) → ((y : List ℕ) → short_unit m y ≡ measure_unit known y) → is_taken known x ≡ false
    → ((y : List ℕ) → short_unit more y ≡ short_unit (m ++ record { name = x; unit = atom (Base (length known.program.bases)) } ∷ []) y)
    → (y : List ℕ) → short_unit more y ≡ base_or (number_of (known.program.bases ++ x ∷ []) y) (short_unit known.shorts y)
base_added known x m more inv new added y =
    added y ∙ short_unit-append y m (record { name = x; unit = u }) ∙ ap (λ o. or_else o (if_named y x u)) (inv y)
    ∙ by (number_of known.program.bases y) (bytes_eq y x) refl ∙ ap (λ o. base_or o (short_unit known.shorts y)) (sym (number_of-append y known.program.bases x))
  where
    u : PowerMap
    u = atom (Base (length known.program.bases))

    by : (o : Option ℕ) (b : Bool) → bytes_eq y x ≡ b → or_else (base_or o (short_unit known.shorts y)) (if_named y x u) ≡ base_or (or_else o (if_named y x (length known.program.bases))) (short_unit known.shorts y)
    by (Some k) b e = refl
    by None false e = ap (λ c. or_else (short_unit known.shorts y) (cond c (Some u) None)) e ∙ or_none (short_unit known.shorts y) ∙ sym (ap (λ c. base_or (cond c (Some (length known.program.bases)) None) (short_unit known.shorts y)) e)
    by None true e =
        let same : y ≡ x = (bytes_eq-Decides y x).0 e in
        let none : short_unit known.shorts y ≡ None = ap (short_unit known.shorts) same ∙ not_short known x new in
        ap (λ c. or_else (short_unit known.shorts y) (cond c (Some u) None)) e ∙ ap (λ o. or_else o (Some u)) none ∙ sym (ap (λ c. base_or (cond c (Some (length known.program.bases)) None) (short_unit known.shorts y)) e)

base_both : (o : Option ℕ) (p q : Option PowerMap) → or_else (base_or o p) q ≡ base_or o (or_else p q)
base_both None p q = refl
base_both (Some k) p q = refl

pub short_added : (known : Known) (e : Abbreviation) (m more : List Abbreviation) → ((y : List ℕ) → short_unit m y ≡ measure_unit known y)
    → ((y : List ℕ) → short_unit more y ≡ short_unit (m ++ e ∷ []) y) → (y : List ℕ) → short_unit more y ≡ base_or (number_of known.program.bases y) (short_unit (known.shorts ++ e ∷ []) y)
short_added known e m more inv added y =
    added y ∙ short_unit-append y m e ∙ ap (λ o. or_else o (if_named y e.name e.unit)) (inv y)
    ∙ base_both (number_of known.program.bases y) (short_unit known.shorts y) (if_named y e.name e.unit)
    ∙ ap (base_or (number_of known.program.bases y)) (sym (short_unit-append y known.shorts e))
