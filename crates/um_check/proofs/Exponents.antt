-- What is made is a certificate: exponents of rows are parts, and variables are renamed one for one.
use Rattle.std.proofs.Common.{◌≡◌, ◌≢◌, ℕ, ◌<◌, List, [], ◌∷◌, map, length, ℤ, pos, ◌+ℤ◌, ◌*ℤ◌, sym, ap, ◌∙◌, subst}
use Rattle.std.specs.Prelude.{All, slice_index_or}
use Rattle.std.specs.Int.Signed.{◌<ℤ◌}
use Rattle.std.proofs.lemmas.List.{length-map}
use Rattle.um_units.specs.declared.Atom.{Atom}
use Rattle.um_units.specs.declared.Atom.TheVariants.{Base, Var}
use Rattle.um_units.specs.Terms.{weigh, indicator}
use Rattle.um_units.specs.PowerMap.{PowerMap, weight, power_of, atom, mul, inv, pow, image, replace, nth, extension}
use Rattle.um_units.proofs.Weights.{weigh-product}
use Rattle.um_units.proofs.Equality.{same_unit}
use Rattle.um_units.proofs.Group.{weight-one, weight-atom, weight-mul, weight-pow}
use Rattle.um_units.proofs.Replacement.{weight-replace, weight_held, nth-map}
use Rattle.um_check.specs.declared.certificate.Part.{Part}
use Rattle.um_check.specs.Combination.{combined, NamesRowsBelow}
use Rattle.um_check.specs.Validity.{returned, ComesBack}
use Rattle.um_wide.specs.Room.{IsNarrow}
use Rattle.um_check.specs.Existence.{IsInverse, exponents}
use Rattle.um_check.proofs.Extensions.{weight-extension}

-- the product of the rows to the exponents is that of the parts
pub replace-exponents : (rows : List PowerMap) (ps : List Part) → replace (nth rows) (exponents ps) ≡ combined rows ps
replace-exponents rows ps = same_unit _ _ (λ x. weight-replace (indicator x) (nth rows) (exponents ps) ∙ weigh-product (λ y. power_of (image (nth rows) y) x) (map (λ (p : Part). record { atom = Var p.row; power = p.times }) ps) ∙ each x ps)
  where
    each : (x : Atom) (ps : List Part) → weigh (λ y. power_of (image (nth rows) y) x) (map (λ (p : Part). record { atom = Var p.row; power = p.times }) ps) ≡ power_of (combined rows ps) x
    each x [] = sym (weight-one (indicator x))
    each x (p ∷ ps) =
        ap (λ z. p.times *ℤ power_of (nth rows p.row) x +ℤ z) (each x ps)
        ∙ sym (weight-mul (indicator x) (pow (nth rows p.row) p.times) (combined rows ps) ∙ ap (λ z. z +ℤ power_of (combined rows ps) x) (weight-pow (indicator x) (nth rows p.row) p.times))

-- back as a list of units for variables, and each base unit for itself, is B
extension-replace : (back : Atom → PowerMap) (bs : List PowerMap) (u : PowerMap) → ((n : ℕ) → back (Base n) ≡ atom (Base n)) → ((k : ℕ) → power_of u (Var k) ≢ pos 0 → nth bs k ≡ back (Var k)) → extension back u ≡ replace (nth bs) u
extension-replace back bs u bases same =
    same_unit _ _ (λ x. weight-extension (indicator x) back u ∙ weight_held _ _ u (at x) ∙ sym (weight-replace (indicator x) (nth bs) u))
  where
    at : (x y : Atom) → power_of u y ≢ pos 0 → power_of (back y) x ≡ power_of (image (nth bs) y) x
    at x (Base n) h = ap (λ v. power_of v x) (bases n)
    at x (Var k) h = ap (λ v. power_of v x) (sym (same k h))

-- what is kept is what a Yes asks, where the numbers are in range
pub comes_back : (slots : ℕ) (rows solution bs : List PowerMap) (back : Atom → PowerMap) (divisor : ℤ) (exps : ℕ → PowerMap) (parts : List (List Part)) → length solution ≡ slots → pos 0 <ℤ divisor → length parts ≡ slots →
    All (NamesRowsBelow (length rows)) parts → ((j : ℕ) → j < slots → exponents (slice_index_or parts j []) ≡ exps j) → ((n : ℕ) → back (Base n) ≡ atom (Base n)) →
    ((j k : ℕ) → j < slots → power_of (nth solution j) (Var k) ≢ pos 0 → nth bs k ≡ back (Var k)) → ((j : ℕ) → j < slots → IsNarrow (returned solution bs j)) →
    IsInverse rows solution back divisor exps → ComesBack slots rows solution bs divisor parts
comes_back slots rows solution bs back divisor exps parts l positive per named same bases held narrow kept = record {
  positive = positive;
  per_slot = per;
  named = named;
  by_rows = λ j h.
      ap (λ u. pow (mul u (inv (atom (Var j)))) divisor) (sym (extension-replace back bs (nth solution j) bases (λ k. held j k h)))
      ∙ kept.by_rows j (subst (λ n. j < n) (sym l) h)
      ∙ ap (replace (nth rows)) (sym (same j h))
      ∙ replace-exponents rows (slice_index_or parts j []);
  narrow = narrow;
}

-- a renaming of the solution's variables, where B is renamed with them
pub kept_renamed : (rows solution : List PowerMap) (back new_back : Atom → PowerMap) (divisor : ℤ) (parts : ℕ → PowerMap) (new : ℕ → ℕ) → ((n : ℕ) → new_back (Base n) ≡ back (Base n)) →
    ((j k : ℕ) → j < length solution → power_of (nth solution j) (Var k) ≢ pos 0 → new_back (Var (new k)) ≡ back (Var k)) → IsInverse rows solution back divisor parts → IsInverse rows (map (replace (λ k. atom (Var (new k)))) solution) new_back divisor parts
kept_renamed rows solution back new_back divisor parts new bases held kept = record {
  by_rows = λ j l.
      let h : j < length solution = subst (λ n. j < n) (length-map solution (replace (λ k. atom (Var (new k))))) l in
      ap (λ u. pow (mul u (inv (atom (Var j)))) divisor) (ap (extension new_back) (nth-map (replace (λ k. atom (Var (new k)))) solution j h) ∙ same j h) ∙ kept.by_rows j h;
}
  where
    at : (j : ℕ) → j < length solution → (x y : Atom) → power_of (nth solution j) y ≢ pos 0 → weight (λ z. power_of (new_back z) x) (image (λ k. atom (Var (new k))) y) ≡ power_of (back y) x
    at j h x (Base n) p = weight-atom (λ z. power_of (new_back z) x) (Base n) ∙ ap (λ v. power_of v x) (bases n)
    at j h x (Var k) p = weight-atom (λ z. power_of (new_back z) x) (Var (new k)) ∙ ap (λ v. power_of v x) (held j k h p)

    same : (j : ℕ) → j < length solution → extension new_back (replace (λ k. atom (Var (new k))) (nth solution j)) ≡ extension back (nth solution j)
    same j h = same_unit _ _ (λ x. weight-extension (indicator x) new_back (replace (λ k. atom (Var (new k))) (nth solution j)) ∙ weight-replace (λ z. power_of (new_back z) x) (λ k. atom (Var (new k))) (nth solution j)
        ∙ weight_held _ _ (nth solution j) (at j h x) ∙ sym (weight-extension (indicator x) back (nth solution j)))
