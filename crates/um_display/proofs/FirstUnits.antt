-- The first of units, one more at a time.
use Rattle.std.proofs.Common.{◌≡◌, ℕ, zero, suc, ◌+◌, ◌<◌, ◌≤◌, Bool, true, false, cond, List, [], ◌∷◌, drop, get_or, length, Some, None, refl, sym, ap, ◌∙◌, add-one, arith}
use Rattle.std.specs.Prelude.{◌↔◌, IsTrue}
use Rattle.std.proofs.lemmas.Bool.{false≢true}
use Rattle.um_units.specs.declared.Term.{Term}
use Rattle.um_units.specs.PowerMap.{PowerMap, one, mul, inv}
use Rattle.um_units.specs.PowerMapCode.{same_from_terms}
use Rattle.um_units.proofs.Group.{quotient-same, same_from_quotient, terms-one}
use Rattle.um_display.specs.declared.unit.DisplayUnit.{DisplayUnit}
use Rattle.um_display.specs.DisplayText.{is_one, same_unit, first_at}

first_next : (u : PowerMap) (us : List DisplayUnit) (i : ℕ) (d other : DisplayUnit) → i < length us → d ≡ get_or us i other
    → first_at u (drop i us) ≡ cond (same_unit u d.unit) (Some d) (first_at u (drop (suc i) us))
first_next u [] i d other h e = absurd (omega arith)
first_next u (first ∷ us) zero d other h e = ap (λ (x : DisplayUnit). cond (same_unit u x.unit) (Some x) (first_at u us)) (sym e)
first_next u (first ∷ us) (suc i) d other h e = first_next u us i d other (omega arith) e

pub first_from : (u : PowerMap) (us : List DisplayUnit) (i : ℕ) (d other : DisplayUnit) → i < length us → d ≡ get_or us i other
    → first_at u (drop i us) ≡ cond (same_unit u d.unit) (Some d) (first_at u (drop (i + 1) us))
first_from u us i d other h e = rw add-one (first_next u us i d other h e)

pub first_past : (u : PowerMap) (us : List DisplayUnit) (i : ℕ) → length us ≤ i → first_at u (drop i us) ≡ None
first_past u [] zero h = refl
first_past u [] (suc i) h = refl
first_past u (d ∷ us) zero h = absurd (omega (arith, h))
first_past u (d ∷ us) (suc i) h = first_past u us i (omega (arith, h))

-- two units are one exactly if their quotient is the unit 1
pub same_told : (u v : PowerMap) (b : Bool) → IsTrue b ↔ (u ≡ v) → b ≡ same_unit u v
same_told u v true h = sym (ap is_one (ap (λ (w : PowerMap). w.terms) (quotient-same u v (h.0 refl)) ∙ terms-one))
same_told u v false h = by (mul u (inv v)).terms refl where
  by : (ts : List Term) → (mul u (inv v)).terms ≡ ts → false ≡ is_one ts
  by [] e = absurd (false≢true (h.1 (same_from_quotient u v (same_from_terms (mul u (inv v)) one (e ∙ sym terms-one)))))
  by (t ∷ ts) e = refl
