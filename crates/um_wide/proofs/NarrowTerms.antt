-- Powers that lie in the range of 64 bits.
use Rattle.std.proofs.Common.{◌≡◌, ℕ, zero, suc, ◌<◌, ◌≤◌, true, false, List, [], ◌∷◌, length, get_or, nat_abs, refl, sym, ap, ◌∙◌, subst, arith}
use Rattle.std.specs.Prelude.{IsTrue}
use Rattle.std.proofs.lemmas.Bool.{and_parts, and_from, leb-true, le-leb}
use Rattle.um_units.specs.declared.Atom.{Atom}
use Rattle.um_units.specs.Atoms.{same_atom}
use Rattle.um_units.specs.NormalForm.{same_atom-eq, head_before_all, tail_normal}
use Rattle.um_units.specs.Terms.{power_in, is_normal}
use Rattle.um_units.specs.PowerMap.{PowerMap}
use Rattle.um_units.specs.Range.{in_range, all_in_range}
use Rattle.um_units.proofs.Equality.{power_in-head, power_in-tail, power_in-before_all}
use Rattle.um_units.specs.declared.wide.WideTerm.{WideTerm}
use Rattle.um_wide.specs.Room.{IsNarrow}
use Rattle.um_units.specs.Wide.{as_term, as_terms}
use Rattle.um_wide.specs.Narrow.{is_narrow_power, all_narrow}

pub narrow_at : (ws : List WideTerm) (i : ℕ) (d : WideTerm) → i < length ws → IsTrue (all_narrow ws) → nat_abs (get_or ws i d).power ≤ 9223372036854775807
narrow_at [] i d h n = absurd (omega (arith, h))
narrow_at (w ∷ ws) zero d h n = leb-true (nat_abs w.power) 9223372036854775807 (and_parts (is_narrow_power w.power) (all_narrow ws) n).0
narrow_at (w ∷ ws) (suc i) d h n = narrow_at ws i d (omega (arith, h)) (and_parts (is_narrow_power w.power) (all_narrow ws) n).1

-- powers of 32 bits are such
pub narrow-in_range : (ws : List WideTerm) → IsTrue (all_in_range (as_terms ws)) → IsTrue (all_narrow ws)
narrow-in_range [] h = refl
narrow-in_range (w ∷ ws) h =
    let p = and_parts (in_range w.power) (all_in_range (as_terms ws)) h in
    and_from _ _ (le-leb (nat_abs w.power) 9223372036854775807 (let l = leb-true (nat_abs w.power) 2147483647 p.0 in omega (arith, l))) (narrow-in_range ws p.1)

powers_from : (ws : List WideTerm) → IsTrue (is_normal (as_terms ws)) → IsTrue (all_narrow ws) → (x : Atom) → nat_abs (power_in (as_terms ws) x) ≤ 9223372036854775807
powers_from [] n h x = omega arith
powers_from (w ∷ ws) n h x =
    let p = and_parts (is_narrow_power w.power) (all_narrow ws) h in
    elim (same_atom x w.atom) as (λ b. same_atom x w.atom ≡ b → nat_abs (power_in (as_terms (w ∷ ws)) x) ≤ 9223372036854775807) [
      | true ↦ λ s.
          subst (λ z. nat_abs z ≤ 9223372036854775807)
          (sym (ap (power_in (as_terms (w ∷ ws))) (same_atom-eq x w.atom s) ∙ power_in-head (as_term w) (as_terms ws) (head_before_all (as_term w) (as_terms ws) n)))
          (leb-true (nat_abs w.power) 9223372036854775807 p.0)
      | false ↦ λ s. subst (λ z. nat_abs z ≤ 9223372036854775807) (sym (power_in-tail (as_term w) (as_terms ws) x s)) (powers_from ws (tail_normal (as_term w) (as_terms ws) n) p.1 x)
    ] refl

terms_from : (ws : List WideTerm) → IsTrue (is_normal (as_terms ws)) → ((x : Atom) → nat_abs (power_in (as_terms ws) x) ≤ 9223372036854775807) → IsTrue (all_narrow ws)
terms_from [] n h = refl
terms_from (w ∷ ws) n h =
    and_from _ _
    (le-leb (nat_abs w.power) 9223372036854775807
    (subst (λ z. nat_abs z ≤ 9223372036854775807) (power_in-head (as_term w) (as_terms ws) (head_before_all (as_term w) (as_terms ws) n)) (h w.atom)))
    (terms_from ws (tail_normal (as_term w) (as_terms ws) n) (λ x.
    elim (same_atom x w.atom) as (λ b. same_atom x w.atom ≡ b → nat_abs (power_in (as_terms ws) x) ≤ 9223372036854775807) [
      | true ↦ λ s.
          subst (λ z. nat_abs z ≤ 9223372036854775807)
          (sym (ap (power_in (as_terms ws)) (same_atom-eq x w.atom s) ∙ power_in-before_all w.atom (as_terms ws) (head_before_all (as_term w) (as_terms ws) n))) (omega arith)
      | false ↦ λ s. subst (λ z. nat_abs z ≤ 9223372036854775807) (power_in-tail (as_term w) (as_terms ws) x s) (h x)
    ] refl))

-- the terms of a unit are narrow exactly where its powers are
pub narrow_unit : (ws : List WideTerm) (u : PowerMap) → as_terms ws ≡ u.terms → (IsTrue (all_narrow ws) → IsNarrow u) × (IsNarrow u → IsTrue (all_narrow ws))
narrow_unit ws u e =
    let n : IsTrue (is_normal (as_terms ws)) = subst (λ ts. IsTrue (is_normal ts)) (sym e) u.normal in (
      (λ h x. subst (λ ts. nat_abs (power_in ts x) ≤ 9223372036854775807) e (powers_from ws n h x)),
      (λ h. terms_from ws n (λ x. subst (λ ts. nat_abs (power_in ts x) ≤ 9223372036854775807) (sym e) (h x))),
    )
