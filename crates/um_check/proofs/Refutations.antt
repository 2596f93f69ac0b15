-- A valid No: no units make each row up to its last equal to 1.
use Rattle.std.proofs.Common.{◌≡◌, ℕ, suc, ◌<◌, ◌≤◌, Bool, true, false, List, [], ◌∷◌, length, take, ℤ, pos, neg_ℤ, ◌+ℤ◌, ◌*ℤ◌, refl, sym, ap, ◌∙◌, subst, arith}
use Rattle.std.specs.Prelude.{◌↔◌, IsTrue, All}
use Rattle.std.specs.Int.Signed.{◌≤ℤ◌}
use Rattle.std.proofs.lemmas.Int.{ints}
use Rattle.std.proofs.lemmas.List.{length-map}
use Rattle.std.proofs.Math.IntN.{*ℤ-zero}
use Rattle.um_frac.proofs.Integers.{*ℤ-+ℤ, *ℤ_assoc, *ℤ-neg_ℤ}
use Rattle.um_units.specs.declared.Atom.{Atom}
use Rattle.um_units.specs.declared.Atom.TheVariants.{Base, Var}
use Rattle.um_units.specs.declared.Term.{Term}
use Rattle.um_units.specs.Atoms.{same_atom}
use Rattle.um_units.specs.Terms.{weigh, indicator, power_in, is_normal}
use Rattle.um_units.specs.NormalForm.{head_before_all, tail_normal, same_atom-eq}
use Rattle.um_units.specs.PowerMap.{PowerMap, power_of, one, image, replace, nth}
use Rattle.um_units.proofs.Equality.{power_in-before_all, power_in-head, power_in-tail}
use Rattle.um_units.proofs.Group.{weight-one, weight-atom}
use Rattle.um_units.proofs.Replacement.{weight-replace}
use Rattle.um_elim.specs.Solution.{rigid_unit}
use Rattle.um_check.specs.declared.certificate.Part.{Part}
use Rattle.um_check.specs.declared.certificate.No.{No}
use Rattle.um_check.specs.Combination.{combined, IsMultiple, NamesRowsBelow}
use Rattle.um_check.specs.Refutation.{IsApart, IsValidNo, fixed_slots, rigid_rows}
use Rattle.um_check.specs.Laws.{ValidNoRefutes}
use Rattle.um_check.proofs.Combinations.{combined-through, more_rows}
use Rattle.um_check.proofs.RigidRows.{rigid_solves, take-rigid, combined-rigid}

-- ---- multiples
pub multiple-zero : (m : ℤ) → IsMultiple m (pos 0)
multiple-zero m = (pos 0, sym (*ℤ-zero m))

multiple-*ℤ : (m a b : ℤ) → IsMultiple m a → IsMultiple m (a *ℤ b)
multiple-*ℤ m a b p = (p.0 *ℤ b, ap (λ z. z *ℤ b) p.1 ∙ *ℤ_assoc m p.0 b)

-- a sum that is 0 with a part that is a multiple
multiple-rest : (m a b : ℤ) → IsMultiple m b → a +ℤ b ≡ pos 0 → IsMultiple m a
multiple-rest m a b p e = (neg_ℤ p.0, taken a b (m *ℤ p.0) p.1 e ∙ sym (*ℤ-neg_ℤ m p.0))
  where
    taken : (a b c : ℤ) → b ≡ c → a +ℤ b ≡ pos 0 → a ≡ neg_ℤ c
    taken a b c f e = omega (arith, ints, f, e)

-- two functionals that are alike at base units give values that differ by a multiple, where each variable's power is one
weigh_apart : (m : ℤ) (f g : Atom → ℤ) (ts : List Term) → IsTrue (is_normal ts) → ((n : ℕ) → f (Base n) ≡ g (Base n)) → ((k : ℕ) → IsMultiple m (power_in ts (Var k))) →
    (d : ℤ) × (weigh f ts ≡ weigh g ts +ℤ m *ℤ d)
weigh_apart m f g [] n same mult = (pos 0, sym (ap (λ z. pos 0 +ℤ z) (*ℤ-zero m)))
weigh_apart m f g (t ∷ ts) n same mult =
    let h = head t.atom refl in
    let rest = weigh_apart m f g ts (tail_normal t ts n) same tail_mult in
    (h.0 +ℤ rest.0, both (t.power *ℤ f t.atom) (t.power *ℤ g t.atom) (weigh f ts) (weigh g ts) (m *ℤ h.0) (m *ℤ rest.0) h.1 rest.1 ∙ ap (λ z. weigh g (t ∷ ts) +ℤ z) (sym (*ℤ-+ℤ m h.0 rest.0)))
  where
    both : (a b c d x y : ℤ) → a ≡ b +ℤ x → c ≡ d +ℤ y → a +ℤ c ≡ (b +ℤ d) +ℤ (x +ℤ y)
    both a b c d x y e f = omega (arith, ints, e, f)

    head : (a : Atom) → t.atom ≡ a → (c : ℤ) × (t.power *ℤ f t.atom ≡ t.power *ℤ g t.atom +ℤ m *ℤ c)
    head (Base j) e = (pos 0, ap (λ y. t.power *ℤ f y) e ∙ ap (λ z. t.power *ℤ z) (same j) ∙ ap (λ y. t.power *ℤ g y) (sym e) ∙ sym (nothing (t.power *ℤ g t.atom) (m *ℤ pos 0) (*ℤ-zero m)))
      where
        nothing : (a b : ℤ) → b ≡ pos 0 → a +ℤ b ≡ a
        nothing a b e = omega (arith, ints, e)
    head (Var k) e =
        let p = multiple-*ℤ m t.power (f t.atom +ℤ neg_ℤ (g t.atom))
        (subst (IsMultiple m) (ap (power_in (t ∷ ts)) (sym e) ∙ power_in-head t ts (head_before_all t ts n)) (mult k)) in
        (p.0, split t.power (f t.atom) (g t.atom) ∙ ap (λ z. t.power *ℤ g t.atom +ℤ z) p.1)
      where
        split : (a x y : ℤ) → a *ℤ x ≡ a *ℤ y +ℤ a *ℤ (x +ℤ neg_ℤ y)
        split a x y = omega (arith, ints, *ℤ-+ℤ a x (neg_ℤ y), *ℤ-neg_ℤ a y)

    tail_mult : (k : ℕ) → IsMultiple m (power_in ts (Var k))
    tail_mult k =
        elim (same_atom (Var k) t.atom) as (λ b. same_atom (Var k) t.atom ≡ b → IsMultiple m (power_in ts (Var k))) [
          | true ↦ λ s. subst (IsMultiple m) (sym (ap (power_in ts) (same_atom-eq (Var k) t.atom s) ∙ power_in-before_all t.atom ts (head_before_all t ts n))) (multiple-zero m)
          | false ↦ λ s. subst (IsMultiple m) (power_in-tail t ts (Var k) s) (mult k)
        ] refl

-- no substitution makes such a unit 1
never_one : (m : ℤ) (s : ℕ → PowerMap) (u : PowerMap) → IsApart m u → replace s u ≡ one → ⊥
never_one m s u a e =
    let n = a.base.0 in
    let d = weigh_apart m (λ y. power_of (image s y) (Base n)) (indicator (Base n)) u.terms u.normal (λ j. weight-atom (indicator (Base n)) (Base j)) a.slots in
    a.base.1 (multiple-rest m (power_of u (Base n)) (m *ℤ d.0) (d.0, refl)
    (sym d.1 ∙ sym (weight-replace (indicator (Base n)) s u) ∙ ap (λ z. power_of z (Base n)) e ∙ weight-one (indicator (Base n))))

pub valid_no_refutes : ValidNoRefutes
valid_no_refutes bases parameters rows c valid slots units joint rigid =
    let fixed = fixed_slots c.loose parameters in
    let long : suc c.last ≤ length (rigid_rows bases fixed rows) = let l = length-map rows (replace (rigid_unit bases fixed)) in let h = valid.in_list in omega (arith, l, h) in
    never_one c.modulus (nth units) (combined (rigid_rows bases fixed rows) c.parts) valid.apart
    (combined-through (nth units) (rigid_rows bases fixed rows) (suc c.last) c.parts long
    (subst (λ us. All (λ row. replace (nth units) row ≡ one) us) (sym (take-rigid bases fixed (suc c.last) rows)) (rigid_solves bases fixed (take (suc c.last) rows) units rigid joint.solves))
    valid.named)

-- ---- the whole check, once the certificate's numbers are in order
pub no_judged : (bases parameters fixed : ℕ) (rows : List PowerMap) (c : No) (m : ℤ) (parts : List Part) (product : PowerMap) (b : Bool) → pos 2 ≤ℤ c.modulus → c.last < length rows → NamesRowsBelow (suc c.last) c.parts →
    m ≡ c.modulus → parts ≡ c.parts → fixed ≡ fixed_slots c.loose parameters → product ≡ combined rows parts → (IsTrue b ↔ IsApart m (replace (rigid_unit bases fixed) product)) → IsTrue b ↔ IsValidNo bases parameters rows c
no_judged bases parameters fixed rows c m parts product b proper inside named e f g p judge = (
  (λ t. record { proper = proper; in_list = inside; named = named; apart = subst (IsApart c.modulus) same (subst (λ z. IsApart z (replace (rigid_unit bases fixed) product)) e (judge.0 t)) }),
  (λ v. judge.1 (subst (IsApart m) (sym same) (subst (λ z. IsApart z (combined (rigid_rows bases (fixed_slots c.loose parameters) rows) c.parts)) (sym e) v.apart))),
)
  where
    same : replace (rigid_unit bases fixed) product ≡ combined (rigid_rows bases (fixed_slots c.loose parameters) rows) c.parts
    same =
        ap (λ n. replace (rigid_unit bases n) product) g
        ∙ ap (replace (rigid_unit bases (fixed_slots c.loose parameters))) (p ∙ ap (combined rows) f)
        ∙ sym (combined-rigid bases (fixed_slots c.loose parameters) rows c.parts (more_rows (suc c.last) (length rows) c.parts (omega (arith, inside)) named))
