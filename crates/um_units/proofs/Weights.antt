-- The value of a linear functional at a normal form, a product, and a list of terms.
use Rattle.std.proofs.Common.{◌≡◌, true, List, [], ◌∷◌, ◌++◌, ℤ, pos, negsuc, ◌+ℤ◌, ◌*ℤ◌, refl, sym, ap, ◌∙◌, arith}
use Rattle.std.proofs.lemmas.Int.{ints}
use Rattle.std.proofs.lemmas.Bool.{cond_both, eqb-true}
use Rattle.std.proofs.Math.IntN.{zero-*ℤ, +ℤ_idl}
use Rattle.um_units.specs.declared.Atom.{Atom}
use Rattle.um_units.specs.declared.Term.{Term}
use Rattle.um_frac.proofs.Integers.{+ℤ-*ℤ}
use Rattle.um_units.specs.Atoms.{is_before, same_atom}
use Rattle.um_units.specs.Terms.{weigh, is_zero, unless_zero, times_term, normal_form}
use Rattle.um_units.specs.NormalForm.{same_atom-eq}
use Rattle.um_units.specs.PowerMap.{product}

pub zero_is : (z : ℤ) → is_zero z ≡ true → z ≡ pos 0
zero_is (pos n) h = ap pos (eqb-true n 0 h)
zero_is (negsuc n) h = cc

pub weigh-unless_zero : (f : Atom → ℤ) (t : Term) (ts : List Term) → weigh f (unless_zero t ts) ≡ t.power *ℤ f t.atom +ℤ weigh f ts
weigh-unless_zero f t ts =
    cond_both (is_zero t.power) ts (t ∷ ts) (λ us. weigh f us ≡ t.power *ℤ f t.atom +ℤ weigh f ts)
    (λ e. let z : t.power ≡ pos 0 = zero_is t.power e in rw z (sym (ap (λ n. n +ℤ weigh f ts) (zero-*ℤ (f t.atom)) ∙ +ℤ_idl (weigh f ts))))
    (λ e. refl)

weigh-times_term : (f : Atom → ℤ) (t : Term) (ts : List Term) → weigh f (times_term t ts) ≡ t.power *ℤ f t.atom +ℤ weigh f ts
weigh-times_term f t [] = weigh-unless_zero f t []
weigh-times_term f t (s ∷ ts) =
    cond_both (is_before t.atom s.atom) _ _ (λ us. weigh f us ≡ t.power *ℤ f t.atom +ℤ (s.power *ℤ f s.atom +ℤ weigh f ts))
    (λ e. weigh-unless_zero f t (s ∷ ts))
    (λ e. cond_both (same_atom t.atom s.atom) _ _ (λ us. weigh f us ≡ t.power *ℤ f t.atom +ℤ (s.power *ℤ f s.atom +ℤ weigh f ts))
    (λ g. weigh-unless_zero f (record { atom = s.atom; power = t.power +ℤ s.power }) ts
    ∙ (let q : t.atom ≡ s.atom = same_atom-eq t.atom s.atom g in rw q (omega (arith, ints, +ℤ-*ℤ t.power s.power (f s.atom)))))
    (λ g. ap (λ n. s.power *ℤ f s.atom +ℤ n) (weigh-times_term f t ts) ∙ omega (arith, ints)))

pub weigh-normal_form : (f : Atom → ℤ) (ts : List Term) → weigh f (normal_form ts) ≡ weigh f ts
weigh-normal_form f [] = refl
weigh-normal_form f (t ∷ ts) = weigh-times_term f t (normal_form ts) ∙ ap (λ n. t.power *ℤ f t.atom +ℤ n) (weigh-normal_form f ts)

pub weigh-++ : (f : Atom → ℤ) (ts us : List Term) → weigh f (ts ++ us) ≡ weigh f ts +ℤ weigh f us
weigh-++ f [] us = sym (+ℤ_idl (weigh f us))
weigh-++ f (t ∷ ts) us = ap (λ n. t.power *ℤ f t.atom +ℤ n) (weigh-++ f ts us) ∙ omega (arith, ints)

pub weigh-product : (f : Atom → ℤ) (ts : List Term) → weigh f (product ts).terms ≡ weigh f ts
unfolding product
weigh-product f ts = weigh-normal_form f ts

-- functionals that are equal at each atom are equal
pub weigh_alike : (f g : Atom → ℤ) → ((x : Atom) → f x ≡ g x) → (ts : List Term) → weigh f ts ≡ weigh g ts
weigh_alike f g same ts = ap (λ h. weigh h ts) (λ i x. same x i)
