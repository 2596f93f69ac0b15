-- The join of two shapes is the least that both fit.
use Rattle.std.proofs.Common.{◌≡◌, refl, sym, subst, ap, ◌∙◌, ℕ, Bool, true, false, cond, Option, Some, None}
use Rattle.std.specs.Prelude.{option_map, nat_eq}
use Rattle.um_verify.specs.StackShape.{StackShape, void, bool, num, list, made, fits, join}
use Rattle.um_verify.specs.Laws.{JoinIsLeast, NoJoinNoBound}
use Rattle.um_verify.proofs.Fits.{same_number, equal_numbers}

pub fits_self : (s : StackShape) → fits s s ≡ true
fits_self void = refl
fits_self bool = refl
fits_self num = refl
fits_self (list s) = fits_self s
fits_self (made r) = equal_numbers r r refl

-- below a common bound there is a join, and it fits the bound
pub joins_in : (u s t : StackShape) → fits s u ≡ true → fits t u ≡ true → (w : StackShape) × (join s t ≡ Some w) × (fits w u ≡ true)
joins_in void void t h k = (t, refl, k)
joins_in bool void t h k = (t, refl, k)
joins_in bool bool void h k = (bool, refl, h)
joins_in bool bool bool h k = (bool, refl, h)
joins_in num void t h k = (t, refl, k)
joins_in num num void h k = (num, refl, h)
joins_in num num num h k = (num, refl, h)
joins_in (list u) void t h k = (t, refl, k)
joins_in (list u) (list s) void h k = (list s, refl, h)
joins_in (list u) (list s) (list t) h k = let r = joins_in u s t h k in (list r.0, ap (option_map list) r.1, r.2)
joins_in (made u) void t h k = (t, refl, k)
joins_in (made u) (made q) void h k = (made q, refl, h)
joins_in (made u) (made q) (made r) h k =
    let e : nat_eq q r ≡ true = equal_numbers q r (same_number q u h ∙ sym (same_number r u k)) in
    (made q, ap (λ (t : Bool). cond t (Some (made q)) None) e, h)
joins_in u s t h k = absurd cc

pub joins_below : (s t u : StackShape) → fits s u ≡ true → fits t u ≡ true → (w : StackShape) × (join s t ≡ Some w) × (fits w u ≡ true)
joins_below s t u h k = joins_in u s t h k

-- both fit their join
abbrev Fit : StackShape → StackShape → Option StackShape → Type 0
Fit s t None = Unit {0}
Fit s t (Some u) = (fits s u ≡ true) × (fits t u ≡ true)

fit_lists : (s t : StackShape) (o : Option StackShape) → Fit s t o → Fit (list s) (list t) (option_map list o)
fit_lists s t None h = tt
fit_lists s t (Some u) h = h

fit_made : (q r : ℕ) (b : Bool) → nat_eq q r ≡ b → Fit (made q) (made r) (cond b (Some (made q)) None)
fit_made q r true e = (equal_numbers q q refl, equal_numbers r q (sym (same_number q r e)))
fit_made q r false e = tt

fit_join : (s t : StackShape) → Fit s t (join s t)
fit_join void t = (refl, fits_self t)
fit_join bool void = (refl, refl)
fit_join bool bool = (refl, refl)
fit_join num void = (refl, refl)
fit_join num num = (refl, refl)
fit_join (list s) void = (fits_self s, refl)
fit_join (list s) (list t) = fit_lists s t (join s t) (fit_join s t)
fit_join (made q) void = (equal_numbers q q refl, refl)
fit_join (made q) (made r) = fit_made q r (nat_eq q r) refl
fit_join s t = tt

pub join_is_least : JoinIsLeast
join_is_least s t u e =
    let both = subst (Fit s t) e (fit_join s t) in
    (both.0, both.1, λ w h k. let j = joins_below s t w h k in let same : j.0 ≡ u = the_same j.0 u (sym j.1 ∙ e) in subst (λ (x : StackShape). fits x w ≡ true) same j.2)
  where
    the_same : (x y : StackShape) → Some x ≡ Some y → x ≡ y
    the_same x y h = cc

pub no_join_no_bound : NoJoinNoBound
no_join_no_bound s t w e h k = let j = joins_below s t w h k in none_some j.0 (sym e ∙ j.1)
  where
    none_some : (x : StackShape) → None ≡ Some x → ⊥
    none_some x q = absurd cc
