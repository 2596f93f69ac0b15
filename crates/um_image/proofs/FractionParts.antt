-- A fraction by its two parts, and how it is read.
use Rattle.std.proofs.Common.{◌≡◌, sym, ap, ◌∙◌, ℕ, ◌≤◌, ℤ, ◌*ℤ◌, Bool, cond, List, length, take, drop, Option, Some, None, Err}
use Rattle.std.proofs.lemmas.Bool.{le-ltb}
use Rattle.um_frac.specs.declared.number.Frac.{Frac}
use Rattle.um_frac.specs.Fraction.{numerator, denominator, fraction, reduced, IsQuotient}
use Rattle.um_frac.proofs.LowestTerms.{fraction_none, reduced_from}
use Rattle.um_frac.proofs.Outcomes.{den_apart}
use Rattle.um_image.specs.Reading.{found_one, fraction_of, fraction_at, long_of}

own_quotient : (r : Frac) (n d : ℤ) → numerator r ≡ n → denominator r ≡ d → IsQuotient r n d
own_quotient r n d a b = (λ z. den_apart r (b ∙ z), (λ i. a i *ℤ (sym b) i))

pub quotient_is : (o : Option Frac) (n d : ℤ) → o ≡ reduced n d → (r : Frac) → numerator r ≡ n → denominator r ≡ d → o ≡ Some r
quotient_is o n d e r a b = e ∙ reduced_from r n d (own_quotient r n d a b)

-- where the quotient has other parts, or is none, no fraction has these
pub no_fraction : (o : Option Frac) (n d : ℤ) → o ≡ reduced n d → ((r : Frac) → o ≡ Some r → numerator r ≡ n → denominator r ≡ d → ⊥) → None ≡ fraction n d
no_fraction o n d e h = sym (fraction_none n d (λ r a b. h r (quotient_is o n d e r a b) a b))

pub fraction_read : (bytes front num den rest : List ℕ) (o : Option Frac) → 16 ≤ length bytes → front ≡ take 16 bytes → rest ≡ drop 16 bytes → num ≡ take 8 front → den ≡ drop 8 front → o ≡ fraction (long_of num) (long_of den) → fraction_at bytes ≡ found_one o bytes rest
unfolding fraction_at
fraction_read bytes front num den rest o long f r n d e =
    let nums : num ≡ take 8 (take 16 bytes) = n ∙ ap (λ (t : List ℕ). take 8 t) f in
    let dens : den ≡ drop 8 (take 16 bytes) = d ∙ ap (λ (t : List ℕ). drop 8 t) f in
    let is : o ≡ fraction_of (take 16 bytes) = e ∙ (λ i. fraction (long_of (nums i)) (long_of (dens i))) in
    ap (λ (b : Bool). cond b (Err (length bytes)) (found_one (fraction_of (take 16 bytes)) bytes (drop 16 bytes))) (le-ltb (length bytes) 16 long)
    ∙ (λ i. found_one ((sym is) i) bytes ((sym r) i))
