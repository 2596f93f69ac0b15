-- Cases on a test, with what each case says of it.
use Rattle.std.proofs.Common.{◌≡◌, Bool, true, false, refl}

pub on_test : (b : Bool) {P : Type 0} → (b ≡ true → P) → (b ≡ false → P) → P
on_test b {P} then other = elim b as (λ v. b ≡ v → P) [ true ↦ then | false ↦ other ] refl
