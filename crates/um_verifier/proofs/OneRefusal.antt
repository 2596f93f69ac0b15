-- An image has one refusal at most, besides want of memory.
use Rattle.std.proofs.Common.{◌≡◌, refl, sym, ap, subst, ◌∙◌, ℕ, ◌+◌, ◌<◌, ◌⊎◌, inl, inr, Some, slice_get}
use Rattle.std.proofs.lemmas.Bool.{cases_order}
use Rattle.um_verify.specs.ImageTree.{ImageTree}
use Rattle.um_verify.specs.Heads.{IsFirstHead}
use Rattle.um_verify.specs.Rules.{Body, View, view_of}
use Rattle.um_verify.specs.Verified.{FirstFailure, IsFirstAddress}
use Rattle.um_verifier.specs.declared.stop.VerifyStop.TheVariants.{Head, Code, NoMemory}
use Rattle.um_verifier.specs.Laws.{RefusalsAreOne, VerifiedIsAccepted}

one_head : (image : ImageTree) (i j : ℕ) → IsFirstHead image i → IsFirstHead image j → i ≡ j
one_head image i j x y = by (cases_order i j) where
  by : (i ≡ j) ⊎ ((i < j) ⊎ (j < i)) → i ≡ j
  by (inl e) = e
  by (inr (inl l)) = absurd (x.fails (y.earlier i l))
  by (inr (inr l)) = absurd (y.fails (x.earlier j l))

-- the first failure of a function
one_failure : (view : View) (body : Body) (n m : ℕ) → FirstFailure view body n → FirstFailure view body m → n ≡ m
one_failure view body n m x y = by (cases_order n m) where
  by : (n ≡ m) ⊎ ((n < m) ⊎ (m < n)) → n ≡ m
  by (inl e) = e
  by (inr (inl l)) = absurd (x.1 (y.2 n l))
  by (inr (inr l)) = absurd (y.1 (x.2 m l))

some_body : (b c : Body) → Some b ≡ Some c → b ≡ c
some_body b c h = cc

one_address : (view : View) (a b : ℕ) → IsFirstAddress view a → IsFirstAddress view b → a ≡ b
one_address view a b x y = by (cases_order x.f y.f) where
  by : (x.f ≡ y.f) ⊎ ((x.f < y.f) ⊎ (y.f < x.f)) → a ≡ b
  by (inl e) =
      let same : x.body ≡ y.body = some_body x.body y.body (sym x.listed ∙ ap (slice_get view.bodies) e ∙ y.listed) in
      let first : FirstFailure view y.body x.n = subst (λ (body : Body). FirstFailure view body x.n) same x.failure in
      let count = one_failure view y.body x.n y.n first y.failure in
      x.address ∙ (λ i. (same i).start + count i) ∙ sym y.address
  by (inr (inl l)) = absurd (x.failure.1 (y.functions x.f x.body l x.listed x.n x.failure.0))
  by (inr (inr l)) = absurd (y.failure.1 (x.functions y.f y.body l y.listed y.n y.failure.0))

pub refusals_are_one : RefusalsAreOne
refusals_are_one image (Head i) (Head j) x y a b = ap Head (one_head image i j x y)
refusals_are_one image (Head i) (Code c) x y a b = absurd (x.fails (y.0 i))
refusals_are_one image (Code c) (Head j) x y a b = absurd (y.fails (x.0 j))
refusals_are_one image (Code c) (Code d) x y a b = ap Code (one_address (view_of image) c d x.1 y.1)
refusals_are_one image NoMemory r x y a b = absurd (a refl)
refusals_are_one image (Head i) NoMemory x y a b = absurd (b refl)
refusals_are_one image (Code c) NoMemory x y a b = absurd (b refl)

pub verified_is_accepted : VerifiedIsAccepted
verified_is_accepted image (Head i) verified x = absurd (x.fails (verified.heads i))
verified_is_accepted image (Code a) verified x = let first = x.1 in absurd (first.failure.1 (verified.code first.f first.body first.listed first.n first.failure.0))
verified_is_accepted image NoMemory verified x = refl
