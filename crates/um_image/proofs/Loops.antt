-- Reading things one after the other, as a loop does.
use Rattle.std.proofs.Common.{◌≡◌, refl, sym, ap, ◌∙◌, ℕ, suc, ◌+◌, ◌-◌, ◌<◌, ◌≤◌, List, [], ◌∷◌, ◌++◌, Result, Ok, Err, arith, append_assoc}
use Rattle.std.proofs.lemmas.List.{append-nil}
use Rattle.um_image.specs.declared.stop.ReadStop.{ReadStop}
use Rattle.um_image.specs.declared.stop.ReadStop.TheVariants as stop
use Rattle.um_image.specs.Reading.{◌>>=◌, Fails, number_at, many_at, with_front}
use Rattle.um_image.proofs.Formats.{gave, same_gift, bind_done, bind_failed}

module _ {A : Type 0} (read : List ℕ → Result (A × List ℕ) ℕ) where
  -- what is still read behind these comes to this
  abbrev pub Rest : List A → ℕ → List ℕ → Result (List A × List ℕ) ℕ → Type 0
  Rest front count bytes total = with_front front (many_at read count bytes) ≡ total

  regroup : (front : List A) (x : A) (r : Result (List A × List ℕ) ℕ) → with_front front (r >>= λ xs. Ok (x ∷ xs.0, xs.1)) ≡ with_front (front ++ x ∷ []) r
  regroup front x (Ok xs) = ap (λ (ys : List A). Ok (ys, xs.1)) (sym (append_assoc front (x ∷ []) xs.0))
  regroup front x (Err l) = refl

  more : (count i : ℕ) → i < count → count - i ≡ suc (count - (i + 1))
  more count i lt = omega arith

  pub goes_on : (front : List A) (count i : ℕ) (bytes : List ℕ) (x : A) (after : List ℕ) (total : Result (List A × List ℕ) ℕ) → i < count → read bytes ≡ Ok (x, after) → Rest front (count - i) bytes total → Rest (front ++ x ∷ []) (count - (i + 1)) after total
  goes_on front count i bytes x after total lt h so_far =
      let n = count - (i + 1) in
      let first : many_at read (count - i) bytes ≡ (many_at read n after >>= λ xs. Ok (x ∷ xs.0, xs.1)) = ap (λ (k : ℕ). many_at read k bytes) (more count i lt) ∙ ap (λ (r : Result (A × List ℕ) ℕ). r >>= λ y. many_at read n y.1 >>= λ xs. Ok (y.0 ∷ xs.0, xs.1)) h in
      sym (regroup front x (many_at read n after)) ∙ ap (λ (r : Result (List A × List ℕ) ℕ). with_front front r) (sym first) ∙ so_far

  pub ends : (e : ReadStop) (front : List A) (count i : ℕ) (bytes : List ℕ) (total : Result (List A × List ℕ) ℕ) → i < count → Fails e (read bytes) → Rest front (count - i) bytes total → Fails e total
  ends stop.NoMemory front count i bytes total lt h so_far = tt
  ends (stop.Bad left) front count i bytes total lt h so_far =
      let n = count - (i + 1) in
      let first : many_at read (count - i) bytes ≡ Err left = ap (λ (k : ℕ). many_at read k bytes) (more count i lt) ∙ ap (λ (r : Result (A × List ℕ) ℕ). r >>= λ y. many_at read n y.1 >>= λ xs. Ok (y.0 ∷ xs.0, xs.1)) h in
      sym so_far ∙ ap (λ (r : Result (List A × List ℕ) ℕ). with_front front r) first

  pub is_done : (front : List A) (count i : ℕ) (bytes : List ℕ) (total : Result (List A × List ℕ) ℕ) → count ≤ i → Rest front (count - i) bytes total → total ≡ Ok (front, bytes)
  is_done front count i bytes total le so_far =
      let none : count - i ≡ 0 = omega arith in
      let last : many_at read (count - i) bytes ≡ Ok ([], bytes) = ap (λ (k : ℕ). many_at read k bytes) none in
      sym so_far ∙ ap (λ (r : Result (List A × List ℕ) ℕ). with_front front r) last ∙ ap (λ (ys : List A). Ok (ys, bytes)) (append-nil front)

pub front_of_none : {A : Type 0} (r : Result (List A × List ℕ) ℕ) → with_front [] r ≡ r
front_of_none (Ok xs) = refl
front_of_none (Err l) = refl

pub front_ok : {A : Type 0} (front : List A) (r : Result (List A × List ℕ) ℕ) (ys : List A) (rest : List ℕ) → with_front front r ≡ Ok (ys, rest) → (xs : List A) × (r ≡ Ok (xs, rest)) × (ys ≡ front ++ xs)
front_ok front (Ok xs) ys rest e = let s = same_gift (front ++ xs.0) ys xs.1 rest e in (xs.0, (λ i. gave xs.0 (s.1 i)), sym s.0)
front_ok front (Err l) ys rest e = absurd cc

pub front_fails : {A : Type 0} (front : List A) (r : Result (List A × List ℕ) ℕ) (e : ReadStop) → Fails e (with_front front r) → Fails e r
front_fails front r stop.NoMemory h = tt
front_fails front (Ok xs) (stop.Bad left) h = absurd cc
front_fails front (Err l) (stop.Bad left) h = cc

-- what fails first, fails
pub first_fails : {A B : Type 0} (r : Result A ℕ) (f : A → Result B ℕ) (e : ReadStop) → Fails e r → Fails e (r >>= f)
first_fails r f stop.NoMemory h = tt
first_fails r f (stop.Bad left) h = bind_failed r f left h

pub fails_same : {A : Type 0} (r q : Result A ℕ) (e : ReadStop) → r ≡ q → Fails e q → Fails e r
fails_same r q stop.NoMemory e h = tt
fails_same r q (stop.Bad left) e h = e ∙ h

module _ {A : Type 0} (read : List ℕ → Result (A × List ℕ) ℕ) (bytes : List ℕ) (n : ℕ) (behind : List ℕ) (count : number_at bytes ≡ Ok (n, behind)) (front : List A) (none : front ≡ []) where
  abbrev counted : Result (List A × List ℕ) ℕ
  counted = number_at bytes >>= λ m. many_at read m.0 m.1

  counted_is : counted ≡ with_front front (many_at read n behind)
  counted_is = bind_done (number_at bytes) (λ m. many_at read m.0 m.1) (n, behind) count ∙ sym (front_of_none (many_at read n behind)) ∙ ap (λ (xs : List A). with_front xs (many_at read n behind)) (sym none)

  pub counted_done : (p : List A × List ℕ) → with_front front (many_at read n behind) ≡ Ok p → counted ≡ Ok p
  counted_done p e = counted_is ∙ e

  pub counted_fails : (e : ReadStop) → Fails e (with_front front (many_at read n behind)) → Fails e counted
  counted_fails e h = fails_same counted (with_front front (many_at read n behind)) e counted_is h
