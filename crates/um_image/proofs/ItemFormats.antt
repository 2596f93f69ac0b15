-- The formats of single items: numbers, letters, the bytes of a name, powers, truth values and fractions.
use Rattle.std.proofs.Common.{◌≡◌, refl, sym, subst, ap, ◌∙◌, ℕ, zero, suc, ◌^◌, ◌<◌, ◌≤◌, inl, inr, ℤ, pos, Bool, true, false, cond, ltb, List, [], ◌∷◌, ◌++◌, length, take, drop, replicate, codes, Option, Some, None, Result, Ok, Err, arith, FitsSigned, Fits, w32, w64, to_z, of_z}
use Rattle.std.specs.Int.{to_be_bytes, from_be_bytes}
use Rattle.std.specs.Str.{bytes_eq}
use Rattle.std.proofs.Math.Facts.{sfits_to_z, of_z-to_z, to_z-of_z, Fits-of_z, Fits-of_lt, Fits-lt-pow}
use Rattle.std.proofs.lemmas.Bool.{cases_lt, ltb-false, le-ltb}
use Rattle.std.proofs.lemmas.List.{take_at, drop_at, take-append-drop, length-append, length-take, length-drop, length-replicate, get_or-take, get_or_past}
use Rattle.std.proofs.lemmas.Slice.Eq.{bytes_eq-Decides}
use Rattle.std.proofs.lemmas.Nat.{be_bytes_4, be_bytes_8, from_be_bytes-to_be_bytes_4, from_be_bytes-to_be_bytes_8}
use Rattle.um_frac.specs.declared.number.Frac.{Frac}
use Rattle.um_frac.specs.Fraction.{numerator, denominator, fraction}
use lib.Signed.{le_z_yes}
use Rattle.um_frac.proofs.Gcd.{gcd-one}
use Rattle.um_frac.proofs.LowestTerms.{fraction-is, fraction-parts, num_wide, den_wide}
use Rattle.um_image.specs.Encoding.{four_bytes, long_bytes}
use Rattle.um_image.specs.Reading.{found_one, fraction_of, number_at, text_at, letters_at, power_at, truth_at, fraction_at, long_of}
use Rattle.um_image.proofs.Formats.{IsBytes, bytes_drop, same_gift, IsItem}

pub bytes_take : (n : ℕ) (bytes : List ℕ) → IsBytes bytes → IsBytes (take n bytes)
bytes_take n bytes h i =
    elim (cases_lt i n) [
      | inl lt ↦ rw (get_or-take n bytes i 0 lt) (h i)
      | inr le ↦ rw (get_or_past (take n bytes) i 0 (omega (arith, length-take n bytes))) (omega arith)
    ]

-- ---- an item of so many bytes

abbrev pub sized_at : {A : Type 0} → ℕ → (List ℕ → Option A) → List ℕ → Result (A × List ℕ) ℕ
sized_at n meaning bytes = cond (ltb (length bytes) n) (Err (length bytes)) (found_one (meaning (take n bytes)) bytes (drop n bytes))

pub record IsSized {A : Type 0} (n : ℕ) (meaning : List ℕ → Option A) (bytes_of : A → List ℕ) (Fits : A → Type 0) : Type 0 where
  pub back : (bytes : List ℕ) (x : A) → IsBytes bytes → length bytes ≡ n → meaning bytes ≡ Some x → Fits x × (bytes_of x ≡ bytes)
  pub len : (x : A) → Fits x → length (bytes_of x) ≡ n
  pub means : (x : A) → Fits x → meaning (bytes_of x) ≡ Some x
  pub one : A
  pub one_fits : Fits one

guard_ok : {A : Type 0} (b : Bool) (l : ℕ) (r : Result A ℕ) (y : A) → cond b (Err l) r ≡ Ok y → (b ≡ false) × (r ≡ Ok y)
guard_ok true l r y e = absurd cc
guard_ok false l r y e = (refl, e)

pub found_ok : {A : Type 0} (o : Option A) (bytes rest : List ℕ) (x : A) (more : List ℕ) → found_one o bytes rest ≡ Ok (x, more) → (o ≡ Some x) × (rest ≡ more)
found_ok None bytes rest x more e = absurd cc
found_ok (Some y) bytes rest x more e = let s = same_gift y x rest more e in (ap (λ z. Some z) s.0, s.1)

guard_failed : {A : Type 0} (b : Bool) (o : Option A) (bytes rest : List ℕ) (left : ℕ) → cond b (Err (length bytes)) (found_one o bytes rest) ≡ Err left → left ≡ length bytes
guard_failed true o bytes rest left e = cc
guard_failed false None bytes rest left e = cc
guard_failed false (Some x) bytes rest left e = absurd cc

module _ {A : Type 0} (n : ℕ) (meaning : List ℕ → Option A) (bytes_of : A → List ℕ) (Fits : A → Type 0) (h : IsSized n meaning bytes_of Fits) where
  sized_taken : (bytes : List ℕ) (x : A) (rest : List ℕ) → IsBytes bytes → sized_at n meaning bytes ≡ Ok (x, rest) → Fits x × (bytes ≡ bytes_of x ++ rest)
  sized_taken bytes x rest b e =
      let g = guard_ok (ltb (length bytes) n) (length bytes) (found_one (meaning (take n bytes)) bytes (drop n bytes)) (x, rest) e in
      let long : n ≤ length bytes = ltb-false (length bytes) n g.0 in
      let o = found_ok (meaning (take n bytes)) bytes (drop n bytes) x rest g.1 in
      let len : length (take n bytes) ≡ n = omega (arith, length-take n bytes) in
      let k = h.back (take n bytes) x (bytes_take n bytes b) len o.0 in
      (k.0, sym (take-append-drop n bytes) ∙ (λ i. (sym k.1) i ++ o.1 i))

  sized_given : (x : A) (rest : List ℕ) → Fits x → sized_at n meaning (bytes_of x ++ rest) ≡ Ok (x, rest)
  sized_given x rest f =
      let len = h.len x f in
      let long : ltb (length (bytes_of x ++ rest)) n ≡ false = le-ltb _ _ (omega (arith, length-append (bytes_of x) rest)) in
      rw (long, take_at (bytes_of x) rest n len, drop_at (bytes_of x) rest n len, h.means x f) refl

  pub sized_item : IsItem (sized_at n meaning) bytes_of Fits
  sized_item = record {
    taken = sized_taken;
    given = sized_given;
    refused = λ bytes left e. guard_failed (ltb (length bytes) n) (meaning (take n bytes)) bytes (drop n bytes) left e;
    one = h.one;
    one_fits = h.one_fits;
  }

pub some_is : {A : Type 0} (x y : A) → Some x ≡ Some y → x ≡ y
some_is x y e = cc

-- ---- numbers of four bytes

abbrev number_of : List ℕ → Option ℕ
number_of bytes = Some (from_be_bytes w32 bytes)

four_below : (bytes : List ℕ) → IsBytes bytes → from_be_bytes w32 bytes < 2 ^ 32
four_below bytes b = omega (arith, b 0, b 1, b 2, b 3)

number_sized : IsSized 4 number_of four_bytes (λ n. n < 2 ^ 32)
number_sized = record {
  back = λ bytes n b len e. let is : from_be_bytes w32 bytes ≡ n = some_is (from_be_bytes w32 bytes) n e in
      (subst (λ (k : ℕ). k < 2 ^ 32) is (four_below bytes b), ap (λ (k : ℕ). to_be_bytes w32 k) (sym is) ∙ be_bytes_4 bytes (from_be_bytes w32 bytes) len b refl);
  len = λ n f. refl;
  means = λ n f. ap (λ (k : ℕ). Some k) (from_be_bytes-to_be_bytes_4 n f);
  one = 0;
  one_fits = omega arith;
}

pub number_item : IsItem number_at four_bytes (λ n. n < 2 ^ 32)
unfolding number_at
number_item = sized_item 4 number_of four_bytes (λ n. n < 2 ^ 32) number_sized

-- ---- powers

abbrev power_of : List ℕ → Option ℤ
power_of bytes = Some (to_z w32 (from_be_bytes w32 bytes))

abbrev pub power_bytes : ℤ → List ℕ
power_bytes k = to_be_bytes w32 (of_z w32 k)

power_sized : IsSized 4 power_of power_bytes (λ k. FitsSigned w32 k)
power_sized = record {
  back = λ bytes k b len e. let is : to_z w32 (from_be_bytes w32 bytes) ≡ k = some_is (to_z w32 (from_be_bytes w32 bytes)) k e in
      let below : from_be_bytes w32 bytes < 2 ^ 32 = four_below bytes b in
      let fits : Fits w32 (from_be_bytes w32 bytes) = Fits-of_lt below in
      (subst (λ (z : ℤ). FitsSigned w32 z) is (sfits_to_z {n = from_be_bytes w32 bytes} fits), ap (λ (z : ℤ). power_bytes z) (sym is) ∙ ap (λ (m : ℕ). to_be_bytes w32 m) (of_z-to_z {w = w32} {n = from_be_bytes w32 bytes} fits) ∙ be_bytes_4 bytes (from_be_bytes w32 bytes) len b refl);
  len = λ k f. refl;
  means = λ k f. ap (λ (m : ℕ). Some (to_z w32 m)) (from_be_bytes-to_be_bytes_4 (of_z w32 k) (Fits-lt-pow (Fits-of_z f))) ∙ ap (λ (z : ℤ). Some z) (to_z-of_z f);
  one = to_z w32 0;
  one_fits = sfits_to_z {n = 0} (Fits-of_lt (omega arith));
}

pub power_item : IsItem power_at power_bytes (λ k. FitsSigned w32 k)
unfolding power_at
power_item = sized_item 4 power_of power_bytes (λ k. FitsSigned w32 k) power_sized

-- ---- the letters, and the bytes of a name

abbrev letters_of : List ℕ → Option (List ℕ)
letters_of bytes = cond (bytes_eq bytes (codes "UMI1")) (Some bytes) None

abbrev pub own_bytes : List ℕ → List ℕ
own_bytes bytes = bytes

abbrev pub AreLetters : List ℕ → Type 0
AreLetters bytes = bytes ≡ codes "UMI1"

letters_back : (b : Bool) (bytes x : List ℕ) → (b ≡ true → bytes ≡ codes "UMI1") → cond b (Some bytes) None ≡ Some x → AreLetters x × (x ≡ bytes)
letters_back true bytes x h e = let same : bytes ≡ x = some_is bytes x e in (sym same ∙ h refl, sym same)
letters_back false bytes x h e = absurd cc

letters_sized : IsSized 4 letters_of own_bytes AreLetters
letters_sized = record {
  back = λ bytes x b len e. letters_back (bytes_eq bytes (codes "UMI1")) bytes x (bytes_eq-Decides bytes (codes "UMI1")).0 e;
  len = λ x f. ap (λ (t : List ℕ). length t) f;
  means = λ x f. ap (λ (b : Bool). cond b (Some x) None) ((bytes_eq-Decides x (codes "UMI1")).1 f);
  one = codes "UMI1";
  one_fits = refl;
}

item_same : {A : Type 0} (r q : List ℕ → Result (A × List ℕ) ℕ) (bytes_of : A → List ℕ) (Fits : A → Type 0) → ((bytes : List ℕ) → r bytes ≡ q bytes) → IsItem r bytes_of Fits → IsItem q bytes_of Fits
item_same {A} r q bytes_of Fits e h = subst (λ (s : List ℕ → Result (A × List ℕ) ℕ). IsItem s bytes_of Fits) (λ i bytes. e bytes i) h

chosen : (b : Bool) (front bytes rest : List ℕ) → found_one (cond b (Some front) None) bytes rest ≡ cond b (Ok (front, rest)) (Err (length bytes))
chosen true front bytes rest = refl
chosen false front bytes rest = refl

pub letters_item : IsItem letters_at own_bytes AreLetters
unfolding letters_at
letters_item = item_same (sized_at 4 letters_of) letters_at own_bytes AreLetters (λ bytes. ap (λ (r : Result (List ℕ × List ℕ) ℕ). cond (ltb (length bytes) 4) (Err (length bytes)) r) (chosen (bytes_eq (take 4 bytes) (codes "UMI1")) (take 4 bytes) bytes (drop 4 bytes))) (sized_item 4 letters_of own_bytes AreLetters letters_sized)

abbrev text_of : List ℕ → Option (List ℕ)
text_of bytes = Some bytes

abbrev pub HasLength : ℕ → List ℕ → Type 0
HasLength n text = length text ≡ n

text_sized : (n : ℕ) → IsSized n text_of own_bytes (HasLength n)
text_sized n = record {
  back = λ bytes x b len e. let same : bytes ≡ x = some_is bytes x e in (subst (HasLength n) same len, sym same);
  len = λ x f. f;
  means = λ x f. refl;
  one = replicate n 0;
  one_fits = length-replicate n 0;
}

pub text_item : (n : ℕ) → IsItem (text_at n) own_bytes (HasLength n)
unfolding text_at
text_item n = sized_item n text_of own_bytes (HasLength n) (text_sized n)

-- ---- truth values

abbrev pub truth_bytes : Bool → List ℕ
truth_bytes b = cond b 1 0 ∷ []

abbrev pub IsAny : {A : Type 0} → A → Type 0
IsAny x = Unit {0}

truth_taken : (bytes : List ℕ) (b : Bool) (rest : List ℕ) → truth_at bytes ≡ Ok (b, rest) → bytes ≡ truth_bytes b ++ rest
unfolding truth_at
truth_taken [] b rest e = absurd cc
truth_taken (zero ∷ r) b rest e = let s = same_gift false b r rest e in λ i. cond (s.0 i) 1 0 ∷ s.1 i
truth_taken (suc zero ∷ r) b rest e = let s = same_gift true b r rest e in λ i. cond (s.0 i) 1 0 ∷ s.1 i
truth_taken (suc (suc c) ∷ r) b rest e = absurd cc

truth_given : (b : Bool) (rest : List ℕ) → truth_at (truth_bytes b ++ rest) ≡ Ok (b, rest)
unfolding truth_at
truth_given true rest = refl
truth_given false rest = refl

truth_refused : (bytes : List ℕ) (left : ℕ) → truth_at bytes ≡ Err left → left ≡ length bytes
unfolding truth_at
truth_refused [] left e = cc
truth_refused (zero ∷ r) left e = absurd cc
truth_refused (suc zero ∷ r) left e = absurd cc
truth_refused (suc (suc c) ∷ r) left e = cc

pub truth_item : IsItem truth_at truth_bytes IsAny
truth_item = record {
  taken = λ bytes b rest f e. (tt, truth_taken bytes b rest e);
  given = λ b rest f. truth_given b rest;
  refused = truth_refused;
  one = false;
  one_fits = tt;
}

-- ---- fractions

long_back : (bytes : List ℕ) → IsBytes bytes → length bytes ≡ 8 → long_bytes (long_of bytes) ≡ bytes
long_back bytes b len =
    let below : from_be_bytes w64 bytes < 2 ^ 64 = omega (arith, b 0, b 1, b 2, b 3, b 4, b 5, b 6, b 7) in
    ap (λ (m : ℕ). to_be_bytes w64 m) (of_z-to_z {w = w64} {n = from_be_bytes w64 bytes} (Fits-of_lt below)) ∙ be_bytes_8 bytes (from_be_bytes w64 bytes) len b refl

long_again : (z : ℤ) → FitsSigned w64 z → long_of (long_bytes z) ≡ z
long_again z f = ap (λ (m : ℕ). to_z w64 m) (from_be_bytes-to_be_bytes_8 (of_z w64 z) (Fits-lt-pow (Fits-of_z f))) ∙ to_z-of_z f

abbrev pub fraction_bytes : Frac → List ℕ
fraction_bytes c = long_bytes (numerator c) ++ long_bytes (denominator c)

zero_fraction : Frac
zero_fraction = record {
  num = pos 0;
  den = pos 1;
  positive = le_z_yes tt;
  den_fits = le_z_yes tt;
  above = le_z_yes tt;
  num_fits = le_z_yes tt;
  lowest = gcd-one 0;
}

fraction_back : (bytes : List ℕ) (c : Frac) → IsBytes bytes → length bytes ≡ 16 → fraction_of bytes ≡ Some c → fraction_bytes c ≡ bytes
fraction_back bytes c b len e =
    let parts = fraction-parts (long_of (take 8 bytes)) (long_of (drop 8 bytes)) c e in
    let num_len : length (take 8 bytes) ≡ 8 = omega (arith, length-take 8 bytes) in
    let den_len : length (drop 8 bytes) ≡ 8 = omega (arith, length-drop 8 bytes) in
    let num = ap (λ (z : ℤ). long_bytes z) parts.0 ∙ long_back (take 8 bytes) (bytes_take 8 bytes b) num_len in
    let den = ap (λ (z : ℤ). long_bytes z) parts.1 ∙ long_back (drop 8 bytes) (bytes_drop 8 bytes b) den_len in
    (λ i. num i ++ den i) ∙ take-append-drop 8 bytes

fraction_means : (c : Frac) → fraction_of (fraction_bytes c) ≡ Some c
fraction_means c =
    let num = ap (λ (t : List ℕ). long_of t) (take_at (long_bytes (numerator c)) (long_bytes (denominator c)) 8 refl) ∙ long_again (numerator c) (num_wide c) in
    let den = ap (λ (t : List ℕ). long_of t) (drop_at (long_bytes (numerator c)) (long_bytes (denominator c)) 8 refl) ∙ long_again (denominator c) (den_wide c) in
    (λ i. fraction (num i) (den i)) ∙ fraction-is c

fraction_sized : IsSized 16 fraction_of fraction_bytes IsAny
fraction_sized = record {
  back = λ bytes c b len e. (tt, fraction_back bytes c b len e);
  len = λ c f. refl;
  means = λ c f. fraction_means c;
  one = zero_fraction;
  one_fits = tt;
}

pub fraction_item : IsItem fraction_at fraction_bytes IsAny
unfolding fraction_at
fraction_item = sized_item 16 fraction_of fraction_bytes IsAny fraction_sized
