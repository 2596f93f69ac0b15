-- The sizes that a word states of base units are one, and each is above 0.
use Rattle.std.proofs.Common.{◌≡◌, ◌⊎◌, inl, inr, ℕ, zero, suc, ◌<◌, Bool, true, false, T, cond, not, ◌&&◌, ◌||◌, List, [], ◌∷◌, length, Option, Some, None, Result, Ok, Err, refl, sym, ap, subst, ◌∙◌, arith}
use Rattle.std.specs.Prelude.{◌≤ℤ◌, get_or, int_le, pos, slice_get}
use Rattle.std.specs.Option.{option_and_then, option_map}
use Rattle.std.specs.Int.Signed.{≤ℤ_refl}
use Rattle.std.specs.Str.{bytes_eq}
use Rattle.std.proofs.lemmas.Option.{slice_get-get_or}
use Rattle.std.proofs.lemmas.Slice.Eq.{bytes_eq-Decides}
use lib.Signed.{le_z_yes}
use Rattle.um_frac.specs.declared.number.Frac.{Frac}
use Rattle.um_frac.specs.Fraction.{numerator}
use Rattle.um_frac.proofs.FractionLaws.{equal_parts}
use Rattle.um_measures.specs.Known.{is_among}
use Rattle.um_scale.specs.Sizes.{AreSizes}
use Rattle.um_sizes.specs.declared.read.ScalesRefusal.{ScalesRefusal}
use Rattle.um_sizes.specs.declared.read.ScalesRefusal.TheVariants.{NoBaseUnit, NoMemory}
use Rattle.um_sizes.specs.Parts.{cut, parts_of}
use Rattle.um_sizes.specs.NameTexts.{is_name}
use Rattle.um_sizes.specs.NumberTexts.{number_in, positive}
use Rattle.um_sizes.specs.ScaleWords.{round_equal, size_in, sizes_in, are_once, names_of, scales_in}
use Rattle.um_sizes.specs.BaseSizes.{IsSizeOf, AreSizesOf, AreScalesOf, AreScalesRead}

-- ---- each name has one number

both : (a b : Bool) → (a && b) ≡ true → (a ≡ true) × (b ≡ true)
both true b e = (refl, e)
both false b e = absurd cc

named_among : (sizes : List (List ℕ × Frac)) (i : ℕ) (x : List ℕ) (c : Frac) → slice_get sizes i ≡ Some (x, c) → is_among (names_of sizes) x ≡ true
named_among [] i x c e = absurd (cc e)
named_among (s ∷ sizes) zero x c e =
    let pair : s ≡ (x, c) = cc e in
    ap (λ b. b || is_among (names_of sizes) x) ((bytes_eq-Decides x s.0).1 (sym (ap (λ (p : List ℕ × Frac). p.0) pair)))
named_among (s ∷ sizes) (suc i) x c e = ap (λ b. bytes_eq x s.0 || b) (named_among sizes i x c e) ∙ or_true (bytes_eq x s.0) where
  or_true : (b : Bool) → (b || true) ≡ true
  or_true true = refl
  or_true false = refl

-- a name that stands once isn't among those behind it
not_behind : (b : Bool) → not b ≡ true → b ≡ true → ⊥
not_behind true e h = cc e
not_behind false e h = cc h

one_number : (sizes : List (List ℕ × Frac)) (i j : ℕ) (x : List ℕ) (c d : Frac) → are_once (names_of sizes) ≡ true → slice_get sizes i ≡ Some (x, c) → slice_get sizes j ≡ Some (x, d) → c ≡ d
one_number [] i j x c d once a b = absurd (cc a)
one_number (s ∷ sizes) zero zero x c d once a b =
    let e : Some (x, c) ≡ Some (x, d) = sym a ∙ b in let pair : ◌≡◌ {A = List ℕ × Frac} (x, c) (x, d) = cc e in ap (λ (p : List ℕ × Frac). p.1) pair
one_number (s ∷ sizes) zero (suc j) x c d once a b =
    let h = both (not (is_among (names_of sizes) s.0)) (are_once (names_of sizes)) once in
    let pair : s ≡ (x, c) = cc a in let name : s.0 ≡ x = ap (λ (p : List ℕ × Frac). p.0) pair in
    absurd (not_behind (is_among (names_of sizes) s.0) h.0 (ap (is_among (names_of sizes)) name ∙ named_among sizes j x d b))
one_number (s ∷ sizes) (suc i) zero x c d once a b =
    let h = both (not (is_among (names_of sizes) s.0)) (are_once (names_of sizes)) once in
    let pair : s ≡ (x, d) = cc b in let name : s.0 ≡ x = ap (λ (p : List ℕ × Frac). p.0) pair in
    absurd (not_behind (is_among (names_of sizes) s.0) h.0 (ap (is_among (names_of sizes)) name ∙ named_among sizes i x c a))
one_number (s ∷ sizes) (suc i) (suc j) x c d once a b =
    one_number sizes i j x c d (both (not (is_among (names_of sizes) s.0)) (are_once (names_of sizes)) once).1 a b

one_size : (sizes : List (List ℕ × Frac)) (x : List ℕ) (c d : Frac) → are_once (names_of sizes) ≡ true → IsSizeOf sizes x c → IsSizeOf sizes x d → c ≡ d
one_size sizes x c d once (inl a) (inl b) = one_number sizes a.0 b.0 x c d once a.1 b.1
one_size sizes x c d once (inl a) (inr b) = let e : true ≡ false = sym (named_among sizes a.0 x c a.1) ∙ b.0 in absurd (cc e)
one_size sizes x c d once (inr a) (inl b) = let e : true ≡ false = sym (named_among sizes b.0 x d b.1) ∙ a.0 in absurd (cc e)
one_size sizes x c d once (inr a) (inr b) = equal_parts c d (a.1.0 ∙ sym b.1.0) (a.1.1 ∙ sym b.1.1)

-- ---- so the sizes of base units are one

same_list : (bases : List (List ℕ)) (cs ds : List Frac) → length cs ≡ length bases → length ds ≡ length bases
    → ((k : ℕ) (x : List ℕ) (c d : Frac) → slice_get bases k ≡ Some x → slice_get cs k ≡ Some c → slice_get ds k ≡ Some d → c ≡ d) → cs ≡ ds
same_list [] [] [] m n h = refl
same_list [] [] (d ∷ ds) m n h = absurd (omega (arith, n))
same_list [] (c ∷ cs) ds m n h = absurd (omega (arith, m))
same_list (x ∷ bases) [] ds m n h = absurd (omega (arith, m))
same_list (x ∷ bases) (c ∷ cs) [] m n h = absurd (omega (arith, n))
same_list (x ∷ bases) (c ∷ cs) (d ∷ ds) m n h =
    let first = h zero x c d refl refl refl in
    let rest = same_list bases cs ds (omega (arith, m)) (omega (arith, n)) (λ k y a b there given found. h (suc k) y a b there given found) in
    (λ i. first i ∷ rest i)

-- what is known of the sizes of a word
record Read (word : List ℕ) (sizes : List (List ℕ × Frac)) : Type 0 where
  parts : sizes_in (parts_of word) ≡ Some sizes
  once : are_once (names_of sizes) ≡ true

read_in : (word : List ℕ) (sizes : List (List ℕ × Frac)) → scales_in word ≡ Some sizes → Read word sizes
unfolding scales_in
read_in word sizes e = by (sizes_in (parts_of word)) refl e where
  tested : (ss : List (List ℕ × Frac)) (b : Bool) → sizes_in (parts_of word) ≡ Some ss → are_once (names_of ss) ≡ b → cond b (Some ss) None ≡ Some sizes → Read word sizes
  tested ss true s t h = let same : ss ≡ sizes = cc h in record { parts = s ∙ ap Some same; once = ap (λ xs. are_once (names_of xs)) (sym same) ∙ t }
  tested ss false s t h = absurd (cc h)

  by : (o : Option (List (List ℕ × Frac))) → sizes_in (parts_of word) ≡ o → option_and_then (λ ss. cond (are_once (names_of ss)) (Some ss) None) o ≡ Some sizes → Read word sizes
  by None s h = absurd (cc h)
  by (Some ss) s h = tested ss (are_once (names_of ss)) s refl h

one_scales : (bases : List (List ℕ)) (word : List ℕ) (sizes : List (List ℕ × Frac)) (cs ds : List Frac) → scales_in word ≡ Some sizes → AreSizesOf bases sizes cs → AreSizesOf bases sizes ds → cs ≡ ds
one_scales bases word sizes cs ds stated a b =
    let read = read_in word sizes stated in
    same_list bases cs ds a.many b.many (λ k x c d there given found. one_size sizes x c d read.once (a.each k x c there given) (b.each k x d there found))

pub scales_are_unique : (bases : List (List ℕ)) (word : List ℕ) (r q : Result (List Frac) ScalesRefusal) → AreScalesRead bases word r → AreScalesRead bases word q → (r ≡ q) ⊎ ((r ≡ Err NoMemory) ⊎ (q ≡ Err NoMemory))
scales_are_unique bases word r q a b =
    let e : Some a.sizes ≡ Some b.sizes = sym a.stated ∙ b.stated in let same : a.sizes ≡ b.sizes = cc e in
    by r q (subst (λ ss. AreScalesOf bases ss r) same a.read) b.read
  where
    by : (r q : Result (List Frac) ScalesRefusal) → AreScalesOf bases b.sizes r → AreScalesOf bases b.sizes q → (r ≡ q) ⊎ ((r ≡ Err NoMemory) ⊎ (q ≡ Err NoMemory))
    by (Ok cs) (Ok ds) x y = inl (ap Ok (one_scales bases word b.sizes cs ds b.stated x.1 y.1))
    by (Ok cs) (Err NoBaseUnit) x y = let no : true ≡ false = sym x.0 ∙ y in absurd (cc no)
    by (Err NoBaseUnit) (Ok ds) x y = let no : true ≡ false = sym y.0 ∙ x in absurd (cc no)
    by (Err NoBaseUnit) (Err NoBaseUnit) x y = inl refl
    by (Err NoMemory) q x y = inr (inl refl)
    by r (Err NoMemory) x y = inr (inr refl)

-- ---- and each is above 0

positive_size : (part : List ℕ) (s : List ℕ × Frac) → size_in part ≡ Some s → pos 1 ≤ℤ numerator s.1
positive_size part s e = by (cut 61 part) e where
  tested : (name : List ℕ) (c : Frac) (t : Bool) → int_le (pos 1) (numerator c) ≡ t → option_map (λ (d : Frac). (name, d)) (cond t (Some c) None) ≡ Some s → pos 1 ≤ℤ numerator s.1
  tested name c true so h =
      let same : ◌≡◌ {A = List ℕ × Frac} (name, c) s = cc h in
      subst (λ (p : List ℕ × Frac). pos 1 ≤ℤ numerator p.1) same (le_z_yes (subst T (sym so) tt))
  tested name c false so h = absurd (cc h)

  named : (name : List ℕ) (t : Bool) (o : Option Frac) → cond t (option_map (λ (d : Frac). (name, d)) (option_and_then positive o)) None ≡ Some s → pos 1 ≤ℤ numerator s.1
  named name true None h = absurd (cc h)
  named name true (Some c) h = tested name c (int_le (pos 1) (numerator c)) refl h
  named name false o h = absurd (cc h)

  by : (o : Option (List ℕ × List ℕ)) → round_equal o ≡ Some s → pos 1 ≤ℤ numerator s.1
  by None h = absurd (cc h)
  by (Some sides) h = named sides.0 (is_name sides.0) (number_in sides.1) h

-- each size of the parts is above 0
abbrev AreAbove : List (List ℕ) → List ℕ × Frac → Type 0
AreAbove parts s = (ss : List (List ℕ × Frac)) (k : ℕ) → sizes_in parts ≡ Some ss → slice_get ss k ≡ Some s → pos 1 ≤ℤ numerator s.1

positive_at : (parts : List (List ℕ)) (sizes : List (List ℕ × Frac)) (i : ℕ) (s : List ℕ × Frac) → sizes_in parts ≡ Some sizes → slice_get sizes i ≡ Some s → pos 1 ≤ℤ numerator s.1
positive_at [] sizes i s e at =
    let none : [] ≡ sizes = cc e in let no : None ≡ Some s = subst (λ ss. slice_get ss i ≡ Some s) (sym none) at in absurd (cc no)
positive_at (part ∷ parts) sizes i s e at = by (size_in part) refl (sizes_in parts) refl e (λ ss k more there. positive_at parts ss k s more there) where
  item : (t : List ℕ × Frac) (ss : List (List ℕ × Frac)) (k : ℕ) → size_in part ≡ Some t → sizes_in parts ≡ Some ss → slice_get (t ∷ ss) k ≡ Some s → AreAbove parts s → pos 1 ≤ℤ numerator s.1
  item t ss zero is more there behind = let same : t ≡ s = cc there in subst (λ (p : List ℕ × Frac). pos 1 ≤ℤ numerator p.1) same (positive_size part t is)
  item t ss (suc k) is more there behind = behind ss k more there

  by : (o : Option (List ℕ × Frac)) → size_in part ≡ o → (q : Option (List (List ℕ × Frac))) → sizes_in parts ≡ q
      → option_and_then (λ (t : List ℕ × Frac). option_map (λ (ss : List (List ℕ × Frac)). t ∷ ss) q) o ≡ Some sizes → AreAbove parts s → pos 1 ≤ℤ numerator s.1
  by None is q more h behind = absurd (cc h)
  by (Some t) is None more h behind = absurd (cc h)
  by (Some t) is (Some ss) more h behind =
      let whole : t ∷ ss ≡ sizes = cc h in
      item t ss i is more (subst (λ xs. slice_get xs i ≡ Some s) (sym whole) at) behind

pub scales_are_positive : (bases : List (List ℕ)) (word : List ℕ) (cs : List Frac) → AreScalesRead bases word (Ok cs) → AreSizes cs
scales_are_positive bases word cs a = λ k d below.
    let within : k < length bases = omega (arith, below, a.read.1.many) in
    by (get_or bases k []) (get_or cs k d) (a.read.1.each k (get_or bases k []) (get_or cs k d) (slice_get-get_or bases k [] within) (slice_get-get_or cs k d below))
  where
    by : (x : List ℕ) (c : Frac) → IsSizeOf a.sizes x c → pos 1 ≤ℤ numerator c
    by x c (inl h) = positive_at (parts_of word) a.sizes h.0 (x, c) (read_in word a.sizes a.stated).parts h.1
    by x c (inr h) = subst (λ z. pos 1 ≤ℤ z) (sym h.1.0) (≤ℤ_refl (pos 1))
