-- Texts that are cut where a mark first stands, and numbers up to a mark.
use Rattle.std.proofs.Common.{◌≡◌, ◌≢◌, ℕ, suc, ◌^◌, ◌<◌, true, false, List, [], ◌∷◌, ◌++◌, map, codes, ℤ, pos, negsuc, refl, sym, ap, ◌∙◌, subst, arith}
use Rattle.std.specs.Char.{is_ascii_digit}
use Rattle.std.specs.Fmt.{decimal, signed_decimal}
use Rattle.std.specs.Int.Signed.{mag}
use Rattle.std.specs.List.{flat_map, join_by}
use Rattle.std.proofs.lemmas.Fmt.{decimal_injective, signed_decimal_injective}
use Rattle.std.proofs.lemmas.List.{append-nil}
use Rattle.um_syntax.specs.Numeral.{AreDigits, IsDigits}
use Rattle.um_show.proofs.Numbers.{decimal_digits}

-- no character of the text is the mark
abbrev pub Lacks : ℕ → List ℕ → Type 0
Lacks m [] = Unit {0}
Lacks m (c ∷ cs) = (c ≢ m) × Lacks m cs

-- the text is empty, or the mark comes first
abbrev pub Begins : ℕ → List ℕ → Type 0
Begins m [] = Unit {0}
Begins m (c ∷ cs) = c ≡ m

pub cut : (m : ℕ) (a b r s : List ℕ) → Lacks m a → Lacks m b → Begins m r → Begins m s → a ++ r ≡ b ++ s → (a ≡ b) × (r ≡ s)
cut m [] [] r s la lb br bs e = (refl, e)
cut m [] (c ∷ b) r s la lb br bs e = absurd (lb.0 (subst (Begins m) e br))
cut m (c ∷ a) [] r s la lb br bs e = absurd (la.0 (subst (Begins m) (sym e) bs))
cut m (c ∷ a) (d ∷ b) r s la lb br bs e =
    let whole : c ∷ (a ++ r) ≡ d ∷ (b ++ s) = e in
    let first : c ≡ d = cc whole in
    let more : a ++ r ≡ b ++ s = cc whole in
    let rest = cut m a b r s la.1 lb.1 br bs more in
    let others = rest.0 in
    ((λ i. first i ∷ others i), rest.1)

pub lacks-append : (m : ℕ) (a b : List ℕ) → Lacks m a → Lacks m b → Lacks m (a ++ b)
lacks-append m [] b la lb = lb
lacks-append m (c ∷ a) b la lb = (la.0, lacks-append m a b la.1 lb)

-- ---- numbers

lacks_digits : (m : ℕ) → is_ascii_digit m ≡ false → (ds : List ℕ) → AreDigits ds → Lacks m ds
lacks_digits m other [] h = tt
lacks_digits m other (d ∷ ds) h = ((λ e. let t : true ≡ false = sym h.0 ∙ ap is_ascii_digit e ∙ other in cc t), lacks_digits m other ds h.1)

pub digits_of : (ds : List ℕ) → IsDigits ds → AreDigits ds
digits_of [] h = absurd h
digits_of (d ∷ ds) h = h

pub lacks_decimal : (m n : ℕ) → is_ascii_digit m ≡ false → n < 2 ^ 64 → Lacks m (decimal n)
lacks_decimal m n other small = lacks_digits m other (decimal n) (digits_of (decimal n) (decimal_digits n small))

pub lacks_signed : (m : ℕ) (z : ℤ) → is_ascii_digit m ≡ false → 45 ≢ m → mag z < 2 ^ 63 → Lacks m (signed_decimal z)
lacks_signed m (pos n) other minus small = lacks_decimal m n other (omega (arith, small))
lacks_signed m (negsuc n) other minus small = (minus, lacks_decimal m (suc n) other (omega (arith, small)))

pub decimal_cut : (m n k : ℕ) (r s : List ℕ) → is_ascii_digit m ≡ false → n < 2 ^ 64 → k < 2 ^ 64 → Begins m r → Begins m s → decimal n ++ r ≡ decimal k ++ s → (n ≡ k) × (r ≡ s)
decimal_cut m n k r s other small low br bs e =
    let parts = cut m (decimal n) (decimal k) r s (lacks_decimal m n other small) (lacks_decimal m k other low) br bs e in
    (decimal_injective n k small low parts.0, parts.1)

pub signed_cut : (m : ℕ) (y z : ℤ) (r s : List ℕ) → is_ascii_digit m ≡ false → 45 ≢ m → mag y < 2 ^ 63 → mag z < 2 ^ 63 → Begins m r → Begins m s → signed_decimal y ++ r ≡ signed_decimal z ++ s → (y ≡ z) × (r ≡ s)
signed_cut m y z r s other minus small low br bs e =
    let parts = cut m (signed_decimal y) (signed_decimal z) r s (lacks_signed m y other minus small) (lacks_signed m z other minus low) br bs e in
    (signed_decimal_injective y z small low parts.0, parts.1)

-- a number is no empty text
pub no_decimal : (n : ℕ) → n < 2 ^ 64 → [] ≡ decimal n → ⊥
no_decimal n small e = subst IsDigits (sym e) (decimal_digits n small)

-- ---- texts between blanks
pub no_front : (a b : List ℕ) → [] ≢ a → [] ≡ a ++ b → ⊥
no_front [] b some e = some refl
no_front (c ∷ a) b some e = let f : [] ≡ c ∷ (a ++ b) = e in cc f

module _ {X : Type 0} (text : X → List ℕ) where
  -- none is empty or holds a blank
  abbrev pub AreWords : List X → Type 0
  AreWords [] = Unit {0}
  AreWords (x ∷ xs) = Lacks 32 (text x) × ([] ≢ text x) × AreWords xs

  abbrev after_first : List X → List ℕ
  after_first xs = flat_map (λ x. codes " " ++ text x) xs

  after_begins : (xs : List X) → Begins 32 (after_first xs)
  after_begins [] = tt
  after_begins (x ∷ xs) = refl

  after_cut : (xs ys : List X) → AreWords xs → AreWords ys → after_first xs ≡ after_first ys → map text xs ≡ map text ys
  after_cut [] [] a b e = refl
  after_cut [] (y ∷ ys) a b e = let f : [] ≡ 32 ∷ (text y ++ after_first ys) = e in absurd (cc f)
  after_cut (x ∷ xs) [] a b e = let f : 32 ∷ (text x ++ after_first xs) ≡ [] = e in absurd (cc f)
  after_cut (x ∷ xs) (y ∷ ys) a b e =
      let whole : 32 ∷ (text x ++ after_first xs) ≡ 32 ∷ (text y ++ after_first ys) = e in
      let f : text x ++ after_first xs ≡ text y ++ after_first ys = cc whole in
      let parts = cut 32 (text x) (text y) (after_first xs) (after_first ys) a.0 b.0 (after_begins xs) (after_begins ys) f in
      let first = parts.0 in
      let rest = after_cut xs ys a.2 b.2 parts.1 in
      λ i. first i ∷ rest i

  -- words between blanks, one by one
  pub joined_cut : (xs ys : List X) → AreWords xs → AreWords ys → join_by text (codes " ") xs ≡ join_by text (codes " ") ys → map text xs ≡ map text ys
  joined_cut [] [] a b e = refl
  joined_cut [] (y ∷ ys) a b e = absurd (no_front (text y) (after_first ys) b.1 e)
  joined_cut (x ∷ xs) [] a b e = absurd (no_front (text x) (after_first xs) a.1 (sym e))
  joined_cut (x ∷ xs) (y ∷ ys) a b e =
      let parts = cut 32 (text x) (text y) (after_first xs) (after_first ys) a.0 b.0 (after_begins xs) (after_begins ys) e in
      let first = parts.0 in
      let rest = after_cut xs ys a.2 b.2 parts.1 in
      λ i. first i ∷ rest i

  -- the first word is all up to the first blank
  pub first_cut : (a : List ℕ) (x : X) (xs : List X) → Lacks 32 a → AreWords (x ∷ xs) → a ≡ join_by text (codes " ") (x ∷ xs) → a ≡ text x
  first_cut a x xs lacks b e = (cut 32 a (text x) [] (after_first xs) lacks b.0 tt (after_begins xs) (append-nil a ∙ e)).0

  abbrev pub AllLack : ℕ → List X → Type 0
  AllLack m [] = Unit {0}
  AllLack m (x ∷ xs) = Lacks m (text x) × AllLack m xs

  after_lacks : (m : ℕ) (xs : List X) → 32 ≢ m → AllLack m xs → Lacks m (after_first xs)
  after_lacks m [] blank h = tt
  after_lacks m (x ∷ xs) blank h = lacks-append m (32 ∷ text x) (after_first xs) (blank, h.0) (after_lacks m xs blank h.1)

  pub joined_lacks : (m : ℕ) (xs : List X) → 32 ≢ m → AllLack m xs → Lacks m (join_by text (codes " ") xs)
  joined_lacks m [] blank h = tt
  joined_lacks m (x ∷ xs) blank h = lacks-append m (text x) (after_first xs) h.0 (after_lacks m xs blank h.1)
