-- Units over base units with names of their own are the same if they are printed alike.
use Rattle.std.proofs.Common.{◌≡◌, ◌≢◌, ℕ, ◌+◌, ◌^◌, ◌*◌, ◌/◌, ◌%◌, ◌<◌, ◌≤◌, Bool, true, false, cond, List, [], ◌∷◌, ◌++◌, map, filter, ℤ, pos, nat_abs, neg_ℤ, ◌+ℤ◌, refl, sym, ap, ◌∙◌, subst, arith, lit<}
use Rattle.std.specs.Prelude.{IsTrue, nat_eq, nat_lt}
use Rattle.std.specs.Char.{is_ascii_digit}
use Rattle.std.specs.Fmt.{decimal}
use Rattle.std.proofs.lemmas.Bool.{and_parts, eqb-true, leb-true, ltb-true}
use Rattle.std.proofs.lemmas.Fmt.{decimal_injective}
use Rattle.std.proofs.lemmas.Nat.{div-add-mod'}
use Rattle.std.proofs.Math.Nat.{mod-eq_of_lt}
use Rattle.unicode_ident.proofs.IdentLemmas.{is_xid_start-ascii, is_xid_continue-ascii}
use Rattle.um_units.specs.declared.Atom.{Atom}
use Rattle.um_units.specs.declared.Atom.TheVariants.{Base, Var}
use Rattle.um_units.specs.declared.Term.{Term}
use Rattle.um_units.specs.Atoms.{same_atom}
use Rattle.um_units.specs.Terms.{power_in, is_zero, is_before_all, is_normal}
use Rattle.um_units.specs.NormalForm.{same_atom-eq, head_nonzero, head_before_all, tail_normal}
use Rattle.um_units.specs.PowerMap.{PowerMap, power_of}
use Rattle.um_units.specs.Range.{all_in_range, in_range}
use Rattle.um_units.proofs.Equality.{same_unit, power_in-before_all, power_in-head, power_in-tail}
use Rattle.um_tree.specs.Formed.{BasesBelow}
use Rattle.um_elim.proofs.Cases.{on_test}
use Rattle.um_show.specs.UnitText.{base_name, variable_text, exponent_text, stands_before, with_term, ordered_terms, is_factor, is_divisor, atom_text, factor_text, factors_text, divisors_text, terms_text, unit_text}
use Rattle.um_all_answers.proofs.UnitSizes.{size_in, ordered_power, power_split}
use Rattle.um_all_answers.specs.CertificateLaws.{FitsUnit}
use Rattle.um_all_answers.proofs.Cuts.{Lacks, Begins, cut, lacks-append, lacks_decimal, no_decimal, AreWords, no_front, joined_cut, first_cut, AllLack, joined_lacks}
use Rattle.um_all_answers.proofs.Names.{IsMark, ArePlain}

-- ---- the marks

pub slash : IsMark 47
slash = record { start = is_xid_start-ascii 47 (lit< tt); continue = is_xid_continue-ascii 47 (lit< tt); digit = refl; dollar = λ e. omega (arith, e); low = omega arith }

pub blank : IsMark 32
blank = record { start = is_xid_start-ascii 32 (lit< tt); continue = is_xid_continue-ascii 32 (lit< tt); digit = refl; dollar = λ e. omega (arith, e); low = omega arith }

pub caret : IsMark 94
caret = record { start = is_xid_start-ascii 94 (lit< tt); continue = is_xid_continue-ascii 94 (lit< tt); digit = refl; dollar = λ e. omega (arith, e); low = omega arith }

pub line_end : IsMark 10
line_end = record { start = is_xid_start-ascii 10 (lit< tt); continue = is_xid_continue-ascii 10 (lit< tt); digit = refl; dollar = λ e. omega (arith, e); low = omega arith }

-- ---- variables

abbrev variable_tail : ℕ → List ℕ
variable_tail k = cond (nat_lt k 26) [] (decimal (k / 26))

by_halves : (j k : ℕ) → j % 26 ≡ k % 26 → j / 26 ≡ k / 26 → j ≡ k
by_halves j k e f = sym (div-add-mod' j 26) ∙ ap (λ n. n * 26 + j % 26) f ∙ ap (λ n. k / 26 * 26 + n) e ∙ div-add-mod' k 26

small_tail : (n : ℕ) → n < 2 ^ 32 → n / 26 < 2 ^ 64
small_tail n small = let whole = div-add-mod' n 26 in omega (arith, whole, small)

variable_told : (j k : ℕ) → j < 2 ^ 32 → k < 2 ^ 32 → variable_text j ≡ variable_text k → j ≡ k
variable_told j k small low e =
    let whole : 39 ∷ (97 + j % 26) ∷ variable_tail j ≡ 39 ∷ (97 + k % 26) ∷ variable_tail k = e in
    let letters : 97 + j % 26 ≡ 97 + k % 26 = cc whole in
    let letter : j % 26 ≡ k % 26 = omega (arith, letters) in
    let tails : variable_tail j ≡ variable_tail k = cc whole in
    on_test (nat_lt j 26)
    (λ a. on_test (nat_lt k 26)
    (λ b. sym (mod-eq_of_lt (ltb-true j 26 a)) ∙ letter ∙ mod-eq_of_lt (ltb-true k 26 b))
    (λ b. absurd (no_decimal (k / 26) (small_tail k low) (sym (ap (λ t. cond t [] (decimal (j / 26))) a) ∙ tails ∙ ap (λ t. cond t [] (decimal (k / 26))) b))))
    (λ a. on_test (nat_lt k 26)
    (λ b. absurd (no_decimal (j / 26) (small_tail j small) (sym (sym (ap (λ t. cond t [] (decimal (j / 26))) a) ∙ tails ∙ ap (λ t. cond t [] (decimal (k / 26))) b))))
    (λ b. by_halves j k letter
    (decimal_injective (j / 26) (k / 26) (small_tail j small) (small_tail k low) (sym (ap (λ t. cond t [] (decimal (j / 26))) a) ∙ tails ∙ ap (λ t. cond t [] (decimal (k / 26))) b))))

variable_lacks : (m k : ℕ) → IsMark m → 39 ≢ m → k < 2 ^ 32 → Lacks m (variable_text k)
variable_lacks m k is quote small = (quote, ((λ e. (let l = is.low in omega (arith, e, l))), tail))
  where
    tail : Lacks m (variable_tail k)
    tail = on_test (nat_lt k 26) (λ t. rw t tt) (λ t. rw t (lacks_decimal m (k / 26) is.digit (small_tail k small)))

-- ---- powers

exponent_begins : (n : ℕ) → Begins 94 (exponent_text n)
exponent_begins n = on_test (nat_eq n 1) (λ t. rw t tt) (λ t. rw t refl)

exponent_lacks : (m n : ℕ) → IsMark m → 94 ≢ m → n ≤ 2147483647 → Lacks m (exponent_text n)
exponent_lacks m n is other small = on_test (nat_eq n 1) (λ t. rw t tt) (λ t. rw t (other, lacks_decimal m n is.digit (omega (arith, small))))

exponent_told : (a b : ℕ) → a ≤ 2147483647 → b ≤ 2147483647 → exponent_text a ≡ exponent_text b → a ≡ b
exponent_told a b small low e =
    on_test (nat_eq a 1)
    (λ s. on_test (nat_eq b 1)
    (λ t. eqb-true a 1 s ∙ sym (eqb-true b 1 t))
    (λ t. let f : [] ≡ 94 ∷ decimal b = sym (ap (λ c. cond c [] (94 ∷ decimal a)) s) ∙ e ∙ ap (λ c. cond c [] (94 ∷ decimal b)) t in absurd (cc f)))
    (λ s. on_test (nat_eq b 1)
    (λ t. let f : 94 ∷ decimal a ≡ [] = sym (ap (λ c. cond c [] (94 ∷ decimal a)) s) ∙ e ∙ ap (λ c. cond c [] (94 ∷ decimal b)) t in absurd (cc f))
    (λ t.
    let f : 94 ∷ decimal a ≡ 94 ∷ decimal b = sym (ap (λ c. cond c [] (94 ∷ decimal a)) s) ∙ e ∙ ap (λ c. cond c [] (94 ∷ decimal b)) t in
    let g : decimal a ≡ decimal b = cc f in
    decimal_injective a b (omega (arith, small)) (omega (arith, low)) g))

-- ---- terms

-- the same but for the signs of powers
abbrev pub AreAlike : List Term → List Term → Type 0
AreAlike [] [] = Unit {0}
AreAlike (s ∷ ss) (t ∷ ts) = (s.atom ≡ t.atom) × (nat_abs s.power ≡ nat_abs t.power) × AreAlike ss ts
AreAlike ss ts = ⊥

alike_sizes : (ss ts : List Term) (x : Atom) → AreAlike ss ts → size_in ss x ≡ size_in ts x
alike_sizes [] [] x h = refl
alike_sizes [] (t ∷ ts) x h = absurd h
alike_sizes (s ∷ ss) [] x h = absurd h
alike_sizes (s ∷ ss) (t ∷ ts) x (atoms, powers, rest) =
    let more = alike_sizes ss ts x rest in
    λ i. cond (same_atom x (atoms i)) (powers i) 0 + more i

module _ (bases : List (List ℕ)) (n : ℕ) (names : ArePlain bases n) where
  -- the atom has a text of its own
  abbrev IsTold : Atom → Type 0
  IsTold (Base k) = k < n
  IsTold (Var k) = k < 2 ^ 32

  abbrev AreTold : List Term → Type 0
  AreTold [] = Unit {0}
  AreTold (t ∷ ts) = IsTold t.atom × (nat_abs t.power ≤ 2147483647) × AreTold ts

  abbrev text_of : Atom → List ℕ
  text_of = atom_text variable_text bases

  abbrev factor : Term → List ℕ
  factor = factor_text variable_text bases

  -- ---- an atom
  atom_lacks : (m : ℕ) (x : Atom) → IsMark m → 39 ≢ m → IsTold x → Lacks m (text_of x)
  atom_lacks m (Base k) is quote told = (names.plain k told).marks m is
  atom_lacks m (Var k) is quote told = variable_lacks m k is quote told

  atom_some : (x : Atom) → IsTold x → [] ≡ text_of x → ⊥
  atom_some (Base k) told e = (names.plain k told).some e
  atom_some (Var k) told e = let f : [] ≡ 39 ∷ (97 + k % 26) ∷ variable_tail k = e in cc f

  atom_no_one : (x : Atom) → IsTold x → 49 ∷ [] ≡ text_of x → ⊥
  atom_no_one (Base k) told e = (names.plain k told).no_one e
  atom_no_one (Var k) told e =
      let whole : 49 ∷ [] ≡ 39 ∷ (97 + k % 26) ∷ variable_tail k = e in
      let f : ◌≡◌ {A = ℕ} 49 39 = cc whole in
      omega (arith, f)

  quoted : (k j : ℕ) → k < n → base_name bases k ≡ variable_text j → ⊥
  quoted k j told e = (subst (Lacks 39) e (names.plain k told).quote).0 refl

  atom_told : (x y : Atom) → IsTold x → IsTold y → text_of x ≡ text_of y → x ≡ y
  atom_told (Base j) (Base k) a b e = ap Base (names.once j k a b e)
  atom_told (Base j) (Var k) a b e = absurd (quoted j k a e)
  atom_told (Var j) (Base k) a b e = absurd (quoted k j b (sym e))
  atom_told (Var j) (Var k) a b e = ap Var (variable_told j k a b e)

  -- ---- a factor
  factor_lacks : (m : ℕ) (t : Term) → IsMark m → 39 ≢ m → 94 ≢ m → IsTold t.atom → nat_abs t.power ≤ 2147483647 → Lacks m (factor t)
  factor_lacks m t is quote other told small = lacks-append m (text_of t.atom) (exponent_text (nat_abs t.power)) (atom_lacks m t.atom is quote told) (exponent_lacks m (nat_abs t.power) is other small)

  factor_told : (s t : Term) → IsTold s.atom → IsTold t.atom → nat_abs s.power ≤ 2147483647 → nat_abs t.power ≤ 2147483647 → factor s ≡ factor t → (s.atom ≡ t.atom) × (nat_abs s.power ≡ nat_abs t.power)
  factor_told s t a b small low e =
      let quote : ◌≢◌ {A = ℕ} 39 94 = λ f. omega (arith, f) in
      let parts = cut 94 (text_of s.atom) (text_of t.atom) (exponent_text (nat_abs s.power)) (exponent_text (nat_abs t.power)) (atom_lacks 94 s.atom caret quote a) (atom_lacks 94 t.atom caret quote b) (exponent_begins (nat_abs s.power)) (exponent_begins (nat_abs t.power)) e in
      (atom_told s.atom t.atom a b parts.0, exponent_told (nat_abs s.power) (nat_abs t.power) small low parts.1)

  -- ---- factors
  abbrev factors : List Term → List ℕ
  factors = factors_text variable_text bases

  abbrev divisors : List Term → List ℕ
  divisors = divisors_text variable_text bases

  are_words : (ts : List Term) → AreTold ts → AreWords factor ts
  are_words [] told = tt
  are_words (t ∷ ts) (told, small, more) = (
    factor_lacks 32 t blank (λ f. omega (arith, f)) (λ f. omega (arith, f)) told small,
    (λ e. no_front (text_of t.atom) (exponent_text (nat_abs t.power)) (atom_some t.atom told) e),
    are_words ts more,
  )

  all_lack : (m : ℕ) (ts : List Term) → IsMark m → 39 ≢ m → 94 ≢ m → AreTold ts → AllLack factor m ts
  all_lack m [] is quote other told = tt
  all_lack m (t ∷ ts) is quote other (told, small, more) = (factor_lacks m t is quote other told small, all_lack m ts is quote other more)

  alike : (ss ts : List Term) → AreTold ss → AreTold ts → map factor ss ≡ map factor ts → AreAlike ss ts
  alike [] [] a b e = tt
  alike [] (t ∷ ts) a b e = absurd (cc e)
  alike (s ∷ ss) [] a b e = absurd (cc e)
  alike (s ∷ ss) (t ∷ ts) (a, small, more) (b, low, others) e =
      let first : factor s ≡ factor t = cc e in
      let rest : map factor ss ≡ map factor ts = cc e in
      let same = factor_told s t a b small low first in
      (same.0, same.1, alike ss ts more others rest)

  factors_told : (ss ts : List Term) → AreTold ss → AreTold ts → factors ss ≡ factors ts → AreAlike ss ts
  factors_told ss ts a b e = alike ss ts a b (joined_cut factor ss ts (are_words ss a) (are_words ts b) e)

  divisors_told : (ss ts : List Term) → AreTold ss → AreTold ts → divisors ss ≡ divisors ts → AreAlike ss ts
  divisors_told [] [] a b e = tt
  divisors_told [] (t ∷ ts) a b e = let f : [] ≡ 47 ∷ factors (t ∷ ts) = e in absurd (cc f)
  divisors_told (s ∷ ss) [] a b e = let f : 47 ∷ factors (s ∷ ss) ≡ [] = e in absurd (cc f)
  divisors_told (s ∷ ss) (t ∷ ts) a b e =
      let whole : 47 ∷ factors (s ∷ ss) ≡ 47 ∷ factors (t ∷ ts) = e in
      let f : factors (s ∷ ss) ≡ factors (t ∷ ts) = cc whole in
      factors_told (s ∷ ss) (t ∷ ts) a b f

  -- ---- what they lack
  factors_lack : (m : ℕ) (ts : List Term) → IsMark m → 39 ≢ m → 94 ≢ m → 32 ≢ m → AreTold ts → Lacks m (factors ts)
  factors_lack m ts is quote other space told = joined_lacks factor m ts space (all_lack m ts is quote other told)

  divisors_begin : (ts : List Term) → Begins 47 (divisors ts)
  divisors_begin [] = tt
  divisors_begin (t ∷ ts) = refl

  divisors_lack : (m : ℕ) (ts : List Term) → IsMark m → 39 ≢ m → 94 ≢ m → 32 ≢ m → 47 ≢ m → AreTold ts → Lacks m (divisors ts)
  divisors_lack m [] is quote other space over told = tt
  divisors_lack m (t ∷ ts) is quote other space over told = (over, factors_lack m (t ∷ ts) is quote other space told)

  -- ---- terms
  abbrev text : List Term → List ℕ
  text = terms_text variable_text bases

  abbrev AreSame : List Term → List Term → Type 0
  AreSame ss ts = AreAlike (filter is_factor ss) (filter is_factor ts) × AreAlike (filter is_divisor ss) (filter is_divisor ts)

  both_told : (fs gs ds es : List Term) → AreTold fs → AreTold gs → AreTold ds → AreTold es → factors fs ++ divisors ds ≡ factors gs ++ divisors es → AreAlike fs gs × AreAlike ds es
  both_told fs gs ds es a b c d e =
      let quote : ◌≢◌ {A = ℕ} 39 47 = λ f. omega (arith, f) in
      let other : ◌≢◌ {A = ℕ} 94 47 = λ f. omega (arith, f) in
      let space : ◌≢◌ {A = ℕ} 32 47 = λ f. omega (arith, f) in
      let parts = cut 47 (factors fs) (factors gs) (divisors ds) (divisors es) (factors_lack 47 fs slash quote other space a) (factors_lack 47 gs slash quote other space b) (divisors_begin ds) (divisors_begin es) e in
      (factors_told fs gs a b parts.0, divisors_told ds es c d parts.1)

  -- no terms are printed as `1`
  no_one : (fs ds : List Term) → AreTold fs → AreTold ds → 49 ∷ [] ≡ factors fs ++ divisors ds → ⊥
  no_one [] [] a b e = let f : 49 ∷ [] ≡ [] = e in cc f
  no_one [] (d ∷ ds) a b e =
      let whole : 49 ∷ [] ≡ 47 ∷ factors (d ∷ ds) = e in
      let f : ◌≡◌ {A = ℕ} 49 47 = cc whole in
      omega (arith, f)
  no_one (t ∷ ts) ds (told, small, more) b e =
      let over : ◌≢◌ {A = ℕ} 49 47 = λ f. omega (arith, f) in
      let space : ◌≢◌ {A = ℕ} 49 32 = λ f. omega (arith, f) in
      let power : ◌≢◌ {A = ℕ} 49 94 = λ f. omega (arith, f) in
      let first = cut 47 (49 ∷ []) (factors (t ∷ ts)) [] (divisors ds) (over, tt) (factors_lack 47 (t ∷ ts) slash (λ f. omega (arith, f)) (λ f. omega (arith, f)) (λ f. omega (arith, f)) (told, small, more)) tt (divisors_begin ds) e in
      let second = first_cut factor (49 ∷ []) t ts (space, tt) (are_words (t ∷ ts) (told, small, more)) first.0 in
      let third = cut 94 (49 ∷ []) (text_of t.atom) [] (exponent_text (nat_abs t.power)) (power, tt) (atom_lacks 94 t.atom caret (λ f. omega (arith, f)) told) tt (exponent_begins (nat_abs t.power)) second in
      atom_no_one t.atom told third.0

  filter_told : (p : Term → Bool) (ts : List Term) → AreTold ts → AreTold (filter p ts)
  filter_told p [] h = tt
  filter_told p (t ∷ ts) h = go (p t) (filter_told p ts h.2) where
    go : (b : Bool) → AreTold (filter p ts) → AreTold (cond b (t ∷ filter p ts) (filter p ts))
    go true rest = (h.0, h.1, rest)
    go false rest = rest

  terms_told : (ss ts : List Term) → AreTold ss → AreTold ts → text ss ≡ text ts → AreSame ss ts
  terms_told [] [] a b e = (tt, tt)
  terms_told [] (t ∷ ts) a b e = absurd (no_one (filter is_factor (t ∷ ts)) (filter is_divisor (t ∷ ts)) (filter_told is_factor (t ∷ ts) b) (filter_told is_divisor (t ∷ ts) b) e)
  terms_told (s ∷ ss) [] a b e = absurd (no_one (filter is_factor (s ∷ ss)) (filter is_divisor (s ∷ ss)) (filter_told is_factor (s ∷ ss) a) (filter_told is_divisor (s ∷ ss) a) (sym e))
  terms_told (s ∷ ss) (t ∷ ts) a b e =
      both_told (filter is_factor (s ∷ ss)) (filter is_factor (t ∷ ts)) (filter is_divisor (s ∷ ss)) (filter is_divisor (t ∷ ts))
      (filter_told is_factor (s ∷ ss) a) (filter_told is_factor (t ∷ ts) b) (filter_told is_divisor (s ∷ ss) a) (filter_told is_divisor (t ∷ ts) b) e

  terms_lack : (m : ℕ) (ts : List Term) → IsMark m → 39 ≢ m → 94 ≢ m → 32 ≢ m → 47 ≢ m → AreTold ts → Lacks m (text ts)
  terms_lack m [] is quote other space over told = ((λ e. let f : true ≡ false = ap is_ascii_digit e ∙ is.digit in cc f), tt)
  terms_lack m (t ∷ ts) is quote other space over told =
      lacks-append m (factors (filter is_factor (t ∷ ts))) (divisors (filter is_divisor (t ∷ ts)))
      (factors_lack m (filter is_factor (t ∷ ts)) is quote other space (filter_told is_factor (t ∷ ts) told))
      (divisors_lack m (filter is_divisor (t ∷ ts)) is quote other space over (filter_told is_divisor (t ∷ ts) told))

  -- ---- in the order of printing
  with_told : (t : Term) (ss : List Term) → IsTold t.atom → nat_abs t.power ≤ 2147483647 → AreTold ss → AreTold (with_term bases t ss)
  with_told t [] told small rest = (told, small, tt)
  with_told t (s ∷ ss) told small rest = go (stands_before bases t s) (with_told t ss told small rest.2) where
    go : (b : Bool) → AreTold (with_term bases t ss) → AreTold (cond b (t ∷ s ∷ ss) (s ∷ with_term bases t ss))
    go true more = (told, small, rest)
    go false more = (rest.0, rest.1, more)

  ordered_told : (ts : List Term) → AreTold ts → AreTold (ordered_terms bases ts)
  ordered_told [] h = tt
  ordered_told (t ∷ ts) h = with_told t (ordered_terms bases ts) h.0 h.1 (ordered_told ts h.2)

  -- ---- units
  kept_told : (ts : List Term) → IsTrue (is_normal ts) → IsTrue (all_in_range ts) → ((x : Atom) → power_in ts x ≢ pos 0 → IsTold x) → AreTold ts
  kept_told [] normal fit held = tt
  kept_told (t ∷ ts) normal fit held = (
    held t.atom (λ none. some t.power head (sym (power_in-head t ts before) ∙ none)),
    leb-true (nat_abs t.power) 2147483647 (and_parts (in_range t.power) (all_in_range ts) fit).0,
    kept_told ts (tail_normal t ts normal) (and_parts (in_range t.power) (all_in_range ts) fit).1 others,
  ) where
    before : IsTrue (is_before_all t.atom ts)
    before = head_before_all t ts normal

    head : is_zero t.power ≡ false
    head = head_nonzero t ts normal

    some : (z : ℤ) → is_zero z ≡ false → z ≢ pos 0
    some z e none = let f : false ≡ true = sym e ∙ ap is_zero none in cc f

    others : (x : Atom) → power_in ts x ≢ pos 0 → IsTold x
    others x there = by (same_atom x t.atom) refl where
      by : (b : Bool) → same_atom x t.atom ≡ b → IsTold x
      by true e = absurd (there (ap (power_in ts) (same_atom-eq x t.atom e) ∙ power_in-before_all t.atom ts before))
      by false e = held x (λ none. there (sym (power_in-tail t ts x e) ∙ none))

  unit_kept : (u : PowerMap) → FitsUnit u → BasesBelow n u → AreTold (ordered_terms bases u.terms)
  unit_kept u fit low = ordered_told u.terms (kept_told u.terms u.normal fit.powers at)
    where
      at : (x : Atom) → power_of u x ≢ pos 0 → IsTold x
      at (Base k) held = low k held
      at (Var k) held = fit.variables k held

  pub unit_lacks : (u : PowerMap) → FitsUnit u → BasesBelow n u → Lacks 10 (unit_text bases u)
  unit_lacks u fit low = terms_lack 10 (ordered_terms bases u.terms) line_end (λ f. omega (arith, f)) (λ f. omega (arith, f)) (λ f. omega (arith, f)) (λ f. omega (arith, f)) (unit_kept u fit low)

  pub unit_told : (u v : PowerMap) → FitsUnit u → FitsUnit v → BasesBelow n u → BasesBelow n v → unit_text bases u ≡ unit_text bases v → u ≡ v
  unit_told u v fit also low small e = same_unit u v at
    where
      same : AreSame (ordered_terms bases u.terms) (ordered_terms bases v.terms)
      same = terms_told (ordered_terms bases u.terms) (ordered_terms bases v.terms) (unit_kept u fit low) (unit_kept v also small) e

      at : (x : Atom) → power_of u x ≡ power_of v x
      at x =
          let factors = alike_sizes (filter is_factor (ordered_terms bases u.terms)) (filter is_factor (ordered_terms bases v.terms)) x same.0 in
          let over = alike_sizes (filter is_divisor (ordered_terms bases u.terms)) (filter is_divisor (ordered_terms bases v.terms)) x same.1 in
          sym (ordered_power bases u.terms x) ∙ power_split (ordered_terms bases u.terms) x
          ∙ (λ i. pos (factors i) +ℤ neg_ℤ (pos (over i)))
          ∙ sym (power_split (ordered_terms bases v.terms) x) ∙ ordered_power bases v.terms x
