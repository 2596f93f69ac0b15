-- The sizes of base units, from those of a word.
use Rattle.std.proofs.Common.{◌≡◌, ℕ, Bool, true, false, cond, List, [], length, Option, Some, None, Result, Ok, Err, refl, ap, subst, ◌∙◌}
use Rattle.std.specs.Prelude.{All, is_some}
use Rattle.std.specs.Option.{option_and_then}
use Rattle.um_frac.specs.declared.number.Frac.{Frac}
use Rattle.um_tree.specs.Formed.{AreDistinct}
use Rattle.um_sizes.specs.declared.read.ScalesRefusal.{ScalesRefusal}
use Rattle.um_sizes.specs.declared.read.ScalesRefusal.TheVariants.{NoBaseUnit}
use Rattle.um_sizes.specs.Parts.{cut, parts_of}
use Rattle.um_sizes.specs.ScaleWords.{sizes_in, are_once, names_of, scales_in}
use Rattle.um_sizes.specs.BaseSizes.{IsOne, AreScalesRead}
use Rattle.um_sizes.specs.Setting.{size_set, sizes_set}
use Rattle.um_sizes.proofs.Cuts.{parts_cut, parts_last}
use Rattle.um_sizes.proofs.BaseNumbers.{all_set, none_set, AreAllSet}

-- ---- one part after another
pub set_next : (bases : List (List ℕ)) (cs ds : List Frac) (rest part more : List ℕ) (b : Bool) → cut 44 rest ≡ Some (part, more)
    → size_set bases cs part ≡ cond b (Some ds) None → sizes_set bases cs (parts_of rest) ≡ cond b (sizes_set bases ds (parts_of more)) None
set_next bases cs ds rest part more b here e =
    ap (sizes_set bases cs) (parts_cut rest part more here) ∙ ap (option_and_then (λ xs. sizes_set bases xs (parts_of more))) e ∙ by b where
      by : (b : Bool) → option_and_then (λ xs. sizes_set bases xs (parts_of more)) (cond b (Some ds) None) ≡ cond b (sizes_set bases ds (parts_of more)) None
      by true = refl
      by false = refl

pub set_last : (bases : List (List ℕ)) (cs ds : List Frac) (rest : List ℕ) (b : Bool) → cut 44 rest ≡ None
    → size_set bases cs rest ≡ cond b (Some ds) None → sizes_set bases cs (parts_of rest) ≡ cond b (Some ds) None
set_last bases cs ds rest b here e =
    ap (sizes_set bases cs) (parts_last rest here) ∙ ap (option_and_then (λ xs. sizes_set bases xs [])) e ∙ by b where
      by : (b : Bool) → option_and_then (λ xs. sizes_set bases xs []) (cond b (Some ds) None) ≡ cond b (Some ds) None
      by true = refl
      by false = refl

-- ---- all parts

-- what a word of sizes states
pub record Stated (word : List ℕ) : Type 0 where
  pub sizes : List (List ℕ × Frac)
  pub stated : scales_in word ≡ Some sizes
  pub parts : sizes_in (parts_of word) ≡ Some sizes

word_stated : (word : List ℕ) → is_some (scales_in word) ≡ true → Stated word
unfolding scales_in
word_stated word t = by (sizes_in (parts_of word)) refl t where
  once : (ss : List (List ℕ × Frac)) (b : Bool) → sizes_in (parts_of word) ≡ Some ss → are_once (names_of ss) ≡ b → is_some (cond b (Some ss) None) ≡ true → Stated word
  once ss true e s h = record {
    sizes = ss;
    stated = ap (option_and_then (λ xs. cond (are_once (names_of xs)) (Some xs) None)) e ∙ ap (λ c. cond c (Some ss) None) s;
    parts = e;
  }
  once ss false e s h = absurd (cc h)

  by : (o : Option (List (List ℕ × Frac))) → sizes_in (parts_of word) ≡ o → is_some (option_and_then (λ xs. cond (are_once (names_of xs)) (Some xs) None) o) ≡ true → Stated word
  by None e h = absurd (cc h)
  by (Some ss) e h = once ss (are_once (names_of ss)) e refl h

-- the answer, by whether all sizes were set
abbrev pub answer_of : Option (List Frac) → Result (List Frac) ScalesRefusal
answer_of None = Err NoBaseUnit
answer_of (Some cs) = Ok cs

pub read_all : (bases : List (List ℕ)) (word : List ℕ) (cs : List Frac) (o : Option (List Frac)) → AreDistinct bases → is_some (scales_in word) ≡ true
    → length cs ≡ length bases → All IsOne cs → sizes_set bases cs (parts_of word) ≡ o → AreScalesRead bases word (answer_of o)
read_all bases word cs o once t many ones e =
    let s = word_stated word t in
    let all = all_set bases once (parts_of word) [] s.sizes cs s.parts (none_set bases cs many ones) in
    by o s (subst (AreAllSet bases once [] s.sizes) e all) where
      by : (o : Option (List Frac)) (s : Stated word) → AreAllSet bases once [] s.sizes o → AreScalesRead bases word (answer_of o)
      by None s h = record { sizes = s.sizes; stated = s.stated; read = h }
      by (Some ds) s h = record { sizes = s.sizes; stated = s.stated; read = h }
