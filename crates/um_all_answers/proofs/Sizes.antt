-- The sizes of base units that a word states: each base unit has one, or a name of the word is that of none. Published:
-- crates above use it.
use Rattle.std.proofs.Common.{◌≡◌, ◌⊎◌, inl, inr, ℕ, zero, suc, false, List, [], ◌∷◌, pos, Option, Some, None, refl, sym, ap, subst, ◌∙◌}
use Rattle.std.specs.Prelude.{◌||◌, IsTrue, is_some, slice_get, Ok, Err}
use Rattle.std.specs.Str.{bytes_eq}
use Rattle.std.proofs.lemmas.Slice.Eq.{bytes_eq-Decides}
use lib.Signed.{le_z_yes}
use Rattle.um_elim.proofs.Cases.{on_test}
use Rattle.um_frac.specs.declared.number.Frac.{Frac}
use Rattle.um_frac.proofs.Gcd.{gcd-one}
use Rattle.um_measures.specs.Known.{is_among}
use Rattle.um_sizes.specs.declared.read.ScalesRefusal.TheVariants.{NoBaseUnit}
use Rattle.um_sizes.specs.ScaleWords.{names_of, scales_in, is_scales}
use Rattle.um_sizes.specs.BaseSizes.{are_bases, IsSizeOf, AreSizesOf, AreScalesRead}

-- the size 1
abbrev size_one : Frac
size_one = record { num = pos 1; den = pos 1; positive = le_z_yes tt; den_fits = le_z_yes tt; above = le_z_yes tt; num_fits = le_z_yes tt; lowest = gcd-one 1 }

module _ (y : List ℕ) (d : Frac) (sizes : List (List ℕ × Frac)) (x : List ℕ) where
  abbrev sizes_too : List (List ℕ × Frac)
  sizes_too = (y, d) ∷ sizes

  later : bytes_eq x y ≡ false → (c : Frac) → IsSizeOf sizes x c → IsSizeOf sizes_too x c
  later other c (inl (i, e)) = inl (suc i, e)
  later other c (inr (none, one)) = inr (ap (λ b. b || is_among (names_of sizes) x) other ∙ none, one)

-- the size beside a name, or 1
size_of : (sizes : List (List ℕ × Frac)) (x : List ℕ) → (c : Frac) × IsSizeOf sizes x c
size_of [] x = (size_one, inr (refl, (refl, refl)))
size_of ((y, d) ∷ sizes) x =
    on_test (bytes_eq x y)
    (λ same. (d, inl (0, ap (λ w. Some (w, d)) (sym ((bytes_eq-Decides x y).0 same)))))
    (λ other. let (c, is) = size_of sizes x in (c, later y d sizes x other c is))

-- those of all base units
sizes_of : (sizes : List (List ℕ × Frac)) (bases : List (List ℕ)) → (cs : List Frac) × AreSizesOf bases sizes cs
sizes_of sizes [] = ([], record { many = refl; each = λ k x c e f. absurd cc })
sizes_of sizes (x ∷ bases) =
    let (c, is) = size_of sizes x in
    let (cs, are) = sizes_of sizes bases in
    (c ∷ cs, record { many = ap (λ n. suc n) are.many; each = each c cs is are })
  where
    each : (c : Frac) (cs : List Frac) → IsSizeOf sizes x c → AreSizesOf bases sizes cs → (k : ℕ) (y : List ℕ) (d : Frac) → slice_get (x ∷ bases) k ≡ Some y → slice_get (c ∷ cs) k ≡ Some d → IsSizeOf sizes y d
    each c cs is are zero y d e f =
        let name : x ≡ y = cc in let size : c ≡ d = cc in subst (λ w. IsSizeOf sizes w d) name (subst (IsSizeOf sizes x) size is)
    each c cs is are (suc k) y d e f = are.each k y d e f

-- sizes of the base units, or the word has a name of none
abbrev pub SizesOrRefusal : List (List ℕ) → List ℕ → Type 0
SizesOrRefusal bases word = ((cs : List Frac) × AreScalesRead bases word (Ok cs)) ⊎ AreScalesRead bases word (Err NoBaseUnit)

module _ (bases : List (List ℕ)) (word : List ℕ) where
  by_stated : (o : Option (List (List ℕ × Frac))) → scales_in word ≡ o → IsTrue (is_some o) → SizesOrRefusal bases word
  by_stated None e stated = absurd cc
  by_stated (Some sizes) e stated =
      on_test (are_bases bases sizes)
      (λ known. let (cs, are) = sizes_of sizes bases in inl (cs, record { sizes = sizes; stated = e; read = (known, are) }))
      (λ unknown. inr (record { sizes = sizes; stated = e; read = unknown }))

  pub sizes_or_refusal : IsTrue (is_scales word) → SizesOrRefusal bases word
  sizes_or_refusal stated = by_stated (scales_in word) refl stated
