-- The test of names, and the names that are taken one after another. This mirrors the code.
-- Source: this project's own; names by Unicode Standard Annex 31.
use Rattle.std.specs.Prelude.{◌≡◌, ℕ, Bool, true, false, cond, All, List, [], ◌∷◌, ◌++◌, codes}
use Rattle.std.specs.Str.{bytes_eq}
use Rattle.unicode_ident.specs.Ident.{is_xid_continue}
use Rattle.um_tree.specs.Formed.{starts_name, reserved_words, IsNameBytes, AreDistinct}

-- an identifier goes on with the character, if it has some before it
abbrev pub goes_on : Bool → ℕ → Bool
goes_on some c = cond some (is_xid_continue c) (starts_name c)

-- it goes on with these to its end
abbrev pub reads : Bool → List ℕ → Bool
reads some [] = some
reads some (c ∷ cs) = cond (goes_on some c) (reads true cs) false

-- identifiers that are no names
abbrev pub no_names : List (List ℕ)
no_names = codes "_" ∷ reserved_words

abbrev pub is_one_of : List (List ℕ) → List ℕ → Bool
is_one_of [] x = false
is_one_of (w ∷ ws) x = cond (bytes_eq x w) true (is_one_of ws x)

-- these are taken after those that were
pub record AreTaken (old xs new : List (List ℕ)) : Type 0 where
  pub names : All IsNameBytes xs
  pub once : AreDistinct old → AreDistinct (old ++ xs)
  pub taken : new ≡ old ++ xs

-- whether they are taken: they aren't where one is no name, or where two of all are equal
abbrev pub Takes : Bool → List (List ℕ) → List (List ℕ) → List (List ℕ) → Type 0
Takes true old xs new = AreTaken old xs new
Takes false old xs new = All IsNameBytes xs → AreDistinct (old ++ xs) → ⊥
