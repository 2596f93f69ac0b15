-- The names that are similar to an unknown one.
-- Source: this project's own; an edit is Damerau's (1964).
use Rattle.std.specs.Prelude.{ℕ, ◌&&◌, nat_lt, not, Bool, if◌then◌else◌, List, [], ◌∷◌, ◌++◌, filter, length, take}
use Rattle.std.specs.List.{list_any}
use Rattle.std.specs.Str.{bytes_eq, chars}
use Rattle.um_similar.specs.OneEdit.{one_edit}

-- a name in UTF-8 is at one edit from an unknown one of these characters
abbrev pub is_similar : List ℕ → List ℕ → Bool
is_similar unknown name = one_edit unknown (chars name)

-- the names, each once: the first, and then those of the rest but the first
abbrev pub each_once : List (List ℕ) → List (List ℕ)
each_once [] = []
each_once (x ∷ xs) = x ∷ filter (λ y. not (bytes_eq x y)) (each_once xs)

-- of the known names the first four that are similar
abbrev pub similar_names : List ℕ → List (List ℕ) → List (List ℕ)
similar_names unknown known = take 4 (each_once (filter (is_similar unknown) known))

-- ---- name by name

-- the characters of the unknown name, and the names that were found
pub record Search : Type 0 where
  pub unknown : List ℕ
  pub found : List (List ℕ)

-- a name more is kept if there is room, and it is new and similar
abbrev pub is_kept : List ℕ → List (List ℕ) → List ℕ → Bool
is_kept unknown found name =
    nat_lt (length found) 4 && (not (list_any (bytes_eq name) found) && is_similar unknown name)

abbrev pub looked_at : Search → List ℕ → Search
looked_at s name = if is_kept s.unknown s.found name then record s { found = s.found ++ name ∷ [] } else s

abbrev pub looked_at_all : Search → List (List ℕ) → Search
looked_at_all s [] = s
looked_at_all s (x ∷ xs) = looked_at_all (looked_at s x) xs
