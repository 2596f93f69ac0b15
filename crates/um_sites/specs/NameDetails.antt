-- The text of what is told of a name's fault: similar names, the earlier declaration, or what is expected and found.
-- Source: this project's own; similar names are those at one edit (Damerau 1964).
use Rattle.std.specs.Prelude.{ℕ, nat_lt, ◌&&◌, Bool, true, false, cond, List, [], ◌∷◌, ◌++◌, codes, decimal, length}
use Rattle.std.specs.Prelude.{filter, Option, Some, None}
use Rattle.std.specs.List.{flat_map}
use Rattle.std.specs.Str.{chars, is_utf8}
use Rattle.um_tree.specs.RawTree.{DeclSyntax}
use Rattle.um_measures.specs.declared.stop.NameStop.{NameStop}
use Rattle.um_similar.specs.SimilarNames.{similar_names}
use Rattle.um_sites.specs.declared.detail.NameDetail.{NameDetail}
use Rattle.um_sites.specs.declared.detail.NameDetail.TheVariants as detail
use Rattle.um_sites.specs.Sites.{program_told}

abbrev pub line : List ℕ → List ℕ
line text = text ++ codes "\n"

-- ---- a name that isn't known

-- a variable of a unit text has its quote
abbrev pub written_name : Bool → List ℕ → List ℕ
written_name true x = codes "'" ++ x
written_name false x = x

-- each after a space
abbrev pub names_text : Bool → List (List ℕ) → List ℕ
names_text quoted names = flat_map (λ x. codes " " ++ written_name quoted x) names

-- a name of one character has no similar ones. The names of a text are in UTF-8; others are left out
abbrev pub has_similar : List ℕ → Bool
has_similar x = is_utf8 x && nat_lt 1 (length (chars x))

abbrev pub similar_to : List ℕ → List (List ℕ) → List (List ℕ)
similar_to x known = cond (has_similar x) (similar_names (chars x) (filter is_utf8 known)) []

abbrev pub similar_line : Bool → List (List ℕ) → List ℕ
similar_line quoted [] = []
similar_line quoted (x ∷ xs) = line (codes "similar:" ++ names_text quoted (x ∷ xs))

-- ---- the others

-- earlier: the text of the place of the earlier declaration
abbrev pub twice_line : List ℕ → Option ℕ → List ℕ
twice_line earlier None = []
twice_line earlier (Some at) = line (codes "declared before at " ++ earlier)

abbrev pub detail_text : List ℕ → NameDetail → List ℕ
detail_text earlier (detail.Unknown x quoted known) = similar_line quoted (similar_to x known)
detail_text earlier (detail.Own x) = line (x ++ codes " is known in its own body after let rec")
detail_text earlier (detail.Twice at) = twice_line earlier at
detail_text earlier (detail.Counts expected found) =
    line (codes "expected " ++ decimal expected ++ codes ", found " ++ decimal found)
detail_text earlier (detail.Fields expected found) =
    line (codes "expected:" ++ names_text false expected) ++ line (codes "found:" ++ names_text false found)
detail_text earlier detail.FieldHole = line (codes "a field's type has no hole")
detail_text earlier detail.NumberHole = line (codes "only 0 has every unit")
detail_text earlier detail.Powers = line (codes "powers go from -2147483647 to 2147483647")

-- the first is told
abbrev pub first_text : List ℕ → List NameDetail → List ℕ
first_text earlier [] = []
first_text earlier (d ∷ ds) = detail_text earlier d

abbrev pub place_in : NameDetail → Option ℕ
place_in (detail.Unknown x quoted known) = None
place_in (detail.Own x) = None
place_in (detail.Twice at) = at
place_in (detail.Counts expected found) = None
place_in (detail.Fields expected found) = None
place_in detail.FieldHole = None
place_in detail.NumberHole = None
place_in detail.Powers = None

-- the place of the earlier declaration, if one is told
abbrev pub earlier_place : List NameDetail → Option ℕ
earlier_place [] = None
earlier_place (d ∷ ds) = place_in d

abbrev pub place_or_none : (ℕ → List ℕ) → Option ℕ → List ℕ
place_or_none place_text None = []
place_or_none place_text (Some at) = place_text at

-- the text of what is told of a fault, of the program as it is written; place_text: how a place is printed
abbrev pub name_details : (ℕ → List ℕ) → NameStop → List DeclSyntax → List ℕ
name_details place_text fault ds =
    let told = program_told fault ds in first_text (place_or_none place_text (earlier_place told)) told
