-- Mirrors the code: the places of tokens, and what they say of the numbers of nodes.
-- Source: this project's own.
use Rattle.std.specs.Prelude.{◌≡◌, ℕ, ◌+◌, ◌-◌, ◌≤◌, true, List, [], ◌∷◌}
use Rattle.um_syntax.specs.declared.token.Token.{Token}
use Rattle.um_tree.specs.RawTree.{DeclSyntax}
use Rattle.um_parse.specs.declared.places.Places.{Places}
use Rattle.um_parse.specs.ProgramLimits.{name_place}
use Rattle.um_parse.specs.ProgramNodes.{decl_nodes}

-- the first token begins at this place or later, each other one after the one before it, and all before the end
abbrev pub Rises : ℕ → List Token → ℕ → Type 0
Rises from [] end = from ≤ end
Rises from (t ∷ ts) end = (from ≤ t.start) × Rises (t.start + 1) ts end

-- what is kept of the tokens that were read
abbrev pub HasPlaces : List Token → Places → Type 0
HasPlaces tokens p = p.rise ≡ true → Rises 0 tokens p.next

-- the place of the first declaration's name, or the end
abbrev pub first_place : List DeclSyntax → ℕ → ℕ
first_place [] end = end
first_place (d ∷ ds) end = name_place d

-- no function has more nodes than there are places from its name to that of the next declaration, or to the end
abbrev pub Spaced : List DeclSyntax → ℕ → Type 0
Spaced [] end = Unit {0}
Spaced (d ∷ ds) end = (decl_nodes d ≤ first_place ds end - name_place d) × Spaced ds end
