-- How the types of agreements are printed: named variables by their names, and every other by a letter.
-- Source: this project's own.
use Rattle.std.specs.Prelude.{ℕ, List, [], ◌∷◌, ◌++◌, length, map, drop, get_or}
use Rattle.um_units.specs.declared.Atom.TheVariants.{Var}
use Rattle.um_units.specs.PowerMap.{atom}
use Rattle.um_tree.specs.TypeTree.{TypeTree, num_type}
use Rattle.um_tree.specs.ProgramTree.{ProgramTree}
use Rattle.um_elim.specs.Numbering.{variable_order, renumbered}
use Rattle.um_agree.specs.Agreements.{Agreement}
use Rattle.um_show.specs.SchemeText.{named_type_text}
use Rattle.um_unit_reasons.specs.declared.named.Named.{Named}
use Rattle.um_unit_reasons.specs.declared.reason.Told.{Told}
use Rattle.um_unit_reasons.specs.VariableNames.{written}

-- ---- numbers

-- each named variable as a type
abbrev pub named_types : List Named → List TypeTree
named_types named = map (λ (n : Named). num_type (atom (Var n.variable))) named

-- the types with their variables numbered: the named ones first, and then the others in the order of printing
abbrev pub numbered : List Named → List TypeTree → List TypeTree
numbered named types = drop (length named) (renumbered (named_types named ++ types))

-- how many variables there are, the named ones among them
abbrev pub variable_count : List Named → List TypeTree → ℕ
variable_count named types = length (variable_order (named_types named ++ types))

-- ---- texts

-- the text of each variable: the names, and then the letters
abbrev pub variable_texts : List Named → List (List ℕ) → List (List ℕ)
variable_texts named letters = map (λ (n : Named). n.text) named ++ map written letters

module _ (p : ProgramTree) (texts : List (List ℕ)) where
  abbrev pub text_of : TypeTree → List ℕ
  text_of t = named_type_text (λ k. get_or texts k []) p t

  -- the agreements, each with two of the types
  abbrev pub told : List Agreement → List TypeTree → List Told
  told (a ∷ agreed) (s ∷ t ∷ types) =
      record { rule = a.rule; at = a.at; first = text_of s; second = text_of t } ∷ told agreed types
  told [] types = []
  told agreed [] = []
  told agreed (s ∷ []) = []
