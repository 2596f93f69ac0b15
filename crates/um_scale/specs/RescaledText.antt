-- A program's text with the numbers of a rescaled program: where a unit is written directly after a literal's number,
-- the number is printed anew. All other bytes stay, and so does the spelling of a number alone.
-- Source: this project's own.
use Rattle.std.specs.Prelude.{◌≡◌, ℕ, Bool, true, false, cond, nat_eq, ◌&&◌, List, [], ◌∷◌, ◌++◌, drop, slice_get}
use Rattle.std.specs.Prelude.{slice_range, Option, Some, None}
use Rattle.std.specs.Map.{lookup}
use Rattle.std.specs.Str.{chars}
use Rattle.um_frac.specs.declared.number.Frac.{Frac}
use Rattle.um_syntax.specs.declared.token.Kind.{Kind}
use Rattle.um_syntax.specs.declared.token.Kind.TheVariants as kind
use Rattle.um_syntax.specs.declared.token.Token.{Token}
use Rattle.um_vocabulary.specs.declared.vocabulary.Symbol.TheVariants as symbol
use Rattle.um_syntax.specs.Lexing.{HasTokens}
use Rattle.um_tree.specs.declared.note.UnitNote.{UnitNote}
use Rattle.um_tree.specs.declared.note.UnitNote.TheVariants.{Hole, Written}
use Rattle.um_tree.specs.ExprTree.{ExprTree, ExprTrees, truth, number, local, call, negate, not_expr, pown, arith}
use Rattle.um_tree.specs.ExprTree.{compare, both, either, if, bind, split, nil, list_expr, cons, record_expr, field}
use Rattle.um_tree.specs.ExprTree.{none, more}
use Rattle.um_tree.specs.ProgramTree.{FunctionTree, ProgramTree}
use Rattle.um_show.specs.NumberText.{number_text}

-- ---- the literals with a written unit, in the order of the text: the place of each, and its number

abbrev pub written_literal : ℕ → Frac → UnitNote → List (ℕ × Frac)
written_literal at c Hole = []
written_literal at c (Written u) = (at, c) ∷ []

abbrev mutual
  pub literals : ExprTree → List (ℕ × Frac)
  literals (truth at b) = []
  literals (number at c n) = written_literal at c n
  literals (local at k) = []
  literals (call at j es) = all_literals es
  literals (negate at a) = literals a
  literals (not_expr at a) = literals a
  literals (pown at a k) = literals a
  literals (arith at op a b) = literals a ++ literals b
  literals (compare at sign a b) = literals a ++ literals b
  literals (both at a b) = literals a ++ literals b
  literals (either at a b) = literals a ++ literals b
  literals (if at c a b) = literals c ++ (literals a ++ literals b)
  literals (bind at a b) = literals a ++ literals b
  literals (split at l a b) = literals l ++ (literals a ++ literals b)
  literals (nil at n) = []
  literals (list_expr at es) = all_literals es
  literals (cons at a b) = literals a ++ literals b
  literals (record_expr at r es) = all_literals es
  literals (field at r k a) = literals a

  pub all_literals : ExprTrees → List (ℕ × Frac)
  all_literals none = []
  all_literals (more e es) = literals e ++ all_literals es

abbrev pub literals_of : List FunctionTree → List (ℕ × Frac)
literals_of [] = []
literals_of (f ∷ fs) = literals f.body ++ literals_of fs

-- the number of the first literal at a place
abbrev pub literal_at : List (ℕ × Frac) → ℕ → Option Frac
literal_at found place = lookup (nat_eq place) found

-- ---- the text

abbrev pub is_number : Kind → Bool
is_number (kind.Number value digits one) = true
is_number _ = false

abbrev pub is_less : Kind → Bool
is_less (kind.Sign symbol.Less) = true
is_less _ = false

-- the next token is a `<` directly after: after a number it opens a unit
abbrev pub opens_unit : Option Token → Bool
opens_unit None = false
opens_unit (Some next) = next.glued && is_less next.kind

-- the number that is printed in place of the token: that of the literal there, if a unit follows
abbrev pub new_number : (ℕ → Option Frac) → Token → Bool → Option Frac
new_number number_at token followed = cond (is_number token.kind && followed) (number_at token.start) None

abbrev pub printed : Option Frac → List ℕ → List ℕ
printed None bytes = bytes
printed (Some c) bytes = number_text c

abbrev pub spelling : List ℕ → (ℕ → Option Frac) → Token → Bool → List ℕ
spelling bytes number_at token followed =
    printed (new_number number_at token followed) (slice_range bytes token.start token.end)

-- the bytes from a place on, with the tokens that are left there
abbrev pub respelled : List ℕ → (ℕ → Option Frac) → ℕ → List Token → List ℕ
respelled bytes number_at from [] = drop from bytes
respelled bytes number_at from (token ∷ tokens) =
    slice_range bytes from token.start
    ++ (spelling bytes number_at token (opens_unit (slice_get tokens 0)) ++ respelled bytes number_at token.end tokens)

abbrev pub IsRescaledText : List ℕ → ProgramTree → List ℕ → Type 0
IsRescaledText bytes q text =
    (tokens : List Token) × HasTokens (chars bytes) tokens
    × (text ≡ respelled bytes (literal_at (literals_of q.functions)) 0 tokens)
