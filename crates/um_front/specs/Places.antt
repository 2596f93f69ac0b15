-- Places of a text, and the places of the nodes of a program and of refusals.
-- Source: this project's own; characters are those of UTF-8 (RFC 3629).
use Rattle.std.specs.Prelude.{◌≡◌, ℕ, ◌≤◌, ◌⊎◌, All, List, ◌∷◌, ◌++◌, length, take, drop}
use Rattle.std.specs.Str.{IsUtf8}
use Rattle.um_syntax.specs.declared.token.Token.{Token}
use Rattle.um_syntax.specs.declared.token.LexStop.{LexStop}
use Rattle.um_syntax.specs.declared.token.LexStop.TheVariants as lex_stop
use Rattle.um_types.specs.declared.parse.ParseStop.{ParseStop}
use Rattle.um_types.specs.declared.parse.ParseStop.TheVariants as parse_stop
use Rattle.um_measures.specs.declared.stop.NameStop.{NameStop}
use Rattle.um_measures.specs.declared.stop.NameStop.TheVariants as name_stop
use Rattle.um_tree.specs.ProgramTree.{ProgramTree}
use Rattle.um_tree.specs.ExprTree.{ExprTree, ExprTrees, truth, number, local, call, negate, not_expr, pown, arith}
use Rattle.um_tree.specs.ExprTree.{compare, both, either, if, bind, split, nil, list_expr, cons, record_expr, field}
use Rattle.um_tree.specs.ExprTree.{none, more}

-- a place before a character of the text, or at its end
pub record IsPlace (bytes : List ℕ) (at : ℕ) : Type 0 where
  pub within : at ≤ length bytes
  pub before : IsUtf8 (take at bytes)
  pub after : IsUtf8 (drop at bytes)

-- a token begins at the place
abbrev pub BeginsToken : List Token → ℕ → Type 0
BeginsToken tokens at =
    (before after : List Token) × (token : Token) × (tokens ≡ before ++ token ∷ after) × (token.start ≡ at)

-- a token begins at the place, or the text ends there
abbrev pub BeginsTokenOrEnds : List Token → ℕ → ℕ → Type 0
BeginsTokenOrEnds tokens end at = BeginsToken tokens at ⊎ (at ≡ end)

module _ (P : ℕ → Type 0) where
  abbrev mutual
    -- P holds of the place of each node of the expression
    pub EachPlace : ExprTree → Type 0
    EachPlace (truth at b) = P at
    EachPlace (number at c n) = P at
    EachPlace (local at k) = P at
    EachPlace (call at j es) = P at × EachPlaceOf es
    EachPlace (negate at x) = P at × EachPlace x
    EachPlace (not_expr at x) = P at × EachPlace x
    EachPlace (pown at x k) = P at × EachPlace x
    EachPlace (arith at op x y) = P at × EachPlace x × EachPlace y
    EachPlace (compare at sign x y) = P at × EachPlace x × EachPlace y
    EachPlace (both at x y) = P at × EachPlace x × EachPlace y
    EachPlace (either at x y) = P at × EachPlace x × EachPlace y
    EachPlace (if at x y z) = P at × EachPlace x × EachPlace y × EachPlace z
    EachPlace (bind at x y) = P at × EachPlace x × EachPlace y
    EachPlace (split at x y z) = P at × EachPlace x × EachPlace y × EachPlace z
    EachPlace (nil at n) = P at
    EachPlace (list_expr at es) = P at × EachPlaceOf es
    EachPlace (cons at x y) = P at × EachPlace x × EachPlace y
    EachPlace (record_expr at r es) = P at × EachPlaceOf es
    EachPlace (field at r k x) = P at × EachPlace x

    -- of each of some expressions
    pub EachPlaceOf : ExprTrees → Type 0
    EachPlaceOf none = Unit {0}
    EachPlaceOf (more e es) = EachPlace e × EachPlaceOf es

  -- P holds of the places where a program declares a record or a function, and of each node
  pub record EachProgramPlace (p : ProgramTree) : Type 0 where
    pub records : All (λ d. P d.at) p.records
    pub functions : All (λ f. P f.at × EachPlace f.body) p.functions

  -- ---- P holds of the place of a refusal; want of memory has none

  abbrev pub LexPlace : LexStop → Type 0
  LexPlace (lex_stop.BadChar at) = P at
  LexPlace (lex_stop.NumberRange at) = P at
  LexPlace (lex_stop.PowerText at) = P at
  LexPlace lex_stop.NoMemory = Unit {0}

  abbrev pub ParsePlace : ParseStop → Type 0
  ParsePlace (parse_stop.Syntax at) = P at
  ParsePlace (parse_stop.Limit kind at) = P at
  ParsePlace parse_stop.NoMemory = Unit {0}

  abbrev pub NamePlace : NameStop → Type 0
  NamePlace (name_stop.Unknown at) = P at
  NamePlace (name_stop.Twice at) = P at
  NamePlace (name_stop.WrongCount at) = P at
  NamePlace (name_stop.Hole at) = P at
  NamePlace (name_stop.Range at) = P at
  NamePlace name_stop.NoMemory = Unit {0}
