-- The grammar of expressions: a relation between tokens and raw expressions, by cases on the expression.
--   expr  = "let" binder "=" expr "in" expr | "if" expr "then" expr "else" expr
--         | "match" expr "with" [ "|" ] "[" "]" "->" expr "|" binder "::" binder "->" expr | or
--   or    = and { "||" and }          and = cmp { "&&" cmp }        both associate to the left
--   cmp   = cons [ sign cons ]        sign = "<" | "<=" | "=" | "<>" | ">" | ">" and "=" directly after it
--   cons  = add [ "::" cons ]
--   add   = mul { ( "+" | "-" ) mul } mul = un { ( "*" | "/" ) un } both associate to the left
--   un    = "-" un | app
--   app   = Name atom { atom } | "not" atom | "pown" atom Number | "pown" atom "(" "-" Number ")" | atom
--   atom  = prim { "." Name }
--   prim  = Number [ "<" note ">" ] | "true" | "false" | Name | "(" expr ")" | "(" "[" "]" ":" type ")"
--         | "[" expr { ";" expr } "]" | "{" Name "=" expr { ";" Name "=" expr } "}"
-- Each level is a rank, so the relation has one case for each form of expression.
-- Source: the F# specification, chapter Expressions, for the forms that this language has.
use Rattle.std.specs.Prelude.{◌≡◌, ℕ, ℤ, pos, neg_ℤ, ◌≤◌, ◌<◌, true, false, ◌⊎◌, List, [], ◌∷◌, ◌++◌, Option, Some}
use Rattle.std.specs.Prelude.{None}
use Rattle.um_frac.specs.declared.number.Frac.{Frac}
use Rattle.um_syntax.specs.declared.token.Token.{Token}
use Rattle.um_tree.specs.declared.expression.Sign.TheVariants as compare
use Rattle.um_tree.specs.RawTree.{NoteSyntax, TypeSyntax, BinderSyntax, ExprSyntax, ExprSyntaxes, FieldSyntaxes}
use Rattle.um_tree.specs.RawTree.{truth_syntax, number_syntax, name_syntax, call_syntax, negate_syntax, not_syntax}
use Rattle.um_tree.specs.RawTree.{pown_syntax, arith_syntax, compare_syntax, and_syntax, or_syntax, if_syntax}
use Rattle.um_tree.specs.RawTree.{let_syntax, match_syntax, nil_syntax, list_syntax, cons_syntax, fields_syntax}
use Rattle.um_tree.specs.RawTree.{field_syntax, bracket_expr_syntax, no_exprs, more_exprs, no_fields, more_fields}
use Rattle.um_vocabulary.specs.declared.vocabulary.Keyword.TheVariants as keyword
use Rattle.um_vocabulary.specs.declared.vocabulary.Symbol.TheVariants as symbol
use Rattle.um_operands.specs.declared.infix.Infix.{Infix}
use Rattle.um_operands.specs.declared.infix.Infix.TheVariants as between
use Rattle.um_operands.specs.Ranks.{arith_rank}
use Rattle.um_forms.specs.declared.token.ExprToken.{ExprToken}
use Rattle.um_forms.specs.declared.token.ExprToken.TheVariants.{Name as name, Number as number, Truth as truth}
use Rattle.um_forms.specs.declared.token.ExprToken.TheVariants.{Hole as hole, Operator as operator, Word as word}
use Rattle.um_forms.specs.declared.token.ExprToken.TheVariants.{Mark as mark}
use Rattle.um_forms.specs.ExprTokens.{expr_token, equal, less, greater, minus, double_colon}
use Rattle.um_unit_texts.specs.UnitTokens.{unit_token}
use Rattle.um_unit_texts.specs.UnitMachine.{power_in}
use Rattle.um_types.specs.TypeGrammar.{NoteSpells, NoteFits, TypeSpells, TypeFits}

-- the first token is this, and the others are the rest
abbrev pub First : ExprToken → List Token → List Token → Type 0
First what tokens rest = (token : Token) × (expr_token token.kind ≡ what) × (tokens ≡ token ∷ rest)

-- the same, with its place
abbrev pub FirstAt : ExprToken → ℕ → List Token → List Token → Type 0
FirstAt what at tokens rest =
    (token : Token) × (expr_token token.kind ≡ what) × (token.start ≡ at) × (tokens ≡ token ∷ rest)

-- the same, directly after the token before it
abbrev pub FirstGlued : ExprToken → List Token → List Token → Type 0
FirstGlued what tokens rest =
    (token : Token) × (expr_token token.kind ≡ what) × (token.glued ≡ true) × (tokens ≡ token ∷ rest)

-- what is bound: a name, or `_`
abbrev pub bound : Option (List ℕ) → ExprToken
bound None = hole
bound (Some x) = name x

abbrev pub BinderSpells : BinderSyntax → List Token → List Token → Type 0
BinderSpells x tokens rest = FirstAt (bound x.name) x.at tokens rest

-- a number stands directly before the rest
abbrev pub AfterNumber : List Token → List Token → Type 0
AfterNumber tokens rest = (read last : List Token) × (c : Frac) × (tokens ≡ read ++ last) × First (number c) last rest

-- A sign between two operands, where the left one begins these tokens.
-- A `<` directly after a number is none: it opens a unit. `>=` is `>` and `=` directly after it, at the `>`.
abbrev pub InfixAt : Infix → List Token → ℕ → List Token → List Token → Type 0
InfixAt (between.Compare compare.Lt) left at tokens rest =
    (token : Token) × (expr_token token.kind ≡ less) × (token.start ≡ at)
    × (AfterNumber left tokens → token.glued ≡ false) × (tokens ≡ token ∷ rest)
InfixAt (between.Compare compare.Ge) left at tokens rest =
    (next : List Token) × FirstAt greater at tokens next × FirstGlued equal next rest
InfixAt sign left at tokens rest = FirstAt (operator sign) at tokens rest

-- the note of a number, directly after it
abbrev pub WrittenNote : Option NoteSyntax → List Token → List Token → Type 0
WrittenNote None tokens rest = tokens ≡ rest
WrittenNote (Some n) tokens rest =
    (next last : List Token) × FirstGlued less tokens next × NoteSpells n next last × First greater last rest

-- a number of digits alone, which has this value: as after `^` in a unit text
abbrev pub FirstPower : ℕ → List Token → List Token → Type 0
FirstPower n tokens rest =
    (token : Token) × (power_in (unit_token token.kind) ≡ Some n) × (tokens ≡ token ∷ rest)

-- the power of `pown`: such a number, or one after `-` in brackets
abbrev pub PowerSpells : ℤ → List Token → List Token → Type 0
PowerSpells k tokens rest =
    ((n : ℕ) × (k ≡ pos n) × FirstPower n tokens rest)
    ⊎ ((n : ℕ) × (sign digits close : List Token) × (k ≡ neg_ℤ (pos n)) × First (mark symbol.LeftParen) tokens sign
    × First minus sign digits × FirstPower n digits close × First (mark symbol.RightParen) close rest)

-- from `with` up to the `->` of the empty arm: the bar may be left out
abbrev pub EmptyArm : List Token → List Token → Type 0
EmptyArm tokens rest =
    (arm empty close arrow : List Token) × First (word keyword.With) tokens arm
    × ((arm ≡ empty) ⊎ First (mark symbol.Bar) arm empty)
    × First (mark symbol.LeftBracket) empty close × First (mark symbol.RightBracket) close arrow
    × First (mark symbol.Arrow) arrow rest

-- from the bar of the full arm up to its `->`
abbrev pub FullArm : BinderSyntax → BinderSyntax → List Token → List Token → Type 0
FullArm x y tokens rest =
    (head cons tail arrow : List Token) × First (mark symbol.Bar) tokens head × BinderSpells x head cons
    × First double_colon cons tail
    × BinderSpells y tail arrow × First (mark symbol.Arrow) arrow rest

-- the empty list with its type: `(` `[` `]` `:` T `)`
abbrev pub NilSpells : ℕ → TypeSyntax → List Token → List Token → Type 0
NilSpells at t tokens rest =
    (empty close colon written last : List Token) × FirstAt (mark symbol.LeftParen) at tokens empty
    × First (mark symbol.LeftBracket) empty close
    × First (mark symbol.RightBracket) close colon × First (mark symbol.Colon) colon written
    × TypeSpells t written last × First (mark symbol.RightParen) last rest

-- the tokens are those of the expression, and then the rest
abbrev mutual
  pub Spells : ExprSyntax → List Token → List Token → Type 0
  Spells (truth_syntax at b) tokens rest = FirstAt (truth b) at tokens rest
  Spells (number_syntax at c n) tokens rest =
      (next : List Token) × FirstAt (number c) at tokens next × WrittenNote n next rest
  Spells (name_syntax at x) tokens rest = FirstAt (name x) at tokens rest
  Spells (call_syntax at f args) tokens rest =
      (next : List Token) × FirstAt (name f) at tokens next × AllSpell args next rest
  Spells (negate_syntax at e) tokens rest = (next : List Token) × FirstAt minus at tokens next × Spells e next rest
  Spells (not_syntax at e) tokens rest =
      (next : List Token) × FirstAt (word keyword.Not) at tokens next × Spells e next rest
  Spells (pown_syntax at e k) tokens rest =
      (next mid : List Token) × FirstAt (word keyword.Pown) at tokens next × Spells e next mid × PowerSpells k mid rest
  Spells (arith_syntax at op a b) tokens rest =
      (mid next : List Token) × Spells a tokens mid × InfixAt (between.Arith op) tokens at mid next
      × Spells b next rest
  Spells (compare_syntax at sign a b) tokens rest =
      (mid next : List Token) × Spells a tokens mid × InfixAt (between.Compare sign) tokens at mid next
      × Spells b next rest
  Spells (and_syntax at a b) tokens rest =
      (mid next : List Token) × Spells a tokens mid × InfixAt between.And tokens at mid next
      × Spells b next rest
  Spells (or_syntax at a b) tokens rest =
      (mid next : List Token) × Spells a tokens mid × InfixAt between.Or tokens at mid next
      × Spells b next rest
  Spells (cons_syntax at a b) tokens rest =
      (mid next : List Token) × Spells a tokens mid
      × InfixAt between.Cons tokens at mid next × Spells b next rest
  Spells (if_syntax at c a b) tokens rest =
      (t t' e e' o : List Token) × FirstAt (word keyword.If) at tokens t × Spells c t t'
      × First (word keyword.Then) t' e × Spells a e e' × First (word keyword.Else) e' o × Spells b o rest
  Spells (let_syntax at x a b) tokens rest =
      (n e v v' o : List Token) × FirstAt (word keyword.Let) at tokens n × BinderSpells x n e × First equal e v
      × Spells a v v' × First (word keyword.In) v' o × Spells b o rest
  Spells (match_syntax at l a x y b) tokens rest =
      (m m' e e' o : List Token) × FirstAt (word keyword.Match) at tokens m × Spells l m m' × EmptyArm m' e
      × Spells a e e' × FullArm x y e' o × Spells b o rest
  Spells (nil_syntax at t) tokens rest = NilSpells at t tokens rest
  Spells (list_syntax at es) tokens rest =
      (next last : List Token) × FirstAt (mark symbol.LeftBracket) at tokens next × ItemsSpell es next last
      × First (mark symbol.RightBracket) last rest
  Spells (fields_syntax at fs) tokens rest =
      (next last : List Token) × FirstAt (mark symbol.LeftBrace) at tokens next × FieldsSpell fs next last
      × First (mark symbol.RightBrace) last rest
  Spells (field_syntax at place x e) tokens rest =
      (mid next : List Token) × Spells e tokens mid × FirstAt (mark symbol.Dot) at mid next
      × FirstAt (name x) place next rest
  Spells (bracket_expr_syntax at e) tokens rest =
      (next last : List Token) × FirstAt (mark symbol.LeftParen) at tokens next × Spells e next last
      × First (mark symbol.RightParen) last rest

  -- one after the other
  pub AllSpell : ExprSyntaxes → List Token → List Token → Type 0
  AllSpell no_exprs tokens rest = tokens ≡ rest
  AllSpell (more_exprs e es) tokens rest = (mid : List Token) × Spells e tokens mid × AllSpell es mid rest

  -- at least one, separated by `;`
  pub ItemsSpell : ExprSyntaxes → List Token → List Token → Type 0
  ItemsSpell no_exprs tokens rest = ⊥
  ItemsSpell (more_exprs e es) tokens rest = (mid : List Token) × Spells e tokens mid × MoreItems es mid rest

  pub MoreItems : ExprSyntaxes → List Token → List Token → Type 0
  MoreItems no_exprs tokens rest = tokens ≡ rest
  MoreItems (more_exprs e es) tokens rest =
      (next mid : List Token) × First (mark symbol.Semicolon) tokens next × Spells e next mid × MoreItems es mid rest

  -- at least one field, each with its name and `=`, separated by `;`
  pub FieldsSpell : FieldSyntaxes → List Token → List Token → Type 0
  FieldsSpell no_fields tokens rest = ⊥
  FieldsSpell (more_fields at x e fs) tokens rest =
      (sign value mid : List Token) × FirstAt (name x) at tokens sign × First equal sign value × Spells e value mid
      × MoreFields fs mid rest

  pub MoreFields : FieldSyntaxes → List Token → List Token → Type 0
  MoreFields no_fields tokens rest = tokens ≡ rest
  MoreFields (more_fields at x e fs) tokens rest =
      (next sign value mid : List Token) × First (mark symbol.Semicolon) tokens next × FirstAt (name x) at next sign
      × First equal sign value × Spells e value mid × MoreFields fs mid rest

abbrev pub rank : ExprSyntax → ℕ
rank (truth_syntax at b) = 0
rank (number_syntax at c n) = 0
rank (name_syntax at x) = 0
rank (call_syntax at f args) = 1
rank (negate_syntax at e) = 2
rank (not_syntax at e) = 1
rank (pown_syntax at e k) = 1
rank (arith_syntax at op a b) = arith_rank op
rank (compare_syntax at sign a b) = 6
rank (and_syntax at a b) = 7
rank (or_syntax at a b) = 8
rank (if_syntax at c a b) = 9
rank (let_syntax at x a b) = 9
rank (match_syntax at l a x y b) = 9
rank (nil_syntax at t) = 0
rank (list_syntax at es) = 0
rank (cons_syntax at a b) = 5
rank (fields_syntax at fs) = 0
rank (field_syntax at place x e) = 0
rank (bracket_expr_syntax at e) = 0

abbrev pub NoteFitsIn : Option NoteSyntax → Type 0
NoteFitsIn None = Unit {0}
NoteFitsIn (Some n) = NoteFits n

abbrev pub IsAny : ExprSyntaxes → Type 0
IsAny no_exprs = ⊥
IsAny (more_exprs e es) = Unit {0}

-- each part stands where the grammar lets it stand
abbrev mutual
  pub Fits : ExprSyntax → Type 0
  Fits (truth_syntax at b) = Unit {0}
  Fits (number_syntax at c n) = NoteFitsIn n
  Fits (name_syntax at x) = Unit {0}
  Fits (call_syntax at f args) = IsAny args × AreAtoms args
  Fits (negate_syntax at e) = (rank e ≤ 2) × Fits e
  Fits (not_syntax at e) = (rank e ≡ 0) × Fits e
  Fits (pown_syntax at e k) = (rank e ≡ 0) × Fits e
  Fits (arith_syntax at op a b) = (rank a ≤ arith_rank op) × (rank b < arith_rank op) × Fits a × Fits b
  Fits (compare_syntax at sign a b) = (rank a ≤ 5) × (rank b < 6) × Fits a × Fits b
  Fits (and_syntax at a b) = (rank a ≤ 7) × (rank b < 7) × Fits a × Fits b
  Fits (or_syntax at a b) = (rank a ≤ 8) × (rank b < 8) × Fits a × Fits b
  Fits (cons_syntax at a b) = (rank a ≤ 4) × (rank b < 6) × Fits a × Fits b
  Fits (if_syntax at c a b) = Fits c × Fits a × Fits b
  Fits (let_syntax at x a b) = Fits a × Fits b
  Fits (match_syntax at l a x y b) = Fits l × Fits a × Fits b
  Fits (nil_syntax at t) = TypeFits t
  Fits (list_syntax at es) = AllFit es
  Fits (fields_syntax at fs) = FieldsFit fs
  Fits (field_syntax at place x e) = (rank e ≡ 0) × Fits e
  Fits (bracket_expr_syntax at e) = Fits e

  pub AreAtoms : ExprSyntaxes → Type 0
  AreAtoms no_exprs = Unit {0}
  AreAtoms (more_exprs e es) = (rank e ≡ 0) × Fits e × AreAtoms es

  pub AllFit : ExprSyntaxes → Type 0
  AllFit no_exprs = Unit {0}
  AllFit (more_exprs e es) = Fits e × AllFit es

  pub FieldsFit : FieldSyntaxes → Type 0
  FieldsFit no_fields = Unit {0}
  FieldsFit (more_fields at x e fs) = Fits e × FieldsFit fs

-- the tokens are this expression
pub record IsExpr (tokens : List Token) (e : ExprSyntax) : Type 0 where
  pub spelled : Spells e tokens []
  pub fits : Fits e
