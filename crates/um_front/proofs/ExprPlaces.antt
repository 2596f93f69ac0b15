-- What holds of the place of each token holds of the places in expressions that are read from the tokens.
use Rattle.std.proofs.Common.{◌≡◌, ℕ, List, inl, inr, ◌⊎◌, Option, Some, None, subst}
use Rattle.um_syntax.specs.declared.token.Token.{Token}
use Rattle.um_vocabulary.specs.declared.vocabulary.Symbol.TheVariants as symbol
use Rattle.um_tree.specs.declared.expression.Sign.TheVariants as sign
use Rattle.um_tree.specs.RawTree.{NoteSyntax, TypeSyntax, BinderSyntax, ExprSyntax, ExprSyntaxes, FieldSyntaxes, truth_syntax, number_syntax, name_syntax, call_syntax, negate_syntax, not_syntax, pown_syntax, arith_syntax, compare_syntax, and_syntax, or_syntax, if_syntax, let_syntax, match_syntax, nil_syntax, list_syntax, cons_syntax, fields_syntax, field_syntax, bracket_expr_syntax, no_exprs, more_exprs, no_fields, more_fields}
use Rattle.um_operands.specs.declared.infix.Infix.{Infix}
use Rattle.um_operands.specs.declared.infix.Infix.TheVariants as between
use Rattle.um_forms.specs.declared.token.ExprToken.{ExprToken}
use Rattle.um_forms.specs.declared.token.ExprToken.TheVariants.{Mark as mark}
use Rattle.um_expr.specs.ExprGrammar.{First, FirstAt, FirstGlued, InfixAt, EmptyArm, FullArm, WrittenNote, NilSpells, NoteFitsIn, Spells, AllSpell, ItemsSpell, MoreItems, FieldsSpell, MoreFields, Fits, AreAtoms, AllFit, FieldsFit}
use Rattle.um_types.specs.TypeGrammar.{at_most_one, TypeFits}
use Rattle.um_front.proofs.TokensLeft.{expr_leaves}
use Rattle.um_front.proofs.TokenPlaces.{AllStarts}
use Rattle.um_front.proofs.NotePlaces.{leaves_starts, NotesHold, TypeHolds, note_holds, type_holds}

module _ (P : ℕ → Type 0) where
  abbrev mutual
    -- P holds of the place of each node, name and unit
    pub NodesHold : ExprSyntax → Type 0
    NodesHold (truth_syntax at b) = P at
    NodesHold (number_syntax at c n) = P at × NotesHold P (at_most_one n)
    NodesHold (name_syntax at x) = P at
    NodesHold (call_syntax at f args) = P at × EachHolds args
    NodesHold (negate_syntax at e) = P at × NodesHold e
    NodesHold (not_syntax at e) = P at × NodesHold e
    NodesHold (pown_syntax at e k) = P at × NodesHold e
    NodesHold (arith_syntax at op a b) = P at × NodesHold a × NodesHold b
    NodesHold (compare_syntax at s a b) = P at × NodesHold a × NodesHold b
    NodesHold (and_syntax at a b) = P at × NodesHold a × NodesHold b
    NodesHold (or_syntax at a b) = P at × NodesHold a × NodesHold b
    NodesHold (if_syntax at c a b) = P at × NodesHold c × NodesHold a × NodesHold b
    NodesHold (let_syntax at x a b) = P at × NodesHold a × NodesHold b
    NodesHold (match_syntax at l a x y b) = P at × NodesHold l × NodesHold a × NodesHold b × P y.at
    NodesHold (nil_syntax at t) = P at × TypeHolds P t
    NodesHold (list_syntax at es) = P at × EachHolds es
    NodesHold (cons_syntax at a b) = P at × NodesHold a × NodesHold b
    NodesHold (fields_syntax at fs) = P at × FieldsHold fs
    NodesHold (field_syntax at place x e) = P at × NodesHold e × P place
    NodesHold (bracket_expr_syntax at e) = NodesHold e

    pub EachHolds : ExprSyntaxes → Type 0
    EachHolds no_exprs = Unit {0}
    EachHolds (more_exprs e es) = NodesHold e × EachHolds es

    pub FieldsHold : FieldSyntaxes → Type 0
    FieldsHold no_fields = Unit {0}
    FieldsHold (more_fields at x e fs) = NodesHold e × FieldsHold fs × P at

  abbrev Starts : List Token → Type 0
  Starts tokens = AllStarts P tokens

  -- ---- what is left of the tokens

  after_first : (what : ExprToken) (tokens rest : List Token) → First what tokens rest → Starts tokens → Starts rest
  after_first what tokens rest f h = (subst Starts f.2 h).1

  after_at : (what : ExprToken) (at : ℕ) (tokens rest : List Token) → FirstAt what at tokens rest → Starts tokens → Starts rest
  after_at what at tokens rest f h = (subst Starts f.3 h).1

  after_glued : (what : ExprToken) (tokens rest : List Token) → FirstGlued what tokens rest → Starts tokens → Starts rest
  after_glued what tokens rest f h = (subst Starts f.3 h).1

  first_at : (what : ExprToken) (at : ℕ) (tokens rest : List Token) → FirstAt what at tokens rest → Starts tokens → P at
  first_at what at tokens rest f h = subst P f.2 (subst Starts f.3 h).0

  after_expr : (e : ExprSyntax) (tokens rest : List Token) → Spells e tokens rest → Fits e → Starts tokens → Starts rest
  after_expr e tokens rest s fits h = leaves_starts P tokens rest (expr_leaves e tokens rest s fits) h

  infix_at : (i : Infix) (left : List Token) (at : ℕ) (tokens rest : List Token) → InfixAt i left at tokens rest → Starts tokens → P at × Starts rest
  infix_at (between.Compare sign.Lt) left at tokens rest s h = let all = subst Starts s.4 h in (subst P s.2 all.0, all.1)
  infix_at (between.Compare sign.Ge) left at tokens rest s h = (first_at _ at tokens s.0 s.1 h, after_glued _ s.0 rest s.2 (after_at _ at tokens s.0 s.1 h))
  infix_at (between.Compare sign.Le) left at tokens rest s h = (first_at _ at tokens rest s h, after_at _ at tokens rest s h)
  infix_at (between.Compare sign.Gt) left at tokens rest s h = (first_at _ at tokens rest s h, after_at _ at tokens rest s h)
  infix_at (between.Compare sign.Eq) left at tokens rest s h = (first_at _ at tokens rest s h, after_at _ at tokens rest s h)
  infix_at (between.Compare sign.Ne) left at tokens rest s h = (first_at _ at tokens rest s h, after_at _ at tokens rest s h)
  infix_at between.Or left at tokens rest s h = (first_at _ at tokens rest s h, after_at _ at tokens rest s h)
  infix_at between.And left at tokens rest s h = (first_at _ at tokens rest s h, after_at _ at tokens rest s h)
  infix_at between.Cons left at tokens rest s h = (first_at _ at tokens rest s h, after_at _ at tokens rest s h)
  infix_at (between.Arith op) left at tokens rest s h = (first_at _ at tokens rest s h, after_at _ at tokens rest s h)

  after_empty_arm : (tokens rest : List Token) → EmptyArm tokens rest → Starts tokens → Starts rest
  after_empty_arm tokens rest s h =
      after_first _ s.3 rest s.8 (after_first _ s.2 s.3 s.7 (after_first _ s.1 s.2 s.6 (bar s.5 (after_first _ tokens s.0 s.4 h))))
    where
      bar : (s.0 ≡ s.1) ⊎ First (mark symbol.Bar) s.0 s.1 → Starts s.0 → Starts s.1
      bar (inl e) k = subst Starts e k
      bar (inr b) k = after_first _ s.0 s.1 b k

  -- the place of the second name, in a full arm
  tail_at : (x y : BinderSyntax) (tokens rest : List Token) → FullArm x y tokens rest → Starts tokens → P y.at
  tail_at x y tokens rest s h = first_at _ y.at s.2 s.3 s.7 (after_first _ s.1 s.2 s.6 (after_at _ x.at s.0 s.1 s.5 (after_first _ tokens s.0 s.4 h)))

  after_full_arm : (x y : BinderSyntax) (tokens rest : List Token) → FullArm x y tokens rest → Starts tokens → Starts rest
  after_full_arm x y tokens rest s h =
      after_first _ s.3 rest s.8 (after_at _ y.at s.2 s.3 s.7 (after_first _ s.1 s.2 s.6 (after_at _ x.at s.0 s.1 s.5 (after_first _ tokens s.0 s.4 h))))

  -- ---- expressions

  number_note : (n : Option NoteSyntax) (tokens rest : List Token) → WrittenNote n tokens rest → NoteFitsIn n → Starts tokens → NotesHold P (at_most_one n)
  number_note None tokens rest s fits h = tt
  number_note (Some n) tokens rest s fits h = (note_holds P n s.0 s.1 s.3 fits (after_glued _ tokens s.0 s.2 h), tt)

  nil_type : (at : ℕ) (t : TypeSyntax) (tokens rest : List Token) → NilSpells at t tokens rest → TypeFits t → Starts tokens → TypeHolds P t
  nil_type at t tokens rest s fits h =
      type_holds P t s.3 s.4 s.9 fits (after_first _ s.2 s.3 s.8 (after_first _ s.1 s.2 s.7 (after_first _ s.0 s.1 s.6 (after_at _ at tokens s.0 s.5 h))))

  mutual
    pub nodes_hold : (e : ExprSyntax) (tokens rest : List Token) → Spells e tokens rest → Fits e → Starts tokens → NodesHold e
    nodes_hold (truth_syntax at b) tokens rest s fits h = first_at _ at tokens rest s h
    nodes_hold (number_syntax at c n) tokens rest s fits h = (first_at _ at tokens s.0 s.1 h, number_note n s.0 rest s.2 fits (after_at _ at tokens s.0 s.1 h))
    nodes_hold (name_syntax at x) tokens rest s fits h = first_at _ at tokens rest s h
    nodes_hold (call_syntax at f args) tokens rest s fits h = (first_at _ at tokens s.0 s.1 h, atoms_hold args s.0 rest s.2 fits.1 (after_at _ at tokens s.0 s.1 h))
    nodes_hold (negate_syntax at e) tokens rest s fits h = (first_at _ at tokens s.0 s.1 h, nodes_hold e s.0 rest s.2 fits.1 (after_at _ at tokens s.0 s.1 h))
    nodes_hold (not_syntax at e) tokens rest s fits h = (first_at _ at tokens s.0 s.1 h, nodes_hold e s.0 rest s.2 fits.1 (after_at _ at tokens s.0 s.1 h))
    nodes_hold (pown_syntax at e k) tokens rest s fits h = (first_at _ at tokens s.0 s.2 h, nodes_hold e s.0 s.1 s.3 fits.1 (after_at _ at tokens s.0 s.2 h))
    nodes_hold (arith_syntax at op a b) tokens rest s fits h =
        let i = infix_at (between.Arith op) tokens at s.0 s.1 s.3 (after_expr a tokens s.0 s.2 fits.2 h) in
        (i.0, nodes_hold a tokens s.0 s.2 fits.2 h, nodes_hold b s.1 rest s.4 fits.3 i.1)
    nodes_hold (compare_syntax at c a b) tokens rest s fits h =
        let i = infix_at (between.Compare c) tokens at s.0 s.1 s.3 (after_expr a tokens s.0 s.2 fits.2 h) in
        (i.0, nodes_hold a tokens s.0 s.2 fits.2 h, nodes_hold b s.1 rest s.4 fits.3 i.1)
    nodes_hold (and_syntax at a b) tokens rest s fits h =
        let i = infix_at between.And tokens at s.0 s.1 s.3 (after_expr a tokens s.0 s.2 fits.2 h) in
        (i.0, nodes_hold a tokens s.0 s.2 fits.2 h, nodes_hold b s.1 rest s.4 fits.3 i.1)
    nodes_hold (or_syntax at a b) tokens rest s fits h =
        let i = infix_at between.Or tokens at s.0 s.1 s.3 (after_expr a tokens s.0 s.2 fits.2 h) in
        (i.0, nodes_hold a tokens s.0 s.2 fits.2 h, nodes_hold b s.1 rest s.4 fits.3 i.1)
    nodes_hold (cons_syntax at a b) tokens rest s fits h =
        let i = infix_at between.Cons tokens at s.0 s.1 s.3 (after_expr a tokens s.0 s.2 fits.2 h) in
        (i.0, nodes_hold a tokens s.0 s.2 fits.2 h, nodes_hold b s.1 rest s.4 fits.3 i.1)
    nodes_hold (if_syntax at c a b) tokens rest s fits h =
        let test = after_at _ at tokens s.0 s.5 h in
        let one = after_first _ s.1 s.2 s.7 (after_expr c s.0 s.1 s.6 fits.0 test) in
        let two = after_first _ s.3 s.4 s.9 (after_expr a s.2 s.3 s.8 fits.1 one) in
        (first_at _ at tokens s.0 s.5 h, nodes_hold c s.0 s.1 s.6 fits.0 test, nodes_hold a s.2 s.3 s.8 fits.1 one, nodes_hold b s.4 rest s.10 fits.2 two)
    nodes_hold (let_syntax at x a b) tokens rest s fits h =
        let one = after_first _ s.1 s.2 s.7 (after_at _ x.at s.0 s.1 s.6 (after_at _ at tokens s.0 s.5 h)) in
        let two = after_first _ s.3 s.4 s.9 (after_expr a s.2 s.3 s.8 fits.0 one) in
        (first_at _ at tokens s.0 s.5 h, nodes_hold a s.2 s.3 s.8 fits.0 one, nodes_hold b s.4 rest s.10 fits.1 two)
    nodes_hold (match_syntax at l a x y b) tokens rest s fits h =
        let list = after_at _ at tokens s.0 s.5 h in
        let one = after_empty_arm s.1 s.2 s.7 (after_expr l s.0 s.1 s.6 fits.0 list) in
        let two = after_full_arm x y s.3 s.4 s.9 (after_expr a s.2 s.3 s.8 fits.1 one) in
        (first_at _ at tokens s.0 s.5 h, nodes_hold l s.0 s.1 s.6 fits.0 list, nodes_hold a s.2 s.3 s.8 fits.1 one, nodes_hold b s.4 rest s.10 fits.2 two, tail_at x y s.3 s.4 s.9 (after_expr a s.2 s.3 s.8 fits.1 one))
    nodes_hold (nil_syntax at t) tokens rest s fits h = (first_at _ at tokens s.0 s.5 h, nil_type at t tokens rest s fits h)
    nodes_hold (list_syntax at es) tokens rest s fits h = (first_at _ at tokens s.0 s.2 h, items_hold es s.0 s.1 s.3 fits (after_at _ at tokens s.0 s.2 h))
    nodes_hold (fields_syntax at fs) tokens rest s fits h = (first_at _ at tokens s.0 s.2 h, fields_hold fs s.0 s.1 s.3 fits (after_at _ at tokens s.0 s.2 h))
    nodes_hold (field_syntax at place x e) tokens rest s fits h =
        let dot = after_expr e tokens s.0 s.2 fits.1 h in
        (first_at _ at s.0 s.1 s.3 dot, nodes_hold e tokens s.0 s.2 fits.1 h, first_at _ place s.1 rest s.4 (after_at _ at s.0 s.1 s.3 dot))
    nodes_hold (bracket_expr_syntax at e) tokens rest s fits h = nodes_hold e s.0 s.1 s.3 fits (after_at _ at tokens s.0 s.2 h)

    atoms_hold : (es : ExprSyntaxes) (tokens rest : List Token) → AllSpell es tokens rest → AreAtoms es → Starts tokens → EachHolds es
    atoms_hold no_exprs tokens rest s fits h = tt
    atoms_hold (more_exprs e es) tokens rest s fits h =
        (nodes_hold e tokens s.0 s.1 fits.1 h, atoms_hold es s.0 rest s.2 fits.2 (after_expr e tokens s.0 s.1 fits.1 h))

    items_hold : (es : ExprSyntaxes) (tokens rest : List Token) → ItemsSpell es tokens rest → AllFit es → Starts tokens → EachHolds es
    items_hold no_exprs tokens rest s fits h = tt
    items_hold (more_exprs e es) tokens rest s fits h =
        (nodes_hold e tokens s.0 s.1 fits.0 h, more_items_hold es s.0 rest s.2 fits.1 (after_expr e tokens s.0 s.1 fits.0 h))

    more_items_hold : (es : ExprSyntaxes) (tokens rest : List Token) → MoreItems es tokens rest → AllFit es → Starts tokens → EachHolds es
    more_items_hold no_exprs tokens rest s fits h = tt
    more_items_hold (more_exprs e es) tokens rest s fits h =
        let here = after_first _ tokens s.0 s.2 h in
        (nodes_hold e s.0 s.1 s.3 fits.0 here, more_items_hold es s.1 rest s.4 fits.1 (after_expr e s.0 s.1 s.3 fits.0 here))

    fields_hold : (fs : FieldSyntaxes) (tokens rest : List Token) → FieldsSpell fs tokens rest → FieldsFit fs → Starts tokens → FieldsHold fs
    fields_hold no_fields tokens rest s fits h = tt
    fields_hold (more_fields at x e fs) tokens rest s fits h =
        let here = after_first _ s.0 s.1 s.4 (after_at _ at tokens s.0 s.3 h) in
        (nodes_hold e s.1 s.2 s.5 fits.0 here, more_fields_hold fs s.2 rest s.6 fits.1 (after_expr e s.1 s.2 s.5 fits.0 here), first_at _ at tokens s.0 s.3 h)

    more_fields_hold : (fs : FieldSyntaxes) (tokens rest : List Token) → MoreFields fs tokens rest → FieldsFit fs → Starts tokens → FieldsHold fs
    more_fields_hold no_fields tokens rest s fits h = tt
    more_fields_hold (more_fields at x e fs) tokens rest s fits h =
        let here = after_first _ s.1 s.2 s.6 (after_at _ at s.0 s.1 s.5 (after_first _ tokens s.0 s.4 h)) in
        (nodes_hold e s.2 s.3 s.7 fits.0 here, more_fields_hold fs s.3 rest s.8 fits.1 (after_expr e s.2 s.3 s.7 fits.0 here), first_at _ at s.0 s.1 s.5 (after_first _ tokens s.0 s.4 h))
