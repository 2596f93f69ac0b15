-- The units that a program writes: what each unit has, its notes have, and what each closed one has, its literals.
use Rattle.std.proofs.Common.{ℕ, List, length, get_or, Option, Some, None}
use Rattle.std.proofs.lemmas.Option.{slice_get-get_or}
use Rattle.std.proofs.lemmas.List.Elements.{All-map}
use Rattle.std.specs.Prelude.{All}
use Rattle.um_units.specs.PowerMap.{PowerMap}
use Rattle.um_units.specs.Variables.{IsClosed}
use Rattle.um_frac.specs.declared.number.Frac.{Frac}
use Rattle.um_tree.specs.declared.note.UnitNote.{UnitNote}
use Rattle.um_tree.specs.declared.note.UnitNote.TheVariants.{Hole, Written}
use Rattle.um_tree.specs.TypeTree.{TypeTree, bool_type, num_type, list_type, record_type, NoteTree, bool_note, num_note, list_note, record_note}
use Rattle.um_tree.specs.ExprTree.{ExprTree, ExprTrees, truth, number, local, call, negate, not_expr, pown, arith, compare, both, either, if, bind, split, nil, list_expr, cons, record_expr, field, none, more}
use Rattle.um_tree.specs.ProgramTree.{RecordTree, FunctionTree, ProgramTree}
use Rattle.um_tree.specs.Typing.{field_types}
use Rattle.um_tree.specs.Formed.{BasesBelow, IsNoteIn, IsTypeIn, IsNoteTreeIn, IsLiteral, IsFormedIn, AllFormedIn, ResultFormed}
use Rattle.um_tree.specs.Laws.{UnitNoteHas, NoteHas, ResultHas, TypeHas, ExprHas, ExprsHave, FunctionHas, ProgramHas, LiteralsAreClosed, FormedLiteralsAreClosed, FormedUnitsAreDeclared}

-- ---- what each unit has, notes and fields have
module _ (Has : PowerMap → Type 0) (has : (u : PowerMap) → Has u) where
  unit_note_has : (n : UnitNote) → UnitNoteHas Has n
  unit_note_has Hole = tt
  unit_note_has (Written u) = has u

  note_has : (n : NoteTree) → NoteHas Has n
  note_has bool_note = tt
  note_has (num_note n) = unit_note_has n
  note_has (list_note n) = note_has n
  note_has (record_note r ns) = λ k d below. unit_note_has (get_or ns k d)

  result_has : (o : Option NoteTree) → ResultHas Has o
  result_has None = tt
  result_has (Some n) = note_has n

  type_has : (t : TypeTree) → TypeHas Has t
  type_has bool_type = tt
  type_has (num_type u) = has u
  type_has (list_type t) = type_has t
  type_has (record_type r us) = λ k d below. has (get_or us k d)

-- ---- and what each closed unit has, closed literals
module _ (InNote InLiteral : PowerMap → Type 0) (has : (u : PowerMap) → InNote u) (closed_has : (u : PowerMap) → IsClosed u → InLiteral u) where
  literal_has : (n : UnitNote) → UnitNoteHas IsClosed n → UnitNoteHas InLiteral n
  literal_has Hole w = tt
  literal_has (Written u) w = closed_has u w

  mutual
    expr_has : (e : ExprTree) → LiteralsAreClosed e → ExprHas InNote InLiteral e
    expr_has (truth at b) w = tt
    expr_has (number at c n) w = literal_has n w
    expr_has (local at k) w = tt
    expr_has (call at j es) w = exprs_have es w
    expr_has (negate at a) w = expr_has a w
    expr_has (not_expr at a) w = expr_has a w
    expr_has (pown at a k) w = expr_has a w
    expr_has (arith at op a b) w = (expr_has a w.0, expr_has b w.1)
    expr_has (compare at sign a b) w = (expr_has a w.0, expr_has b w.1)
    expr_has (both at a b) w = (expr_has a w.0, expr_has b w.1)
    expr_has (either at a b) w = (expr_has a w.0, expr_has b w.1)
    expr_has (if at c a b) w = (expr_has c w.0, expr_has a w.1, expr_has b w.2)
    expr_has (bind at a b) w = (expr_has a w.0, expr_has b w.1)
    expr_has (split at l a b) w = (expr_has l w.0, expr_has a w.1, expr_has b w.2)
    expr_has (nil at n) w = note_has InNote has n
    expr_has (list_expr at es) w = exprs_have es w
    expr_has (cons at a b) w = (expr_has a w.0, expr_has b w.1)
    expr_has (record_expr at r es) w = exprs_have es w
    expr_has (field at r k a) w = expr_has a w

    exprs_have : (es : ExprTrees) → ExprsHave (λ u. Unit {0}) IsClosed es → ExprsHave InNote InLiteral es
    exprs_have none w = tt
    exprs_have (more e es) w = (expr_has e w.0, exprs_have es w.1)

  pub function_has : (f : FunctionTree) → LiteralsAreClosed f.body → FunctionHas InNote InLiteral f
  function_has f w = record {
    params = λ k d below. note_has InNote has (get_or f.params k d);
    result = result_has InNote has f.result;
    body = expr_has f.body w;
  }

pub records_have : (Has : PowerMap → Type 0) → ((u : PowerMap) → Has u) → (records : List RecordTree) → All (λ d. All (TypeHas Has) (field_types d)) records
records_have Has has records = λ k d below. λ m t inside. type_has Has has (get_or (field_types (get_or records k d)) m t)

-- ---- what two facts of each written unit come to
module _ (A B C : PowerMap → Type 0) (both_of : (u : PowerMap) → A u → B u → C u) where
  unit_note_both : (n : UnitNote) → UnitNoteHas A n → UnitNoteHas B n → UnitNoteHas C n
  unit_note_both Hole v w = tt
  unit_note_both (Written u) v w = both_of u v w

  note_both : (n : NoteTree) → NoteHas A n → NoteHas B n → NoteHas C n
  note_both bool_note v w = tt
  note_both (num_note n) v w = unit_note_both n v w
  note_both (list_note n) v w = note_both n v w
  note_both (record_note r ns) v w = λ k d below. unit_note_both (get_or ns k d) (v k d below) (w k d below)

  result_both : (o : Option NoteTree) → ResultHas A o → ResultHas B o → ResultHas C o
  result_both None v w = tt
  result_both (Some n) v w = note_both n v w

  type_both : (t : TypeTree) → TypeHas A t → TypeHas B t → TypeHas C t
  type_both bool_type v w = tt
  type_both (num_type u) v w = both_of u v w
  type_both (list_type t) v w = type_both t v w
  type_both (record_type r us) v w = λ k d below. both_of (get_or us k d) (v k d below) (w k d below)

module _
    (A B C A' B' C' : PowerMap → Type 0) (both_of : (u : PowerMap) → A u → B u → C u)
    (both_of' : (u : PowerMap) → A' u → B' u → C' u)
  where
    mutual
      expr_both : (e : ExprTree) → ExprHas A A' e → ExprHas B B' e → ExprHas C C' e
      expr_both (truth at b) v w = tt
      expr_both (number at c n) v w = unit_note_both A' B' C' both_of' n v w
      expr_both (local at k) v w = tt
      expr_both (call at j es) v w = exprs_both es v w
      expr_both (negate at a) v w = expr_both a v w
      expr_both (not_expr at a) v w = expr_both a v w
      expr_both (pown at a k) v w = expr_both a v w
      expr_both (arith at op a b) v w = (expr_both a v.0 w.0, expr_both b v.1 w.1)
      expr_both (compare at sign a b) v w = (expr_both a v.0 w.0, expr_both b v.1 w.1)
      expr_both (both at a b) v w = (expr_both a v.0 w.0, expr_both b v.1 w.1)
      expr_both (either at a b) v w = (expr_both a v.0 w.0, expr_both b v.1 w.1)
      expr_both (if at c a b) v w = (expr_both c v.0 w.0, expr_both a v.1 w.1, expr_both b v.2 w.2)
      expr_both (bind at a b) v w = (expr_both a v.0 w.0, expr_both b v.1 w.1)
      expr_both (split at l a b) v w = (expr_both l v.0 w.0, expr_both a v.1 w.1, expr_both b v.2 w.2)
      expr_both (nil at n) v w = note_both A B C both_of n v w
      expr_both (list_expr at es) v w = exprs_both es v w
      expr_both (cons at a b) v w = (expr_both a v.0 w.0, expr_both b v.1 w.1)
      expr_both (record_expr at r es) v w = exprs_both es v w
      expr_both (field at r k a) v w = expr_both a v w

      exprs_both : (es : ExprTrees) → ExprsHave A A' es → ExprsHave B B' es → ExprsHave C C' es
      exprs_both none v w = tt
      exprs_both (more e es) v w = (expr_both e v.0 w.0, exprs_both es v.1 w.1)

    function_both : (f : FunctionTree) → FunctionHas A A' f → FunctionHas B B' f → FunctionHas C C' f
    function_both f v w = record {
      params = λ k d below. note_both A B C both_of (get_or f.params k d) (v.params k d below) (w.params k d below);
      result = result_both A B C both_of f.result v.result w.result;
      body = expr_both f.body v.body w.body;
    }

    pub program_has_both : (p : ProgramTree) (i : ℕ) → ProgramHas A A' p i → ProgramHas B B' p i → ProgramHas C C' p i
    program_has_both p i v w = record {
      records = λ k d below. λ m t inside. type_both A B C both_of (get_or (field_types (get_or p.records k d)) m t) (v.records k d below m t inside) (w.records k d below m t inside);
      functions = λ j f low at. function_both f (v.functions j f low at) (w.functions j f low at);
    }

-- ---- formed literals are closed
literal_closed : (bases : ℕ) (c : Frac) (n : UnitNote) → IsLiteral bases c n → UnitNoteHas IsClosed n
literal_closed bases c Hole w = tt
literal_closed bases c (Written u) w = w.0

module _ (p : ProgramTree) (i : ℕ) (f : FunctionTree) where
  mutual
    pub formed_closed : (n : ℕ) (e : ExprTree) → IsFormedIn p i f n e → LiteralsAreClosed e
    formed_closed n (truth at b) w = tt
    formed_closed n (number at c note) w = literal_closed _ c note w
    formed_closed n (local at k) w = tt
    formed_closed n (call at j es) w = all_formed_closed n es w.1
    formed_closed n (negate at a) w = formed_closed n a w
    formed_closed n (not_expr at a) w = formed_closed n a w
    formed_closed n (pown at a k) w = formed_closed n a w
    formed_closed n (arith at op a b) w = (formed_closed n a w.0, formed_closed n b w.1)
    formed_closed n (compare at sign a b) w = (formed_closed n a w.0, formed_closed n b w.1)
    formed_closed n (both at a b) w = (formed_closed n a w.0, formed_closed n b w.1)
    formed_closed n (either at a b) w = (formed_closed n a w.0, formed_closed n b w.1)
    formed_closed n (if at c a b) w = (formed_closed n c w.0, formed_closed n a w.1, formed_closed n b w.2)
    formed_closed n (bind at a b) w = (formed_closed n a w.0, formed_closed _ b w.1)
    formed_closed n (split at l a b) w = (formed_closed n l w.0, formed_closed n a w.1, formed_closed _ b w.2)
    formed_closed n (nil at note) w = note_has (λ u. Unit {0}) (λ u. tt) note
    formed_closed n (list_expr at es) w = all_formed_closed n es w.1
    formed_closed n (cons at a b) w = (formed_closed n a w.0, formed_closed n b w.1)
    formed_closed n (record_expr at r es) w = all_formed_closed n es w.1
    formed_closed n (field at r k a) w = formed_closed n a w.1

    all_formed_closed : (n : ℕ) (es : ExprTrees) → AllFormedIn p i f n es → ExprsHave (λ u. Unit {0}) IsClosed es
    all_formed_closed n none w = tt
    all_formed_closed n (more e es) w = (formed_closed n e w.0, all_formed_closed n es w.1)

pub formed_literals_are_closed : FormedLiteralsAreClosed
formed_literals_are_closed p i formed j f low at = formed_closed p j f _ f.body (formed.functions j f at).body

-- ---- formed units are declared
unit_note_declared : (bases vars : ℕ) (n : UnitNote) → IsNoteIn bases vars n → UnitNoteHas (BasesBelow bases) n
unit_note_declared bases vars Hole w = tt
unit_note_declared bases vars (Written u) w = w.0

note_declared : (bases vars : ℕ) (records : List RecordTree) (n : NoteTree) → IsNoteTreeIn bases vars records n → NoteHas (BasesBelow bases) n
note_declared bases vars records bool_note w = tt
note_declared bases vars records (num_note n) w = unit_note_declared bases vars n w
note_declared bases vars records (list_note n) w = note_declared bases vars records n w
note_declared bases vars records (record_note r ns) w = λ k d below. unit_note_declared bases vars (get_or ns k d) (w.1 k d below)

type_declared : (bases vars : ℕ) (records : List RecordTree) (t : TypeTree) → IsTypeIn bases vars records t → TypeHas (BasesBelow bases) t
type_declared bases vars records bool_type w = tt
type_declared bases vars records (num_type u) w = w.0
type_declared bases vars records (list_type t) w = type_declared bases vars records t w
type_declared bases vars records (record_type r us) w = λ k d below. (w.1 k d below).0

literal_declared : (bases : ℕ) (c : Frac) (n : UnitNote) → IsLiteral bases c n → UnitNoteHas (λ u. IsClosed u × BasesBelow bases u) n
literal_declared bases c Hole w = tt
literal_declared bases c (Written u) w = w

module _ (p : ProgramTree) (i : ℕ) (f : FunctionTree) where
  abbrev Declared : ExprTree → Type 0
  Declared e = ExprHas (BasesBelow (length p.bases)) (λ u. IsClosed u × BasesBelow (length p.bases) u) e

  abbrev AllDeclared : ExprTrees → Type 0
  AllDeclared es = ExprsHave (BasesBelow (length p.bases)) (λ u. IsClosed u × BasesBelow (length p.bases) u) es

  mutual
    declared : (n : ℕ) (e : ExprTree) → IsFormedIn p i f n e → Declared e
    declared n (truth at b) w = tt
    declared n (number at c note) w = literal_declared _ c note w
    declared n (local at k) w = tt
    declared n (call at j es) w = all_declared n es w.1
    declared n (negate at a) w = declared n a w
    declared n (not_expr at a) w = declared n a w
    declared n (pown at a k) w = declared n a w
    declared n (arith at op a b) w = (declared n a w.0, declared n b w.1)
    declared n (compare at sign a b) w = (declared n a w.0, declared n b w.1)
    declared n (both at a b) w = (declared n a w.0, declared n b w.1)
    declared n (either at a b) w = (declared n a w.0, declared n b w.1)
    declared n (if at c a b) w = (declared n c w.0, declared n a w.1, declared n b w.2)
    declared n (bind at a b) w = (declared n a w.0, declared _ b w.1)
    declared n (split at l a b) w = (declared n l w.0, declared n a w.1, declared _ b w.2)
    declared n (nil at note) w = note_declared _ _ _ note w.0
    declared n (list_expr at es) w = all_declared n es w.1
    declared n (cons at a b) w = (declared n a w.0, declared n b w.1)
    declared n (record_expr at r es) w = all_declared n es w.1
    declared n (field at r k a) w = declared n a w.1

    all_declared : (n : ℕ) (es : ExprTrees) → AllFormedIn p i f n es → AllDeclared es
    all_declared n none w = tt
    all_declared n (more e es) w = (declared n e w.0, all_declared n es w.1)

result_declared : (p : ProgramTree) (f : FunctionTree) (o : Option NoteTree) → ResultFormed p f o → ResultHas (BasesBelow (length p.bases)) o
result_declared p f None w = tt
result_declared p f (Some n) w = note_declared _ _ _ n w.0

pub formed_units_are_declared : FormedUnitsAreDeclared
formed_units_are_declared p i formed = record {
  records = λ r d below.
      let here = formed.records r (get_or p.records r d) (slice_get-get_or p.records r d below) in
      All-map (TypeHas (BasesBelow (length p.bases))) (λ f. f.type) (get_or p.records r d).fields
      (λ k e inside. type_declared _ _ _ (get_or (get_or p.records r d).fields k e).type (here.fields k e inside).0);
  functions = λ j f low at. let w = formed.functions j f at in record {
    params = λ k d below. note_declared _ _ _ (get_or f.params k d) (w.params k d below).0;
    result = result_declared p f f.result w.result;
    body = declared p j f _ f.body w.body;
  };
}
