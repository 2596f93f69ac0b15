-- The rows that the rule of each node forms, if no part has a wrong shape, are those of the node's agreements.
use Rattle.std.proofs.Common.{◌≡◌, ℕ, ℤ, suc, Bool, true, false, cond, List, [], ◌∷◌, ◌++◌, map, length, nat_eq, Option, Some, None, slice_get, refl, sym, ap, ◌∙◌, subst}
use Rattle.std.specs.List.{flat_map}
use Rattle.std.proofs.lemmas.Grind.{flat_map-append}
use Rattle.std.proofs.lemmas.List.{append-nil}
use Rattle.um_frac.specs.declared.number.Frac.{Frac}
use Rattle.um_frac.specs.Fraction.{numerator}
use Rattle.um_units.specs.Terms.{is_zero}
use Rattle.um_units.specs.PowerMap.{PowerMap}
use Rattle.um_tree.specs.declared.note.UnitNote.{UnitNote}
use Rattle.um_tree.specs.declared.note.UnitNote.TheVariants.{Hole, Written}
use Rattle.um_tree.specs.declared.expression.Arith.{Arith}
use Rattle.um_tree.specs.declared.expression.Arith.TheVariants.{Add, Sub, Mul, Div}
use Rattle.um_tree.specs.TypeTree.{TypeTree, bool_type, num_type, list_type, record_type}
use Rattle.um_tree.specs.ProgramTree.{RecordTree, Signature}
use Rattle.um_tree.specs.Typing.{put, unit_at, field_types}
use Rattle.um_equal_types.specs.declared.row.Row.{Row}
use Rattle.um_equal_types.specs.Steps.{Step, row_at, wrong_shape_at, type_at, rows_of}
use Rattle.um_equal_types.specs.Against.{never, against, types_against, against_each}
use Rattle.um_rows.specs.Rules.{formed, asks_bool, asks_list, number_rule, local_rule, call_rule, negate_rule, not_rule, pown_rule, truths_rule, arith_rule, compare_rule, if_rule, split_rule, nil_rule, list_rule, cons_rule, record_rule, declared_rule, found_rule, field_rule}
use Rattle.um_rows.specs.RightShapes.{HaveRightShapes}
use Rattle.um_equal_types.proofs.PushLaws.{rows_of-append}
use Rattle.um_agree.specs.declared.rule.Rule.{Rule}
use Rattle.um_agree.specs.declared.rule.Rule.TheVariants as asks
use Rattle.um_agree.specs.Agreements.{Agreement, agreement_rows}
use Rattle.um_agree.specs.Made.{AllRight}
use Rattle.um_agree.specs.NodeAgreements.{agree, agree_each, agree_with, arith_agreements, call_agreements, list_agreements, cons_agreements, record_agreements}

-- ---- steps after steps
pub right_front : (a b : List Step) → HaveRightShapes (a ++ b) → HaveRightShapes a
right_front [] b h = tt
right_front (row_at at u ∷ a) b h = right_front a b h
right_front (wrong_shape_at at ∷ a) b h = absurd h
right_front (type_at at t ∷ a) b h = right_front a b h

pub right_back : (a b : List Step) → HaveRightShapes (a ++ b) → HaveRightShapes b
right_back [] b h = h
right_back (row_at at u ∷ a) b h = right_back a b h
right_back (wrong_shape_at at ∷ a) b h = absurd h
right_back (type_at at t ∷ a) b h = right_back a b h

abbrev pub rows_asked : List Agreement → List Row
rows_asked agreements = flat_map agreement_rows agreements

-- the rows of the steps are those of the agreements, whose two types have the same shape
abbrev pub AreAsked : List Step → List Agreement → Type 0
AreAsked steps agreements = (rows_of steps ≡ rows_asked agreements) × AllRight agreements

right_both : (ones bs : List Agreement) → AllRight ones → AllRight bs → AllRight (ones ++ bs)
right_both [] bs h k = k
right_both (a ∷ ones) bs h k = (h.0, right_both ones bs h.1 k)

pub asked_both : (a b : List Step) (ones bs : List Agreement) → AreAsked a ones → AreAsked b bs → AreAsked (a ++ b) (ones ++ bs)
asked_both a b ones bs h k = (rows_of-append a b ∙ (λ i. h.0 i ++ k.0 i) ∙ sym (flat_map-append agreement_rows ones bs), right_both ones bs h.1 k.1)

-- ---- one agreement, and several
pub one_asked : (rule : Rule) (at : ℕ) (s t : TypeTree) → HaveRightShapes (against at s t) → AreAsked (against at s t) (agree rule at s t ∷ [])
one_asked rule at s t h = (sym (append-nil (rows_of (against at s t))), (h, tt))

each_asked : (rule : ℕ → Rule) (k at : ℕ) (ss ts : List TypeTree) → HaveRightShapes (types_against at ss ts) → AreAsked (types_against at ss ts) (agree_each rule k at ss ts)
each_asked rule k at [] [] h = (refl, tt)
each_asked rule k at (s ∷ ss) (t ∷ ts) h =
    let rest = each_asked rule (suc k) at ss ts (right_back (against at s t) (types_against at ss ts) h) in (
      rows_of-append (against at s t) (types_against at ss ts) ∙ ap (λ rs. rows_of (against at s t) ++ rs) rest.0,
      (right_front (against at s t) (types_against at ss ts) h, rest.1),
    )
each_asked rule k at [] (t ∷ ts) h = absurd h
each_asked rule k at (s ∷ ss) [] h = absurd h

with_asked : (rule : ℕ → Rule) (k at : ℕ) (s : TypeTree) (ts : List TypeTree) → HaveRightShapes (against_each at s ts) → AreAsked (against_each at s ts) (agree_with rule k at s ts)
with_asked rule k at s [] h = (refl, tt)
with_asked rule k at s (t ∷ ts) h =
    let rest = with_asked rule (suc k) at s ts (right_back (against at s t) (against_each at s ts) h) in (
      rows_of-append (against at s t) (against_each at s ts) ∙ ap (λ rs. rows_of (against at s t) ++ rs) rest.0,
      (right_front (against at s t) (against_each at s ts) h, rest.1),
    )

-- ---- the nodes
module _ (at : ℕ) where
  formed_asked : (rows : List Step) (t : TypeTree) (ones : List Agreement) → AreAsked rows ones → AreAsked (formed at rows t).steps ones
  formed_asked rows t ones h = (rows_of-append rows (type_at at t ∷ []) ∙ append-nil (rows_of rows) ∙ h.0, h.1)

  back_formed : (a b : List Step) (t : TypeTree) → HaveRightShapes (formed at (a ++ b) t).steps → HaveRightShapes b
  back_formed a b t h = right_back a b (right_front (a ++ b) (type_at at t ∷ []) h)

  bool_empty : (t : TypeTree) → HaveRightShapes (asks_bool at t) → asks_bool at t ≡ []
  bool_empty bool_type h = refl
  bool_empty t h = absurd h

  list_empty : (t : TypeTree) → HaveRightShapes (asks_list at t) → asks_list at t ≡ []
  list_empty (list_type t) h = refl
  list_empty t h = absurd h

  -- steps that are none, and others
  empty_first : (a b : List Step) (ones : List Agreement) → a ≡ [] → AreAsked b ones → AreAsked (a ++ b) ones
  empty_first a b ones none h = subst (λ x. AreAsked (x ++ b) ones) (sym none) h

  front_formed : (a b : List Step) (t : TypeTree) → HaveRightShapes (formed at (a ++ b) t).steps → HaveRightShapes a
  front_formed a b t h = right_front a b (right_front (a ++ b) (type_at at t ∷ []) h)

  pub number_asked : (c : Frac) (n : UnitNote) (u : PowerMap) → HaveRightShapes (number_rule at c n u).steps → AreAsked (number_rule at c n u).steps []
  number_asked c (Written w) u h = (refl, tt)
  number_asked c Hole u h = by (is_zero (numerator c)) h where
    by : (b : Bool) → HaveRightShapes (formed at (cond b [] (never at)) (num_type u)).steps → AreAsked (formed at (cond b [] (never at)) (num_type u)).steps []
    by true h = (refl, tt)
    by false h = absurd h

  pub local_asked : (o : Option TypeTree) → HaveRightShapes (local_rule at o).steps → AreAsked (local_rule at o).steps []
  local_asked (Some t) h = (refl, tt)
  local_asked None h = absurd h

  pub call_asked : (j : ℕ) (o : Option Signature) (ts : List TypeTree) → HaveRightShapes (call_rule at o ts).steps → AreAsked (call_rule at o ts).steps (call_agreements at j o ts)
  call_asked j (Some g) ts h =
      formed_asked (types_against at g.params ts) g.result (agree_each (asks.Argument j) 1 at g.params ts)
      (each_asked (asks.Argument j) 1 at g.params ts (right_front (types_against at g.params ts) (type_at at g.result ∷ []) h))
  call_asked j None ts h = absurd h

  pub negate_asked : (t : TypeTree) → HaveRightShapes (negate_rule at t).steps → AreAsked (negate_rule at t).steps []
  negate_asked (num_type u) h = (refl, tt)
  negate_asked t h = absurd h

  pub not_asked : (t : TypeTree) → HaveRightShapes (not_rule at t).steps → AreAsked (not_rule at t).steps []
  not_asked t h =
      formed_asked (asks_bool at t) bool_type [] (ap rows_of (bool_empty t (right_front (asks_bool at t) (type_at at bool_type ∷ []) h)), tt)

  pub pown_asked : (k : ℤ) (t : TypeTree) → HaveRightShapes (pown_rule at k t).steps → AreAsked (pown_rule at k t).steps []
  pown_asked k (num_type u) h = (refl, tt)
  pown_asked k t h = absurd h

  pub truths_asked : (s t : TypeTree) → HaveRightShapes (truths_rule at s t).steps → AreAsked (truths_rule at s t).steps []
  truths_asked s t h =
      let inner = right_front (asks_bool at s ++ asks_bool at t) (type_at at bool_type ∷ []) h in
      let first = bool_empty s (right_front (asks_bool at s) (asks_bool at t) inner) in
      let second = bool_empty t (right_back (asks_bool at s) (asks_bool at t) inner) in
      formed_asked (asks_bool at s ++ asks_bool at t) bool_type [] ((λ i. rows_of (first i ++ second i)), tt)

  pub arith_asked : (op : Arith) (s t : TypeTree) → HaveRightShapes (arith_rule at op s t).steps → AreAsked (arith_rule at op s t).steps (arith_agreements at op s t)
  arith_asked Add (num_type u) (num_type v) h = (refl, (tt, tt))
  arith_asked Sub (num_type u) (num_type v) h = (refl, (tt, tt))
  arith_asked Mul (num_type u) (num_type v) h = (refl, tt)
  arith_asked Div (num_type u) (num_type v) h = (refl, tt)
  arith_asked op (num_type u) t h = absurd h
  arith_asked op s t h = absurd h

  pub compare_asked : (s t : TypeTree) → HaveRightShapes (compare_rule at s t).steps → AreAsked (compare_rule at s t).steps (agree asks.Comparison at s t ∷ [])
  compare_asked (num_type u) (num_type v) h = (refl, (tt, tt))
  compare_asked (num_type u) t h = absurd h
  compare_asked s t h = absurd h

  pub if_asked : (c s t : TypeTree) → HaveRightShapes (if_rule at c s t).steps → AreAsked (if_rule at c s t).steps (agree asks.Branches at s t ∷ [])
  if_asked c s t h =
      formed_asked (asks_bool at c ++ against at s t) s (agree asks.Branches at s t ∷ [])
      (empty_first (asks_bool at c) (against at s t) (agree asks.Branches at s t ∷ []) (bool_empty c (front_formed (asks_bool at c) (against at s t) s h))
      (one_asked asks.Branches at s t (back_formed (asks_bool at c) (against at s t) s h)))

  pub split_asked : (l s t : TypeTree) → HaveRightShapes (split_rule at l s t).steps → AreAsked (split_rule at l s t).steps (agree asks.Arms at s t ∷ [])
  split_asked l s t h =
      formed_asked (asks_list at l ++ against at s t) s (agree asks.Arms at s t ∷ [])
      (empty_first (asks_list at l) (against at s t) (agree asks.Arms at s t ∷ []) (list_empty l (front_formed (asks_list at l) (against at s t) s h))
      (one_asked asks.Arms at s t (back_formed (asks_list at l) (against at s t) s h)))

  pub nil_asked : (t : TypeTree) → HaveRightShapes (nil_rule at t).steps → AreAsked (nil_rule at t).steps []
  nil_asked t h = formed_asked (asks_list at t) t [] (ap rows_of (list_empty t (right_front (asks_list at t) (type_at at t ∷ []) h)), tt)

  pub list_asked : (ts : List TypeTree) → HaveRightShapes (list_rule at ts).steps → AreAsked (list_rule at ts).steps (list_agreements at ts)
  list_asked [] h = absurd h
  list_asked (t ∷ ts) h = formed_asked (against_each at t ts) (list_type t) (agree_with asks.Item 2 at t ts) (with_asked asks.Item 2 at t ts (right_front (against_each at t ts) (type_at at (list_type t) ∷ []) h))

  pub cons_asked : (s t : TypeTree) → HaveRightShapes (cons_rule at s t).steps → AreAsked (cons_rule at s t).steps (cons_agreements at s t)
  cons_asked s (list_type t) h = formed_asked (against at s t) (list_type t) (agree asks.Head at s t ∷ []) (one_asked asks.Head at s t (right_front (against at s t) (type_at at (list_type t) ∷ []) h))
  cons_asked s t h = absurd h

  pub record_asked : (r : ℕ) (us : List PowerMap) (o : Option RecordTree) (ts : List TypeTree) → HaveRightShapes (record_rule at r us o ts).steps → AreAsked (record_rule at r us o ts).steps (record_agreements at r us o ts)
  record_asked r us (Some d) ts h =
      let fields = map (put (unit_at us)) (field_types d) in
      formed_asked (types_against at fields ts) (record_type r us) (agree_each (asks.Part r) 0 at fields ts)
      (each_asked (asks.Part r) 0 at fields ts (right_front (types_against at fields ts) (type_at at (record_type r us) ∷ []) h))
  record_asked r us None ts h = absurd h

  declared_asked : (us : List PowerMap) (b : Bool) (o : Option TypeTree) → HaveRightShapes (declared_rule at us b o).steps → AreAsked (declared_rule at us b o).steps []
  declared_asked us true (Some t) h = (refl, tt)
  declared_asked us b o h = absurd h

  found_asked : (k : ℕ) (us : List PowerMap) (b : Bool) (o : Option RecordTree) → HaveRightShapes (found_rule at k us b o).steps → AreAsked (found_rule at k us b o).steps []
  found_asked k us true (Some d) h = declared_asked us (nat_eq (length us) d.units) (slice_get (field_types d) k) h
  found_asked k us b o h = absurd h

  pub field_asked : (r k : ℕ) (o : Option RecordTree) (t : TypeTree) → HaveRightShapes (field_rule at r k o t).steps → AreAsked (field_rule at r k o t).steps []
  field_asked r k o (record_type q us) h = found_asked k us (nat_eq q r) o h
  field_asked r k o t h = absurd h
