-- Units put for the variables of rows and types: what is put before the typing rules are followed can be put after them.
use Rattle.std.proofs.Common.{◌≡◌, ℕ, zero, suc, ◌+◌, eqb, Bool, true, false, cond, List, [], ◌∷◌, ◌++◌, map, length, Option, Some, None, slice_get, ℤ, refl, sym, ap, ◌∙◌}
use Rattle.std.specs.Option.{option_map}
use Rattle.std.proofs.lemmas.List.{length-map, map-append}
use Rattle.std.proofs.lemmas.Option.{slice_get-map}
use Rattle.um_frac.specs.declared.number.Frac.{Frac}
use Rattle.um_frac.specs.Fraction.{numerator}
use Rattle.um_units.specs.Terms.{is_zero}
use Rattle.um_units.specs.PowerMap.{PowerMap, mul, inv, replace}
use Rattle.um_units.proofs.Replacement.{replace-mul, replace-inv, replace-pow, replace-base, replace-replace}
use Rattle.um_tree.specs.declared.note.UnitNote.{UnitNote}
use Rattle.um_tree.specs.declared.note.UnitNote.TheVariants.{Hole, Written}
use Rattle.um_tree.specs.declared.expression.Arith.{Arith}
use Rattle.um_tree.specs.declared.expression.Arith.TheVariants.{Add, Sub, Mul, Div}
use Rattle.um_tree.specs.TypeTree.{TypeTree, bool_type, num_type, list_type, record_type, NoteTree, bool_note, num_note, list_note, record_note}
use Rattle.um_tree.specs.ExprTree.{ExprTree, ExprTrees, truth, number, local, call, negate, not_expr, pown, arith as arith_tree, compare, both, either, if, bind, split, nil, list_expr, cons, record_expr, field, none, more}
use Rattle.um_tree.specs.ProgramTree.{RecordTree, FunctionTree, SchemeTree, Signature}
use Rattle.um_tree.specs.Typing.{put, put_signature, unit_at, field_types}
use Rattle.um_slots.specs.Holes.{unit_holes, note_holes, notes_holes, Callee, known_by, itself, nobody, callee_holes, record_holes, expr_holes}
use Rattle.um_slots.specs.Noted.{noted_unit, noted_units, noted_type, noted_types, noted_result}
use Rattle.um_slots.specs.Callees.{callee, head_holes}
use Rattle.um_equal_types.specs.declared.row.Row.{Row}
use Rattle.um_equal_types.specs.Steps.{Step, row_at, wrong_shape_at, type_at, types_at, rows_of}
use Rattle.um_equal_types.specs.Against.{never, unit_against, units_against, against, types_against, against_each}
use Rattle.um_rows.specs.Rules.{Derived, AllDerived, after, formed, asks_bool, asks_list, item, asks_zero, number_rule, local_rule, call_rule, negate_rule, not_rule, pown_rule, truths_rule, units_rule, arith_rule, compare_rule, if_rule, split_rule, nil_rule, list_rule, cons_rule, record_rule, declared_rule, found_rule, field_rule}
use Rattle.um_rows.specs.Derivation.{first_units, offered, derive, derive_all}
use Rattle.um_rows.specs.Equations.{result_rows, own_signature, head_steps, equations}
use Rattle.um_rows.proofs.PutTypes.{signature_put-put, put-field, put-fields}

module _ (v : ℕ → PowerMap) where
  abbrev pub replaced_step : Step → Step
  replaced_step (row_at at u) = row_at at (replace v u)
  replaced_step (wrong_shape_at at) = wrong_shape_at at
  replaced_step (type_at at t) = type_at at (put v t)

  abbrev pub replaced_steps : List Step → List Step
  replaced_steps ss = map replaced_step ss

  abbrev pub replaced : Derived → Derived
  replaced d = record { type = put v d.type; steps = replaced_steps d.steps }

  abbrev pub replaced_all : AllDerived → AllDerived
  replaced_all ds = record { types = map (put v) ds.types; steps = replaced_steps ds.steps }

  abbrev pub replaced_row : Row → Row
  replaced_row r = record { at = r.at; unit = replace v r.unit }

  -- the rows among replaced steps
  pub replaced_rows : (ss : List Step) → rows_of (replaced_steps ss) ≡ map replaced_row (rows_of ss)
  replaced_rows [] = refl
  replaced_rows (row_at at u ∷ ss) = ap (λ (rs : List Row). record { at = at; unit = replace v u } ∷ rs) (replaced_rows ss)
  replaced_rows (wrong_shape_at at ∷ ss) = let base = sym (replace-base v 0) in λ i. record { at = at; unit = base i } ∷ replaced_rows ss i
  replaced_rows (type_at at t ∷ ss) = replaced_rows ss

  steps-append : (a b : List Step) → replaced_steps a ++ replaced_steps b ≡ replaced_steps (a ++ b)
  steps-append a b = sym (map-append replaced_step a b)

  -- ---- two types that must be equal
  quotient : (at : ℕ) (u w : PowerMap) → unit_against at (replace v u) (replace v w) ≡ replaced_step (unit_against at u w)
  quotient at u w = ap (row_at at) (sym (replace-mul v u (inv w) ∙ ap (mul (replace v u)) (replace-inv v w)))

  units_put : (at : ℕ) (us ws : List PowerMap) → units_against at (map (replace v) us) (map (replace v) ws) ≡ replaced_steps (units_against at us ws)
  units_put at [] [] = refl
  units_put at [] (w ∷ ws) = refl
  units_put at (u ∷ us) [] = refl
  units_put at (u ∷ us) (w ∷ ws) = λ i. quotient at u w i ∷ units_put at us ws i

  against_put : (at : ℕ) (s t : TypeTree) → against at (put v s) (put v t) ≡ replaced_steps (against at s t)
  against_put at bool_type bool_type = refl
  against_put at bool_type (num_type w) = refl
  against_put at bool_type (list_type t) = refl
  against_put at bool_type (record_type q ws) = refl
  against_put at (num_type u) bool_type = refl
  against_put at (num_type u) (num_type w) = λ i. quotient at u w i ∷ []
  against_put at (num_type u) (list_type t) = refl
  against_put at (num_type u) (record_type q ws) = refl
  against_put at (list_type s) bool_type = refl
  against_put at (list_type s) (num_type w) = refl
  against_put at (list_type s) (list_type t) = against_put at s t
  against_put at (list_type s) (record_type q ws) = refl
  against_put at (record_type r us) bool_type = refl
  against_put at (record_type r us) (num_type w) = refl
  against_put at (record_type r us) (list_type t) = refl
  against_put at (record_type r us) (record_type q ws) = by (eqb r q)
    where
      by : (b : Bool) → cond b (units_against at (map (replace v) us) (map (replace v) ws)) (never at) ≡ replaced_steps (cond b (units_against at us ws) (never at))
      by true = units_put at us ws
      by false = refl

  types_put : (at : ℕ) (ss ts : List TypeTree) → types_against at (map (put v) ss) (map (put v) ts) ≡ replaced_steps (types_against at ss ts)
  types_put at [] [] = refl
  types_put at [] (t ∷ ts) = refl
  types_put at (s ∷ ss) [] = refl
  types_put at (s ∷ ss) (t ∷ ts) = (λ i. against_put at s t i ++ types_put at ss ts i) ∙ steps-append (against at s t) (types_against at ss ts)

  each_put : (at : ℕ) (s : TypeTree) (ts : List TypeTree) → against_each at (put v s) (map (put v) ts) ≡ replaced_steps (against_each at s ts)
  each_put at s [] = refl
  each_put at s (t ∷ ts) = (λ i. against_put at s t i ++ each_put at s ts i) ∙ steps-append (against at s t) (against_each at s ts)

  -- ---- the rules of nodes
  formed_put : (at : ℕ) (rows : List Step) (t : TypeTree) → formed at (replaced_steps rows) (put v t) ≡ replaced (formed at rows t)
  formed_put at rows t = λ i. record { type = put v t; steps = steps-append rows (type_at at t ∷ []) i }

  formed_as : (at : ℕ) (given rows : List Step) (t : TypeTree) → given ≡ replaced_steps rows → formed at given (put v t) ≡ replaced (formed at rows t)
  formed_as at given rows t same = ap (λ ss. formed at ss (put v t)) same ∙ formed_put at rows t

  after_put : (ss : List Step) (d : Derived) → after (replaced_steps ss) (replaced d) ≡ replaced (after ss d)
  after_put ss d = λ i. record { type = put v d.type; steps = steps-append ss d.steps i }

  bool_put : (at : ℕ) (t : TypeTree) → asks_bool at (put v t) ≡ replaced_steps (asks_bool at t)
  bool_put at bool_type = refl
  bool_put at (num_type u) = refl
  bool_put at (list_type t) = refl
  bool_put at (record_type r us) = refl

  list_put : (at : ℕ) (t : TypeTree) → asks_list at (put v t) ≡ replaced_steps (asks_list at t)
  list_put at bool_type = refl
  list_put at (num_type u) = refl
  list_put at (list_type t) = refl
  list_put at (record_type r us) = refl

  item_put : (t : TypeTree) → item (put v t) ≡ put v (item t)
  item_put bool_type = refl
  item_put (num_type u) = refl
  item_put (list_type t) = refl
  item_put (record_type r us) = refl

  zero_put : (at : ℕ) (c : Frac) (n : UnitNote) → asks_zero at c n ≡ replaced_steps (asks_zero at c n)
  zero_put at c Hole = by (is_zero (numerator c))
    where
      by : (b : Bool) → cond b [] (never at) ≡ replaced_steps (cond b [] (never at))
      by true = refl
      by false = refl
  zero_put at c (Written u) = refl

  number_put : (at : ℕ) (c : Frac) (n : UnitNote) (u : PowerMap) → number_rule at c n (replace v u) ≡ replaced (number_rule at c n u)
  number_put at c n u = formed_as at (asks_zero at c n) (asks_zero at c n) (num_type u) (zero_put at c n)

  local_put : (at : ℕ) (o : Option TypeTree) → local_rule at (option_map (put v) o) ≡ replaced (local_rule at o)
  local_put at None = refl
  local_put at (Some t) = refl

  call_put : (at : ℕ) (o : Option Signature) (ts : List TypeTree) → call_rule at (option_map (put_signature v) o) (map (put v) ts) ≡ replaced (call_rule at o ts)
  call_put at None ts = refl
  call_put at (Some g) ts = formed_as at (types_against at (map (put v) g.params) (map (put v) ts)) (types_against at g.params ts) g.result (types_put at g.params ts)

  negate_put : (at : ℕ) (t : TypeTree) → negate_rule at (put v t) ≡ replaced (negate_rule at t)
  negate_put at bool_type = refl
  negate_put at (num_type u) = refl
  negate_put at (list_type t) = refl
  negate_put at (record_type r us) = refl

  not_put : (at : ℕ) (t : TypeTree) → not_rule at (put v t) ≡ replaced (not_rule at t)
  not_put at t = formed_as at (asks_bool at (put v t)) (asks_bool at t) bool_type (bool_put at t)

  pown_put : (at : ℕ) (k : ℤ) (t : TypeTree) → pown_rule at k (put v t) ≡ replaced (pown_rule at k t)
  pown_put at k bool_type = refl
  pown_put at k (num_type u) = ap (λ w. formed at [] (num_type w)) (sym (replace-pow v u k))
  pown_put at k (list_type t) = refl
  pown_put at k (record_type r us) = refl

  truths_put : (at : ℕ) (s t : TypeTree) → truths_rule at (put v s) (put v t) ≡ replaced (truths_rule at s t)
  truths_put at s t =
      formed_as at (asks_bool at (put v s) ++ asks_bool at (put v t)) (asks_bool at s ++ asks_bool at t) bool_type
      ((λ i. bool_put at s i ++ bool_put at t i) ∙ steps-append (asks_bool at s) (asks_bool at t))

  units_rule_put : (at : ℕ) (op : Arith) (u w : PowerMap) → units_rule at op (replace v u) (replace v w) ≡ replaced (units_rule at op u w)
  units_rule_put at Add u w = ap (λ s. formed at (s ∷ []) (num_type (replace v u))) (quotient at u w)
  units_rule_put at Sub u w = ap (λ s. formed at (s ∷ []) (num_type (replace v u))) (quotient at u w)
  units_rule_put at Mul u w = ap (λ x. formed at [] (num_type x)) (sym (replace-mul v u w))
  units_rule_put at Div u w = ap (λ x. formed at [] (num_type x)) (sym (replace-mul v u (inv w) ∙ ap (mul (replace v u)) (replace-inv v w)))

  arith_put : (at : ℕ) (op : Arith) (s t : TypeTree) → arith_rule at op (put v s) (put v t) ≡ replaced (arith_rule at op s t)
  arith_put at op (num_type u) (num_type w) = units_rule_put at op u w
  arith_put at op (num_type u) bool_type = refl
  arith_put at op (num_type u) (list_type t) = refl
  arith_put at op (num_type u) (record_type r us) = refl
  arith_put at op bool_type t = refl
  arith_put at op (list_type s) t = refl
  arith_put at op (record_type r us) t = refl

  compare_put : (at : ℕ) (s t : TypeTree) → compare_rule at (put v s) (put v t) ≡ replaced (compare_rule at s t)
  compare_put at (num_type u) (num_type w) = ap (λ s. formed at (s ∷ []) bool_type) (quotient at u w)
  compare_put at (num_type u) bool_type = refl
  compare_put at (num_type u) (list_type t) = refl
  compare_put at (num_type u) (record_type r us) = refl
  compare_put at bool_type t = refl
  compare_put at (list_type s) t = refl
  compare_put at (record_type r us) t = refl

  if_put : (at : ℕ) (c s t : TypeTree) → if_rule at (put v c) (put v s) (put v t) ≡ replaced (if_rule at c s t)
  if_put at c s t =
      formed_as at (asks_bool at (put v c) ++ against at (put v s) (put v t)) (asks_bool at c ++ against at s t) s
      ((λ i. bool_put at c i ++ against_put at s t i) ∙ steps-append (asks_bool at c) (against at s t))

  split_put : (at : ℕ) (l s t : TypeTree) → split_rule at (put v l) (put v s) (put v t) ≡ replaced (split_rule at l s t)
  split_put at l s t =
      formed_as at (asks_list at (put v l) ++ against at (put v s) (put v t)) (asks_list at l ++ against at s t) s
      ((λ i. list_put at l i ++ against_put at s t i) ∙ steps-append (asks_list at l) (against at s t))

  nil_put : (at : ℕ) (t : TypeTree) → nil_rule at (put v t) ≡ replaced (nil_rule at t)
  nil_put at t = formed_as at (asks_list at (put v t)) (asks_list at t) t (list_put at t)

  items_put : (at : ℕ) (ts : List TypeTree) → list_rule at (map (put v) ts) ≡ replaced (list_rule at ts)
  items_put at [] = refl
  items_put at (t ∷ ts) = formed_as at (against_each at (put v t) (map (put v) ts)) (against_each at t ts) (list_type t) (each_put at t ts)

  cons_put : (at : ℕ) (s t : TypeTree) → cons_rule at (put v s) (put v t) ≡ replaced (cons_rule at s t)
  cons_put at s bool_type = refl
  cons_put at s (num_type u) = refl
  cons_put at s (list_type t) = formed_as at (against at (put v s) (put v t)) (against at s t) (list_type t) (against_put at s t)
  cons_put at s (record_type r us) = refl

  record_put : (at r : ℕ) (us : List PowerMap) (o : Option RecordTree) (ts : List TypeTree) → record_rule at r (map (replace v) us) o (map (put v) ts) ≡ replaced (record_rule at r us o ts)
  record_put at r us None ts = refl
  record_put at r us (Some d) ts =
      let declared = map (put (unit_at us)) (field_types d) in
      formed_as at (types_against at (map (put (unit_at (map (replace v) us))) (field_types d)) (map (put v) ts)) (types_against at declared ts) (record_type r us)
      (ap (λ ss. types_against at ss (map (put v) ts)) (sym (put-fields v us (field_types d))) ∙ types_put at declared ts)

  declared_put : (at : ℕ) (us : List PowerMap) (b : Bool) (o : Option TypeTree) → declared_rule at (map (replace v) us) b o ≡ replaced (declared_rule at us b o)
  declared_put at us true None = refl
  declared_put at us true (Some t) = ap (formed at []) (sym (put-field v us t))
  declared_put at us false o = refl

  found_put : (at k : ℕ) (us : List PowerMap) (b : Bool) (o : Option RecordTree) → found_rule at k (map (replace v) us) b o ≡ replaced (found_rule at k us b o)
  found_put at k us true None = refl
  found_put at k us true (Some d) =
      ap (λ n. declared_rule at (map (replace v) us) (eqb n d.units) (slice_get (field_types d) k)) (length-map us (replace v))
      ∙ declared_put at us (eqb (length us) d.units) (slice_get (field_types d) k)
  found_put at k us false o = refl

  field_put : (at r k : ℕ) (o : Option RecordTree) (t : TypeTree) → field_rule at r k o (put v t) ≡ replaced (field_rule at r k o t)
  field_put at r k o bool_type = refl
  field_put at r k o (num_type u) = refl
  field_put at r k o (list_type t) = refl
  field_put at r k o (record_type q us) = found_put at k us (eqb q r) o

  -- ---- notes
  module _ (f m : ℕ → PowerMap) where
    abbrev after_f : ℕ → PowerMap
    after_f k = replace v (f k)

    abbrev after_m : ℕ → PowerMap
    after_m k = replace v (m k)

    unit_put : (n : ℕ) (x : UnitNote) → noted_unit after_f after_m n x ≡ replace v (noted_unit f m n x)
    unit_put n Hole = refl
    unit_put n (Written u) = sym (replace-replace m v u)

    noted_units_put : (n : ℕ) (xs : List UnitNote) → noted_units after_f after_m n xs ≡ map (replace v) (noted_units f m n xs)
    noted_units_put n [] = refl
    noted_units_put n (x ∷ xs) = λ i. unit_put n x i ∷ noted_units_put (n + unit_holes x) xs i

    pub note_put : (n : ℕ) (x : NoteTree) → noted_type after_f after_m n x ≡ put v (noted_type f m n x)
    note_put n bool_note = refl
    note_put n (num_note x) = ap num_type (unit_put n x)
    note_put n (list_note x) = ap list_type (note_put n x)
    note_put n (record_note r xs) = ap (record_type r) (noted_units_put n xs)

    pub notes_put : (n : ℕ) (xs : List NoteTree) → noted_types after_f after_m n xs ≡ map (put v) (noted_types f m n xs)
    notes_put n [] = refl
    notes_put n (x ∷ xs) = λ i. note_put n x i ∷ notes_put (n + note_holes x) xs i

    result_put : (n : ℕ) (o : Option NoteTree) → noted_result after_f after_m n o ≡ put v (noted_result f m n o)
    result_put n None = refl
    result_put n (Some x) = note_put n x

    first_put : (many n : ℕ) → first_units many (λ k. after_f (n + k)) ≡ map (replace v) (first_units many (λ k. f (n + k)))
    first_put many n = by many (λ k. f (n + k))
      where
        by : (many : ℕ) (g : ℕ → PowerMap) → first_units many (λ k. replace v (g k)) ≡ map (replace v) (first_units many g)
        by zero g = refl
        by (suc many) g = ap (λ us. replace v (g 0) ∷ us) (by many (λ k. g (suc k)))

    -- ---- expressions
    module _ (records : List RecordTree) (self : Signature) (callee : ℕ → Callee) where
      offer_put : (n : ℕ) (c : Callee) → offered after_f after_m records (put_signature v self) callee n c ≡ option_map (put_signature v) (offered f m records self callee n c)
      offer_put n (known_by s) = ap Some (sym (signature_put-put (λ k. f (n + k)) v s.signature))
      offer_put n itself = refl
      offer_put n nobody = refl

      abbrev before : ℕ → List TypeTree → ExprTree → Derived
      before n vars e = derive after_f after_m records (put_signature v self) callee n (map (put v) vars) e

      abbrev behind : ℕ → List TypeTree → ExprTree → Derived
      behind n vars e = derive f m records self callee n vars e

      abbrev holes_in : ExprTree → ℕ
      holes_in e = expr_holes records callee e

      -- a part, and two and three parts
      one_put : (x y : Derived) (d e : TypeTree → Derived) → x ≡ replaced y → ((t : TypeTree) → d (put v t) ≡ replaced (e t)) → after x.steps (d x.type) ≡ replaced (after y.steps (e y.type))
      one_put x y d e same rule = (λ i. after (same i).steps (d (same i).type)) ∙ ap (after (replaced_steps y.steps)) (rule y.type) ∙ after_put y.steps (e y.type)

      two_put : (x y z w : Derived) (d : TypeTree → TypeTree → Derived) → x ≡ replaced y → z ≡ replaced w → ((s t : TypeTree) → d (put v s) (put v t) ≡ replaced (d s t))
          → after (x.steps ++ z.steps) (d x.type z.type) ≡ replaced (after (y.steps ++ w.steps) (d y.type w.type))
      two_put x y z w d first second rule =
          (λ i. after ((first i).steps ++ (second i).steps) (d (first i).type (second i).type))
          ∙ (λ i. after (steps-append y.steps w.steps i) (rule y.type w.type i)) ∙ after_put (y.steps ++ w.steps) (d y.type w.type)

      three_put : (x y z w p q : Derived) (d : TypeTree → TypeTree → TypeTree → Derived) → x ≡ replaced y → z ≡ replaced w → p ≡ replaced q → ((r s t : TypeTree) → d (put v r) (put v s) (put v t) ≡ replaced (d r s t))
          → after (x.steps ++ (z.steps ++ p.steps)) (d x.type z.type p.type) ≡ replaced (after (y.steps ++ (w.steps ++ q.steps)) (d y.type w.type q.type))
      three_put x y z w p q d first second third rule =
          (λ i. after ((first i).steps ++ ((second i).steps ++ (third i).steps)) (d (first i).type (second i).type (third i).type))
          ∙ (λ i. after (replaced_steps y.steps ++ steps-append w.steps q.steps i) (d (put v y.type) (put v w.type) (put v q.type)))
          ∙ (λ i. after (steps-append y.steps (w.steps ++ q.steps) i) (rule y.type w.type q.type i)) ∙ after_put (y.steps ++ (w.steps ++ q.steps)) (d y.type w.type q.type)

      -- a part of which the scope holds the type of another
      in_scope : (n : ℕ) (vars : List TypeTree) (x y : Derived) (scope : TypeTree → List TypeTree) (b : ExprTree) → x ≡ replaced y → ((t : TypeTree) → scope (put v t) ≡ map (put v) (scope t))
          → before n (vars ++ scope y.type) b ≡ replaced (behind n (vars ++ scope y.type) b) → derive after_f after_m records (put_signature v self) callee n (map (put v) vars ++ scope x.type) b ≡ replaced (behind n (vars ++ scope y.type) b)
      in_scope n vars x y scope b same moved whole =
          ap (λ ts. derive after_f after_m records (put_signature v self) callee n ts b)
          ((λ i. map (put v) vars ++ scope (same i).type) ∙ ap (λ ts. map (put v) vars ++ ts) (moved y.type) ∙ sym (map-append (put v) vars (scope y.type)))
          ∙ whole

      mutual
        pub derive_put : (n : ℕ) (vars : List TypeTree) (e : ExprTree) → before n vars e ≡ replaced (behind n vars e)
        derive_put n vars (truth at b) = refl
        derive_put n vars (number at c x) = ap (number_rule at c x) (unit_put n x) ∙ number_put at c x (noted_unit f m n x)
        derive_put n vars (local at k) = ap (local_rule at) (slice_get-map (put v) vars k) ∙ local_put at (slice_get vars k)
        derive_put n vars (call at j es) =
            let ds = derive_all_put (n + callee_holes (callee j)) vars es in
            let ys = derive_all f m records self callee (n + callee_holes (callee j)) vars es in
            (λ i. after (ds i).steps (call_rule at (offer_put n (callee j) i) (ds i).types))
            ∙ ap (after (replaced_steps ys.steps)) (call_put at (offered f m records self callee n (callee j)) ys.types) ∙ after_put ys.steps (call_rule at (offered f m records self callee n (callee j)) ys.types)
        derive_put n vars (negate at a) = one_put (before n vars a) (behind n vars a) (negate_rule at) (negate_rule at) (derive_put n vars a) (negate_put at)
        derive_put n vars (not_expr at a) = one_put (before n vars a) (behind n vars a) (not_rule at) (not_rule at) (derive_put n vars a) (not_put at)
        derive_put n vars (pown at a k) = one_put (before n vars a) (behind n vars a) (pown_rule at k) (pown_rule at k) (derive_put n vars a) (pown_put at k)
        derive_put n vars (arith_tree at op a b) =
            let l = n + holes_in a in
            two_put (before n vars a) (behind n vars a) (before l vars b) (behind l vars b) (arith_rule at op) (derive_put n vars a) (derive_put l vars b) (arith_put at op)
        derive_put n vars (compare at sign a b) =
            let l = n + holes_in a in
            two_put (before n vars a) (behind n vars a) (before l vars b) (behind l vars b) (compare_rule at) (derive_put n vars a) (derive_put l vars b) (compare_put at)
        derive_put n vars (both at a b) =
            let l = n + holes_in a in
            two_put (before n vars a) (behind n vars a) (before l vars b) (behind l vars b) (truths_rule at) (derive_put n vars a) (derive_put l vars b) (truths_put at)
        derive_put n vars (either at a b) =
            let l = n + holes_in a in
            two_put (before n vars a) (behind n vars a) (before l vars b) (behind l vars b) (truths_rule at) (derive_put n vars a) (derive_put l vars b) (truths_put at)
        derive_put n vars (if at c a b) =
            let l = n + holes_in c in
            let r = n + holes_in c + holes_in a in
            three_put (before n vars c) (behind n vars c) (before l vars a) (behind l vars a) (before r vars b) (behind r vars b) (if_rule at) (derive_put n vars c) (derive_put l vars a) (derive_put r vars b) (if_put at)
        derive_put n vars (bind at a b) =
            let l = n + holes_in a in
            let x = before n vars a in
            let y = behind n vars a in
            two_put x y (derive after_f after_m records (put_signature v self) callee l (map (put v) vars ++ x.type ∷ []) b) (behind l (vars ++ y.type ∷ []) b) (λ s t. formed at [] t) (derive_put n vars a)
            (in_scope l vars x y (λ t. t ∷ []) b (derive_put n vars a) (λ t. refl) (derive_put l (vars ++ y.type ∷ []) b)) (λ s t. refl)
        derive_put n vars (split at c a b) =
            let l = n + holes_in c in
            let r = n + holes_in c + holes_in a in
            let x = before n vars c in
            let y = behind n vars c in
            three_put x y (before l vars a) (behind l vars a) (derive after_f after_m records (put_signature v self) callee r (map (put v) vars ++ item x.type ∷ x.type ∷ []) b) (behind r (vars ++ item y.type ∷ y.type ∷ []) b) (split_rule at) (derive_put n vars c) (derive_put l vars a)
            (in_scope r vars x y (λ t. item t ∷ t ∷ []) b (derive_put n vars c) (λ t. ap (λ s. s ∷ put v t ∷ []) (item_put t)) (derive_put r (vars ++ item y.type ∷ y.type ∷ []) b)) (split_put at)
        derive_put n vars (nil at x) = ap (nil_rule at) (note_put n x) ∙ nil_put at (noted_type f m n x)
        derive_put n vars (list_expr at es) =
            let ds = derive_all_put n vars es in
            let ys = derive_all f m records self callee n vars es in
            (λ i. after (ds i).steps (list_rule at (ds i).types)) ∙ ap (after (replaced_steps ys.steps)) (items_put at ys.types) ∙ after_put ys.steps (list_rule at ys.types)
        derive_put n vars (cons at a b) =
            let l = n + holes_in a in
            two_put (before n vars a) (behind n vars a) (before l vars b) (behind l vars b) (cons_rule at) (derive_put n vars a) (derive_put l vars b) (cons_put at)
        derive_put n vars (record_expr at r es) =
            let c = record_holes (slice_get records r) in
            let ds = derive_all_put (n + c) vars es in
            let ys = derive_all f m records self callee (n + c) vars es in
            let us = first_units c (λ k. f (n + k)) in
            (λ i. after (ds i).steps (record_rule at r (first_put c n i) (slice_get records r) (ds i).types))
            ∙ ap (after (replaced_steps ys.steps)) (record_put at r us (slice_get records r) ys.types) ∙ after_put ys.steps (record_rule at r us (slice_get records r) ys.types)
        derive_put n vars (field at r k a) = one_put (before n vars a) (behind n vars a) (field_rule at r k (slice_get records r)) (field_rule at r k (slice_get records r)) (derive_put n vars a) (field_put at r k (slice_get records r))

        pub derive_all_put : (n : ℕ) (vars : List TypeTree) (es : ExprTrees) → derive_all after_f after_m records (put_signature v self) callee n (map (put v) vars) es ≡ replaced_all (derive_all f m records self callee n vars es)
        derive_all_put n vars none = refl
        derive_all_put n vars (more e es) =
            let l = n + holes_in e in
            let x = derive_put n vars e in
            let ds = derive_all_put l vars es in
            (λ i. record { types = (x i).type ∷ (ds i).types; steps = (x i).steps ++ (ds i).steps })
            ∙ (λ i. record { types = put v (behind n vars e).type ∷ map (put v) (derive_all f m records self callee l vars es).types; steps = steps-append (behind n vars e).steps (derive_all f m records self callee l vars es).steps i })

    -- ---- the equations of a function
    types_at_put : (at : ℕ) (ts : List TypeTree) → types_at at (map (put v) ts) ≡ replaced_steps (types_at at ts)
    types_at_put at [] = refl
    types_at_put at (t ∷ ts) = ap (λ ss. type_at at (put v t) ∷ ss) (types_at_put at ts)

    own_put : (fn : FunctionTree) → own_signature after_f after_m fn ≡ put_signature v (own_signature f m fn)
    own_put fn = λ i. record { params = notes_put 0 fn.params i; result = result_put (notes_holes fn.params) fn.result i }

    rows_put : (at : ℕ) (t : TypeTree) (n : ℕ) (o : Option NoteTree) → result_rows after_f after_m at (put v t) n o ≡ replaced_steps (result_rows f m at t n o)
    rows_put at t n None = refl
    rows_put at t n (Some x) = ap (against at (put v t)) (note_put n x) ∙ against_put at t (noted_type f m n x)

    head_put : (fn : FunctionTree) → head_steps after_f after_m fn ≡ replaced_steps (head_steps f m fn)
    head_put fn =
        let params = noted_types f m 0 fn.params in
        let result = noted_result f m (notes_holes fn.params) fn.result in
        (λ i. types_at fn.at (notes_put 0 fn.params i ++ result_put (notes_holes fn.params) fn.result i ∷ []))
        ∙ ap (types_at fn.at) (sym (map-append (put v) params (result ∷ []))) ∙ types_at_put fn.at (params ++ result ∷ [])

    pub equations_put : (records : List RecordTree) (schemes : List SchemeTree) (i : ℕ) (fn : FunctionTree) → (equations after_f after_m records schemes i fn).steps ≡ replaced_steps (equations f m records schemes i fn).steps
    equations_put records schemes i fn =
        let params = noted_types f m 0 fn.params in
        let n = notes_holes fn.params in
        let body = derive f m records (own_signature f m fn) (callee schemes i fn) (head_holes fn) params fn.body in
        let whole : derive after_f after_m records (own_signature after_f after_m fn) (callee schemes i fn) (head_holes fn) (noted_types after_f after_m 0 fn.params) fn.body ≡ replaced body =
        (λ j. derive after_f after_m records (own_put fn j) (callee schemes i fn) (head_holes fn) (notes_put 0 fn.params j) fn.body) ∙ derive_put records (own_signature f m fn) (callee schemes i fn) (head_holes fn) params fn.body in
        let rows = result_rows f m fn.at body.type n fn.result in
        (λ j. head_put fn j ++ ((whole j).steps ++ result_rows after_f after_m fn.at (whole j).type n fn.result))
        ∙ (λ j. replaced_steps (head_steps f m fn) ++ (replaced_steps body.steps ++ rows_put fn.at body.type n fn.result j))
        ∙ (λ j. replaced_steps (head_steps f m fn) ++ steps-append body.steps rows j)
        ∙ steps-append (head_steps f m fn) (body.steps ++ rows)
