-- A typing stays one where each unit is changed by a homomorphism that leaves what is written.
use Rattle.std.proofs.Common.{◌≡◌, refl, ap, subst, ◌∙◌, ℕ, zero, suc, List, [], ◌∷◌, ◌++◌, map, get_or, Option, Some, None, slice_get, inl, inr, arith}
use Rattle.std.specs.Prelude.{All}
use Rattle.std.proofs.lemmas.List.{map-append, length-map}
use Rattle.um_units.specs.PowerMap.{PowerMap, one, mul, inv, replace}
use Rattle.um_units.proofs.Replacement.{replace_alike}
use Rattle.um_frac.specs.declared.number.Frac.{Frac}
use Rattle.um_tree.specs.declared.note.UnitNote.{UnitNote}
use Rattle.um_tree.specs.declared.note.UnitNote.TheVariants.{Hole, Written}
use Rattle.um_tree.specs.declared.expression.Arith.{Arith}
use Rattle.um_tree.specs.declared.expression.Arith.TheVariants.{Add, Sub, Mul, Div}
use Rattle.um_tree.specs.TypeTree.{TypeTree, bool_type, num_type, list_type, record_type, NoteTree, bool_note, num_note, list_note, record_note}
use Rattle.um_tree.specs.ExprTree.{ExprTree, ExprTrees, truth, number, local, call, negate, not_expr, pown, arith as arith_tree, compare, both, either, if, bind, split, nil, list_expr, cons, record_expr, field, none, more}
use Rattle.um_tree.specs.ProgramTree.{RecordTree, FunctionTree, Signature}
use Rattle.um_tree.specs.Typing.{put, unit_at, UnitMatches, UnitsMatch, Matches, TypesMatch, ResultMatches, ArithUnit, LiteralUnit, EachIs, field_types, moved, moved_signature, IsHomomorphism, IsRecordAt, Typed, AllTyped, Earlier, Calls, IsLooseTypingOf}
use Rattle.um_tree.specs.Laws.{UnitNoteHas, NoteHas, TypeHas, ExprHas, ExprsHave, ResultHas, FunctionHas, Leaves, Fixes}
use Rattle.um_tree.proofs.Homomorphisms.{h-one, h-inv, h-pow, h-replace}

-- ---- lists
pub slice_get_moved : {A B : Type 0} (f : A → B) (xs : List A) (k : ℕ) (x : A) → slice_get xs k ≡ Some x → slice_get (map f xs) k ≡ Some (f x)
slice_get_moved f [] k x e = cc
slice_get_moved f (y ∷ xs) zero x e = let g : y ≡ x = cc e in ap (λ z. Some (f z)) g
slice_get_moved f (y ∷ xs) (suc k) x e = slice_get_moved f xs k x e

pub All_tail : {A : Type 0} (P : A → Type 0) (x : A) (xs : List A) → All P (x ∷ xs) → All P xs
All_tail P x xs w = λ k d below. w (suc k) d (omega arith)

pub All_head : {A : Type 0} (P : A → Type 0) (x : A) (xs : List A) → All P (x ∷ xs) → P x
All_head P x xs w = w 0 x (omega arith)

pub All_at : {A : Type 0} (P : A → Type 0) (xs : List A) (k : ℕ) (x : A) → slice_get xs k ≡ Some x → All P xs → P x
All_at P [] k x e w = absurd cc
All_at P (y ∷ xs) zero x e w = let g : y ≡ x = cc e in subst P g (All_head P y xs w)
All_at P (y ∷ xs) (suc k) x e w = All_at P xs k x e (All_tail P y xs w)

get_or_moved : (h : PowerMap → PowerMap) → h one ≡ one → (us : List PowerMap) (k : ℕ) → h (get_or us k one) ≡ get_or (map h us) k one
get_or_moved h e [] k = e
get_or_moved h e (u ∷ us) zero = refl
get_or_moved h e (u ∷ us) (suc k) = get_or_moved h e us k

module _ (h : PowerMap → PowerMap) (h-mul : IsHomomorphism h) where
  -- ---- notes
  unit_matches : (choice : ℕ → PowerMap) (n : UnitNote) (u : PowerMap) → UnitNoteHas (Leaves h) n → UnitMatches choice n u → UnitMatches (λ k. h (choice k)) n (h u)
  unit_matches choice Hole u w m = tt
  unit_matches choice (Written v) u w m = ap h m ∙ h-replace h h-mul v w choice

  units_match : (choice : ℕ → PowerMap) (ns : List UnitNote) (us : List PowerMap) → All (UnitNoteHas (Leaves h)) ns → UnitsMatch choice ns us → UnitsMatch (λ k. h (choice k)) ns (map h us)
  units_match choice [] us w m = ap (map h) m
  units_match choice (n ∷ ns) us w m = (h m.0, map h m.1, unit_matches choice n m.0 (All_head (UnitNoteHas (Leaves h)) n ns w) m.2, units_match choice ns m.1 (All_tail (UnitNoteHas (Leaves h)) n ns w) m.3, ap (map h) m.4)

  matches : (choice : ℕ → PowerMap) (n : NoteTree) (t : TypeTree) → NoteHas (Leaves h) n → Matches choice n t → Matches (λ k. h (choice k)) n (moved h t)
  matches choice bool_note t w m = ap (moved h) m
  matches choice (num_note n) t w m = (h m.0, unit_matches choice n m.0 w m.1, ap (moved h) m.2)
  matches choice (list_note n) t w m = (moved h m.0, matches choice n m.0 w m.1, ap (moved h) m.2)
  matches choice (record_note r ns) t w m = (map h m.0, units_match choice ns m.0 w m.1, ap (moved h) m.2)

  types_match : (choice : ℕ → PowerMap) (ns : List NoteTree) (ts : List TypeTree) → All (NoteHas (Leaves h)) ns → TypesMatch choice ns ts → TypesMatch (λ k. h (choice k)) ns (map (moved h) ts)
  types_match choice [] ts w m = ap (map (moved h)) m
  types_match choice (n ∷ ns) ts w m = (moved h m.0, map (moved h) m.1, matches choice n m.0 (All_head (NoteHas (Leaves h)) n ns w) m.2, types_match choice ns m.1 (All_tail (NoteHas (Leaves h)) n ns w) m.3, ap (map (moved h)) m.4)

  result_matches : (choice : ℕ → PowerMap) (n : Option NoteTree) (t : TypeTree) → ResultHas (Leaves h) n → ResultMatches choice n t → ResultMatches (λ k. h (choice k)) n (moved h t)
  result_matches choice None t w m = tt
  result_matches choice (Some n) t w m = matches choice n t w m

  -- ---- units of operations and literals
  arith_unit : (op : Arith) (u v w : PowerMap) → ArithUnit op u v w → ArithUnit op (h u) (h v) (h w)
  arith_unit Add u v w m = (ap h m.0, ap h m.1)
  arith_unit Sub u v w m = (ap h m.0, ap h m.1)
  arith_unit Mul u v w m = ap h m ∙ h-mul u v
  arith_unit Div u v w m = ap h m ∙ h-mul u (inv v) ∙ ap (mul (h u)) (h-inv h h-mul v)

  literal_unit : (c : Frac) (n : UnitNote) (u : PowerMap) → UnitNoteHas (Fixes h) n → LiteralUnit c n u → LiteralUnit c n (h u)
  literal_unit c Hole u w m = m
  literal_unit c (Written v) u w m = ap h m ∙ w

  each_is : (s : TypeTree) (ts : List TypeTree) → EachIs s ts → EachIs (moved h s) (map (moved h) ts)
  each_is s [] m = tt
  each_is s (t ∷ ts) m = (ap (moved h) m.0, each_is s ts m.1)

  -- ---- fields of records
  field_unit : (us : List PowerMap) (v : PowerMap) → Leaves h v → h (replace (unit_at us) v) ≡ replace (unit_at (map h us)) v
  field_unit us v w = h-replace h h-mul v w (unit_at us) ∙ replace_alike (λ k. h (unit_at us k)) (unit_at (map h us)) v (λ k e. get_or_moved h (h-one h h-mul) us k)

  field_units : (us vs : List PowerMap) → All (Leaves h) vs → map h (map (replace (unit_at us)) vs) ≡ map (replace (unit_at (map h us))) vs
  field_units us [] w = refl
  field_units us (v ∷ vs) w =
      ap (λ x. x ∷ map h (map (replace (unit_at us)) vs)) (field_unit us v (All_head (Leaves h) v vs w)) ∙ ap (λ xs. replace (unit_at (map h us)) v ∷ xs) (field_units us vs (All_tail (Leaves h) v vs w))

  field_type : (us : List PowerMap) (t : TypeTree) → TypeHas (Leaves h) t → moved h (put (unit_at us) t) ≡ put (unit_at (map h us)) t
  field_type us bool_type w = refl
  field_type us (num_type v) w = ap num_type (field_unit us v w)
  field_type us (list_type t) w = ap list_type (field_type us t w)
  field_type us (record_type r vs) w = ap (record_type r) (field_units us vs w)

  all_field_types : (us : List PowerMap) (ts : List TypeTree) → All (TypeHas (Leaves h)) ts → map (moved h) (map (put (unit_at us)) ts) ≡ map (put (unit_at (map h us))) ts
  all_field_types us [] w = refl
  all_field_types us (t ∷ ts) w =
      ap (λ x. x ∷ map (moved h) (map (put (unit_at us)) ts)) (field_type us t (All_head (TypeHas (Leaves h)) t ts w)) ∙ ap (λ xs. put (unit_at (map h us)) t ∷ xs) (all_field_types us ts (All_tail (TypeHas (Leaves h)) t ts w))

  module _ (records : List RecordTree) (left : All (λ d. All (TypeHas (Leaves h)) (field_types d)) records) where
    record_at : (r : ℕ) (us : List PowerMap) (d : RecordTree) → IsRecordAt records r us d → IsRecordAt records r (map h us) d
    record_at r us d m = record { declared = m.declared; units = length-map us h ∙ m.units }

    fields_left : (r : ℕ) (us : List PowerMap) (d : RecordTree) → IsRecordAt records r us d → All (TypeHas (Leaves h)) (field_types d)
    fields_left r us d m = All_at (λ d. All (TypeHas (Leaves h)) (field_types d)) records r d m.declared left

    -- ---- expressions
    module _ (calls calls' : ℕ → Signature → Type 0) (change : (j : ℕ) (g : Signature) → calls j g → calls' j (moved_signature h g)) (choice : ℕ → PowerMap) where
      wider : (vars others : List TypeTree) (e : ExprTree) (t : TypeTree) → Typed records calls' (λ k. h (choice k)) (map (moved h) (vars ++ others)) e t → Typed records calls' (λ k. h (choice k)) (map (moved h) vars ++ map (moved h) others) e t
      wider vars others e t m = subst (λ vs. Typed records calls' (λ k. h (choice k)) vs e t) (map-append (moved h) vars others) m

      mutual
        typed : (vars : List TypeTree) (e : ExprTree) (t : TypeTree) → ExprHas (Leaves h) (Fixes h) e → Typed records calls choice vars e t → Typed records calls' (λ k. h (choice k)) (map (moved h) vars) e (moved h t)
        typed vars (truth at b) t w m = ap (moved h) m
        typed vars (number at c n) t w m = (h m.0, literal_unit c n m.0 w m.1, ap (moved h) m.2)
        typed vars (local at k) t w m = slice_get_moved (moved h) vars k t m
        typed vars (call at j es) t w m = (map (moved h) m.0, all_typed vars es m.0 w m.1, change j _ m.2)
        typed vars (negate at a) t w m = (h m.0, typed vars a _ w m.1, ap (moved h) m.2)
        typed vars (not_expr at a) t w m = (typed vars a bool_type w m.0, ap (moved h) m.1)
        typed vars (pown at a k) t w m = (h m.0, typed vars a _ w m.1, ap (moved h) m.2 ∙ ap num_type (h-pow h h-mul m.0 k))
        typed vars (arith_tree at op a b) t w m = (h m.0, h m.1, h m.2, typed vars a _ w.0 m.3, typed vars b _ w.1 m.4, arith_unit op m.0 m.1 m.2 m.5, ap (moved h) m.6)
        typed vars (compare at sign a b) t w m = (h m.0, typed vars a _ w.0 m.1, typed vars b _ w.1 m.2, ap (moved h) m.3)
        typed vars (both at a b) t w m = (typed vars a bool_type w.0 m.0, typed vars b bool_type w.1 m.1, ap (moved h) m.2)
        typed vars (either at a b) t w m = (typed vars a bool_type w.0 m.0, typed vars b bool_type w.1 m.1, ap (moved h) m.2)
        typed vars (if at c a b) t w m = (typed vars c bool_type w.0 m.0, typed vars a t w.1 m.1, typed vars b t w.2 m.2)
        typed vars (bind at a b) t w m = (moved h m.0, typed vars a m.0 w.0 m.1, wider vars (m.0 ∷ []) b _ (typed (vars ++ m.0 ∷ []) b t w.1 m.2))
        typed vars (split at l a b) t w m = (moved h m.0, typed vars l _ w.0 m.1, typed vars a t w.1 m.2, wider vars (m.0 ∷ list_type m.0 ∷ []) b _ (typed (vars ++ m.0 ∷ list_type m.0 ∷ []) b t w.2 m.3))
        typed vars (nil at n) t w m = (moved h m.0, matches choice n (list_type m.0) w m.1, ap (moved h) m.2)
        typed vars (list_expr at es) t w m = (moved h m.0, map (moved h) m.1, all_typed vars es _ w m.2, each_is m.0 m.1 m.3, ap (moved h) m.4)
        typed vars (cons at a b) t w m = (moved h m.0, typed vars a m.0 w.0 m.1, typed vars b _ w.1 m.2, ap (moved h) m.3)
        typed vars (record_expr at r es) t w m =
            let fields = all_field_types m.0 (field_types m.1) (fields_left r m.0 m.1 m.2) in
            (map h m.0, m.1, record_at r m.0 m.1 m.2, subst (AllTyped records calls' (λ k. h (choice k)) (map (moved h) vars) es) fields (all_typed vars es _ w m.3), ap (moved h) m.4)
        typed vars (field at r k a) t w m =
            let declared = field_type m.0 m.2 (All_at (TypeHas (Leaves h)) (field_types m.1) k m.2 m.4 (fields_left r m.0 m.1 m.3)) in
            (map h m.0, m.1, m.2, record_at r m.0 m.1 m.3, m.4, typed vars a _ w m.5, ap (moved h) m.6 ∙ declared)

        all_typed : (vars : List TypeTree) (es : ExprTrees) (ts : List TypeTree) → ExprsHave (Leaves h) (Fixes h) es → AllTyped records calls choice vars es ts → AllTyped records calls' (λ k. h (choice k)) (map (moved h) vars) es (map (moved h) ts)
        all_typed vars none ts w m = ap (map (moved h)) m
        all_typed vars (more e es) ts w m = (moved h m.0, map (moved h) m.1, typed vars e m.0 w.0 m.2, all_typed vars es m.1 w.1 m.3, ap (map (moved h)) m.4)

    -- ---- functions
    module _ (earlier : Earlier) (stays : (j : ℕ) (g : Signature) → earlier j g → earlier j (moved_signature h g)) (i : ℕ) where
      calls_stay : (f : FunctionTree) (self : Signature) (j : ℕ) (g : Signature) → Calls earlier i f self j g → Calls earlier i f (moved_signature h self) j (moved_signature h g)
      calls_stay f self j g (inl m) = inl (m.0, stays j g m.1)
      calls_stay f self j g (inr m) = inr (m.0, m.1, ap (moved_signature h) m.2)

      -- the units that it chooses are changed
      pub typing_of : (f : FunctionTree) (g : Signature) → FunctionHas (Leaves h) (Fixes h) f → (m : IsLooseTypingOf records earlier i f g) → (n : IsLooseTypingOf records earlier i f (moved_signature h g)) × ((k : ℕ) → n.choice k ≡ h (m.choice k))
      typing_of f g w m = (
        record {
          choice = λ k. h (m.choice k);
          params = types_match m.choice f.params g.params w.params m.params;
          result = result_matches m.choice f.result g.result w.result m.result;
          body = typed (Calls earlier i f g) (Calls earlier i f (moved_signature h g)) (calls_stay f g) m.choice g.params f.body g.result w.body m.body;
        },
        λ k. refl,
      )
