-- The rows of a function are those of its agreements, one after another.
use Rattle.std.proofs.Common.{◌≡◌, ℕ, ◌+◌, List, [], ◌∷◌, ◌++◌, Option, Some, None, slice_get, refl, sym, subst}
use Rattle.std.proofs.lemmas.List.{append-nil, append_assoc}
use Rattle.um_units.specs.PowerMap.{PowerMap}
use Rattle.um_tree.specs.TypeTree.{TypeTree, NoteTree}
use Rattle.um_tree.specs.ExprTree.{ExprTree, ExprTrees, truth, number, local, call, negate, not_expr, pown, arith, compare, both, either, if, bind, split, nil, list_expr, cons, record_expr, field, none, more}
use Rattle.um_tree.specs.ProgramTree.{RecordTree, FunctionTree, Signature, SchemeTree}
use Rattle.um_slots.specs.Holes.{Callee, callee_holes, record_holes, expr_holes, notes_holes}
use Rattle.um_slots.specs.Callees.{callee, head_holes}
use Rattle.um_slots.specs.Keys.{hole, name}
use Rattle.um_slots.specs.Slots.{function_slots, slot_unit}
use Rattle.um_slots.specs.Noted.{noted_unit, noted_type, noted_types, noted_result}
use Rattle.um_equal_types.specs.Steps.{Step, type_at, types_at, rows_of}
use Rattle.um_rows.specs.Rules.{Derived, AllDerived, item, call_rule, negate_rule, not_rule, pown_rule, truths_rule, arith_rule, compare_rule, if_rule, split_rule, list_rule, cons_rule, record_rule, field_rule}
use Rattle.um_rows.specs.Derivation.{first_units, offered, derive, derive_all}
use Rattle.um_rows.specs.Equations.{result_rows, own_signature, head_steps, slot_equations}
use Rattle.um_rows.specs.RightShapes.{HaveRightShapes}
use Rattle.um_equal_types.proofs.HeldSteps.{Holds-solves, Solves-holds}
use Rattle.um_equal_types.proofs.TypesAgainst.{same_from_rows, rows-same}
use Rattle.um_agree.specs.declared.rule.Rule.TheVariants as asks
use Rattle.um_agree.specs.Agreements.{Agreement, agreement_steps}
use Rattle.um_agree.specs.NodeAgreements.{agree, arith_agreements, call_agreements, list_agreements, cons_agreements, record_agreements}
use Rattle.um_agree.specs.FunctionAgreements.{agreements, all_agreements, result_agreements, function_agreements}
use Rattle.um_agree.specs.Laws.{RowsAreAgreements, AgreementsAreEqualities}
use Rattle.um_agree.proofs.RuleRows.{right_front, right_back, AreAsked, asked_both, one_asked, number_asked, local_asked, call_asked, negate_asked, not_asked, pown_asked, truths_asked, arith_asked, compare_asked, if_asked, split_asked, nil_asked, list_asked, cons_asked, record_asked, field_asked}

module _ (holes names : ℕ → PowerMap) (records : List RecordTree) (self : Signature) (callee : ℕ → Callee) where
  abbrev der : ℕ → List TypeTree → ExprTree → Derived
  der n vars e = derive holes names records self callee n vars e

  abbrev der_all : ℕ → List TypeTree → ExprTrees → AllDerived
  der_all n vars es = derive_all holes names records self callee n vars es

  abbrev hs : ExprTree → ℕ
  hs e = expr_holes records callee e

  abbrev told : ℕ → List TypeTree → ExprTree → List Agreement
  told n vars e = agreements holes names records self callee n vars e

  abbrev all_told : ℕ → List TypeTree → ExprTrees → List Agreement
  all_told n vars es = all_agreements holes names records self callee n vars es

  abbrev Asked : ExprTree → Type 0
  Asked e = (n : ℕ) (vars : List TypeTree) → HaveRightShapes (der n vars e).steps → AreAsked (der n vars e).steps (told n vars e)

  -- a node without agreements after its parts
  plain : (parts own : List Step) (ones : List Agreement) → HaveRightShapes (parts ++ own) → (HaveRightShapes parts → AreAsked parts ones) → (HaveRightShapes own → AreAsked own []) → AreAsked (parts ++ own) ones
  plain parts own ones h p q =
      subst (AreAsked (parts ++ own)) (append-nil ones) (asked_both parts own ones [] (p (right_front parts own h)) (q (right_back parts own h)))

  -- and one with agreements
  after_parts : (parts own : List Step) (ones bs : List Agreement) → HaveRightShapes (parts ++ own) → (HaveRightShapes parts → AreAsked parts ones) → (HaveRightShapes own → AreAsked own bs) → AreAsked (parts ++ own) (ones ++ bs)
  after_parts parts own ones bs h p q = asked_both parts own ones bs (p (right_front parts own h)) (q (right_back parts own h))

  two : (a b : List Step) (ones bs : List Agreement) → (HaveRightShapes a → AreAsked a ones) → (HaveRightShapes b → AreAsked b bs) → HaveRightShapes (a ++ b) → AreAsked (a ++ b) (ones ++ bs)
  two a b ones bs p q h = after_parts a b ones bs h p q

  three : (a b c : List Step) (ones bs cs : List Agreement) → (HaveRightShapes a → AreAsked a ones) → (HaveRightShapes b → AreAsked b bs) → (HaveRightShapes c → AreAsked c cs) → HaveRightShapes (a ++ (b ++ c)) → AreAsked (a ++ (b ++ c)) (ones ++ bs ++ cs)
  three a b c ones bs cs p q r h = subst (AreAsked (a ++ (b ++ c))) (sym (append_assoc ones bs cs)) (after_parts a (b ++ c) ones (bs ++ cs) h p (two b c bs cs q r))

  mutual
    pub are_asked : (e : ExprTree) → Asked e
    are_asked (truth at b) n vars h = (refl, tt)
    are_asked (number at c m) n vars h = number_asked at c m (noted_unit holes names n m) h
    are_asked (local at k) n vars h = local_asked at (slice_get vars k) h
    are_asked (call at j es) n vars h =
        let m = n + callee_holes (callee j) in
        let ds = der_all m vars es in
        let o = offered holes names records self callee n (callee j) in
        after_parts ds.steps (call_rule at o ds.types).steps (all_told m vars es) (call_agreements at j o ds.types) h (all_are_asked es m vars) (call_asked at j o ds.types)
    are_asked (negate at a) n vars h =
        let x = der n vars a in
        plain x.steps (negate_rule at x.type).steps (told n vars a) h (are_asked a n vars) (negate_asked at x.type)
    are_asked (not_expr at a) n vars h =
        let x = der n vars a in
        plain x.steps (not_rule at x.type).steps (told n vars a) h (are_asked a n vars) (not_asked at x.type)
    are_asked (pown at a k) n vars h =
        let x = der n vars a in
        plain x.steps (pown_rule at k x.type).steps (told n vars a) h (are_asked a n vars) (pown_asked at k x.type)
    are_asked (arith at op a b) n vars h =
        let x = der n vars a in
        let y = der (n + hs a) vars b in
        after_parts (x.steps ++ y.steps) (arith_rule at op x.type y.type).steps (told n vars a ++ told (n + hs a) vars b) (arith_agreements at op x.type y.type) h
        (two x.steps y.steps (told n vars a) (told (n + hs a) vars b) (are_asked a n vars) (are_asked b (n + hs a) vars)) (arith_asked at op x.type y.type)
    are_asked (compare at sign a b) n vars h =
        let x = der n vars a in
        let y = der (n + hs a) vars b in
        after_parts (x.steps ++ y.steps) (compare_rule at x.type y.type).steps (told n vars a ++ told (n + hs a) vars b) (agree asks.Comparison at x.type y.type ∷ []) h
        (two x.steps y.steps (told n vars a) (told (n + hs a) vars b) (are_asked a n vars) (are_asked b (n + hs a) vars)) (compare_asked at x.type y.type)
    are_asked (both at a b) n vars h =
        let x = der n vars a in
        let y = der (n + hs a) vars b in
        plain (x.steps ++ y.steps) (truths_rule at x.type y.type).steps (told n vars a ++ told (n + hs a) vars b) h
        (two x.steps y.steps (told n vars a) (told (n + hs a) vars b) (are_asked a n vars) (are_asked b (n + hs a) vars)) (truths_asked at x.type y.type)
    are_asked (either at a b) n vars h =
        let x = der n vars a in
        let y = der (n + hs a) vars b in
        plain (x.steps ++ y.steps) (truths_rule at x.type y.type).steps (told n vars a ++ told (n + hs a) vars b) h
        (two x.steps y.steps (told n vars a) (told (n + hs a) vars b) (are_asked a n vars) (are_asked b (n + hs a) vars)) (truths_asked at x.type y.type)
    are_asked (if at c a b) n vars h =
        let l = n + hs c in
        let z = der n vars c in
        let x = der l vars a in
        let y = der (l + hs a) vars b in
        after_parts (z.steps ++ (x.steps ++ y.steps)) (if_rule at z.type x.type y.type).steps (told n vars c ++ told l vars a ++ told (l + hs a) vars b) (agree asks.Branches at x.type y.type ∷ []) h
        (three z.steps x.steps y.steps (told n vars c) (told l vars a) (told (l + hs a) vars b) (are_asked c n vars) (are_asked a l vars) (are_asked b (l + hs a) vars))
        (if_asked at z.type x.type y.type)
    are_asked (bind at a b) n vars h =
        let x = der n vars a in
        let inner = vars ++ x.type ∷ [] in
        let y = der (n + hs a) inner b in
        plain (x.steps ++ y.steps) (type_at at y.type ∷ []) (told n vars a ++ told (n + hs a) inner b) h
        (two x.steps y.steps (told n vars a) (told (n + hs a) inner b) (are_asked a n vars) (are_asked b (n + hs a) inner)) (λ g. (refl, tt))
    are_asked (split at l a b) n vars h =
        let k = n + hs l in
        let z = der n vars l in
        let x = der k vars a in
        let inner = vars ++ item z.type ∷ z.type ∷ [] in
        let y = der (k + hs a) inner b in
        after_parts (z.steps ++ (x.steps ++ y.steps)) (split_rule at z.type x.type y.type).steps (told n vars l ++ told k vars a ++ told (k + hs a) inner b) (agree asks.Arms at x.type y.type ∷ []) h
        (three z.steps x.steps y.steps (told n vars l) (told k vars a) (told (k + hs a) inner b) (are_asked l n vars) (are_asked a k vars) (are_asked b (k + hs a) inner))
        (split_asked at z.type x.type y.type)
    are_asked (nil at m) n vars h = nil_asked at (noted_type holes names n m) h
    are_asked (list_expr at es) n vars h =
        let ds = der_all n vars es in
        after_parts ds.steps (list_rule at ds.types).steps (all_told n vars es) (list_agreements at ds.types) h (all_are_asked es n vars) (list_asked at ds.types)
    are_asked (cons at a b) n vars h =
        let x = der n vars a in
        let y = der (n + hs a) vars b in
        after_parts (x.steps ++ y.steps) (cons_rule at x.type y.type).steps (told n vars a ++ told (n + hs a) vars b) (cons_agreements at x.type y.type) h
        (two x.steps y.steps (told n vars a) (told (n + hs a) vars b) (are_asked a n vars) (are_asked b (n + hs a) vars)) (cons_asked at x.type y.type)
    are_asked (record_expr at r es) n vars h =
        let m = record_holes (slice_get records r) in
        let us = first_units m (λ k. holes (n + k)) in
        let ds = der_all (n + m) vars es in
        after_parts ds.steps (record_rule at r us (slice_get records r) ds.types).steps (all_told (n + m) vars es) (record_agreements at r us (slice_get records r) ds.types) h
        (all_are_asked es (n + m) vars) (record_asked at r us (slice_get records r) ds.types)
    are_asked (field at r k a) n vars h =
        let x = der n vars a in
        plain x.steps (field_rule at r k (slice_get records r) x.type).steps (told n vars a) h (are_asked a n vars) (field_asked at r k (slice_get records r) x.type)

    pub all_are_asked : (es : ExprTrees) (n : ℕ) (vars : List TypeTree) → HaveRightShapes (der_all n vars es).steps → AreAsked (der_all n vars es).steps (all_told n vars es)
    all_are_asked none n vars h = (refl, tt)
    all_are_asked (more e es) n vars h =
        two (der n vars e).steps (der_all (n + hs e) vars es).steps (told n vars e) (all_told (n + hs e) vars es) (are_asked e n vars) (all_are_asked es (n + hs e) vars) h

-- ---- a function
types_ask_nothing : (at : ℕ) (ts : List TypeTree) → rows_of (types_at at ts) ≡ []
types_ask_nothing at [] = refl
types_ask_nothing at (t ∷ ts) = types_ask_nothing at ts

result_asked : (holes names : ℕ → PowerMap) (at : ℕ) (t : TypeTree) (n : ℕ) (o : Option NoteTree) → HaveRightShapes (result_rows holes names at t n o) → AreAsked (result_rows holes names at t n o) (result_agreements holes names at t n o)
result_asked holes names at t n None h = (refl, tt)
result_asked holes names at t n (Some m) h = one_asked asks.ResultNote at t (noted_type holes names n m) h

pub function_asked : (records : List RecordTree) (schemes : List SchemeTree) (i : ℕ) (f : FunctionTree) → HaveRightShapes (slot_equations records schemes i f).steps → AreAsked (slot_equations records schemes i f).steps (function_agreements records schemes i f)
function_asked records schemes i f right =
    let order = function_slots records schemes i f in
    let holes : ℕ → PowerMap = λ k. slot_unit order (hole k) in
    let names : ℕ → PowerMap = λ k. slot_unit order (name k) in
    let self = own_signature holes names f in
    let params = noted_types holes names 0 f.params in
    let start = head_holes f in
    let body = derive holes names records self (callee schemes i f) start params f.body in
    let first = head_steps holes names f in
    let last = result_rows holes names f.at body.type (notes_holes f.params) f.result in
    let inner = right_back first (body.steps ++ last) right in
    asked_both first (body.steps ++ last) [] (agreements holes names records self (callee schemes i f) start params f.body ++ result_agreements holes names f.at body.type (notes_holes f.params) f.result)
    (types_ask_nothing f.at (params ++ noted_result holes names (notes_holes f.params) f.result ∷ []), tt)
    (asked_both body.steps last (agreements holes names records self (callee schemes i f) start params f.body) (result_agreements holes names f.at body.type (notes_holes f.params) f.result)
    (are_asked holes names records self (callee schemes i f) f.body start params (right_front body.steps last inner))
    (result_asked holes names f.at body.type (notes_holes f.params) f.result (right_back body.steps last inner)))

pub rows_are_agreements : RowsAreAgreements
rows_are_agreements records schemes i f right = (function_asked records schemes i f right).0

pub agreements_are_equalities : AgreementsAreEqualities
agreements_are_equalities a s = (
  (λ h. same_from_rows s a.at a.first a.second (Holds-solves s (agreement_steps a) h)),
  (λ e. Solves-holds s (agreement_steps a) (rows-same s a.at a.first a.second e)),
)
