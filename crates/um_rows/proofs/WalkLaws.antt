-- The walk is the derivation: its rows, its type and its holes, or the first step that passes the range.
use Rattle.std.proofs.Common.{◌≡◌, ℕ, ◌+◌, List, [], ◌∷◌, ◌++◌, Option, Some, None, Result, Ok, Err, slice_get, refl, sym, ap, ◌∙◌, arith}
use Rattle.std.proofs.lemmas.List.{append_assoc, append-nil}
use Rattle.um_units.specs.PowerMap.{PowerMap}
use Rattle.um_tree.specs.TypeTree.{TypeTree, bool_type}
use Rattle.um_tree.specs.ExprTree.{ExprTree, ExprTrees, truth, number, local, call, negate, not_expr, pown, arith as arith_tree, compare, both, either, if, bind, split, nil, list_expr, cons, record_expr, field, none, more}
use Rattle.um_tree.specs.ProgramTree.{RecordTree, Signature}
use Rattle.um_equal_types.specs.declared.row.Row.{Row}
use Rattle.um_equal_types.specs.Steps.{Step, first_past, rows_of}
use Rattle.um_slots.specs.Holes.{Callee, callee_holes, record_holes, expr_holes, exprs_holes}
use Rattle.um_rows.specs.Rules.{Derived, AllDerived, after, formed, item, local_rule, call_rule, negate_rule, not_rule, pown_rule, truths_rule, arith_rule, compare_rule, if_rule, split_rule, list_rule, cons_rule, record_rule, field_rule}
use Rattle.um_rows.specs.Derivation.{first_units, offered, derive, derive_all}
use Rattle.um_rows.specs.Walk.{Walked, AllWalked, PairWalked, then, unless_past, node, pair, pair_node, walk, walk_all}
use Rattle.um_equal_types.proofs.PushLaws.{first_of, first_past-append, rows_of-append}

-- ---- a node behind its parts
abbrev pub all_unless_past : Option ℕ → AllWalked → Result AllWalked ℕ
all_unless_past None w = Ok w
all_unless_past (Some at) w = Err at

abbrev pub all_node : List Row → ℕ → AllDerived → Result AllWalked ℕ
all_node rows n d = all_unless_past (first_past d.steps) (record { types = d.types; rows = rows ++ rows_of d.steps; holes = n })

behind : (rows : List Row) (a b : List Step) → (rows ++ rows_of a) ++ rows_of b ≡ rows ++ rows_of (a ++ b)
behind rows a b = append_assoc rows (rows_of a) (rows_of b) ∙ ap (λ rs. rows ++ rs) (sym (rows_of-append a b))

node-after : (rows : List Row) (m k : ℕ) (x : Derived) (d : TypeTree → Derived) → then (node rows m x) (λ w. node w.rows k (d w.type)) ≡ node rows k (after x.steps (d x.type))
node-after rows m k x d =
    at (first_past x.steps) ∙ (λ i. unless_past (sym (first_past-append x.steps (d x.type).steps) i) (record { type = (d x.type).type; rows = behind rows x.steps (d x.type).steps i; holes = k }))
  where
    at : (o : Option ℕ) → then (unless_past o (record { type = x.type; rows = rows ++ rows_of x.steps; holes = m })) (λ w. node w.rows k (d w.type))
        ≡ unless_past (first_of o (first_past (d x.type).steps)) (record { type = (d x.type).type; rows = (rows ++ rows_of x.steps) ++ rows_of (d x.type).steps; holes = k })
    at None = refl
    at (Some n) = refl

all-after : (rows : List Row) (m k : ℕ) (x : AllDerived) (d : List TypeTree → Derived) → then (all_node rows m x) (λ w. node w.rows k (d w.types)) ≡ node rows k (after x.steps (d x.types))
all-after rows m k x d =
    at (first_past x.steps) ∙ (λ i. unless_past (sym (first_past-append x.steps (d x.types).steps) i) (record { type = (d x.types).type; rows = behind rows x.steps (d x.types).steps i; holes = k }))
  where
    at : (o : Option ℕ) → then (all_unless_past o (record { types = x.types; rows = rows ++ rows_of x.steps; holes = m })) (λ w. node w.rows k (d w.types))
        ≡ unless_past (first_of o (first_past (d x.types).steps)) (record { type = (d x.types).type; rows = (rows ++ rows_of x.steps) ++ rows_of (d x.types).steps; holes = k })
    at None = refl
    at (Some n) = refl

after-after : (a b : List Step) (d : Derived) → after a (after b d) ≡ after (a ++ b) d
after-after a b d = λ i. record { type = d.type; steps = sym (append_assoc a b d.steps) i }

-- what comes after a part that is walked as it is derived
then_same : {A B : Type 0} (m n : Result A ℕ) (go : A → Result B ℕ) → m ≡ n → then m go ≡ then n go
then_same m n go e = ap (λ r. then r go) e

-- two continuations that are alike at a node
then_node : {B : Type 0} (rows : List Row) (m : ℕ) (x : Derived) (f g : Walked → Result B ℕ) → ((rs : List Row) → f (record { type = x.type; rows = rs; holes = m }) ≡ g (record { type = x.type; rows = rs; holes = m })) → then (node rows m x) f ≡ then (node rows m x) g
then_node rows m x f g same = at (first_past x.steps)
  where
    at : (o : Option ℕ) → then (unless_past o (record { type = x.type; rows = rows ++ rows_of x.steps; holes = m })) f ≡ then (unless_past o (record { type = x.type; rows = rows ++ rows_of x.steps; holes = m })) g
    at None = same (rows ++ rows_of x.steps)
    at (Some n) = refl

then_all : {B : Type 0} (rows : List Row) (m : ℕ) (x : AllDerived) (f g : AllWalked → Result B ℕ) → ((rs : List Row) → f (record { types = x.types; rows = rs; holes = m }) ≡ g (record { types = x.types; rows = rs; holes = m })) → then (all_node rows m x) f ≡ then (all_node rows m x) g
then_all rows m x f g same = at (first_past x.steps)
  where
    at : (o : Option ℕ) → then (all_unless_past o (record { types = x.types; rows = rows ++ rows_of x.steps; holes = m })) f ≡ then (all_unless_past o (record { types = x.types; rows = rows ++ rows_of x.steps; holes = m })) g
    at None = same (rows ++ rows_of x.steps)
    at (Some n) = refl

-- what comes behind both parts
then_pair : (m : Result Walked ℕ) (go : Walked → Result Walked ℕ) (next : PairWalked → Result Walked ℕ) → then (pair m go) next ≡ then m (λ x. then (go x) (λ y. next (record { first = x.type; second = y.type; rows = y.rows; holes = y.holes })))
then_pair (Err e) go next = refl
then_pair (Ok x) go next = second (go x)
  where
    second : (r : Result Walked ℕ) → then (then r (λ y. Ok (record { first = x.type; second = y.type; rows = y.rows; holes = y.holes }))) next ≡ then r (λ y. next (record { first = x.type; second = y.type; rows = y.rows; holes = y.holes }))
    second (Err e) = refl
    second (Ok y) = refl

module _ (holes names : ℕ → PowerMap) (records : List RecordTree) (self : Signature) (callee : ℕ → Callee) where
  abbrev der : ℕ → List TypeTree → ExprTree → Derived
  der n vars e = derive holes names records self callee n vars e

  abbrev der_all : ℕ → List TypeTree → ExprTrees → AllDerived
  der_all n vars es = derive_all holes names records self callee n vars es

  abbrev wa : List Row → ℕ → List TypeTree → ExprTree → Result Walked ℕ
  wa rows n vars e = walk holes names records self callee rows n vars e

  abbrev hs : ExprTree → ℕ
  hs e = expr_holes records callee e

  -- the walk of the expression is its derivation
  abbrev Same : ExprTree → Type 0
  Same e = (rows : List Row) (n : ℕ) (vars : List TypeTree) → wa rows n vars e ≡ node rows (n + hs e) (der n vars e)

  -- one part
  one_part : (a : ExprTree) → Same a → (rows : List Row) (n : ℕ) (vars : List TypeTree) (d : TypeTree → Derived) → then (wa rows n vars a) (λ x. node x.rows x.holes (d x.type)) ≡ node rows (n + hs a) (after (der n vars a).steps (d (der n vars a).type))
  one_part a same rows n vars d =
      then_same (wa rows n vars a) (node rows (n + hs a) (der n vars a)) (λ x. node x.rows x.holes (d x.type)) (same rows n vars)
      ∙ then_node rows (n + hs a) (der n vars a) (λ x. node x.rows x.holes (d x.type)) (λ x. node x.rows (n + hs a) (d x.type)) (λ rs. refl)
      ∙ node-after rows (n + hs a) (n + hs a) (der n vars a) d

  -- two parts, the second of which sees variables that the first gives
  two_parts : (a b : ExprTree) → Same a → Same b → (rows : List Row) (n : ℕ) (vars : List TypeTree) (scope : TypeTree → List TypeTree) (d : TypeTree → TypeTree → Derived) →
      (let x = der n vars a in let y = der (n + hs a) (scope x.type) b in then (wa rows n vars a) (λ x. then (wa x.rows x.holes (scope x.type) b) (λ y. node y.rows y.holes (d x.type y.type))) ≡ node rows (n + (hs a + hs b)) (after (x.steps ++ y.steps) (d x.type y.type)))
  two_parts a b same also rows n vars scope d =
      let x = der n vars a in
      let y = der (n + hs a) (scope x.type) b in
      let sum : n + hs a + hs b ≡ n + (hs a + hs b) = omega arith in
      then_same (wa rows n vars a) (node rows (n + hs a) x) (λ x. then (wa x.rows x.holes (scope x.type) b) (λ y. node y.rows y.holes (d x.type y.type))) (same rows n vars)
      ∙ then_node rows (n + hs a) x (λ x. then (wa x.rows x.holes (scope x.type) b) (λ y. node y.rows y.holes (d x.type y.type))) (λ w. node w.rows (n + (hs a + hs b)) (after y.steps (d x.type y.type))) (λ rs. one_part b also rs (n + hs a) (scope x.type) (d x.type) ∙ ap (λ m. node rs m (after y.steps (d x.type y.type))) sum)
      ∙ node-after rows (n + hs a) (n + (hs a + hs b)) x (λ t. after y.steps (d x.type y.type))
      ∙ ap (node rows (n + (hs a + hs b))) (after-after x.steps y.steps (d x.type y.type))

  -- three parts, the last of which sees variables that the first gives
  three_parts : (c a b : ExprTree) → Same c → Same a → Same b → (rows : List Row) (n : ℕ) (vars : List TypeTree) (scope : TypeTree → List TypeTree) (d : TypeTree → TypeTree → TypeTree → Derived) →
      (let z = der n vars c in let x = der (n + hs c) vars a in let y = der (n + hs c + hs a) (scope z.type) b in then (wa rows n vars c) (λ z. then (wa z.rows z.holes vars a) (λ x. then (wa x.rows x.holes (scope z.type) b) (λ y. node y.rows y.holes (d z.type x.type y.type)))) ≡ node rows (n + (hs c + (hs a + hs b))) (after (z.steps ++ (x.steps ++ y.steps)) (d z.type x.type y.type)))
  three_parts c a b first same also rows n vars scope d =
      let z = der n vars c in
      let x = der (n + hs c) vars a in
      let y = der (n + hs c + hs a) (scope z.type) b in
      let sum : n + hs c + (hs a + hs b) ≡ n + (hs c + (hs a + hs b)) = omega arith in
      then_same (wa rows n vars c) (node rows (n + hs c) z) (λ z. then (wa z.rows z.holes vars a) (λ x. then (wa x.rows x.holes (scope z.type) b) (λ y. node y.rows y.holes (d z.type x.type y.type)))) (first rows n vars)
      ∙ then_node rows (n + hs c) z (λ z. then (wa z.rows z.holes vars a) (λ x. then (wa x.rows x.holes (scope z.type) b) (λ y. node y.rows y.holes (d z.type x.type y.type)))) (λ w. node w.rows (n + (hs c + (hs a + hs b))) (after (x.steps ++ y.steps) (d z.type x.type y.type)))
      (λ rs. two_parts a b same also rs (n + hs c) vars (λ t. scope z.type) (d z.type) ∙ ap (λ m. node rs m (after (x.steps ++ y.steps) (d z.type x.type y.type))) sum)
      ∙ node-after rows (n + hs c) (n + (hs c + (hs a + hs b))) z (λ t. after (x.steps ++ y.steps) (d z.type x.type y.type))
      ∙ ap (node rows (n + (hs c + (hs a + hs b)))) (after-after z.steps (x.steps ++ y.steps) (d z.type x.type y.type))

  pair_parts : (a b : ExprTree) → Same a → Same b → (rows : List Row) (n : ℕ) (vars : List TypeTree) (d : TypeTree → TypeTree → Derived) →
      (let x = der n vars a in let y = der (n + hs a) vars b in pair_node (pair (wa rows n vars a) (λ x. wa x.rows x.holes vars b)) d ≡ node rows (n + (hs a + hs b)) (after (x.steps ++ y.steps) (d x.type y.type)))
  pair_parts a b same also rows n vars d = then_pair (wa rows n vars a) (λ x. wa x.rows x.holes vars b) (λ w. node w.rows w.holes (d w.first w.second)) ∙ two_parts a b same also rows n vars (λ t. vars) d

  -- expressions one after another
  abbrev AllSame : ExprTrees → Type 0
  AllSame es = (rows : List Row) (n : ℕ) (vars : List TypeTree) → walk_all holes names records self callee rows n vars es ≡ all_node rows (n + exprs_holes records callee es) (der_all n vars es)

  parts : (es : ExprTrees) → AllSame es → (rows : List Row) (n : ℕ) (vars : List TypeTree) (d : List TypeTree → Derived) →
      then (walk_all holes names records self callee rows n vars es) (λ w. node w.rows w.holes (d w.types)) ≡ node rows (n + exprs_holes records callee es) (after (der_all n vars es).steps (d (der_all n vars es).types))
  parts es same rows n vars d =
      let m = n + exprs_holes records callee es in
      ap (λ r. then r (λ w. node w.rows w.holes (d w.types))) (same rows n vars)
      ∙ then_all rows m (der_all n vars es) (λ w. node w.rows w.holes (d w.types)) (λ w. node w.rows m (d w.types)) (λ rs. refl)
      ∙ all-after rows m m (der_all n vars es) d

  next_part : (rows : List Row) (m k : ℕ) (x : Derived) (ds : AllDerived) → then (node rows m x) (λ w. then (all_node w.rows k ds) (λ v. Ok (record { types = w.type ∷ v.types; rows = v.rows; holes = v.holes }))) ≡ all_node rows k (record { types = x.type ∷ ds.types; steps = x.steps ++ ds.steps })
  next_part rows m k x ds =
      at (first_past x.steps) (first_past ds.steps) ∙ (λ i. all_unless_past (sym (first_past-append x.steps ds.steps) i) (record { types = x.type ∷ ds.types; rows = behind rows x.steps ds.steps i; holes = k }))
    where
      at : (o p : Option ℕ) → then (unless_past o (record { type = x.type; rows = rows ++ rows_of x.steps; holes = m })) (λ w. then (all_unless_past p (record { types = ds.types; rows = w.rows ++ rows_of ds.steps; holes = k })) (λ v. Ok (record { types = w.type ∷ v.types; rows = v.rows; holes = v.holes })))
          ≡ all_unless_past (first_of o p) (record { types = x.type ∷ ds.types; rows = (rows ++ rows_of x.steps) ++ rows_of ds.steps; holes = k })
      at None None = refl
      at None (Some p) = refl
      at (Some n) p = refl

  plus_zero : (n : ℕ) → n ≡ n + 0
  plus_zero n = omega arith

  mutual
    pub walk-is : (e : ExprTree) → Same e
    walk-is (truth at b) rows n vars = ap (λ m. node rows m (formed at [] bool_type)) (plus_zero n)
    walk-is (number at c m) rows n vars = refl
    walk-is (local at k) rows n vars = ap (λ m. node rows m (local_rule at (slice_get vars k))) (plus_zero n)
    walk-is (call at j es) rows n vars =
        let c = callee_holes (callee j) in
        let ds = der_all (n + c) vars es in
        let sum : n + c + exprs_holes records callee es ≡ n + (c + exprs_holes records callee es) = omega arith in
        parts es (walk_all-is es) rows (n + c) vars (λ ts. call_rule at (offered holes names records self callee n (callee j)) ts)
        ∙ ap (λ m. node rows m (after ds.steps (call_rule at (offered holes names records self callee n (callee j)) ds.types))) sum
    walk-is (negate at a) rows n vars = one_part a (walk-is a) rows n vars (λ t. negate_rule at t)
    walk-is (not_expr at a) rows n vars = one_part a (walk-is a) rows n vars (λ t. not_rule at t)
    walk-is (pown at a i) rows n vars = one_part a (walk-is a) rows n vars (λ t. pown_rule at i t)
    walk-is (arith_tree at op a b) rows n vars = pair_parts a b (walk-is a) (walk-is b) rows n vars (λ s t. arith_rule at op s t)
    walk-is (compare at sign a b) rows n vars = pair_parts a b (walk-is a) (walk-is b) rows n vars (λ s t. compare_rule at s t)
    walk-is (both at a b) rows n vars = pair_parts a b (walk-is a) (walk-is b) rows n vars (λ s t. truths_rule at s t)
    walk-is (either at a b) rows n vars = pair_parts a b (walk-is a) (walk-is b) rows n vars (λ s t. truths_rule at s t)
    walk-is (if at c a b) rows n vars =
        (λ i. then (wa rows n vars c) (λ z. then_pair (wa z.rows z.holes vars a) (λ x. wa x.rows x.holes vars b) (λ w. node w.rows w.holes (if_rule at z.type w.first w.second)) i))
        ∙ three_parts c a b (walk-is c) (walk-is a) (walk-is b) rows n vars (λ t. vars) (λ r s t. if_rule at r s t)
    walk-is (bind at a b) rows n vars = two_parts a b (walk-is a) (walk-is b) rows n vars (λ t. vars ++ t ∷ []) (λ s t. formed at [] t)
    walk-is (split at l a b) rows n vars =
        then_pair (wa rows n vars l) (λ z. wa z.rows z.holes vars a) (λ w. then (wa w.rows w.holes (vars ++ item w.first ∷ w.first ∷ []) b) (λ y. node y.rows y.holes (split_rule at w.first w.second y.type)))
        ∙ three_parts l a b (walk-is l) (walk-is a) (walk-is b) rows n vars (λ t. vars ++ item t ∷ t ∷ []) (λ r s t. split_rule at r s t)
    walk-is (nil at m) rows n vars = refl
    walk-is (list_expr at es) rows n vars = parts es (walk_all-is es) rows n vars (λ ts. list_rule at ts)
    walk-is (cons at a b) rows n vars = pair_parts a b (walk-is a) (walk-is b) rows n vars (λ s t. cons_rule at s t)
    walk-is (record_expr at r es) rows n vars =
        let c = record_holes (slice_get records r) in
        let us = first_units c (λ k. holes (n + k)) in
        let ds = der_all (n + c) vars es in
        let sum : n + c + exprs_holes records callee es ≡ n + (c + exprs_holes records callee es) = omega arith in
        parts es (walk_all-is es) rows (n + c) vars (λ ts. record_rule at r us (slice_get records r) ts)
        ∙ ap (λ m. node rows m (after ds.steps (record_rule at r us (slice_get records r) ds.types))) sum
    walk-is (field at r k a) rows n vars = one_part a (walk-is a) rows n vars (λ t. field_rule at r k (slice_get records r) t)

    pub walk_all-is : (es : ExprTrees) → AllSame es
    walk_all-is none rows n vars = λ i. Ok (record { types = []; rows = sym (append-nil rows) i; holes = plus_zero n i })
    walk_all-is (more e es) rows n vars =
        let m = n + hs e in
        let x = der n vars e in
        let ds = der_all m vars es in
        let sum : m + exprs_holes records callee es ≡ n + (hs e + exprs_holes records callee es) = omega arith in
        let go = λ (w : Walked). then (walk_all holes names records self callee w.rows w.holes vars es) (λ v. Ok (record { types = w.type ∷ v.types; rows = v.rows; holes = v.holes })) in
        then_same (wa rows n vars e) (node rows m x) go (walk-is e rows n vars)
        ∙ then_node rows m x go (λ w. then (all_node w.rows (n + (hs e + exprs_holes records callee es)) ds) (λ v. Ok (record { types = w.type ∷ v.types; rows = v.rows; holes = v.holes })))
        (λ rs. ap (λ r. then r (λ v. Ok (record { types = x.type ∷ v.types; rows = v.rows; holes = v.holes }))) (walk_all-is es rs m vars ∙ ap (λ k. all_node rs k ds) sum))
        ∙ next_part rows m (n + (hs e + exprs_holes records callee es)) x ds
