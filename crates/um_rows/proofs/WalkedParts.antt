-- The walk over a body: what is left of it when the first parts were walked.
use Rattle.std.proofs.Common.{◌≡◌, refl, sym, ap, subst, ◌∙◌, ℕ, ◌+◌, ◌<◌, ◌≤◌, Bool, List, [], ◌∷◌, ◌++◌, map, length, get_or, Option, Some, None, Result, Ok, Err, arith}
use Rattle.std.proofs.lemmas.List.{append_assoc, append-nil, map-append}
use Rattle.um_units.specs.PowerMap.{nth}
use Rattle.um_tree.specs.declared.types.Ty.{Ty}
use Rattle.um_tree.specs.declared.program.Record.{Record}
use Rattle.um_tree.specs.declared.program.Scheme.{Scheme}
use Rattle.um_tree.specs.declared.expression.Expr.{Expr}
use Rattle.um_tree.specs.TypeTree.{TypeTree, type_tree}
use Rattle.um_tree.specs.ProgramTree.{record_tree}
use Rattle.um_tree.specs.ExprTree.{ExprTree, expr_tree, in_order, bind}
use Rattle.um_slots.specs.declared.context.Context.{Context}
use Rattle.um_rows.specs.declared.progress.Progress.{Progress}
use Rattle.um_equal_types.specs.declared.row.Row.{Row}
use Rattle.um_equal_types.specs.declared.row.RowStop.{RowStop}
use Rattle.um_equal_types.specs.declared.row.RowStop.TheVariants as stop
use Rattle.um_rows.specs.NodeTypes.{TypedNode}
use Rattle.um_rows.specs.Rules.{item, formed}
use Rattle.um_rows.specs.Walk.{Walked, AllWalked, PairWalked, then, unless_past, node, pair}
use Rattle.um_rows.specs.Reached.{StopsAs, IsReached}
use Rattle.um_rows.specs.Body.{noted_signature, called, body_walk, body_walk_pair, body_walk_all, body_holes, bodies_holes}
use Rattle.um_rows.specs.Kept.{kept_then, body_kept, body_all_kept}
use Rattle.um_slots.proofs.Parts.{from, from_more, from_end}
use Rattle.um_rows.proofs.WalkLaws.{walk-is}

-- ---- stops
pub stops_first : {A B : Type 0} (m : Result A ℕ) (go : A → Result B ℕ) (e : RowStop) → StopsAs m e → StopsAs (then m go) e
stops_first m go stop.Slots h = h
stops_first m go (stop.Range at) h = ap (λ r. then r go) h
stops_first m go stop.NoMemory h = tt

pub stops_second : {A B : Type 0} (m : Result A ℕ) (x : A) (go : A → Result B ℕ) (e : RowStop) → m ≡ Ok x → StopsAs (go x) e → StopsAs (then m go) e
stops_second m x go e is h = subst (λ r. StopsAs (then r go) e) (sym is) h

pub reached_second : {A : Type 0} (m : Result A ℕ) (x : A) (go : A → Result Walked ℕ) (new : Progress) (r : Result Ty RowStop) → m ≡ Ok x → IsReached (go x) new r → IsReached (then m go) new r
reached_second m x go new r is h = subst (λ s. IsReached (then s go) new r) (sym is) h

-- the walk that ends with a type has counted the holes
node_holes : (o : Option ℕ) (w v : Walked) → unless_past o w ≡ Ok v → v.holes ≡ w.holes
node_holes None w v h = let same : w ≡ v = cc h in sym (ap (λ (x : Walked). x.holes) same)
node_holes (Some at) w v h = absurd (cc h)

-- both parts of a pair were walked
record BothWalked (m : Result Walked ℕ) (go : Walked → Result Walked ℕ) (w : PairWalked) : Type 0 where
  first : Walked
  second : Walked
  first_is : m ≡ Ok first
  second_is : go first ≡ Ok second
  same_holes : second.holes ≡ w.holes

second_walked : (x : Walked) (go : Walked → Result Walked ℕ) (w : PairWalked) (r : Result Walked ℕ) → go x ≡ r → then r (λ y. Ok (record { first = x.type; second = y.type; rows = y.rows; holes = y.holes })) ≡ Ok w → BothWalked (Ok x) go w
second_walked x go w (Err e) is h = absurd (cc h)
second_walked x go w (Ok y) is h =
    let both : PairWalked = record { first = x.type; second = y.type; rows = y.rows; holes = y.holes } in
    let same : both ≡ w = cc h in
    record { first = x; second = y; first_is = refl; second_is = is; same_holes = ap (λ (z : PairWalked). z.holes) same }

both_walked : (m : Result Walked ℕ) (go : Walked → Result Walked ℕ) (w : PairWalked) → pair m go ≡ Ok w → BothWalked m go w
both_walked (Err e) go w h = absurd (cc h)
both_walked (Ok x) go w h = second_walked x go w (go x) refl h

-- the head and the tail of a list come into scope
pub scope_of_split : (vars : List Ty) (head tail : Ty) (list : TypeTree) → type_tree head ≡ item list → type_tree tail ≡ list → map type_tree ((vars ++ head ∷ []) ++ tail ∷ []) ≡ map type_tree vars ++ item list ∷ list ∷ []
scope_of_split vars head tail list head_is tail_is =
    ap (map type_tree) (append_assoc vars (head ∷ []) (tail ∷ []))
    ∙ map-append type_tree vars (head ∷ tail ∷ [])
    ∙ (λ i. map type_tree vars ++ head_is i ∷ tail_is i ∷ [])

-- these types, and then those of the rest
abbrev pub after_these : List TypeTree → Result AllWalked ℕ → Result AllWalked ℕ
after_these ts (Ok w) = Ok (record { types = ts ++ w.types; rows = w.rows; holes = w.holes })
after_these ts (Err e) = Err e

none_before : (m : Result AllWalked ℕ) → m ≡ after_these [] m
none_before (Ok w) = refl
none_before (Err e) = refl

stops_after : (ts : List TypeTree) (m : Result AllWalked ℕ) (e : RowStop) → StopsAs m e → StopsAs (after_these ts m) e
stops_after ts m stop.Slots h = h
stops_after ts m (stop.Range at) h = ap (after_these ts) h
stops_after ts m stop.NoMemory h = tt

one_more : (ts : List TypeTree) (t : TypeTree) (m : Result AllWalked ℕ) → after_these ts (then m (λ w. Ok (record { types = t ∷ w.types; rows = w.rows; holes = w.holes }))) ≡ after_these (ts ++ t ∷ []) m
one_more ts t (Ok w) = λ i. Ok (record { types = sym (append_assoc ts (t ∷ []) w.types) i; rows = w.rows; holes = w.holes })
one_more ts t (Err e) = refl

module _ (records : List Record) (schemes : List Scheme) (c : Context) where
  pub walked_holes : (rows : List Row) (n : ℕ) (vars : List TypeTree) (e : ExprTree) (w : Walked) → body_walk records schemes c rows n vars e ≡ Ok w → w.holes ≡ n + body_holes records schemes c e
  walked_holes rows n vars e w h =
      node_holes _ _ w (sym (walk-is (nth c.holes.items) (nth c.names.items) (map record_tree records) (noted_signature c) (called schemes c) e rows n vars) ∙ h)

  -- what comes behind a part has room
  pub room_behind : (rows : List Row) (n : ℕ) (vars : List TypeTree) (e : ExprTree) (w : Walked) (k limit : ℕ) → body_walk records schemes c rows n vars e ≡ Ok w → n + (body_holes records schemes c e + k) ≤ limit → w.holes + k ≤ limit
  room_behind rows n vars e w k limit h room = let is = walked_holes rows n vars e w h in omega (arith, is, room)

  -- what comes behind two parts has room
  pub room_behind_pair : (rows : List Row) (n : ℕ) (vars : List TypeTree) (a b : ExprTree) (w : PairWalked) (k limit : ℕ) → body_walk_pair records schemes c rows n vars a b ≡ Ok w →
      n + (body_holes records schemes c a + (body_holes records schemes c b + k)) ≤ limit → w.holes + k ≤ limit
  room_behind_pair rows n vars a b w k limit h room =
      let both = both_walked (body_walk records schemes c rows n vars a) (λ x. body_walk records schemes c x.rows x.holes vars b) w h in
      let first = walked_holes rows n vars a both.first both.first_is in
      let second = walked_holes both.first.rows both.first.holes vars b both.second both.second_is in
      let last = both.same_holes in
      omega (arith, first, second, last, room)

  -- the first i expressions have these types, the scope is as it was, and these nodes are kept after those at the start
  pub record IsLeft (asked : Bool) (start : List TypedNode) (rows : List Row) (n : ℕ) (vars : List Ty) (es : List Expr) (i : ℕ) (types scope : List Ty) (new : Progress) (nodes : List TypedNode) : Type 0 where
    pub whole : body_walk_all records schemes c rows n (map type_tree vars) (from es 0) ≡ after_these (map type_tree types) (body_walk_all records schemes c new.rows.items new.holes (map type_tree vars) (from es i))
    pub room : new.holes + bodies_holes records schemes c (from es i) ≤ length c.holes.items
    pub same_scope : scope ≡ vars
    pub nodes_left : start ++ body_all_kept asked records schemes c rows n (map type_tree vars) (from es 0) ≡ nodes ++ body_all_kept asked records schemes c new.rows.items new.holes (map type_tree vars) (from es i)

  module _ (asked : Bool) (start : List TypedNode) (rows : List Row) (n : ℕ) (vars : List Ty) (es : List Expr) where
    pub left_first : (p : Progress) → p.rows.items ≡ rows → p.holes ≡ n → n + bodies_holes records schemes c (in_order (map expr_tree es)) ≤ length c.holes.items → IsLeft asked start rows n vars es 0 [] vars p start
    left_first p r m h = record {
      whole = none_before (body_walk_all records schemes c rows n (map type_tree vars) (from es 0)) ∙ (λ i. after_these [] (body_walk_all records schemes c (sym r i) (sym m i) (map type_tree vars) (from es 0)));
      room = subst (λ k. k + bodies_holes records schemes c (from es 0) ≤ length c.holes.items) (sym m) h;
      same_scope = refl;
      nodes_left = λ i. start ++ body_all_kept asked records schemes c (sym r i) (sym m i) (map type_tree vars) (from es 0);
    }

    pub room_at : (i : ℕ) (e : Expr) (types scope : List Ty) (p : Progress) (nodes : List TypedNode) → i < length es → e ≡ get_or es i e → IsLeft asked start rows n vars es i types scope p nodes → p.holes + (body_holes records schemes c (expr_tree e) + bodies_holes records schemes c (from es (i + 1))) ≤ length c.holes.items
    room_at i e types scope p nodes h s l = subst (λ xs. p.holes + bodies_holes records schemes c xs ≤ length c.holes.items) (from_more es i e h s) l.room

    pub room_now : (i : ℕ) (e : Expr) (types scope : List Ty) (p : Progress) (nodes : List TypedNode) → i < length es → e ≡ get_or es i e → IsLeft asked start rows n vars es i types scope p nodes → p.holes + body_holes records schemes c (expr_tree e) ≤ length c.holes.items
    room_now i e types scope p nodes h s l = let room = room_at i e types scope p nodes h s l in omega (arith, room)

    -- the walk of the next one stops the whole, or is one more type
    pub left_stops : (i : ℕ) (e : Expr) (types scope : List Ty) (p : Progress) (nodes : List TypedNode) (x : RowStop) → i < length es → e ≡ get_or es i e → IsLeft asked start rows n vars es i types scope p nodes →
        StopsAs (body_walk records schemes c p.rows.items p.holes (map type_tree scope) (expr_tree e)) x → StopsAs (body_walk_all records schemes c rows n (map type_tree vars) (from es 0)) x
    left_stops i e types scope p nodes x h g l f =
        subst (λ m. StopsAs m x) (sym (l.whole ∙ ap (λ r. after_these (map type_tree types) (body_walk_all records schemes c p.rows.items p.holes (map type_tree vars) r)) (from_more es i e h g)))
        (stops_after (map type_tree types) _ x (stops_first _ _ x (subst (λ vs. StopsAs (body_walk records schemes c p.rows.items p.holes (map type_tree vs) (expr_tree e)) x) l.same_scope f)))

    pub left_next : (i : ℕ) (e : Expr) (types scope other : List Ty) (p new : Progress) (nodes later : List TypedNode) (t : Ty) → i < length es → e ≡ get_or es i e → IsLeft asked start rows n vars es i types scope p nodes →
        body_walk records schemes c p.rows.items p.holes (map type_tree scope) (expr_tree e) ≡ Ok (record { type = type_tree t; rows = new.rows.items; holes = new.holes }) → other ≡ scope →
        later ≡ nodes ++ body_kept asked records schemes c p.rows.items p.holes (map type_tree scope) (expr_tree e) → IsLeft asked start rows n vars es (i + 1) (types ++ t ∷ []) other new later
    left_next i e types scope other p new nodes later t h g l is same keeps =
        let here : body_walk records schemes c p.rows.items p.holes (map type_tree vars) (expr_tree e) ≡ Ok (record { type = type_tree t; rows = new.rows.items; holes = new.holes }) = ap (λ vs. body_walk records schemes c p.rows.items p.holes (map type_tree vs) (expr_tree e)) (sym l.same_scope) ∙ is in
        record {
          whole =
              l.whole
              ∙ ap (λ r. after_these (map type_tree types) (body_walk_all records schemes c p.rows.items p.holes (map type_tree vars) r)) (from_more es i e h g)
              ∙ ap (λ m. after_these (map type_tree types) (then m (λ (w : Walked). then (body_walk_all records schemes c w.rows w.holes (map type_tree vars) (from es (i + 1))) (λ v. Ok (record { types = w.type ∷ v.types; rows = v.rows; holes = v.holes }))))) here
              ∙ one_more (map type_tree types) (type_tree t) (body_walk_all records schemes c new.rows.items new.holes (map type_tree vars) (from es (i + 1)))
              ∙ ap (λ ts. after_these ts (body_walk_all records schemes c new.rows.items new.holes (map type_tree vars) (from es (i + 1)))) (sym (map-append type_tree types (t ∷ [])));
          room = room_behind p.rows.items p.holes (map type_tree scope) (expr_tree e) (record { type = type_tree t; rows = new.rows.items; holes = new.holes }) (bodies_holes records schemes c (from es (i + 1))) (length c.holes.items) is (room_at i e types scope p nodes h g l);
          same_scope = same ∙ l.same_scope;
          nodes_left =
              let rest = body_all_kept asked records schemes c new.rows.items new.holes (map type_tree vars) (from es (i + 1)) in
              let own = body_kept asked records schemes c p.rows.items p.holes (map type_tree vars) (expr_tree e) in
              let kept_here : later ≡ nodes ++ own = keeps ∙ ap (λ vs. nodes ++ body_kept asked records schemes c p.rows.items p.holes (map type_tree vs) (expr_tree e)) l.same_scope in
              l.nodes_left
              ∙ ap (λ r. nodes ++ body_all_kept asked records schemes c p.rows.items p.holes (map type_tree vars) r) (from_more es i e h g)
              ∙ ap (λ m. nodes ++ (own ++ kept_then m (λ (w : Walked). body_all_kept asked records schemes c w.rows w.holes (map type_tree vars) (from es (i + 1))))) here
              ∙ sym (append_assoc nodes own rest)
              ∙ ap (λ xs. xs ++ rest) (sym kept_here);
        }

    pub left_last : (i : ℕ) (types scope : List Ty) (p : Progress) (nodes : List TypedNode) → length es ≤ i → IsLeft asked start rows n vars es i types scope p nodes → body_walk_all records schemes c rows n (map type_tree vars) (in_order (map expr_tree es)) ≡ Ok (record { types = map type_tree types; rows = p.rows.items; holes = p.holes })
    left_last i types scope p nodes h l =
        l.whole ∙ ap (λ r. after_these (map type_tree types) (body_walk_all records schemes c p.rows.items p.holes (map type_tree vars) r)) (from_end es i h)
        ∙ (λ j. Ok (record { types = append-nil (map type_tree types) j; rows = p.rows.items; holes = p.holes }))

    pub left_kept : (i : ℕ) (types scope : List Ty) (p : Progress) (nodes : List TypedNode) → length es ≤ i → IsLeft asked start rows n vars es i types scope p nodes → nodes ≡ start ++ body_all_kept asked records schemes c rows n (map type_tree vars) (in_order (map expr_tree es))
    left_kept i types scope p nodes h l =
        sym (l.nodes_left ∙ ap (λ r. nodes ++ body_all_kept asked records schemes c p.rows.items p.holes (map type_tree vars) r) (from_end es i h) ∙ append-nil nodes)

  -- ---- a variable comes into scope: where the part behind it stops, the whole does
  module _ (rows : List Row) (n : ℕ) (vars : List Ty) (new : Progress) (r : Result Ty RowStop) where
    pub bind_stops : (at : ℕ) (a b : ExprTree) (s : Ty) (first : Progress) (e : RowStop) → body_walk records schemes c rows n (map type_tree vars) a ≡ Ok (record { type = type_tree s; rows = first.rows.items; holes = first.holes }) →
        StopsAs (body_walk records schemes c first.rows.items first.holes (map type_tree (vars ++ s ∷ [])) b) e → StopsAs (body_walk records schemes c rows n (map type_tree vars) (bind at a b)) e
    bind_stops at a b s first e f h =
        let wider : map type_tree (vars ++ s ∷ []) ≡ map type_tree vars ++ type_tree s ∷ [] = map-append type_tree vars (s ∷ []) in
        stops_second _ (record { type = type_tree s; rows = first.rows.items; holes = first.holes }) (λ x. then (body_walk records schemes c x.rows x.holes (map type_tree vars ++ x.type ∷ []) b) (λ y. node y.rows y.holes (formed at [] y.type))) e f
        (stops_first _ (λ y. node y.rows y.holes (formed at [] y.type)) e (subst (λ vs. StopsAs (body_walk records schemes c first.rows.items first.holes vs b) e) wider h))
