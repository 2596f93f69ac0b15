-- The steps of an annotation: types pushed one by one, their variables, and the types put back at their nodes.
use Rattle.std.proofs.Common.{◌≡◌, ℕ, ◌+◌, ◌<◌, Bool, true, false, cond, nat_le, List, [], ◌∷◌, ◌++◌, map, drop, set, length, get_or, Some, None, inl, inr, refl, sym, ap, ◌∙◌, subst}
use Rattle.std.specs.Prelude.{All}
use Rattle.std.proofs.lemmas.Bool.{cases_Bool, cond-true, cond-false}
use Rattle.std.proofs.lemmas.List.{append_assoc, map-append, length-append, length-map, drop-set, drop_more}
use Rattle.std.proofs.lemmas.List.Elements.{All-append}
use Rattle.um_units.specs.PowerMap.{PowerMap, nth}
use Rattle.um_units.specs.Variables.{VariablesBelow}
use Rattle.um_tree.specs.declared.types.Ty.{Ty}
use Rattle.um_tree.specs.declared.types.Types.{Types}
use Rattle.um_tree.specs.TypeTree.{TypeTree, type_tree, type_trees}
use Rattle.um_tree.specs.Typing.{put}
use Rattle.um_tree.specs.Scheme.{type_variables, variables}
use Rattle.um_elim.specs.Application.{type_fits}
use Rattle.um_elim.specs.Numbering.{variable_order, by_place, renumbered}
use Rattle.um_elim.proofs.GrowingOrder.{All-front, All-back}
use Rattle.um_rows.specs.declared.nodes.NodeType.{NodeType}
use Rattle.um_rows.specs.NodeTypes.{TypedNode, typed_node}
use Rattle.um_infer.proofs.FormingSteps.{puts_below}
use Rattle.um_annot.specs.TextOrder.{put_in, in_text_order, node_with}
use Rattle.um_annot.specs.Annotated.{node_types, first_past, numbered, general}
use Rattle.um_annot.specs.declared.stop.AnnotStop.{AnnotStop}
use Rattle.um_annot.specs.declared.stop.AnnotStop.TheVariants as stop
use Rattle.um_annot.specs.declared.order.Placed.{Placed}
use Rattle.um_annot.specs.Answers.{StopsAt, node_at, solved_nodes, retyped}
use Rattle.um_annot.specs.Placing.{placed_nodes, type_of}
use Rattle.um_annot.proofs.Ordered.{order_with}
use Rattle.um_annot.proofs.NodeLists.{types_with}

-- ---- variables of nodes in another order
module _ (P : ℕ → Type 0) where
  put_in_all : (n : TypedNode) (ns : List TypedNode) → All P (type_variables n.type) → All P (variables (node_types ns)) → All P (variables (node_types (put_in (λ (x : TypedNode). x.at) n ns)))
  put_in_all n [] one rest = All-append P (type_variables n.type) [] one rest
  put_in_all n (m ∷ ns) one rest =
      elim (cases_Bool (nat_le n.at m.at)) [
        | inl first ↦ subst (λ xs. All P (variables (node_types xs))) (sym (cond-true _ _ _ first)) (All-append P (type_variables n.type) (variables (node_types (m ∷ ns))) one rest)
        | inr later ↦
            let here = All-front P (type_variables m.type) (variables (node_types ns)) rest in
            let behind = put_in_all n ns one (All-back P (type_variables m.type) (variables (node_types ns)) rest) in
            subst (λ xs. All P (variables (node_types xs))) (sym (cond-false _ _ _ later)) (All-append P (type_variables m.type) (variables (node_types (put_in (λ (x : TypedNode). x.at) n ns))) here behind)
      ]

  pub ordered_all : (ns : List TypedNode) → All P (variables (node_types ns)) → All P (variables (node_types (in_text_order ns)))
  ordered_all [] h = h
  ordered_all (n ∷ ns) h = put_in_all n (in_text_order ns) (All-front P (type_variables n.type) (variables (node_types ns)) h) (ordered_all ns (All-back P (type_variables n.type) (variables (node_types ns)) h))

  -- of two lists of types, one after the other
  pub all_both : (ts us : List TypeTree) → All P (variables ts) → All P (variables us) → All P (variables (ts ++ us))
  all_both [] us h k = k
  all_both (t ∷ ts) us h k =
      All-append P (type_variables t) (variables (ts ++ us)) (All-front P (type_variables t) (variables ts) h) (all_both ts us (All-back P (type_variables t) (variables ts) h) k)

-- the nodes with a solution put in hold the variables of its units
pub solved_below : (n : ℕ) (us : List PowerMap) → All (VariablesBelow n) us → (ns : List TypedNode) → All (λ k. k < length us) (variables (node_types ns)) → All (λ k. k < n) (variables (node_types (solved_nodes us ns)))
solved_below n us low ns h = subst (λ ts. All (λ k. k < n) (variables ts)) (sym (types_with (put (nth us)) ns)) (puts_below n us low (node_types ns) h)

pub solved_in_order : (n : ℕ) (us : List PowerMap) (ns : List TypedNode) → All (λ k. k < n) (variables (node_types (solved_nodes us ns))) → All (λ k. k < n) (variables (node_types (solved_nodes us (in_text_order ns))))
solved_in_order n us ns h = subst (λ xs. All (λ k. k < n) (variables (node_types xs))) (sym (order_with (put (nth us)) ns)) (ordered_all (λ k. k < n) (solved_nodes us ns) h)

-- ---- one more type
pub past_more : (ns : List TypedNode) (n : TypedNode) → first_past ns ≡ None → first_past (ns ++ n ∷ []) ≡ first_past (n ∷ [])
past_more [] n h = refl
past_more (m ∷ ns) n h = tested (type_fits m.type) refl (λ k. past_more ns n k) h
  where
    tested : (b : Bool) → type_fits m.type ≡ b → (first_past ns ≡ None → first_past (ns ++ n ∷ []) ≡ first_past (n ∷ [])) → first_past (m ∷ ns) ≡ None → first_past (m ∷ (ns ++ n ∷ [])) ≡ first_past (n ∷ [])
    tested true e rest k = ap (λ c. cond c (first_past (ns ++ n ∷ [])) (Some m.at)) e ∙ rest (sym (ap (λ c. cond c (first_past ns) (Some m.at)) e) ∙ k)
    tested false e rest k = absurd (cc (sym (ap (λ c. cond c (first_past ns) (Some m.at)) e) ∙ k))

pub past_front : (ns ms : List TypedNode) (at : ℕ) → first_past ns ≡ Some at → first_past (ns ++ ms) ≡ Some at
past_front [] ms at h = absurd (cc h)
past_front (m ∷ ns) ms at h = tested (type_fits m.type) refl (λ k. past_front ns ms at k) h
  where
    tested : (b : Bool) → type_fits m.type ≡ b → (first_past ns ≡ Some at → first_past (ns ++ ms) ≡ Some at) → first_past (m ∷ ns) ≡ Some at → first_past (m ∷ (ns ++ ms)) ≡ Some at
    tested true e rest k = ap (λ c. cond c (first_past (ns ++ ms)) (Some m.at)) e ∙ rest (sym (ap (λ c. cond c (first_past ns) (Some m.at)) e) ∙ k)
    tested false e rest k = ap (λ c. cond c (first_past (ns ++ ms)) (Some m.at)) e ∙ sym (ap (λ c. cond c (first_past ns) (Some m.at)) e) ∙ k

pub range_more : (us : List PowerMap) (front : List TypedNode) (n : TypedNode) (more : List TypedNode) → more ≡ front ++ n ∷ [] → first_past (solved_nodes us front) ≡ None → first_past (solved_nodes us more) ≡ first_past (solved_nodes us (n ∷ []))
range_more us front n more e none =
    ap (λ xs. first_past (solved_nodes us xs)) e ∙ ap first_past (map-append (node_with (put (nth us))) front (n ∷ []))
    ∙ past_more (solved_nodes us front) (node_with (put (nth us)) n) none

pub pushed_more : (us : List PowerMap) (front : List TypedNode) (n : TypedNode) (more : List TypedNode) (old types : List TypeTree) (t : TypeTree) → more ≡ front ++ n ∷ [] → types ≡ old ++ node_types (solved_nodes us front) → t ≡ put (nth us) n.type →
    types ++ t ∷ [] ≡ old ++ node_types (solved_nodes us more)
pushed_more us front n more old types t e before one =
    (λ j. before j ++ one j ∷ [])
    ∙ append_assoc old (node_types (solved_nodes us front)) (put (nth us) n.type ∷ [])
    ∙ ap (λ xs. old ++ xs) (sym (map-append (λ (x : TypedNode). x.type) (solved_nodes us front) (solved_nodes us (n ∷ []))))
    ∙ ap (λ xs. old ++ node_types xs) (sym (map-append (node_with (put (nth us))) front (n ∷ [])))
    ∙ ap (λ xs. old ++ node_types (solved_nodes us xs)) (sym e)

-- a node that is out of range is the first of all
pub stops_among : (us : List PowerMap) (front : List TypedNode) (n : TypedNode) (back whole : List TypedNode) (e : AnnotStop) → whole ≡ (front ++ n ∷ []) ++ back → first_past (solved_nodes us front) ≡ None →
    StopsAt (first_past (solved_nodes us (n ∷ []))) e → StopsAt (first_past (solved_nodes us whole)) e
stops_among us front n back whole (stop.PowerRange at) split none h =
    ap (λ xs. first_past (solved_nodes us xs)) split
    ∙ ap first_past (map-append (node_with (put (nth us))) (front ++ n ∷ []) back)
    ∙ past_front (solved_nodes us (front ++ n ∷ [])) (solved_nodes us back) at (range_more us front n (front ++ n ∷ []) refl none ∙ h)
stops_among us front n back whole stop.NoMemory split none h = tt

-- ---- the types put back at their nodes
drop_map : (f : TypeTree → TypeTree) (hs ts : List TypeTree) → drop (length hs) (map f (hs ++ ts)) ≡ map f ts
drop_map f [] ts = refl
drop_map f (h ∷ hs) ts = drop_map f hs ts

pub retyped_with : (f : TypeTree → TypeTree) (ns : List TypedNode) → retyped ns (map f (node_types ns)) ≡ map (node_with f) ns
retyped_with f [] = refl
retyped_with f (n ∷ ns) = ap (λ xs. record { at = n.at; type = f n.type } ∷ xs) (retyped_with f ns)

-- the places are those of the nodes, whatever their types
pub retyped_places : (f : TypeTree → TypeTree) (ns : List TypedNode) (ts : List TypeTree) → retyped (map (node_with f) ns) ts ≡ retyped ns ts
retyped_places f [] ts = refl
retyped_places f (n ∷ ns) [] = refl
retyped_places f (n ∷ ns) (t ∷ ts) = ap (λ xs. record { at = n.at; type = t } ∷ xs) (retyped_places f ns ts)

pub numbered_back : (bases parameters slots : ℕ) (us : List PowerMap) (hs : List TypeTree) (ns : List TypedNode) →
    retyped ns (drop (length hs) (renumbered (map (general bases parameters slots) (hs ++ node_types (solved_nodes us ns)))))
    ≡ numbered (map (general bases parameters slots) hs) (map (node_with (general bases parameters slots)) (solved_nodes us ns))
numbered_back bases parameters slots us hs ns =
    let gen = λ (t : TypeTree). general bases parameters slots t in
    let parts = map (node_with gen) (solved_nodes us ns) in
    let heads = map gen hs in
    let same : map gen (hs ++ node_types (solved_nodes us ns)) ≡ heads ++ node_types parts = map-append gen hs (node_types (solved_nodes us ns)) ∙ ap (λ ts. heads ++ ts) (sym (types_with gen (solved_nodes us ns))) in
    let by = by_place (variable_order (heads ++ node_types parts)) in
    ap (λ ts. retyped ns (drop (length hs) (renumbered ts))) same
    ∙ ap (λ k. retyped ns (drop k (renumbered (heads ++ node_types parts)))) (sym (length-map hs gen))
    ∙ ap (retyped ns) (drop_map (put by) heads (node_types parts))
    ∙ sym (retyped_places (put (nth us)) ns (map (put by) (node_types parts)))
    ∙ sym (retyped_places gen (solved_nodes us ns) (map (put by) (node_types parts)))
    ∙ retyped_with (put by) parts

-- a node and its type are put before those that are there
pub put_before : (ns : List NodeType) (order : List Placed) (ts more : List Ty) (i j : ℕ) (p : Placed) (m : NodeType) (t : Ty) → i + 1 ≡ j → i < length ns → i < length order → p ≡ get_or order i p → ts ≡ t ∷ more → typed_node m ≡ node_at p.at (type_tree t) →
    map typed_node (drop j ns) ≡ retyped (placed_nodes [] (drop j order)) (map type_tree more) → map typed_node (drop i (set ns i m)) ≡ retyped (placed_nodes [] (drop i order)) (map type_tree ts)
put_before ns order ts more i j p m t next below inside is these made done =
    let places : drop i order ≡ p ∷ drop j order = drop_more order i p inside ∙ ap (λ q. q ∷ drop (i + 1) order) (sym is) ∙ ap (λ k. p ∷ drop k order) next in
    ap (map typed_node) (drop-set ns i m below ∙ ap (λ k. m ∷ drop k ns) next)
    ∙ (λ k. made k ∷ done k)
    ∙ sym (λ k. retyped (placed_nodes [] (places k)) (map type_tree (these k)))

-- numbering and changing types keep their number
pub numbered_count : (f : TypeTree → TypeTree) (ts us vs : Types) → type_trees us ≡ map f (type_trees ts) → type_trees vs ≡ renumbered (type_trees us) → length vs.items.items ≡ length ts.items.items
numbered_count f ts us vs e h =
    sym (length-map vs.items.items type_tree) ∙ ap length h
    ∙ length-map (type_trees us) (put (by_place (variable_order (type_trees us)))) ∙ ap length e
    ∙ length-map (type_trees ts) f ∙ length-map ts.items.items type_tree

-- the function's own types and those of the nodes
pub solved_count : (us : List PowerMap) (hs : List TypeTree) (nodes : List NodeType) (order : List Placed) (all : Types) → type_trees all ≡ hs ++ node_types (solved_nodes us (placed_nodes nodes order)) → length all.items.items ≡ length hs + length order
solved_count us hs nodes order all e =
    let ns = placed_nodes nodes order in
    sym (length-map all.items.items type_tree) ∙ ap length e ∙ length-append hs (node_types (solved_nodes us ns))
    ∙ ap (λ k. length hs + k) (length-map (solved_nodes us ns) (λ (n : TypedNode). n.type) ∙ length-map ns (node_with (put (nth us))) ∙ length-map order (λ (p : Placed). node_at p.at (type_of nodes p.node)))
