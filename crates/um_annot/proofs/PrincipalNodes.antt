-- The types of a function's nodes are most general.
-- Source: Kennedy (1996): each derivation of each typing is an instance of the principal one.
use Rattle.std.proofs.Common.{◌≡◌, ◌↔◌, ℕ, ◌<◌, leb, cond, List, [], ◌∷◌, ◌++◌, map, length, Option, Some, None, refl, sym, ap, ◌∙◌, subst, arith}
use Rattle.std.specs.Prelude.{All}
use Rattle.std.proofs.lemmas.List.{map-append, length-map}
use Rattle.um_units.specs.PowerMap.{PowerMap, replace, nth}
use Rattle.um_units.specs.Variables.{VariablesBelow}
use Rattle.um_units.proofs.Solutions.{IsSubstitutionInstance_refl}
use Rattle.um_units.proofs.Replacement.{nth-map}
use Rattle.um_tree.specs.TypeTree.{TypeTree, bool_type}
use Rattle.um_tree.specs.ProgramTree.{RecordTree, FunctionTree, Signature, SchemeTree}
use Rattle.um_tree.specs.Typing.{put, put_signature, moved, moved_signature, Earlier, IsInstantiation, typings_below}
use Rattle.um_tree.specs.Scheme.{signature_types}
use Rattle.um_tree.specs.Laws.{LiteralsAreClosed}
use Rattle.um_elim.specs.Instances.{SolvesExactly}
use Rattle.um_elim.specs.Numbering.{variable_order, by_place}
use Rattle.um_elim.specs.Solution.{rigid_units, parameter_rows}
use Rattle.um_elim.proofs.Cases.{on_test}
use Rattle.um_elim.proofs.NumberedTypes.{same_instances}
use Rattle.um_equal_types.specs.declared.row.Row.{Row}
use Rattle.um_equal_types.specs.Steps.{rows_of, units_of, first_past as first_step_past}
use Rattle.um_slots.specs.Slots.{slot_count}
use Rattle.um_rows.specs.Equations.{slot_equations}
use Rattle.um_rows.specs.Solutions.{slot_signature}
use Rattle.um_rows.specs.FirstUnsolvable.{Solving, solved, unsolved, out_of_range, solve}
use Rattle.um_rows.specs.Generalised.{generalised_unit, generalised}
use Rattle.um_rows.specs.Judgement.{numbered_scheme, signature_fits, Judgement, has_scheme, too_many_slots, passes_range, by_slots, by_solution, by_solving as judged_by_solving, by_rows, by_range, judge}
use Rattle.um_rows.specs.NodeTypes.{TypedNode, function_nodes}
use Rattle.um_rows.proofs.PutTypes.{signature_put-put}
use Rattle.um_rows.proofs.Variables.{SignatureBelow, signature_put_alike_below, signature_put_below}
use Rattle.um_rows.proofs.FunctionLaws.{AllFit}
use Rattle.um_rows.proofs.Solved.{slots_below, parameters_in_slots, all_fit}
use Rattle.um_rows.proofs.NodesBelow.{node_types_below}
use Rattle.um_rows.proofs.SolvingLaws.{solve_rigidly, IsRightFor}
use Rattle.um_rows.proofs.JudgementLaws.{rigid_joint, joint_rigid, low}
use Rattle.um_rows.proofs.GeneralisedUnits.{instantiation, instantiation_is, instance_instantiated, changed, instantiated_instance}
use Rattle.um_infer.proofs.Prefix.{numbered_in_front}
use Rattle.um_infer.proofs.FormingSteps.{types-put, types-moved, same_signature}
use Rattle.um_annot.specs.TextOrder.{in_text_order, node_with}
use Rattle.um_annot.specs.Annotated.{annotated, unless_past, first_past, node_types, numbered, general, by_units, by_solving, annotation}
use Rattle.um_annot.specs.Laws.{HasNodes, IsAnnotatedInstance, AnnotationsArePrincipal}
use Rattle.um_annot.proofs.Ordered.{order_with}
use Rattle.um_annot.proofs.NodeLists.{types_with, with_alike, maps_twice, puts_twice, twice_with, with_both}
use Rattle.um_annot.proofs.SoundNodes.{with_units}
use Rattle.um_annot.proofs.FunctionNodes.{nodes_in, nodes_alike, solution_nodes, typing_solved}

-- two lists that are equal, each cut after as many types
cut_alike : (ss ts xs ys : List TypeTree) → length ss ≡ length ts → ss ++ xs ≡ ts ++ ys → (ss ≡ ts) × (xs ≡ ys)
cut_alike [] [] xs ys l e = (refl, e)
cut_alike [] (t ∷ ts) xs ys l e = absurd (cc l)
cut_alike (s ∷ ss) [] xs ys l e = absurd (cc l)
cut_alike (s ∷ ss) (t ∷ ts) xs ys l e =
    let head : s ≡ t = cc e in
    let tail : ss ++ xs ≡ ts ++ ys = cc e in
    let shorter : length ss ≡ length ts = omega (arith, l) in
    let rest = cut_alike ss ts xs ys shorter tail in
    ((λ i. head i ∷ rest.0 i), rest.1)

-- ---- a judged scheme and the annotation, by the solution of the rows
module _ (bases parameters slots at : ℕ) (g : Signature) where
  solution_judged : (h : Signature) (s : SchemeTree) → by_solution bases parameters slots at h ≡ has_scheme s → numbered_scheme (generalised bases parameters slots h) ≡ s
  solution_judged h s =
      let scheme = numbered_scheme (generalised bases parameters slots h) in
      on_test (signature_fits h)
      (λ e k. let same : has_scheme scheme ≡ has_scheme s = subst (λ b. cond b (has_scheme scheme) (passes_range at) ≡ has_scheme s) e k in cc same)
      (λ e k. absurd (cc (subst (λ b. cond b (has_scheme scheme) (passes_range at) ≡ has_scheme s) e k)))

  -- there is a most general solution, which gives the scheme
  abbrev IsSolvedBy : Solving → SchemeTree → Type 0
  IsSolvedBy r s = (units : List PowerMap) × (r ≡ solved units) × (numbered_scheme (generalised bases parameters slots (put_signature (nth units) g)) ≡ s)

  slots_no_scheme : (k row : ℕ) (r : Solving) (s : SchemeTree) → by_slots k row r ≡ has_scheme s → ⊥
  slots_no_scheme k row (solved us) s h = cc h
  slots_no_scheme k row (unsolved j l) s h = cc h
  slots_no_scheme k row (out_of_range l) s h = cc h

  solving_judged : (rows : List Row) (r : Solving) (s : SchemeTree) → judged_by_solving bases parameters slots at g rows r ≡ has_scheme s → IsSolvedBy r s
  solving_judged rows (solved units) s h = (units, refl, solution_judged (put_signature (nth units) g) s h)
  solving_judged rows (unsolved k row) s h = absurd (slots_no_scheme k row _ s h)
  solving_judged rows (out_of_range row) s h = absurd (cc h)

range_judged : (o : Option ℕ) (j : Judgement) (s : SchemeTree) → by_range o j ≡ has_scheme s → j ≡ has_scheme s
range_judged None j s h = h
range_judged (Some at) j s h = absurd (cc h)

given_nodes : (o : Option ℕ) (made nodes : List TypedNode) → unless_past o made ≡ annotated nodes → made ≡ nodes
given_nodes None made nodes h = cc h
given_nodes (Some at) made nodes h = absurd (cc h)

module _ (bases : ℕ) (records : List RecordTree) (schemes : List SchemeTree) (i : ℕ) (f : FunctionTree) where
  abbrev sig : Signature
  sig = slot_signature records schemes i f

  abbrev n : ℕ
  n = slot_count records schemes i f

  abbrev rows : List Row
  rows = rows_of (slot_equations records schemes i f).steps

  abbrev solving : Solving
  solving = solve 0 rows (rigid_units bases f.units n)

  pub judged_solved : (s : SchemeTree) → judge bases records schemes i f ≡ has_scheme s → IsSolvedBy bases f.units n f.at sig solving s
  judged_solved s h =
      let own = by_rows bases f.units n f.at sig rows in
      let whole = by_range (first_step_past (slot_equations records schemes i f).steps) own in
      on_test (leb n 2000)
      (λ e. solving_judged bases f.units n f.at sig rows solving s (range_judged (first_step_past (slot_equations records schemes i f).steps) own s (subst (λ b. cond b whole too_many_slots ≡ has_scheme s) e h)))
      (λ e. absurd (cc (subst (λ b. cond b whole too_many_slots ≡ has_scheme s) e h)))

-- ---- the law
module _ (earlier : Earlier) (schemes : List SchemeTree) (i : ℕ) (fit : AllFit earlier schemes i) (records : List RecordTree) (f : FunctionTree) (closed : LiteralsAreClosed f.body) (bases : ℕ) where
  abbrev sg : Signature
  sg = slot_signature records schemes i f

  abbrev count : ℕ
  count = slot_count records schemes i f

  abbrev own_rows : List Row
  own_rows = rows_of (slot_equations records schemes i f).steps

  abbrev slot_nodes : List TypedNode
  slot_nodes = function_nodes records schemes i f

  -- from the most general rigid solution
  module _ (units : List PowerMap) (exact : SolvesExactly count (parameter_rows bases f.units ++ units_of own_rows) units) (below : All (VariablesBelow count) units) where
    abbrev solved_sig : Signature
    solved_sig = put_signature (nth units) sg

    abbrev solved_parts : List TypedNode
    solved_parts = with_units (nth units) slot_nodes

    long : length units ≡ count
    long = ((exact units).0 (IsSubstitutionInstance_refl units)).per_slot

    sig_below : SignatureBelow count solved_sig
    sig_below = signature_put_below count units below sg (subst (λ m. SignatureBelow m sg) (sym long) (slots_below earlier schemes i fit records f).0)

    -- the types of the nodes as a signature
    abbrev nodes_sig : Signature
    nodes_sig = record { params = node_types solved_parts; result = bool_type }

    slot_types_below : SignatureBelow (length units) (record { params = node_types slot_nodes; result = bool_type })
    slot_types_below = subst (λ m. SignatureBelow m (record { params = node_types slot_nodes; result = bool_type })) (sym long) (node_types_below earlier schemes i fit records f, tt)

    nodes_below : SignatureBelow count nodes_sig
    nodes_below =
        subst (λ ts. SignatureBelow count (record { params = ts; result = bool_type })) (sym (types_with (put (nth units)) slot_nodes))
        (signature_put_below count units below (record { params = node_types slot_nodes; result = bool_type }) slot_types_below)

    -- units of which the slots' units are an instance
    alike : (s : ℕ → PowerMap) (k : ℕ) → k < count → nth (map (replace s) units) k ≡ replace s (nth units k)
    alike s k h = nth-map (replace s) units k (subst (λ m. k < m) (sym long) h)

    put_sig : (s : ℕ → PowerMap) → put_signature (nth (map (replace s) units)) sg ≡ put_signature s solved_sig
    put_sig s =
        signature_put_alike_below count (nth (map (replace s) units)) (λ k. replace s (nth units k)) (alike s) sg (slots_below earlier schemes i fit records f).0
        ∙ sym (signature_put-put (nth units) s sg)

    put_parts : (s : ℕ → PowerMap) → with_units (nth (map (replace s) units)) slot_nodes ≡ with_units s solved_parts
    put_parts s =
        nodes_alike count (nth (map (replace s) units)) (λ k. replace s (nth units k)) (alike s) slot_nodes (node_types_below earlier schemes i fit records f)
        ∙ with_alike (put (λ k. replace s (nth units k))) (λ t. put s (put (nth units) t)) slot_nodes (sym (puts_twice (nth units) s (node_types slot_nodes)))
        ∙ sym (twice_with (put s) (put (nth units)) slot_nodes)

    -- ---- the general types
    abbrev gen : TypeTree → TypeTree
    gen t = general bases f.units count t

    abbrev gen_sig : Signature
    gen_sig = generalised bases f.units count solved_sig

    abbrev gen_parts : List TypedNode
    gen_parts = map (node_with gen) (in_text_order solved_parts)

    abbrev heads : List TypeTree
    heads = signature_types gen_sig

    abbrev order : List ℕ
    order = variable_order (heads ++ node_types gen_parts)

    abbrev by : ℕ → PowerMap
    by = by_place order

    abbrev scheme : SchemeTree
    scheme = numbered_scheme gen_sig

    abbrev nodes : List TypedNode
    nodes = map (node_with (put by)) gen_parts

    scheme_front : put_signature by gen_sig ≡ scheme.signature
    scheme_front = numbered_in_front gen_sig (node_types gen_parts)

    -- units for the variables of the general types, and units for the numbered ones
    abbrev IsGeneralInstance : Signature → List TypedNode → Type 0
    IsGeneralInstance g parts = (q : ℕ → PowerMap) × (g ≡ put_signature q gen_sig) × (parts ≡ map (node_with (put q)) gen_parts)

    to_numbered : (g : Signature) (parts : List TypedNode) → IsGeneralInstance g parts → IsAnnotatedInstance scheme nodes g parts
    to_numbered g parts h =
        let ts = heads ++ node_types gen_parts in
        let w = (same_instances ts (map (put h.0) ts)).0 (h.0, refl) in
        let u = w.0 in
        let whole : map (put h.0) heads ++ map (put h.0) (node_types gen_parts) ≡ map (put u) (map (put by) heads) ++ map (put u) (map (put by) (node_types gen_parts)) =
        sym (map-append (put h.0) heads (node_types gen_parts)) ∙ w.1 ∙ ap (map (put u)) (map-append (put by) heads (node_types gen_parts)) ∙ map-append (put u) (map (put by) heads) (map (put by) (node_types gen_parts)) in
        let same_length : length (map (put h.0) heads) ≡ length (map (put u) (map (put by) heads)) = length-map heads (put h.0) ∙ sym (length-map (map (put by) heads) (put u) ∙ length-map heads (put by)) in
        let cut = cut_alike (map (put h.0) heads) (map (put u) (map (put by) heads)) (map (put h.0) (node_types gen_parts)) (map (put u) (map (put by) (node_types gen_parts))) same_length whole in
        let types : signature_types (put_signature h.0 gen_sig) ≡ signature_types (put_signature u (put_signature by gen_sig)) = types-put h.0 gen_sig ∙ cut.0 ∙ ap (map (put u)) (sym (types-put by gen_sig)) ∙ sym (types-put u (put_signature by gen_sig)) in
        let first : g ≡ put_signature u scheme.signature = h.1 ∙ same_signature (put_signature h.0 gen_sig) (put_signature u (put_signature by gen_sig)) types ∙ ap (put_signature u) scheme_front in
        let second : map (node_with (put h.0)) gen_parts ≡ map (node_with (put u)) nodes =
        with_alike (put h.0) (λ t. put u (put by t)) gen_parts (cut.1 ∙ maps_twice (put u) (put by) (node_types gen_parts)) ∙ sym (twice_with (put u) (put by) gen_parts) in
        (u, first, h.2 ∙ second)

    from_numbered : (g : Signature) (parts : List TypedNode) → IsAnnotatedInstance scheme nodes g parts → IsGeneralInstance g parts
    from_numbered g parts h =
        let q = λ (k : ℕ). replace h.0 (by k) in (
          q,
          h.1 ∙ ap (put_signature h.0) (sym scheme_front) ∙ signature_put-put by h.0 gen_sig,
          h.2 ∙ twice_with (put h.0) (put by) gen_parts ∙ with_alike (λ t. put h.0 (put by t)) (put q) gen_parts (puts_twice by h.0 (node_types gen_parts)),
        )

    -- ---- derivations
    abbrev Nodes : Signature → List TypedNode → Type 0
    Nodes g parts = HasNodes bases records earlier i f g parts

    -- what an instantiation gives after units for the slots
    parts_changed : (change : PowerMap → PowerMap) (is : IsInstantiation bases f.units change) (s : ℕ → PowerMap) → map (node_with (moved change)) (with_units s solved_parts) ≡ with_units (changed bases f.units count change is s) (map (node_with gen) solved_parts)
    parts_changed change is s =
        with_both (moved change) (put s) (put (changed bases f.units count change is s)) gen solved_parts
        (ap (λ (g : Signature). g.params) (instantiated_instance bases f.units count change is s nodes_sig nodes_below))

    parts_instantiated : (q : ℕ → PowerMap) → with_units q (map (node_with gen) solved_parts) ≡ map (node_with (moved (instantiation bases f.units count q))) solved_parts
    parts_instantiated q =
        twice_with (put q) gen solved_parts
        ∙ with_alike (λ t. put q (gen t)) (moved (instantiation bases f.units count q)) solved_parts
        (sym (maps_twice (put q) gen (node_types solved_parts)) ∙ ap (λ (g : Signature). g.params) (instance_instantiated bases f.units count q nodes_sig))

    in_order : (q : ℕ → PowerMap) → in_text_order (with_units q (map (node_with gen) solved_parts)) ≡ with_units q gen_parts
    in_order q = sym (order_with (put q) (map (node_with gen) solved_parts)) ∙ ap (map (node_with (put q))) (sym (order_with gen solved_parts))

    to_instance : (g : Signature) (parts : List TypedNode) → Nodes g parts → IsGeneralInstance g parts
    to_instance g parts h =
        let r = h.typing.typing in
        let w = typing_solved earlier schemes i fit f closed records h.typing.signature r.loose in
        let rigid = rigid_joint earlier schemes i fit records f closed bases w.0.0 w.0.1 (λ k inside. w.1 k inside ∙ r.rigid k inside) in
        let p = (exact w.0.0).1 rigid in
        let change = h.typing.change in
        let is = h.typing.instantiates in
        let q = changed bases f.units count change is p.0 in
        let own : h.typing.signature ≡ put_signature p.0 solved_sig = w.0.2 ∙ ap (λ v. put_signature (nth v) sg) (sym p.1) ∙ put_sig p.0 in
        let derived : nodes_in earlier schemes i fit f closed records h.typing.signature r.loose ≡ with_units p.0 solved_parts = w.2 ∙ ap (λ v. with_units (nth v) slot_nodes) (sym p.1) ∙ put_parts p.0 in (
          q,
          h.typing.given ∙ ap (moved_signature change) own ∙ instantiated_instance bases f.units count change is p.0 solved_sig sig_below,
          h.derived ∙ ap (λ ns. in_text_order (map (node_with (moved change)) ns)) derived ∙ ap in_text_order (parts_changed change is p.0) ∙ in_order q,
        )

    from_instance : (g : Signature) (parts : List TypedNode) → IsGeneralInstance g parts → Nodes g parts
    from_instance g parts h =
        let q = h.0 in
        let joint = joint_rigid earlier schemes i fit records f closed bases units ((exact units).0 (IsSubstitutionInstance_refl units)) in
        let typed = solution_nodes earlier schemes i fit f closed records units joint.0 in
        let change = instantiation bases f.units count q in
        record {
          typing = record {
            signature = solved_sig;
            typing = record { loose = typed.0; rigid = λ k inside. typed.1 k inside ∙ joint.1 k inside };
            change = change;
            instantiates = instantiation_is bases f.units count q;
            given = h.1 ∙ instance_instantiated bases f.units count q solved_sig;
          };
          derived = h.2 ∙ sym (in_order q) ∙ ap in_text_order (parts_instantiated q) ∙ ap (λ ns. in_text_order (map (node_with (moved change)) ns)) (sym typed.2);
        }

    pub nodes_say : (g : Signature) (parts : List TypedNode) → Nodes g parts ↔ IsAnnotatedInstance scheme nodes g parts
    nodes_say g parts = ((λ h. to_numbered g parts (to_instance g parts h)), (λ h. from_instance g parts (from_numbered g parts h)))

  -- ---- by the judgement and the annotation
  abbrev Says : SchemeTree → List TypedNode → Type 0
  Says s ns = (g : Signature) (parts : List TypedNode) → HasNodes bases records earlier i f g parts ↔ IsAnnotatedInstance s ns g parts

  pub annotation_says : (s : SchemeTree) (ns : List TypedNode) → judge bases records schemes i f ≡ has_scheme s → annotation bases records schemes i f ≡ annotated ns → Says s ns
  annotation_says s ns is made =
      let w = judged_solved bases records schemes i f s is in
      let units = w.0 in
      let right : IsRightFor count (parameter_rows bases f.units) own_rows (solved units) = subst (IsRightFor count (parameter_rows bases f.units) own_rows) w.1 (solve_rigidly bases f.units count own_rows (parameters_in_slots earlier schemes i fit records f) (low earlier schemes i fit records f closed bases)) in
      let ordered = in_text_order slot_nodes in
      let parts : map (node_with (put (nth units))) ordered ≡ in_text_order (with_units (nth units) slot_nodes) = order_with (put (nth units)) slot_nodes in
      let own : by_units bases f.units count sg ordered units ≡ annotated ns = ap (by_solving bases f.units count sg ordered) (sym w.1) ∙ made in
      let plain = given_nodes (first_past (map (node_with (put (nth units))) ordered)) _ ns own in
      let head_types : map (general bases f.units count) (map (put (nth units)) (signature_types sg)) ≡ signature_types (generalised bases f.units count (put_signature (nth units) sg)) =
      ap (map (general bases f.units count)) (sym (types-put (nth units) sg)) ∙ sym (types-moved (generalised_unit bases f.units count) (put_signature (nth units) sg)) in
      let moved_parts : numbered (signature_types (generalised bases f.units count (put_signature (nth units) sg))) (map (node_with (general bases f.units count)) (in_text_order (with_units (nth units) slot_nodes))) ≡ ns =
      sym (λ j. numbered (head_types j) (map (node_with (general bases f.units count)) (parts j))) ∙ plain in
      subst (λ xs. Says s xs) moved_parts (subst (λ t. Says t (numbered (signature_types (generalised bases f.units count (put_signature (nth units) sg))) (map (node_with (general bases f.units count)) (in_text_order (with_units (nth units) slot_nodes))))) w.2 (nodes_say units right.0 right.1))

pub annotations_are_principal : AnnotationsArePrincipal
annotations_are_principal p schemes i f declared closed have s nodes is made g parts =
    annotation_says (typings_below p i) schemes i (all_fit p schemes i have) p.records f closed (length p.bases) s nodes is made g parts
