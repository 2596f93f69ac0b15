-- The nodes of a function's typings: what units that make its rows 1 give for the nodes of its derivation over slots.
use Rattle.std.proofs.Common.{◌≡◌, ℕ, ◌+◌, ◌<◌, List, [], ◌∷◌, ◌++◌, map, refl, sym, ap, ◌∙◌, subst, arith}
use Rattle.um_units.specs.PowerMap.{PowerMap, replace, nth}
use Rattle.um_units.proofs.Replacement.{replace-variable}
use Rattle.um_tree.specs.ExprTree.{ExprTree}
use Rattle.um_tree.specs.ProgramTree.{RecordTree, FunctionTree, Signature, SchemeTree}
use Rattle.um_tree.specs.Typing.{put, put_signature, Earlier, MayRecur, Calls, IsLooseTypingOf, Typed}
use Rattle.um_tree.specs.Laws.{LiteralsAreClosed}
use Rattle.um_slots.specs.Holes.{notes_holes, result_holes, expr_holes}
use Rattle.um_slots.specs.Noted.{noted_types}
use Rattle.um_slots.specs.Callees.{callee, head_holes}
use Rattle.um_slots.specs.Keys.{hole, name, text_keys}
use Rattle.um_slots.specs.Slots.{slot, slot_unit, function_slots, slot_count}
use Rattle.um_slots.proofs.ParameterSlots.{parameter_slot}
use Rattle.um_rows.specs.NodeTypes.{TypedNode, derived_nodes, derived_body, function_nodes}
use Rattle.um_rows.specs.Derivation.{derive, first_units}
use Rattle.um_rows.specs.Equations.{result_rows, own_signature, head_steps, equations, slot_equations}
use Rattle.um_rows.specs.Solutions.{slot_signature, IsSolution, IsSolved}
use Rattle.um_equal_types.proofs.HeldSteps.{Holds, Holds-front, Holds-back, Holds-solves, Solves-holds}
use Rattle.um_rows.proofs.PutLiterals.{same_literals}
use Rattle.um_rows.proofs.Used.{then_units, Agrees, agrees_first, agrees_second, notes_used, result_used, used}
use Rattle.um_rows.proofs.Variables.{TypesBelow, signature_put_alike_below, put_alike_below, Holds_alike_below}
use Rattle.um_rows.proofs.SlotLaws.{slot_values, hole_value, name_value, length-first, nth-first}
use Rattle.um_rows.proofs.FunctionLaws.{AllFit, closes, own_opens, own_sig, callee_below, body_typed, function_used, function_complete, params_sound, result_sound, own_result_sound, params_complete, result_complete}
use Rattle.um_rows.proofs.NodesBelow.{node_types_below}
use Rattle.um_rows.proofs.Solved.{slots_below, parameters_in_slots}
use Rattle.um_annot.specs.TypingNodes.{typing_nodes}
use Rattle.um_annot.specs.TextOrder.{node_with}
use Rattle.um_annot.proofs.SoundNodes.{with_units, sound_nodes}
use Rattle.um_annot.proofs.CompleteNodes.{complete_nodes}

-- nodes under units that are alike below n
pub nodes_alike : (n : ℕ) (s t : ℕ → PowerMap) → ((k : ℕ) → k < n → s k ≡ t k) → (ns : List TypedNode) → TypesBelow n (map (λ (x : TypedNode). x.type) ns) → map (node_with (put s)) ns ≡ map (node_with (put t)) ns
nodes_alike n s t alike [] low = refl
nodes_alike n s t alike (x ∷ ns) low =
    let one = put_alike_below n s t alike x.type low.0 in
    let rest = nodes_alike n s t alike ns low.1 in
    λ i. record { at = x.at; type = one i } ∷ rest i

module _ (earlier : Earlier) (schemes : List SchemeTree) (i : ℕ) (fit : AllFit earlier schemes i) (f : FunctionTree) (closed : LiteralsAreClosed f.body) (records : List RecordTree) where
  -- the nodes of the body in a typing
  abbrev pub nodes_in : (g : Signature) → IsLooseTypingOf records earlier i f g → List TypedNode
  nodes_in g h = typing_nodes records (Calls earlier i f g) h.choice g.params f.body g.result h.body

  -- a derivation with these nodes, of the body with other literals that are the same
  abbrev Has : (choice : ℕ → PowerMap) (g : Signature) → List TypedNode → ExprTree → Type 0
  Has choice g ns e = (h : Typed records (Calls earlier i f g) choice g.params e g.result) × (typing_nodes records (Calls earlier i f g) choice g.params e g.result h ≡ ns)

  module _ (holes names : ℕ → PowerMap) where
    abbrev body_nodes : List TypedNode
    body_nodes = derived_nodes (derived_body holes names records schemes i f)

    abbrev given : (ℕ → PowerMap) → Signature
    given v = record { params = map (put v) (equations holes names records schemes i f).params; result = put v (equations holes names records schemes i f).result }

    pub function_sound_nodes : (v : ℕ → PowerMap) → Holds v (equations holes names records schemes i f).steps → (h : IsLooseTypingOf records earlier i f (given v)) × ((k : ℕ) → h.choice k ≡ replace v (names k)) × (nodes_in (given v) h ≡ with_units v body_nodes)
    function_sound_nodes v all =
        let n = notes_holes f.params in
        let params = noted_types holes names 0 f.params in
        let self = own_signature holes names f in
        let choice = λ (k : ℕ). replace v (names k) in
        let body = derive holes names records self (callee schemes i f) (head_holes f) params f.body in
        let h = Holds-back v (head_steps holes names f) (body.steps ++ result_rows holes names f.at body.type n f.result) all in
        let last = Holds-back v body.steps (result_rows holes names f.at body.type n f.result) h in
        let sig : Signature = record { params = map (put v) params; result = put v body.type } in
        let own = λ (m : MayRecur f). (let e = own_result_sound earlier schemes i fit f closed records holes names v f.at body.type n f.result last m.noted in let same : sig ≡ put_signature v self = λ j. record { params = map (put v) params; result = e j } in same) in
        let made = sound_nodes v holes names records self (callee schemes i f) (Calls earlier i f sig) (closes earlier schemes i fit f (put_signature v self) sig own) (head_holes f) params f.body (Holds-front v body.steps (result_rows holes names f.at body.type n f.result) h) in
        let typed = subst (Has choice sig (with_units v body_nodes)) (same_literals choice f.body closed) made in (
          record {
            choice = choice;
            params = params_sound earlier schemes i fit f closed records holes names v 0 f.params;
            result = result_sound earlier schemes i fit f closed records holes names v f.at body.type n f.result last;
            body = typed.0;
          },
          λ k. refl,
          typed.1,
        )

    -- the same with the units that a typing uses
    pub function_complete_nodes : (sig : Signature) (h : IsLooseTypingOf records earlier i f sig) (v : ℕ → PowerMap) → ((k : ℕ) → replace v (holes k) ≡ function_used earlier schemes i fit f closed records sig h k) → ((k : ℕ) → replace v (names k) ≡ h.choice k) →
        nodes_in sig h ≡ with_units v body_nodes
    function_complete_nodes sig h v units same =
        let c = callee schemes i f in
        let fp = notes_used h.choice f.params sig.params h.params in
        let fr = result_used h.choice f.result sig.result h.result in
        let fb = used h.choice records (own_sig f sig) c (Calls earlier i f sig) (own_opens earlier schemes i fit f sig) sig.params f.body sig.result (body_typed earlier schemes i fit f closed records sig h) in
        let np = notes_holes f.params in
        let nr = result_holes f.result in
        let nb = expr_holes records c f.body in
        let s = λ (k : ℕ). replace v (holes k) in
        let start : Agrees s 0 (np + (nr + nb)) (then_units np fp (then_units nr fr fb)) = λ k l. (let zero_plus : 0 + k ≡ k = omega arith in ap s zero_plus) ∙ units k in
        let begin : 0 + np ≡ np = omega arith in
        let rest = subst (λ (m : ℕ). Agrees s m (nr + nb) (then_units nr fr fb)) begin (agrees_second s 0 np (nr + nb) fp (then_units nr fr fb) start) in
        let params = noted_types holes names 0 f.params in
        let ps = params_complete earlier schemes i fit f closed records holes names v h.choice same 0 f.params sig.params h.params (agrees_first s 0 np (nr + nb) fp (then_units nr fr fb) start) in
        let r = result_complete earlier schemes i fit f closed records holes names v h.choice same np f.result sig.result h.result (agrees_first s np nr nb fr fb rest) in
        let self = own_signature holes names f in
        let own : own_sig f sig ≡ put_signature v self = λ j. record { params = sym ps j; result = sym r j } in
        let whole = nodes_in sig h in
        let moved = subst (Has h.choice sig whole) (sym (same_literals h.choice f.body closed)) (h.body, refl) in
        sym moved.1
        ∙ complete_nodes v holes names h.choice same records self (own_sig f sig) own c (callee_below earlier schemes i fit f) (Calls earlier i f sig) (own_opens earlier schemes i fit f sig) (np + nr) params sig.params ps f.body sig.result (body_typed earlier schemes i fit f closed records sig h) (agrees_second s np nr nb fr fb rest)

  -- ---- over the slots
  pub solution_nodes : (units : List PowerMap) → IsSolution records schemes i f units →
      (h : IsLooseTypingOf records earlier i f (put_signature (nth units) (slot_signature records schemes i f))) × ((k : ℕ) → k < f.units → h.choice k ≡ nth units k)
      × (nodes_in (put_signature (nth units) (slot_signature records schemes i f)) h ≡ with_units (nth units) (function_nodes records schemes i f))
  solution_nodes units h =
      let order = function_slots records schemes i f in
      let typed = function_sound_nodes (λ k. slot_unit order (hole k)) (λ k. slot_unit order (name k)) (nth units) (Holds-solves (nth units) (slot_equations records schemes i f).steps h.solves) in
      (typed.0, (λ k low. typed.1 k ∙ replace-variable (nth units) (slot order (name k)) ∙ ap (nth units) (parameter_slot f.units (text_keys records schemes i f) k low)), typed.2)

  pub typing_solved : (g : Signature) (h : IsLooseTypingOf records earlier i f g) → (w : IsSolved records schemes i f g) × ((k : ℕ) → k < f.units → nth w.0 k ≡ h.choice k) × (nodes_in g h ≡ with_units (nth w.0) (function_nodes records schemes i f))
  typing_solved g h =
      let order = function_slots records schemes i f in
      let n = slot_count records schemes i f in
      let uses = function_used earlier schemes i fit f closed records g h in
      let v = slot_values order uses h.choice in
      let holes : ℕ → PowerMap = λ k. slot_unit order (hole k) in
      let names : ℕ → PowerMap = λ k. slot_unit order (name k) in
      let w = function_complete earlier schemes i fit f closed records holes names g h v (hole_value order uses h.choice) (name_value order uses h.choice) in
      let ns = function_complete_nodes holes names g h v (hole_value order uses h.choice) (name_value order uses h.choice) in
      let units = first_units n v in
      let alike = λ (k : ℕ) (l : k < n). sym (nth-first n v k l) in
      let steps = (slot_equations records schemes i f).steps in
      let low = slots_below earlier schemes i fit records f in (
        (
          units,
          record { per_slot = length-first n v; solves = Solves-holds (nth units) steps (Holds_alike_below n v (nth units) alike steps low.1 w.0) },
          w.1 ∙ signature_put_alike_below n v (nth units) alike (slot_signature records schemes i f) low.0,
        ),
        (λ k low.
            (let few = parameters_in_slots earlier schemes i fit records f in let inside : k < n = omega (arith, low, few) in nth-first n v k inside)
            ∙ ap v (sym (parameter_slot f.units (text_keys records schemes i f) k low)) ∙ sym (replace-variable v (slot order (name k))) ∙ name_value order uses h.choice k),
        ns ∙ nodes_alike n v (nth units) alike (function_nodes records schemes i f) (node_types_below earlier schemes i fit records f),
      )
