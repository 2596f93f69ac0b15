-- The equations of a function are sound and complete, whatever units stand for its holes and its named variables.
use Rattle.std.proofs.Common.{◌≡◌, ℕ, ◌+◌, ◌<◌, true, false, cond, ltb, eqb, ◌&&◌, inl, inr, List, [], ◌∷◌, ◌++◌, map, Option, Some, None, slice_get, refl, sym, ap, ◌∙◌, subst, arith}
use Rattle.std.specs.Prelude.{IsTrue, IsSome, is_some}
use Rattle.std.proofs.lemmas.Bool.{and_parts, and_from, eqb-true, eq-eqb, ltb-true, lt-ltb}
use Rattle.std.proofs.lemmas.Bool.Decides.{nat_tests}
use Rattle.um_units.specs.PowerMap.{PowerMap, replace}
use Rattle.um_tree.specs.TypeTree.{TypeTree, bool_type, NoteTree}
use Rattle.um_tree.specs.ProgramTree.{RecordTree, FunctionTree, Signature, SchemeTree}
use Rattle.um_tree.specs.Typing.{put, put_signature, Matches, TypesMatch, ResultMatches, Earlier, MayRecur, Calls, IsLooseTypingOf, Typed}
use Rattle.um_tree.specs.Scheme.{IsInstance}
use Rattle.um_elim.proofs.Cases.{on_test}
use Rattle.um_tree.specs.Laws.{LiteralsAreClosed}
use Rattle.um_slots.specs.Holes.{known_by, itself, nobody, note_holes, notes_holes, result_holes, expr_holes}
use Rattle.um_slots.specs.Noted.{noted_type, noted_types, noted_result}
use Rattle.um_rows.specs.Derivation.{derive}
use Rattle.um_slots.specs.Callees.{known_function, may_recur, callee, head_holes}
use Rattle.um_rows.specs.Equations.{result_rows, own_signature, head_steps, equations}
use Rattle.um_equal_types.proofs.HeldSteps.{Holds, Holds-front, Holds-back, Holds-append, types_hold}
use Rattle.um_equal_types.proofs.TypesAgainst.{same_from_rows, rows-same}
use Rattle.um_rows.proofs.Variables.{SignatureBelow, CalleeBelow}
use Rattle.um_rows.proofs.Callees.{Offers}
use Rattle.um_rows.proofs.Sound.{note_sound, sound}
use Rattle.um_rows.proofs.PutLiterals.{put_literals, same_literals}
use Rattle.um_rows.proofs.Used.{then_units, Agrees, agrees_first, agrees_second, note_used, notes_used, result_used, used}
use Rattle.um_rows.proofs.Complete.{HolesAre, note_complete, complete}

-- function j has its scheme, where `earlier` says what its typings are
pub record Fits (earlier : Earlier) (schemes : List SchemeTree) (j : ℕ) : Type 0 where
  pub scheme : SchemeTree
  pub stands : slice_get schemes j ≡ Some scheme
  pub below : SignatureBelow scheme.vars scheme.signature
  pub instances : (g : Signature) → earlier j g → IsInstance scheme g
  pub typings : (g : Signature) → IsInstance scheme g → earlier j g

abbrev pub AllFit : Earlier → List SchemeTree → ℕ → Type 0
AllFit earlier schemes i = (j : ℕ) → j < i → Fits earlier schemes j

-- ---- a function that calls itself has a result note
pub recurs : (f : FunctionTree) → IsTrue (may_recur f) → MayRecur f
recurs f h = let parts = and_parts f.recursive (is_some f.result) h in record { recursive = parts.0; noted = parts.1 }

pub recurs_test : (f : FunctionTree) → MayRecur f → IsTrue (may_recur f)
recurs_test f m = and_from _ _ m.recursive m.noted

-- ---- the signature for calls of the function itself: without a result note there are none
abbrev pub own_result : Option NoteTree → TypeTree → TypeTree
own_result None t = bool_type
own_result (Some m) t = t

abbrev pub own_sig : FunctionTree → Signature → Signature
own_sig f sig = record { params = sig.params; result = own_result f.result sig.result }

is_own : (r : Option NoteTree) (sig : Signature) → IsSome r → sig ≡ record { params = sig.params; result = own_result r sig.result }
is_own None sig m = absurd (cc m)
is_own (Some n) sig m = refl

module _ (earlier : Earlier) (schemes : List SchemeTree) (i : ℕ) (fit : AllFit earlier schemes i) (f : FunctionTree) where
  -- ---- what a call goes to
  callee_before : (j : ℕ) (h : j < i) → callee schemes i f j ≡ known_by (fit j h).scheme
  callee_before j h =
      ap (λ b. cond b (known_function (slice_get schemes j)) (cond (eqb j i && may_recur f) itself nobody)) (lt-ltb j i h) ∙ ap known_function (fit j h).stands

  callee_not_before : (j : ℕ) → ltb j i ≡ false → callee schemes i f j ≡ cond (eqb j i && may_recur f) itself nobody
  callee_not_before j e = ap (λ b. cond b (known_function (slice_get schemes j)) (cond (eqb j i && may_recur f) itself nobody)) e

  not_itself_before : ltb i i ≡ false
  not_itself_before = grind (arith, nat_tests)

  opens : (own sig : Signature) → (MayRecur f → sig ≡ own) → (j : ℕ) (g : Signature) → Calls earlier i f sig j g → Offers own (callee schemes i f j) g
  opens own sig e j g (inl h) = subst (λ c. Offers own c g) (sym (callee_before j h.0)) ((fit j h.0).instances g h.1)
  opens own sig e j g (inr h) =
      let test : eqb i i && may_recur f ≡ true = and_from _ _ (eq-eqb i i refl) (recurs_test f h.1) in
      let is : callee schemes i f i ≡ itself = callee_not_before i not_itself_before ∙ ap (λ b. cond b itself nobody) test in
      let same : j ≡ i = h.0 in
      subst (λ (k : ℕ). Offers own (callee schemes i f k) g) (sym same) (subst (λ c. Offers own c g) (sym is) (h.2 ∙ e h.1))

  pub closes : (own sig : Signature) → (MayRecur f → sig ≡ own) → (j : ℕ) (g : Signature) → Offers own (callee schemes i f j) g → Calls earlier i f sig j g
  closes own sig e j g h =
      on_test (ltb j i)
      (λ t. let l = ltb-true j i t in inl (l, (fit j l).typings g (subst (λ c. Offers own c g) (callee_before j l) h)))
      (λ t. on_test (eqb j i && may_recur f)
      (λ q.
      let parts = and_parts (eqb j i) (may_recur f) q in
      let m = recurs f parts.1 in
      let is : callee schemes i f j ≡ itself = callee_not_before j t ∙ ap (λ b. cond b itself nobody) q in
      let k : g ≡ own = subst (λ c. Offers own c g) is h in
      inr (eqb-true j i parts.0, m, k ∙ sym (e m)))
      (λ q.
      let is : callee schemes i f j ≡ nobody = callee_not_before j t ∙ ap (λ b. cond b itself nobody) q in
      let none : Offers own nobody g = subst (λ c. Offers own c g) is h in
      absurd none))

  pub callee_below : (j : ℕ) → CalleeBelow (callee schemes i f j)
  callee_below j =
      on_test (ltb j i)
      (λ t. let l = ltb-true j i t in subst CalleeBelow (sym (callee_before j l)) (fit j l).below)
      (λ t. subst CalleeBelow (sym (callee_not_before j t)) (on_test (eqb j i && may_recur f)
      (λ q. subst (λ b. CalleeBelow (cond b itself nobody)) (sym q) tt)
      (λ q. subst (λ b. CalleeBelow (cond b itself nobody)) (sym q) tt)))

  -- ---- the units that a typing uses for the holes
  pub own_opens : (sig : Signature) (j : ℕ) (g : Signature) → Calls earlier i f sig j g → Offers (own_sig f sig) (callee schemes i f j) g
  own_opens sig j g h = opens (own_sig f sig) sig (λ m. is_own f.result sig m.noted) j g h

  -- ---- where each literal's unit is closed
  module _ (closed : LiteralsAreClosed f.body) where
    abbrev pub body_typed : (records : List RecordTree) (sig : Signature) (h : IsLooseTypingOf records earlier i f sig) → Typed records (Calls earlier i f sig) h.choice sig.params (put_literals h.choice f.body) sig.result
    body_typed records sig h = subst (λ e. Typed records (Calls earlier i f sig) h.choice sig.params e sig.result) (sym (same_literals h.choice f.body closed)) h.body

    abbrev body_used : (records : List RecordTree) (sig : Signature) → IsLooseTypingOf records earlier i f sig → ℕ → PowerMap
    body_used records sig h = used h.choice records (own_sig f sig) (callee schemes i f) (Calls earlier i f sig) (own_opens sig) sig.params f.body sig.result (body_typed records sig h)

    abbrev pub function_used : (records : List RecordTree) (sig : Signature) → IsLooseTypingOf records earlier i f sig → ℕ → PowerMap
    function_used records sig h =
        then_units (notes_holes f.params) (notes_used h.choice f.params sig.params h.params)
        (then_units (result_holes f.result) (result_used h.choice f.result sig.result h.result) (body_used records sig h))

    module _ (records : List RecordTree) (holes names : ℕ → PowerMap) where
      -- ---- sound
      module _ (v : ℕ → PowerMap) where
        pub params_sound : (n : ℕ) (ms : List NoteTree) → TypesMatch (λ k. replace v (names k)) ms (map (put v) (noted_types holes names n ms))
        params_sound n [] = refl
        params_sound n (m ∷ ms) =
            (put v (noted_type holes names n m), map (put v) (noted_types holes names (n + note_holes m) ms), note_sound v holes names n m, params_sound (n + note_holes m) ms, refl)

        pub result_sound : (at : ℕ) (t : TypeTree) (n : ℕ) (r : Option NoteTree) → Holds v (result_rows holes names at t n r) → ResultMatches (λ k. replace v (names k)) r (put v t)
        result_sound at t n None h = tt
        result_sound at t n (Some m) h = subst (Matches (λ k. replace v (names k)) m) (sym (same_from_rows v at t (noted_type holes names n m) h)) (note_sound v holes names n m)

        pub own_result_sound : (at : ℕ) (t : TypeTree) (n : ℕ) (r : Option NoteTree) → Holds v (result_rows holes names at t n r) → IsSome r → put v t ≡ put v (noted_result holes names n r)
        own_result_sound at t n None h m = absurd (cc m)
        own_result_sound at t n (Some k) h m = same_from_rows v at t (noted_type holes names n k) h

        abbrev given : Signature
        given = record { params = map (put v) (equations holes names records schemes i f).params; result = put v (equations holes names records schemes i f).result }

        -- units that make each row 1 give a typing, whose choice is what they put for the named variables
        pub function_sound : Holds v (equations holes names records schemes i f).steps → (h : IsLooseTypingOf records earlier i f given) × ((k : ℕ) → h.choice k ≡ replace v (names k))
        function_sound all =
            let n = notes_holes f.params in
            let params = noted_types holes names 0 f.params in
            let self = own_signature holes names f in
            let body = derive holes names records self (callee schemes i f) (head_holes f) params f.body in
            let h = Holds-back v (head_steps holes names f) (body.steps ++ result_rows holes names f.at body.type n f.result) all in
            let last = Holds-back v body.steps (result_rows holes names f.at body.type n f.result) h in
            let sig : Signature = record { params = map (put v) params; result = put v body.type } in
            let own = λ (m : MayRecur f). let e = own_result_sound f.at body.type n f.result last m.noted in let same : sig ≡ put_signature v self = λ i. record { params = map (put v) params; result = e i } in same in (
              record {
                choice = λ k. replace v (names k);
                params = params_sound 0 f.params;
                result = result_sound f.at body.type n f.result last;
                body = subst (λ e. Typed records (Calls earlier i f sig) (λ k. replace v (names k)) sig.params e sig.result) (same_literals (λ k. replace v (names k)) f.body closed)
                    (sound v holes names records self (callee schemes i f) (Calls earlier i f sig) (closes (put_signature v self) sig own) (head_holes f) params f.body (Holds-front v body.steps (result_rows holes names f.at body.type n f.result) h));
              },
              λ k. refl,
            )

      -- ---- complete
      module _ (v choice : ℕ → PowerMap) (same : (k : ℕ) → replace v (names k) ≡ choice k) where
        pub params_complete : (n : ℕ) (ms : List NoteTree) (ts : List TypeTree) (h : TypesMatch choice ms ts) → HolesAre v holes names choice same n (notes_holes ms) (notes_used choice ms ts h) → map (put v) (noted_types holes names n ms) ≡ ts
        params_complete n [] ts h a = sym h
        params_complete n (m ∷ ms) ts h a =
            let s = λ (k : ℕ). replace v (holes k) in
            let u = note_used choice m h.0 h.2 in
            let w = notes_used choice ms h.1 h.3 in
            let head = note_complete v holes names choice same n m h.0 h.2 (agrees_first s n (note_holes m) (notes_holes ms) u w a) in
            let rest = params_complete (n + note_holes m) ms h.1 h.3 (agrees_second s n (note_holes m) (notes_holes ms) u w a) in
            (λ i. head i ∷ rest i) ∙ sym h.4

        pub result_complete : (n : ℕ) (r : Option NoteTree) (t : TypeTree) (h : ResultMatches choice r t) → HolesAre v holes names choice same n (result_holes r) (result_used choice r t h) → put v (noted_result holes names n r) ≡ own_result r t
        result_complete n None t h a = refl
        result_complete n (Some m) t h a = note_complete v holes names choice same n m t h a

        rows_complete : (at : ℕ) (b : TypeTree) (n : ℕ) (r : Option NoteTree) (t : TypeTree) → put v b ≡ t → put v (noted_result holes names n r) ≡ own_result r t → Holds v (result_rows holes names at b n r)
        rows_complete at b n None t e k = tt
        rows_complete at b n (Some m) t e k = rows-same v at b (noted_type holes names n m) (e ∙ sym k)

      -- a typing comes from units that give its holes and its named variables what it uses
      pub function_complete : (sig : Signature) (h : IsLooseTypingOf records earlier i f sig) (v : ℕ → PowerMap) → ((k : ℕ) → replace v (holes k) ≡ function_used records sig h k) → ((k : ℕ) → replace v (names k) ≡ h.choice k) →
          Holds v (equations holes names records schemes i f).steps × (sig ≡ record { params = map (put v) (equations holes names records schemes i f).params; result = put v (equations holes names records schemes i f).result })
      function_complete sig h v units same =
          let c = callee schemes i f in
          let fp = notes_used h.choice f.params sig.params h.params in
          let fr = result_used h.choice f.result sig.result h.result in
          let fb = body_used records sig h in
          let np = notes_holes f.params in
          let nr = result_holes f.result in
          let nb = expr_holes records c f.body in
          let s = λ (k : ℕ). replace v (holes k) in
          let start : Agrees s 0 (np + (nr + nb)) (then_units np fp (then_units nr fr fb)) = λ k l. (let zero_plus : 0 + k ≡ k = omega arith in ap s zero_plus) ∙ units k in
          let begin : 0 + np ≡ np = omega arith in
          let rest = subst (λ (m : ℕ). Agrees s m (nr + nb) (then_units nr fr fb)) begin (agrees_second s 0 np (nr + nb) fp (then_units nr fr fb) start) in
          let params = noted_types holes names 0 f.params in
          let ps = params_complete v h.choice same 0 f.params sig.params h.params (agrees_first s 0 np (nr + nb) fp (then_units nr fr fb) start) in
          let r = result_complete v h.choice same np f.result sig.result h.result (agrees_first s np nr nb fr fb rest) in
          let self = own_signature holes names f in
          let own : own_sig f sig ≡ put_signature v self = λ i. record { params = sym ps i; result = sym r i } in
          let body = derive holes names records self c (np + nr) params f.body in
          let b = complete v holes names h.choice same records self (own_sig f sig) own c callee_below (Calls earlier i f sig) (own_opens sig) (np + nr) params sig.params ps f.body sig.result (body_typed records sig h) (agrees_second s np nr nb fr fb rest) in (
            Holds-append v (head_steps holes names f) (body.steps ++ result_rows holes names f.at body.type np f.result) (types_hold v f.at (noted_types holes names 0 f.params ++ noted_result holes names np f.result ∷ []))
                (Holds-append v body.steps (result_rows holes names f.at body.type np f.result) b.1 (rows_complete v h.choice same f.at body.type np f.result sig.result b.0 r)),
            λ i. record { params = sym ps i; result = sym b.0 i },
          )
