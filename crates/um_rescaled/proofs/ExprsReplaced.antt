-- An expression in tokens whose numbers before units are replaced by those of the rescaled expression: it is read again,
-- and stands for the rescaled expression.
use Rattle.std.proofs.Common.{◌≡◌, ℕ, suc, ◌≤◌, ◌<◌, Bool, true, false, cond, List, [], ◌∷◌, ◌++◌, slice_get, Option, Some, None, refl, sym, ap, subst, ◌∙◌, Ok, Err}
use Rattle.std.specs.Option.{unwrap_or}
use Rattle.um_frac.specs.declared.number.Frac.{Frac}
use Rattle.um_frac.specs.Fraction.{numerator}
use Rattle.um_syntax.specs.declared.token.Token.{Token}
use Rattle.um_units.specs.PowerMap.{PowerMap, one}
use Rattle.um_tree.specs.declared.note.UnitNote.{UnitNote}
use Rattle.um_tree.specs.declared.note.UnitNote.TheVariants as note
use Rattle.um_tree.specs.ExprTree.{ExprTree, ExprTrees, truth, number, local, call, negate, not_expr, pown, arith, compare, both, either, if, bind, split, nil, list_expr, cons, record_expr, field, none, more}
use Rattle.um_tree.specs.ProgramTree.{RecordTree, FunctionTree}
use Rattle.um_tree.specs.RawTree.{UnitSyntax, NoteSyntax, hole_syntax, unit_note_syntax, ExprSyntax, ExprSyntaxes, FieldSyntaxes, truth_syntax, number_syntax, name_syntax, call_syntax, negate_syntax, not_syntax, pown_syntax, arith_syntax, compare_syntax, and_syntax, or_syntax, if_syntax, let_syntax, match_syntax, nil_syntax, list_syntax, cons_syntax, fields_syntax, field_syntax, bracket_expr_syntax, no_exprs, more_exprs, no_fields, more_fields}
use Rattle.um_operands.specs.declared.infix.Infix.TheVariants as between
use Rattle.um_operands.specs.Ranks.{arith_rank}
use Rattle.um_measures.specs.Faults.{Found, and_then, unless_taken, hole}
use Rattle.um_measures.specs.Known.{Known, measure_unit}
use Rattle.um_measures.specs.Scopes.{Scope, local_of, same_binding}
use Rattle.um_measures.specs.UnitNames.{resolved_unit}
use Rattle.um_measures.specs.Variables.{expr_variables, exprs_variables, fields_variables}
use Rattle.um_measures.specs.Wildcards.{is_zero, open_unit}
use Rattle.um_names.specs.declared.callable.Callable.{Callable}
use Rattle.um_names.specs.TypeNames.{resolved_type}
use Rattle.um_names.specs.ExprNames.{callable_of, named, called, length_of, field_text_names, known_or, known_fields, record_of, found_record, resolved_fields, found_field, field_of, resolved_literal, resolved_expr, resolved_exprs, resolved_parts}
use Rattle.um_names.proofs.FormedTypes.{then_found}
use Rattle.um_expr.specs.ExprGrammar.{Spells, AllSpell, MoreItems, MoreFields, rank, IsAny, NoteFitsIn, Fits, AreAtoms, AllFit, FieldsFit}
use Rattle.um_scale.specs.Sizes.{AreSizes}
use Rattle.um_scale.specs.RescaledLiterals.{rescaled_number, rescaled, all_rescaled}
use Rattle.um_scale.specs.RescaledText.{opens_unit, new_number, literals, all_literals}
use Rattle.um_rescaled.proofs.Picks.{Segment, joint, made, listed, before, ended, empty, literal, same_start}
use Rattle.um_rescaled.proofs.TokensReplaced.{number_kind, opens_after, first, first_at, same_number, new_kind, signed, bound_replaced, written_replaced, power_replaced, empty_arm_replaced, full_arm_replaced, nil_replaced}
use Rattle.um_rescaled.proofs.RescaledNumbers.{natural_stays, stays_without_unit}
use Rattle.um_rescaled.proofs.ExprSizes.{size, list_size, fields_size, beside, one_more, over_two, over_three}
use Rattle.um_rescaled.proofs.OtherFunctions.{with_functions, type_same}

-- nothing is refused, and this is found
pair_found : {A : Type 0} (r : Found A) (s : A → Found A) (make : A → A → A) (x : A) → and_then r (λ a. and_then (s a) (λ b. Ok (make a b))) ≡ Ok x → (a b : A) × (r ≡ Ok a) × (s a ≡ Ok b) × (make a b ≡ x)
pair_found r s make x is =
    let w = then_found r (λ a. and_then (s a) (λ b. Ok (make a b))) x is in
    let v = then_found (s w.0) (λ b. Ok (make w.0 b)) x w.2 in
    (w.0, v.0, w.1, v.1, cc (v.2))

pub one_found : {A B : Type 0} (r : Found A) (make : A → B) (x : B) → and_then r (λ a. Ok (make a)) ≡ Ok x → (a : A) × (r ≡ Ok a) × (make a ≡ x)
one_found r make x is = let w = then_found r (λ a. Ok (make a)) x is in (w.0, w.1, cc (w.2))

is_hole : (b : Bool) (at : ℕ) (u : UnitNote) → cond b (Ok note.Hole) (Err (hole at)) ≡ Ok u → u ≡ note.Hole
is_hole true at u e = let same : note.Hole ≡ u = cc e in sym same
is_hole false at u e = absurd (cc e)

module _ (cs : List Frac) (above : AreSizes cs) (numbers : ℕ → Option Frac) (known : Known) (functions : List FunctionTree) (variables : List (List ℕ)) (callables : List Callable) where
  abbrev resolved_again : Scope → ExprSyntax → Found ExprTree
  resolved_again scope e = resolved_expr (with_functions known functions) variables callables scope e

  pub record Again (e : ExprSyntax) (scope : Scope) (y : ExprTree) (tokens rest : List Token) : Type 0 where
    pub again : ExprSyntax
    pub segment : Segment numbers (literals y) tokens rest (λ a b. Spells again a b)
    pub fits : Fits again
    pub ranked : rank again ≡ rank e
    pub occurring : expr_variables again ≡ expr_variables e
    pub sized : size again ≡ size e
    pub resolved : resolved_expr (with_functions known functions) variables callables scope again ≡ Ok y

  record AllAgain (es : ExprSyntaxes) (scope : Scope) (ys : ExprTrees) (tokens rest : List Token) : Type 0 where
    pub again : ExprSyntaxes
    pub segment : Segment numbers (all_literals ys) tokens rest (λ a b. AllSpell again a b)
    pub fits : AreAtoms again
    pub some : IsAny es → IsAny again
    pub long : length_of again ≡ length_of es
    pub occurring : exprs_variables again ≡ exprs_variables es
    pub sized : list_size again ≡ list_size es
    pub resolved : resolved_exprs (with_functions known functions) variables callables scope again ≡ Ok ys

  record ItemsAgain (es : ExprSyntaxes) (scope : Scope) (ys : ExprTrees) (tokens rest : List Token) : Type 0 where
    pub again : ExprSyntaxes
    pub segment : Segment numbers (all_literals ys) tokens rest (λ a b. MoreItems again a b)
    pub fits : AllFit again
    pub occurring : exprs_variables again ≡ exprs_variables es
    pub sized : list_size again ≡ list_size es
    pub resolved : resolved_exprs (with_functions known functions) variables callables scope again ≡ Ok ys

  record FieldsAgain (fs : FieldSyntaxes) (scope : Scope) (ys : ExprTrees) (tokens rest : List Token) : Type 0 where
    pub again : FieldSyntaxes
    pub segment : Segment numbers (all_literals ys) tokens rest (λ a b. MoreFields again a b)
    pub fits : FieldsFit again
    pub names : field_text_names again ≡ field_text_names fs
    pub fields : (records : List RecordTree) → known_fields records again ≡ known_fields records fs
    pub occurring : fields_variables again ≡ fields_variables fs
    pub sized : fields_size again ≡ fields_size fs
    pub resolved : resolved_parts (with_functions known functions) variables callables scope again ≡ Ok ys

  to : (e : ExprSyntax) (scope : Scope) (a x : ExprTree) (tokens rest : List Token) → a ≡ x → Again e scope (rescaled cs a) tokens rest → Again e scope (rescaled cs x) tokens rest
  to e scope a x tokens rest same r = subst (λ z. Again e scope (rescaled cs z) tokens rest) same r

  -- ---- names

  named_stays : (o : Option ℕ) (x : List ℕ) (at : ℕ) (e : ExprTree) → named callables o x at ≡ Ok e → (rescaled cs e ≡ e) × (literals e ≡ [])
  named_stays (Some k) x at e is = let same : local at k ≡ e = cc is in subst (λ z. (rescaled cs z ≡ z) × (literals z ≡ [])) same (refl, refl)
  named_stays None x at e is =
      let w = one_found (callable_of callables x 0 at) (λ j. call at j none) e is in
      subst (λ z. (rescaled cs z ≡ z) × (literals z ≡ [])) w.2 (refl, refl)

  name_again : (at : ℕ) (x : List ℕ) (scope : Scope) (e : ExprTree) (tokens rest : List Token) → Spells (name_syntax at x) tokens rest → named callables (local_of scope x) x at ≡ Ok e → Again (name_syntax at x) scope (rescaled cs e) tokens rest
  name_again at x scope e tokens rest s is =
      let stays = named_stays (local_of scope x) x at e is in
      record {
        again = name_syntax at x;
        segment = listed numbers (sym (ap literals stays.0 ∙ stays.1)) (first_at numbers _ at tokens rest s);
        fits = tt;
        ranked = refl;
        occurring = refl;
        sized = refl;
        resolved = is ∙ ap (λ z. Ok z) (sym stays.0);
      }

  -- ---- literals

  bare_again : (at : ℕ) (c : Frac) (scope : Scope) (tokens rest : List Token) → Spells (number_syntax at c None) tokens rest → Again (number_syntax at c None) scope (number at c (note.Written one)) tokens rest
  bare_again at c scope tokens rest s =
      let t = s.1.0 in
      let kind = number_kind t.kind c s.1.1 in
      record {
        again = number_syntax at c None;
        segment = listed numbers (ap (λ p. (p, c) ∷ []) s.1.2) (made numbers (ended numbers (literal numbers t tokens s.0 c s.1.3 (c, kind.0, kind.1, kind.2, (λ n. n))) (empty numbers s.0 rest s.2))
            (λ x y g.
            let l = g.first in
            (g.mid, (l.token, same_number numbers t l.token (opens_unit (slice_get s.0 0)) c l.told s.1.1 l.replaced, same_start numbers (new_number numbers t (opens_unit (slice_get s.0 0))) t l.token l.replaced ∙ s.1.2, l.first), g.second)));
        fits = tt;
        ranked = refl;
        occurring = refl;
        sized = refl;
        resolved = refl;
      }

  -- a zero with a hole
  hole_again : (at : ℕ) (c : Frac) (place : ℕ) (scope : Scope) (tokens rest : List Token) → Spells (number_syntax at c (Some (hole_syntax place))) tokens rest → open_unit c at ≡ Ok note.Hole → Again (number_syntax at c (Some (hole_syntax place))) scope (number at c note.Hole) tokens rest
  hole_again at c place scope tokens rest s is = record {
    again = number_syntax at c (Some (hole_syntax place));
    segment = made numbers (before numbers (first_at numbers _ at tokens s.0 s.1) (written_replaced numbers (Some (hole_syntax place)) s.0 rest s.2)) (λ x y g. (g.mid, g.first, g.second));
    fits = tt;
    ranked = refl;
    occurring = refl;
    sized = refl;
    resolved = λ i. and_then (is i) (λ unit. Ok (number at c unit));
  }

  unit_again : (at : ℕ) (c : Frac) (place : ℕ) (u : UnitSyntax) (v : PowerMap) (scope : Scope) (tokens rest : List Token) → Spells (number_syntax at c (Some (unit_note_syntax place u))) tokens rest → NoteFitsIn (Some (unit_note_syntax place u)) → resolved_unit (measure_unit known) [] u ≡ Ok v
      → Again (number_syntax at c (Some (unit_note_syntax place u))) scope (rescaled cs (number at c (note.Written v))) tokens rest
  unit_again at c place u v scope tokens rest s fits is =
      let t = s.1.0 in
      let kind = number_kind t.kind c s.1.1 in
      let d = unwrap_or (rescaled_number cs c (note.Written v)) c in
      let b = opens_unit (slice_get s.0 0) in
      let opens = opens_after s.0 s.2.0 s.2.2 in
      record {
        again = number_syntax at d (Some (unit_note_syntax place u));
        segment = listed numbers (ap (λ p. (p, d) ∷ []) s.1.2) (made numbers (ended numbers (literal numbers t tokens s.0 d s.1.3 (c, kind.0, kind.1, kind.2, natural_stays cs above c v)) (written_replaced numbers (Some (unit_note_syntax place u)) s.0 rest s.2))
            (λ x y g.
            let l = g.first in
            (g.mid, (l.token, new_kind numbers t l.token b c d l.told s.1.1 opens l.replaced, same_start numbers (new_number numbers t b) t l.token l.replaced ∙ s.1.2, l.first), g.second)));
        fits = fits;
        ranked = refl;
        occurring = refl;
        sized = refl;
        resolved = λ i. and_then (is i) (λ v. Ok (number at d (note.Written v)));
      }

  literal_again : (at : ℕ) (c : Frac) (n : Option NoteSyntax) (scope : Scope) (x : ExprTree) (tokens rest : List Token) → Spells (number_syntax at c n) tokens rest → NoteFitsIn n → resolved_literal known at c n ≡ Ok x → Again (number_syntax at c n) scope (rescaled cs x) tokens rest
  literal_again at c None scope x tokens rest s fits is =
      to (number_syntax at c None) scope (number at c (note.Written one)) x tokens rest (cc is)
      (subst (λ d. Again (number_syntax at c None) scope (number at d (note.Written one)) tokens rest) (sym (stays_without_unit cs above c)) (bare_again at c scope tokens rest s))
  literal_again at c (Some (hole_syntax place)) scope x tokens rest s fits is =
      let w = one_found (open_unit c at) (number at c) x is in
      let unit_open = is_hole (is_zero (numerator c)) at w.0 w.1 in
      to (number_syntax at c (Some (hole_syntax place))) scope (number at c w.0) x tokens rest w.2
      (subst (λ u. Again (number_syntax at c (Some (hole_syntax place))) scope (rescaled cs (number at c u)) tokens rest) (sym unit_open) (hole_again at c place scope tokens rest s (w.1 ∙ ap (λ u. Ok u) unit_open)))
  literal_again at c (Some (unit_note_syntax place u)) scope x tokens rest s fits is =
      let w = one_found (resolved_unit (measure_unit known) [] u) (λ v. number at c (note.Written v)) x is in
      to (number_syntax at c (Some (unit_note_syntax place u))) scope (number at c (note.Written (w.0))) x tokens rest w.2 (unit_again at c place u w.0 scope tokens rest s fits w.1)

  -- ---- all forms

  mutual
    pub expr_again : (e : ExprSyntax) (scope : Scope) (x : ExprTree) (tokens rest : List Token) → Spells e tokens rest → Fits e → resolved_expr known variables callables scope e ≡ Ok x → Again e scope (rescaled cs x) tokens rest
    expr_again (truth_syntax at b) scope x tokens rest s f is =
        to (truth_syntax at b) scope (truth at b) x tokens rest (cc is) (record { again = truth_syntax at b; segment = first_at numbers _ at tokens rest s; fits = tt; ranked = refl; occurring = refl; sized = refl; resolved = refl })
    expr_again (number_syntax at c n) scope x tokens rest s f is = literal_again at c n scope x tokens rest s f is
    expr_again (name_syntax at m) scope x tokens rest s f is = name_again at m scope x tokens rest s is
    expr_again (call_syntax at m es) scope x tokens rest s f is =
        let w = then_found (called callables (local_of scope m) m (length_of es) at) (λ j. and_then (resolved_exprs known variables callables scope es) (λ bs. Ok (call at j bs))) x is in
        let v = one_found (resolved_exprs known variables callables scope es) (call at w.0) x w.2 in
        let q = arguments_again es scope v.0 s.0 rest s.2 f.1 v.1 in
        let same : called callables (local_of scope m) m (length_of q.again) at ≡ Ok w.0 = ap (λ n. called callables (local_of scope m) m n at) q.long ∙ w.1 in
        to (call_syntax at m es) scope (call at w.0 v.0) x tokens rest v.2 (record {
          again = call_syntax at m q.again;
          segment = made numbers (before numbers (first_at numbers _ at tokens s.0 s.1) q.segment) (λ a b g. (g.mid, g.first, g.second));
          fits = (q.some f.0, q.fits);
          ranked = refl;
          occurring = q.occurring;
          sized = ap one_more q.sized;
          resolved = λ i. and_then (same i) (λ j. and_then (q.resolved i) (λ bs. Ok (call at j bs)));
        })
    expr_again (negate_syntax at a) scope x tokens rest s f is =
        let w = one_found (resolved_expr known variables callables scope a) (negate at) x is in
        let p = expr_again a scope w.0 s.0 rest s.2 f.1 w.1 in
        to (negate_syntax at a) scope (negate at w.0) x tokens rest w.2 (record {
          again = negate_syntax at p.again;
          segment = made numbers (before numbers (first_at numbers _ at tokens s.0 s.1) p.segment) (λ a b g. (g.mid, g.first, g.second));
          fits = (subst (λ n. n ≤ 2) (sym p.ranked) f.0, p.fits);
          ranked = refl;
          occurring = p.occurring;
          sized = ap one_more p.sized;
          resolved = λ i. and_then (p.resolved i) (λ e. Ok (negate at e));
        })
    expr_again (not_syntax at a) scope x tokens rest s f is =
        let w = one_found (resolved_expr known variables callables scope a) (not_expr at) x is in
        let p = expr_again a scope w.0 s.0 rest s.2 f.1 w.1 in
        to (not_syntax at a) scope (not_expr at w.0) x tokens rest w.2 (record {
          again = not_syntax at p.again;
          segment = made numbers (before numbers (first_at numbers _ at tokens s.0 s.1) p.segment) (λ a b g. (g.mid, g.first, g.second));
          fits = (p.ranked ∙ f.0, p.fits);
          ranked = refl;
          occurring = p.occurring;
          sized = ap one_more p.sized;
          resolved = λ i. and_then (p.resolved i) (λ e. Ok (not_expr at e));
        })
    expr_again (pown_syntax at a k) scope x tokens rest s f is =
        let w = one_found (resolved_expr known variables callables scope a) (λ e. pown at e k) x is in
        let p = expr_again a scope w.0 s.0 s.1 s.3 f.1 w.1 in
        to (pown_syntax at a k) scope (pown at w.0 k) x tokens rest w.2 (record {
          again = pown_syntax at p.again k;
          segment = made numbers (before numbers (first_at numbers _ at tokens s.0 s.2) (ended numbers p.segment (power_replaced numbers k s.1 rest s.4))) (λ a b g. (g.mid, g.second.mid, g.first, g.second.first, g.second.second));
          fits = (p.ranked ∙ f.0, p.fits);
          ranked = refl;
          occurring = p.occurring;
          sized = ap one_more p.sized;
          resolved = λ i. and_then (p.resolved i) (λ e. Ok (pown at e k));
        })
    expr_again (arith_syntax at op a b) scope x tokens rest s f is =
        let v = pair_found (resolved_expr known variables callables scope a) (λ _. resolved_expr known variables callables scope b) (arith at op) x is in
        let p = expr_again a scope v.0 tokens s.0 s.2 f.2 v.2 in
        let q = expr_again b scope v.1 s.1 rest s.4 f.3 v.3 in
        to (arith_syntax at op a b) scope (arith at op v.0 v.1) x tokens rest v.4 (record {
          again = arith_syntax at op p.again q.again;
          segment = made numbers (joint numbers (signed numbers (between.Arith op) at tokens s.0 s.1 s.3 p.segment) q.segment) (λ a b g. (g.first.mid, g.mid, g.first.first, g.first.sign, g.second));
          fits = (subst (λ n. n ≤ arith_rank op) (sym p.ranked) f.0, subst (λ n. n < arith_rank op) (sym q.ranked) f.1, p.fits, q.fits);
          ranked = refl;
          occurring = λ i. p.occurring i ++ q.occurring i;
          sized = λ i. over_two (p.sized i) (q.sized i);
          resolved = λ i. and_then (p.resolved i) (λ e. and_then (q.resolved i) (λ f. Ok (arith at op e f)));
        })
    expr_again (compare_syntax at sg a b) scope x tokens rest s f is =
        let v = pair_found (resolved_expr known variables callables scope a) (λ _. resolved_expr known variables callables scope b) (compare at sg) x is in
        let p = expr_again a scope v.0 tokens s.0 s.2 f.2 v.2 in
        let q = expr_again b scope v.1 s.1 rest s.4 f.3 v.3 in
        to (compare_syntax at sg a b) scope (compare at sg v.0 v.1) x tokens rest v.4 (record {
          again = compare_syntax at sg p.again q.again;
          segment = made numbers (joint numbers (signed numbers (between.Compare sg) at tokens s.0 s.1 s.3 p.segment) q.segment) (λ a b g. (g.first.mid, g.mid, g.first.first, g.first.sign, g.second));
          fits = (subst (λ n. n ≤ 5) (sym p.ranked) f.0, subst (λ n. n < 6) (sym q.ranked) f.1, p.fits, q.fits);
          ranked = refl;
          occurring = λ i. p.occurring i ++ q.occurring i;
          sized = λ i. over_two (p.sized i) (q.sized i);
          resolved = λ i. and_then (p.resolved i) (λ e. and_then (q.resolved i) (λ f. Ok (compare at sg e f)));
        })
    expr_again (and_syntax at a b) scope x tokens rest s f is =
        let v = pair_found (resolved_expr known variables callables scope a) (λ _. resolved_expr known variables callables scope b) (both at) x is in
        let p = expr_again a scope v.0 tokens s.0 s.2 f.2 v.2 in
        let q = expr_again b scope v.1 s.1 rest s.4 f.3 v.3 in
        to (and_syntax at a b) scope (both at v.0 v.1) x tokens rest v.4 (record {
          again = and_syntax at p.again q.again;
          segment = made numbers (joint numbers (signed numbers (between.And) at tokens s.0 s.1 s.3 p.segment) q.segment) (λ a b g. (g.first.mid, g.mid, g.first.first, g.first.sign, g.second));
          fits = (subst (λ n. n ≤ 7) (sym p.ranked) f.0, subst (λ n. n < 7) (sym q.ranked) f.1, p.fits, q.fits);
          ranked = refl;
          occurring = λ i. p.occurring i ++ q.occurring i;
          sized = λ i. over_two (p.sized i) (q.sized i);
          resolved = λ i. and_then (p.resolved i) (λ e. and_then (q.resolved i) (λ f. Ok (both at e f)));
        })
    expr_again (or_syntax at a b) scope x tokens rest s f is =
        let v = pair_found (resolved_expr known variables callables scope a) (λ _. resolved_expr known variables callables scope b) (either at) x is in
        let p = expr_again a scope v.0 tokens s.0 s.2 f.2 v.2 in
        let q = expr_again b scope v.1 s.1 rest s.4 f.3 v.3 in
        to (or_syntax at a b) scope (either at v.0 v.1) x tokens rest v.4 (record {
          again = or_syntax at p.again q.again;
          segment = made numbers (joint numbers (signed numbers (between.Or) at tokens s.0 s.1 s.3 p.segment) q.segment) (λ a b g. (g.first.mid, g.mid, g.first.first, g.first.sign, g.second));
          fits = (subst (λ n. n ≤ 8) (sym p.ranked) f.0, subst (λ n. n < 8) (sym q.ranked) f.1, p.fits, q.fits);
          ranked = refl;
          occurring = λ i. p.occurring i ++ q.occurring i;
          sized = λ i. over_two (p.sized i) (q.sized i);
          resolved = λ i. and_then (p.resolved i) (λ e. and_then (q.resolved i) (λ f. Ok (either at e f)));
        })
    expr_again (cons_syntax at a b) scope x tokens rest s f is =
        let v = pair_found (resolved_expr known variables callables scope a) (λ _. resolved_expr known variables callables scope b) (cons at) x is in
        let p = expr_again a scope v.0 tokens s.0 s.2 f.2 v.2 in
        let q = expr_again b scope v.1 s.1 rest s.4 f.3 v.3 in
        to (cons_syntax at a b) scope (cons at v.0 v.1) x tokens rest v.4 (record {
          again = cons_syntax at p.again q.again;
          segment = made numbers (joint numbers (signed numbers (between.Cons) at tokens s.0 s.1 s.3 p.segment) q.segment) (λ a b g. (g.first.mid, g.mid, g.first.first, g.first.sign, g.second));
          fits = (subst (λ n. n ≤ 4) (sym p.ranked) f.0, subst (λ n. n < 6) (sym q.ranked) f.1, p.fits, q.fits);
          ranked = refl;
          occurring = λ i. p.occurring i ++ q.occurring i;
          sized = λ i. over_two (p.sized i) (q.sized i);
          resolved = λ i. and_then (p.resolved i) (λ e. and_then (q.resolved i) (λ f. Ok (cons at e f)));
        })
    expr_again (if_syntax at c a b) scope x tokens rest s f is =
        let w = then_found (resolved_expr known variables callables scope c) (λ d. and_then (resolved_expr known variables callables scope a) (λ e. and_then (resolved_expr known variables callables scope b) (λ f. Ok (if at d e f)))) x is in
        let v = pair_found (resolved_expr known variables callables scope a) (λ _. resolved_expr known variables callables scope b) (if at w.0) x w.2 in
        let o = expr_again c scope w.0 s.0 s.1 s.6 f.0 w.1 in
        let p = expr_again a scope v.0 s.2 s.3 s.8 f.1 v.2 in
        let q = expr_again b scope v.1 s.4 rest s.10 f.2 v.3 in
        to (if_syntax at c a b) scope (if at w.0 v.0 v.1) x tokens rest v.4 (record {
          again = if_syntax at o.again p.again q.again;
          segment = made numbers
              (before numbers (first_at numbers _ at tokens s.0 s.5) (joint numbers o.segment (before numbers (first numbers _ s.1 s.2 s.7) (joint numbers p.segment (before numbers (first numbers _ s.3 s.4 s.9) q.segment)))))
              (λ a b g. (g.mid, g.second.mid, g.second.second.mid, g.second.second.second.mid, g.second.second.second.second.mid, g.first, g.second.first, g.second.second.first, g.second.second.second.first, g.second.second.second.second.first, g.second.second.second.second.second));
          fits = (o.fits, p.fits, q.fits);
          ranked = refl;
          occurring = λ i. o.occurring i ++ p.occurring i ++ q.occurring i;
          sized = λ i. over_three (o.sized i) (p.sized i) (q.sized i);
          resolved = λ i. and_then (o.resolved i) (λ d. and_then (p.resolved i) (λ e. and_then (q.resolved i) (λ f. Ok (if at d e f))));
        })
    expr_again (let_syntax at m a b) scope x tokens rest s f is =
        let inner = scope ++ m.name ∷ [] in
        let v = pair_found (resolved_expr known variables callables scope a) (λ _. resolved_expr known variables callables inner b) (bind at) x is in
        let p = expr_again a scope v.0 s.2 s.3 s.8 f.0 v.2 in
        let q = expr_again b inner v.1 s.4 rest s.10 f.1 v.3 in
        to (let_syntax at m a b) scope (bind at v.0 v.1) x tokens rest v.4 (record {
          again = let_syntax at m p.again q.again;
          segment = made numbers
              (before numbers (first_at numbers _ at tokens s.0 s.5) (before numbers (bound_replaced numbers m s.0 s.1 s.6) (before numbers (first numbers _ s.1 s.2 s.7) (joint numbers p.segment (before numbers (first numbers _ s.3 s.4 s.9) q.segment)))))
              (λ a b g. (g.mid, g.second.mid, g.second.second.mid, g.second.second.second.mid, g.second.second.second.second.mid, g.first, g.second.first, g.second.second.first, g.second.second.second.first, g.second.second.second.second.first, g.second.second.second.second.second));
          fits = (p.fits, q.fits);
          ranked = refl;
          occurring = λ i. p.occurring i ++ q.occurring i;
          sized = λ i. over_two (p.sized i) (q.sized i);
          resolved = λ i. and_then (p.resolved i) (λ e. and_then (q.resolved i) (λ f. Ok (bind at e f)));
        })
    expr_again (match_syntax at l a m n b) scope x tokens rest s f is =
        let inner = scope ++ m.name ∷ n.name ∷ [] in
        let full = resolved_expr known variables callables inner b in
        let once = unless_taken (same_binding m.name n.name) n.at in
        let w = then_found (resolved_expr known variables callables scope l) (λ d. and_then (resolved_expr known variables callables scope a) (λ c. and_then once (λ _. and_then full (λ f. Ok (split at d c f))))) x is in
        let v = then_found (resolved_expr known variables callables scope a) (λ c. and_then once (λ _. and_then full (λ f. Ok (split at w.0 c f)))) x w.2 in
        let u = then_found once (λ _. and_then full (λ f. Ok (split at w.0 v.0 f))) x v.2 in
        let z = one_found full (split at w.0 v.0) x u.2 in
        let o = expr_again l scope w.0 s.0 s.1 s.6 f.0 w.1 in
        let p = expr_again a scope v.0 s.2 s.3 s.8 f.1 v.1 in
        let q = expr_again b inner z.0 s.4 rest s.10 f.2 z.1 in
        to (match_syntax at l a m n b) scope (split at w.0 v.0 z.0) x tokens rest z.2 (record {
          again = match_syntax at o.again p.again m n q.again;
          segment = made numbers
              (before numbers (first_at numbers _ at tokens s.0 s.5) (joint numbers o.segment (before numbers (empty_arm_replaced numbers s.1 s.2 s.7) (joint numbers p.segment (before numbers (full_arm_replaced numbers m n s.3 s.4 s.9) q.segment)))))
              (λ a b g. (g.mid, g.second.mid, g.second.second.mid, g.second.second.second.mid, g.second.second.second.second.mid, g.first, g.second.first, g.second.second.first, g.second.second.second.first, g.second.second.second.second.first, g.second.second.second.second.second));
          fits = (o.fits, p.fits, q.fits);
          ranked = refl;
          occurring = λ i. o.occurring i ++ p.occurring i ++ q.occurring i;
          sized = λ i. over_three (o.sized i) (p.sized i) (q.sized i);
          resolved = λ i. and_then (o.resolved i) (λ d. and_then (p.resolved i) (λ c. and_then (u.1 i) (λ _. and_then (q.resolved i) (λ f. Ok (split at d c f)))));
        })
    expr_again (nil_syntax at t) scope x tokens rest s f is =
        let w = one_found (resolved_type known variables true t) (nil at) x is in
        to (nil_syntax at t) scope (nil at w.0) x tokens rest w.2 (record {
          again = nil_syntax at t;
          segment = nil_replaced numbers at t tokens rest s;
          fits = f;
          ranked = refl;
          occurring = refl;
          sized = refl;
          resolved = λ i. and_then ((type_same known functions variables true t ∙ w.1) i) (λ n. Ok (nil at n));
        })
    expr_again (list_syntax at no_exprs) scope x tokens rest s f is = absurd s.3
    expr_again (list_syntax at (more_exprs e es)) scope x tokens rest s f is =
        let w = one_found (resolved_exprs known variables callables scope (more_exprs e es)) (list_expr at) x is in
        let v = then_found (resolved_expr known variables callables scope e) (λ a. and_then (resolved_exprs known variables callables scope es) (λ bs. Ok (more a bs))) w.0 w.1 in
        let u = one_found (resolved_exprs known variables callables scope es) (more v.0) w.0 v.2 in
        let p = expr_again e scope v.0 s.0 s.3.0 s.3.1 f.0 v.1 in
        let q = items_again es scope u.0 s.3.0 s.1 s.3.2 f.1 u.1 in
        to (list_syntax at (more_exprs e es)) scope (list_expr at (more v.0 u.0)) x tokens rest (ap (list_expr at) u.2 ∙ w.2) (record {
          again = list_syntax at (more_exprs p.again q.again);
          segment = made numbers (before numbers (first_at numbers _ at tokens s.0 s.2) (ended numbers (joint numbers p.segment q.segment) (first numbers _ s.1 rest s.4)))
              (λ a b g. (g.mid, g.second.mid, g.first, (g.second.first.mid, g.second.first.first, g.second.first.second), g.second.second));
          fits = (p.fits, q.fits);
          ranked = refl;
          occurring = λ i. p.occurring i ++ q.occurring i;
          sized = λ i. one_more (beside (p.sized i) (q.sized i));
          resolved = λ i. and_then (and_then (p.resolved i) (λ a. and_then (q.resolved i) (λ bs. Ok (more a bs)))) (λ bs. Ok (list_expr at bs));
        })
    expr_again (fields_syntax at no_fields) scope x tokens rest s f is = absurd s.3
    expr_again (fields_syntax at (more_fields place m e fs)) scope x tokens rest s f is =
        let records = known.program.records in
        let k = then_found (resolved_fields records (more_fields place m e fs) at) (λ r. and_then (resolved_parts known variables callables scope (more_fields place m e fs)) (λ bs. Ok (record_expr at r bs))) x is in
        let w = one_found (resolved_parts known variables callables scope (more_fields place m e fs)) (record_expr at k.0) x k.2 in
        let v = then_found (resolved_expr known variables callables scope e) (λ a. and_then (resolved_parts known variables callables scope fs) (λ bs. Ok (more a bs))) w.0 w.1 in
        let u = one_found (resolved_parts known variables callables scope fs) (more v.0) w.0 v.2 in
        let t = s.3 in
        let p = expr_again e scope v.0 t.1 t.2 t.5 f.0 v.1 in
        let q = fields_again fs scope u.0 t.2 s.1 t.6 f.1 u.1 in
        let names : resolved_fields records (more_fields place m p.again q.again) at ≡ resolved_fields records (more_fields place m e fs) at =
        λ i. and_then (known_or (field_of records m) place (q.fields records i)) (λ _. found_record (record_of records (m ∷ q.names i)) at) in
        to (fields_syntax at (more_fields place m e fs)) scope (record_expr at k.0 (more v.0 u.0)) x tokens rest (ap (record_expr at k.0) u.2 ∙ w.2) (record {
          again = fields_syntax at (more_fields place m p.again q.again);
          segment = made numbers
              (before numbers (first_at numbers _ at tokens s.0 s.2) (ended numbers (before numbers (first_at numbers _ place s.0 t.0 t.3) (before numbers (first numbers _ t.0 t.1 t.4) (joint numbers p.segment q.segment))) (first numbers _ s.1 rest s.4)))
              (λ a b g. (g.mid, g.second.mid, g.first, (g.second.first.mid, g.second.first.second.mid, g.second.first.second.second.mid, g.second.first.first, g.second.first.second.first, g.second.first.second.second.first, g.second.first.second.second.second), g.second.second));
          fits = (p.fits, q.fits);
          ranked = refl;
          occurring = λ i. p.occurring i ++ q.occurring i;
          sized = λ i. one_more (beside (p.sized i) (q.sized i));
          resolved = λ i. and_then ((names ∙ k.1) i) (λ r. and_then (and_then (p.resolved i) (λ a. and_then (q.resolved i) (λ bs. Ok (more a bs)))) (λ bs. Ok (record_expr at r bs)));
        })
    expr_again (field_syntax at place m a) scope x tokens rest s f is =
        let records = known.program.records in
        let w = then_found (resolved_expr known variables callables scope a) (λ b. and_then (found_field (field_of records m) place) (λ f. Ok (field at f.record_number f.field_number b))) x is in
        let v = one_found (found_field (field_of records m) place) (λ f. field at f.record_number f.field_number w.0) x w.2 in
        let p = expr_again a scope w.0 tokens s.0 s.2 f.1 w.1 in
        to (field_syntax at place m a) scope (field at (v.0).record_number (v.0).field_number w.0) x tokens rest v.2 (record {
          again = field_syntax at place m p.again;
          segment = made numbers (ended numbers p.segment (before numbers (first_at numbers _ at s.0 s.1 s.3) (first_at numbers _ place s.1 rest s.4))) (λ a b g. (g.mid, g.second.mid, g.first, g.second.first, g.second.second));
          fits = (p.ranked ∙ f.0, p.fits);
          ranked = refl;
          occurring = p.occurring;
          sized = ap one_more p.sized;
          resolved = λ i. and_then (p.resolved i) (λ e. and_then (v.1 i) (λ f. Ok (field at f.record_number f.field_number e)));
        })
    expr_again (bracket_expr_syntax at a) scope x tokens rest s f is =
        let p = expr_again a scope x s.0 s.1 s.3 f is in
        record {
          again = bracket_expr_syntax at p.again;
          segment = made numbers (before numbers (first_at numbers _ at tokens s.0 s.2) (ended numbers p.segment (first numbers _ s.1 rest s.4))) (λ a b g. (g.mid, g.second.mid, g.first, g.second.first, g.second.second));
          fits = p.fits;
          ranked = refl;
          occurring = p.occurring;
          sized = ap one_more p.sized;
          resolved = p.resolved;
        }

    arguments_again : (es : ExprSyntaxes) (scope : Scope) (xs : ExprTrees) (tokens rest : List Token) → AllSpell es tokens rest → AreAtoms es → resolved_exprs known variables callables scope es ≡ Ok xs → AllAgain es scope (all_rescaled cs xs) tokens rest
    arguments_again no_exprs scope xs tokens rest s f is =
        let same : none ≡ xs = cc is in
        subst (λ z. AllAgain no_exprs scope (all_rescaled cs z) tokens rest) same (record { again = no_exprs; segment = empty numbers tokens rest s; fits = tt; some = λ h. h; long = refl; occurring = refl; sized = refl; resolved = refl })
    arguments_again (more_exprs e es) scope xs tokens rest s f is =
        let w = then_found (resolved_expr known variables callables scope e) (λ a. and_then (resolved_exprs known variables callables scope es) (λ bs. Ok (more a bs))) xs is in
        let v = one_found (resolved_exprs known variables callables scope es) (more w.0) xs w.2 in
        let p = expr_again e scope w.0 tokens s.0 s.1 f.1 w.1 in
        let q = arguments_again es scope v.0 s.0 rest s.2 f.2 v.1 in
        subst (λ z. AllAgain (more_exprs e es) scope (all_rescaled cs z) tokens rest) v.2 (record {
          again = more_exprs p.again q.again;
          segment = made numbers (joint numbers p.segment q.segment) (λ a b g. (g.mid, g.first, g.second));
          fits = (p.ranked ∙ f.0, p.fits, q.fits);
          some = λ h. tt;
          long = ap suc q.long;
          occurring = λ i. p.occurring i ++ q.occurring i;
          sized = λ i. beside (p.sized i) (q.sized i);
          resolved = λ i. and_then (p.resolved i) (λ a. and_then (q.resolved i) (λ bs. Ok (more a bs)));
        })

    items_again : (es : ExprSyntaxes) (scope : Scope) (xs : ExprTrees) (tokens rest : List Token) → MoreItems es tokens rest → AllFit es → resolved_exprs known variables callables scope es ≡ Ok xs → ItemsAgain es scope (all_rescaled cs xs) tokens rest
    items_again no_exprs scope xs tokens rest s f is =
        let same : none ≡ xs = cc is in
        subst (λ z. ItemsAgain no_exprs scope (all_rescaled cs z) tokens rest) same (record { again = no_exprs; segment = empty numbers tokens rest s; fits = tt; occurring = refl; sized = refl; resolved = refl })
    items_again (more_exprs e es) scope xs tokens rest s f is =
        let w = then_found (resolved_expr known variables callables scope e) (λ a. and_then (resolved_exprs known variables callables scope es) (λ bs. Ok (more a bs))) xs is in
        let v = one_found (resolved_exprs known variables callables scope es) (more w.0) xs w.2 in
        let p = expr_again e scope w.0 s.0 s.1 s.3 f.0 w.1 in
        let q = items_again es scope v.0 s.1 rest s.4 f.1 v.1 in
        subst (λ z. ItemsAgain (more_exprs e es) scope (all_rescaled cs z) tokens rest) v.2 (record {
          again = more_exprs p.again q.again;
          segment = made numbers (before numbers (first numbers _ tokens s.0 s.2) (joint numbers p.segment q.segment)) (λ a b g. (g.mid, g.second.mid, g.first, g.second.first, g.second.second));
          fits = (p.fits, q.fits);
          occurring = λ i. p.occurring i ++ q.occurring i;
          sized = λ i. beside (p.sized i) (q.sized i);
          resolved = λ i. and_then (p.resolved i) (λ a. and_then (q.resolved i) (λ bs. Ok (more a bs)));
        })

    fields_again : (fs : FieldSyntaxes) (scope : Scope) (xs : ExprTrees) (tokens rest : List Token) → MoreFields fs tokens rest → FieldsFit fs → resolved_parts known variables callables scope fs ≡ Ok xs → FieldsAgain fs scope (all_rescaled cs xs) tokens rest
    fields_again no_fields scope xs tokens rest s f is =
        let same : none ≡ xs = cc is in
        subst (λ z. FieldsAgain no_fields scope (all_rescaled cs z) tokens rest) same (record { again = no_fields; segment = empty numbers tokens rest s; fits = tt; names = refl; fields = λ records. refl; occurring = refl; sized = refl; resolved = refl })
    fields_again (more_fields place m e fs) scope xs tokens rest s f is =
        let w = then_found (resolved_expr known variables callables scope e) (λ a. and_then (resolved_parts known variables callables scope fs) (λ bs. Ok (more a bs))) xs is in
        let v = one_found (resolved_parts known variables callables scope fs) (more w.0) xs w.2 in
        let p = expr_again e scope w.0 s.2 s.3 s.7 f.0 w.1 in
        let q = fields_again fs scope v.0 s.3 rest s.8 f.1 v.1 in
        subst (λ z. FieldsAgain (more_fields place m e fs) scope (all_rescaled cs z) tokens rest) v.2 (record {
          again = more_fields place m p.again q.again;
          segment = made numbers (before numbers (first numbers _ tokens s.0 s.4) (before numbers (first_at numbers _ place s.0 s.1 s.5) (before numbers (first numbers _ s.1 s.2 s.6) (joint numbers p.segment q.segment))))
              (λ a b g. (g.mid, g.second.mid, g.second.second.mid, g.second.second.second.mid, g.first, g.second.first, g.second.second.first, g.second.second.second.first, g.second.second.second.second));
          fits = (p.fits, q.fits);
          names = ap (λ ns. m ∷ ns) q.names;
          fields = λ records. ap (known_or (field_of records m) place) (q.fields records);
          occurring = λ i. p.occurring i ++ q.occurring i;
          sized = λ i. beside (p.sized i) (q.sized i);
          resolved = λ i. and_then (p.resolved i) (λ a. and_then (q.resolved i) (λ bs. Ok (more a bs)));
        })
