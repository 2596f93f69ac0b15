-- The power of each `pown` of a body that is read is at most 2,147,483,647, and so is that of the body that it stands for.
use Rattle.std.proofs.Common.{◌≡◌, inl, inr, ℕ, zero, suc, ◌≤◌, nat_le, Bool, true, false, cond, List, [], ◌∷◌, ◌++◌, ℤ, pos, negsuc, neg_ℤ, nat_abs, FitsSigned, w32, Option, Some, None, Ok, sym, subst, refl, arith}
use Rattle.std.proofs.lemmas.Int.{ints}
use Rattle.um_frac.specs.declared.number.Frac.{Frac}
use Rattle.um_frac.specs.Fraction.{numerator}
use Rattle.um_units.specs.PowerMap.{one}
use Rattle.um_syntax.specs.declared.token.Token.{Token}
use Rattle.um_syntax.specs.declared.token.Kind.{Kind}
use Rattle.um_syntax.specs.declared.token.Kind.TheVariants as kind
use Rattle.um_tree.specs.declared.note.UnitNote.TheVariants as note
use Rattle.um_tree.specs.ExprTree.{ExprTree, ExprTrees, truth, number, local, call, negate, not_expr, pown, arith as arith_tree, compare, both, either, if, bind, split, nil, list_expr, cons, record_expr, field, none, more}
use Rattle.um_tree.specs.RawTree.{NoteSyntax, hole_syntax, unit_note_syntax, ExprSyntax, ExprSyntaxes, FieldSyntaxes, truth_syntax, number_syntax, name_syntax, call_syntax, negate_syntax, not_syntax, pown_syntax, arith_syntax, compare_syntax, and_syntax, or_syntax, if_syntax, let_syntax, match_syntax, nil_syntax, list_syntax, cons_syntax, fields_syntax, field_syntax, bracket_expr_syntax, no_exprs, more_exprs, no_fields, more_fields}
use Rattle.um_unit_texts.specs.UnitTokens.{unit_token, power_from, greatest_power}
use Rattle.um_unit_texts.specs.UnitMachine.{power_in}
use Rattle.um_expr.specs.ExprGrammar.{Spells, AllSpell, ItemsSpell, MoreItems, FieldsSpell, MoreFields, PowerSpells}
use Rattle.um_measures.specs.Faults.{Found, and_then, unless_taken}
use Rattle.um_measures.specs.Scopes.{Scope, local_of, same_binding}
use Rattle.um_measures.specs.Known.{Known, measure_unit}
use Rattle.um_measures.specs.UnitNames.{resolved_unit}
use Rattle.um_measures.specs.Wildcards.{open_unit}
use Rattle.um_names.specs.declared.callable.Callable.{Callable}
use Rattle.um_names.specs.TypeNames.{resolved_type}
use Rattle.um_names.specs.ExprNames.{callable_of, named, called, length_of, resolved_fields, found_field, field_of, resolved_literal, resolved_expr, resolved_exprs, resolved_parts}
use Rattle.um_names.proofs.FormedTypes.{then_found}
use Rattle.um_all_answers.proofs.Texts.{within}

-- ---- the power that a token writes

narrow : (z : ℤ) → nat_abs z ≤ 2147483647 → FitsSigned w32 z
narrow (pos n) h = record { sfits = omega (arith, ints, h) }
narrow (negsuc n) h = record { sfits = omega (arith, ints, h) }

negative : (n : ℕ) → n ≤ 2147483647 → FitsSigned w32 (neg_ℤ (pos n))
negative zero h = narrow (pos zero) h
negative (suc n) h = narrow (negsuc n) h

by_limit : (m n : ℕ) (t : Bool) → nat_le m greatest_power ≡ t → cond t (Some m) None ≡ Some n → n ≤ 2147483647
by_limit m n true low e = let same : m ≡ n = cc e in subst (λ (x : ℕ). x ≤ 2147483647) same (within m 2147483647 low)
by_limit m n false high e = absurd (cc e)

number_power : (digits : Bool) (v : ℤ) (n : ℕ) → power_from digits v ≡ Some n → n ≤ 2147483647
number_power true (pos m) n e = by_limit m n (nat_le m greatest_power) refl e
number_power true (negsuc m) n e = absurd (cc e)
number_power false v n e = absurd (cc e)

token_power : (k : Kind) (n : ℕ) → power_in (unit_token k) ≡ Some n → n ≤ 2147483647
token_power (kind.Number value digits one) n e = number_power digits (numerator value) n e
token_power (kind.Name x) n e = absurd (cc e)
token_power (kind.Var x) n e = absurd (cc e)
token_power (kind.Word k) n e = absurd (cc e)
token_power kind.Hole n e = absurd (cc e)
token_power (kind.Sign s) n e = absurd (cc e)

spelled_power : (k : ℤ) (tokens rest : List Token) → PowerSpells k tokens rest → FitsSigned w32 k
spelled_power k tokens rest (inl (n, is, first)) = subst (FitsSigned w32) (sym is) (narrow (pos n) (token_power first.0.kind n first.1))
spelled_power k tokens rest (inr s) =
    let digits = s.7 in
    subst (FitsSigned w32) (sym s.4) (negative s.0 (token_power digits.0.kind s.0 digits.1))

-- ---- the powers of a body

abbrev mutual
  pub LowPowers : ExprTree → Type 0
  LowPowers (truth at b) = Unit {0}
  LowPowers (number at c n) = Unit {0}
  LowPowers (local at k) = Unit {0}
  LowPowers (call at f es) = AllLowPowers es
  LowPowers (negate at a) = LowPowers a
  LowPowers (not_expr at a) = LowPowers a
  LowPowers (pown at a k) = FitsSigned w32 k × LowPowers a
  LowPowers (arith_tree at op a b) = LowPowers a × LowPowers b
  LowPowers (compare at s a b) = LowPowers a × LowPowers b
  LowPowers (both at a b) = LowPowers a × LowPowers b
  LowPowers (either at a b) = LowPowers a × LowPowers b
  LowPowers (if at c a b) = LowPowers c × LowPowers a × LowPowers b
  LowPowers (bind at a b) = LowPowers a × LowPowers b
  LowPowers (split at l a b) = LowPowers l × LowPowers a × LowPowers b
  LowPowers (nil at n) = Unit {0}
  LowPowers (list_expr at es) = AllLowPowers es
  LowPowers (cons at a b) = LowPowers a × LowPowers b
  LowPowers (record_expr at r es) = AllLowPowers es
  LowPowers (field at r k a) = LowPowers a

  pub AllLowPowers : ExprTrees → Type 0
  AllLowPowers none = Unit {0}
  AllLowPowers (more e es) = LowPowers e × AllLowPowers es

module _ (known : Known) (variables : List (List ℕ)) (callables : List Callable) where
  abbrev Gives : Scope → ExprSyntax → ExprTree → Type 0
  Gives scope t e = resolved_expr known variables callables scope t ≡ Ok e

  found : (e f : ExprTree) → ◌≡◌ {A = Found ExprTree} (Ok e) (Ok f) → LowPowers e → LowPowers f
  found e f is h = let same : e ≡ f = cc is in subst LowPowers same h

  literal_powers : (at : ℕ) (c : Frac) (n : Option NoteSyntax) (e : ExprTree) → resolved_literal known at c n ≡ Ok e → LowPowers e
  literal_powers at c None e is = found (number at c (note.Written one)) e is tt
  literal_powers at c (Some (hole_syntax place)) e is = let w = then_found (open_unit c at) (λ unit. Ok (number at c unit)) e is in found (number at c w.0) e w.2 tt
  literal_powers at c (Some (unit_note_syntax place u)) e is =
      let w = then_found (resolved_unit (measure_unit known) [] u) (λ v. Ok (number at c (note.Written v))) e is in found (number at c (note.Written (w.0))) e w.2 tt

  named_powers : (o : Option ℕ) (x : List ℕ) (at : ℕ) (e : ExprTree) → named callables o x at ≡ Ok e → LowPowers e
  named_powers (Some k) x at e is = found (local at k) e is tt
  named_powers None x at e is = let w = then_found (callable_of callables x 0 at) (λ j. Ok (call at j none)) e is in found (call at w.0 none) e w.2 tt

  -- one part, or two
  one_part : (r : Found ExprTree) (make : ExprTree → ExprTree) (e : ExprTree) → and_then r (λ a. Ok (make a)) ≡ Ok e → ((a : ExprTree) → r ≡ Ok a → LowPowers (make a)) → LowPowers e
  one_part r make e is go =
      let w = then_found r (λ a. Ok (make a)) e is in
      found (make w.0) e w.2 (go w.0 w.1)

  two_parts : (r s : Found ExprTree) (make : ExprTree → ExprTree → ExprTree) (e : ExprTree) → and_then r (λ a. and_then s (λ b. Ok (make a b))) ≡ Ok e → ((a b : ExprTree) → r ≡ Ok a → s ≡ Ok b → LowPowers (make a b)) → LowPowers e
  two_parts r s make e is go =
      let w = then_found r (λ a. and_then s (λ b. Ok (make a b))) e is in
      let v = then_found s (λ b. Ok (make w.0 b)) e w.2 in
      found (make w.0 v.0) e v.2 (go w.0 v.0 w.1 v.1)

  mutual
    pub powers : (scope : Scope) (t : ExprSyntax) (e : ExprTree) (tokens rest : List Token) → Spells t tokens rest → Gives scope t e → LowPowers e
    powers scope (truth_syntax at b) e tokens rest s is = found (truth at b) e is tt
    powers scope (number_syntax at c n) e tokens rest s is = literal_powers at c n e is
    powers scope (name_syntax at x) e tokens rest s is = named_powers (local_of scope x) x at e is
    powers scope (call_syntax at x es) e tokens rest s is =
        let w = then_found (called callables (local_of scope x) x (length_of es) at) (λ j. and_then (resolved_exprs known variables callables scope es) (λ bs. Ok (call at j bs))) e is in
        let v = then_found (resolved_exprs known variables callables scope es) (λ bs. Ok (call at w.0 bs)) e w.2 in
        found (call at w.0 v.0) e v.2 (arguments_powers scope es v.0 s.0 rest s.2 v.1)
    powers scope (negate_syntax at a) e tokens rest s is = one_part (resolved_expr known variables callables scope a) (negate at) e is (λ b k. powers scope a b s.0 rest s.2 k)
    powers scope (not_syntax at a) e tokens rest s is = one_part (resolved_expr known variables callables scope a) (not_expr at) e is (λ b k. powers scope a b s.0 rest s.2 k)
    powers scope (pown_syntax at a n) e tokens rest s is =
        one_part (resolved_expr known variables callables scope a) (λ b. pown at b n) e is (λ b k. (spelled_power n s.1 rest s.4, powers scope a b s.0 s.1 s.3 k))
    powers scope (arith_syntax at op a b) e tokens rest s is =
        two_parts (resolved_expr known variables callables scope a) (resolved_expr known variables callables scope b) (arith_tree at op) e is
        (λ c d k l. (powers scope a c tokens s.0 s.2 k, powers scope b d s.1 rest s.4 l))
    powers scope (compare_syntax at sign a b) e tokens rest s is =
        two_parts (resolved_expr known variables callables scope a) (resolved_expr known variables callables scope b) (compare at sign) e is
        (λ c d k l. (powers scope a c tokens s.0 s.2 k, powers scope b d s.1 rest s.4 l))
    powers scope (and_syntax at a b) e tokens rest s is =
        two_parts (resolved_expr known variables callables scope a) (resolved_expr known variables callables scope b) (both at) e is
        (λ c d k l. (powers scope a c tokens s.0 s.2 k, powers scope b d s.1 rest s.4 l))
    powers scope (or_syntax at a b) e tokens rest s is =
        two_parts (resolved_expr known variables callables scope a) (resolved_expr known variables callables scope b) (either at) e is
        (λ c d k l. (powers scope a c tokens s.0 s.2 k, powers scope b d s.1 rest s.4 l))
    powers scope (cons_syntax at a b) e tokens rest s is =
        two_parts (resolved_expr known variables callables scope a) (resolved_expr known variables callables scope b) (cons at) e is
        (λ c d k l. (powers scope a c tokens s.0 s.2 k, powers scope b d s.1 rest s.4 l))
    powers scope (if_syntax at c a b) e tokens rest s is =
        let w = then_found (resolved_expr known variables callables scope c) (λ d. and_then (resolved_expr known variables callables scope a) (λ x. and_then (resolved_expr known variables callables scope b) (λ y. Ok (if at d x y)))) e is in
        two_parts (resolved_expr known variables callables scope a) (resolved_expr known variables callables scope b) (if at w.0) e w.2
        (λ x y k l. (powers scope c w.0 s.0 s.1 s.6 w.1, powers scope a x s.2 s.3 s.8 k, powers scope b y s.4 rest s.10 l))
    powers scope (let_syntax at x a b) e tokens rest s is =
        two_parts (resolved_expr known variables callables scope a) (resolved_expr known variables callables (scope ++ x.name ∷ []) b) (bind at) e is
        (λ c d k l. (powers scope a c s.2 s.3 s.8 k, powers (scope ++ x.name ∷ []) b d s.4 rest s.10 l))
    powers scope (match_syntax at l a x y b) e tokens rest s is =
        let inner = scope ++ x.name ∷ y.name ∷ [] in
        let full = resolved_expr known variables callables inner b in
        let w = then_found (resolved_expr known variables callables scope l) (λ d. and_then (resolved_expr known variables callables scope a) (λ c. and_then (unless_taken (same_binding x.name y.name) y.at) (λ _. and_then full (λ f. Ok (split at d c f))))) e is in
        let v = then_found (resolved_expr known variables callables scope a) (λ c. and_then (unless_taken (same_binding x.name y.name) y.at) (λ _. and_then full (λ f. Ok (split at w.0 c f)))) e w.2 in
        let u = then_found (unless_taken (same_binding x.name y.name) y.at) (λ _. and_then full (λ f. Ok (split at w.0 v.0 f))) e v.2 in
        one_part full (split at w.0 v.0) e u.2 (λ f k. (powers scope l w.0 s.0 s.1 s.6 w.1, powers scope a v.0 s.2 s.3 s.8 v.1, powers inner b f s.4 rest s.10 k))
    powers scope (nil_syntax at t) e tokens rest s is = let w = then_found (resolved_type known variables true t) (λ n. Ok (nil at n)) e is in found (nil at w.0) e w.2 tt
    powers scope (list_syntax at es) e tokens rest s is =
        let w = then_found (resolved_exprs known variables callables scope es) (λ bs. Ok (list_expr at bs)) e is in
        found (list_expr at w.0) e w.2 (items_powers scope es w.0 s.0 s.1 s.3 w.1)
    powers scope (fields_syntax at fs) e tokens rest s is =
        let w = then_found (resolved_fields known.program.records fs at) (λ r. and_then (resolved_parts known variables callables scope fs) (λ bs. Ok (record_expr at r bs))) e is in
        let v = then_found (resolved_parts known variables callables scope fs) (λ bs. Ok (record_expr at w.0 bs)) e w.2 in
        found (record_expr at w.0 v.0) e v.2 (fields_powers scope fs v.0 s.0 s.1 s.3 v.1)
    powers scope (field_syntax at place x a) e tokens rest s is =
        let w = then_found (resolved_expr known variables callables scope a) (λ b. and_then (found_field (field_of known.program.records x) place) (λ f. Ok (field at f.record_number f.field_number b))) e is in
        let v = then_found (found_field (field_of known.program.records x) place) (λ f. Ok (field at f.record_number f.field_number w.0)) e w.2 in
        found (field at (v.0).record_number (v.0).field_number w.0) e v.2 (powers scope a w.0 tokens s.0 s.2 w.1)
    powers scope (bracket_expr_syntax at a) e tokens rest s is = powers scope a e s.0 s.1 s.3 is

    arguments_powers : (scope : Scope) (es : ExprSyntaxes) (bs : ExprTrees) (tokens rest : List Token) → AllSpell es tokens rest → resolved_exprs known variables callables scope es ≡ Ok bs → AllLowPowers bs
    arguments_powers scope no_exprs bs tokens rest s is = let same : none ≡ bs = cc is in subst AllLowPowers same tt
    arguments_powers scope (more_exprs e es) bs tokens rest s is =
        let w = then_found (resolved_expr known variables callables scope e) (λ a. and_then (resolved_exprs known variables callables scope es) (λ cs. Ok (more a cs))) bs is in
        let v = then_found (resolved_exprs known variables callables scope es) (λ cs. Ok (more w.0 cs)) bs w.2 in
        let same : more w.0 v.0 ≡ bs = cc (v.2) in
        subst AllLowPowers same (powers scope e w.0 tokens s.0 s.1 w.1, arguments_powers scope es v.0 s.0 rest s.2 v.1)

    items_powers : (scope : Scope) (es : ExprSyntaxes) (bs : ExprTrees) (tokens rest : List Token) → ItemsSpell es tokens rest → resolved_exprs known variables callables scope es ≡ Ok bs → AllLowPowers bs
    items_powers scope no_exprs bs tokens rest s is = absurd s
    items_powers scope (more_exprs e es) bs tokens rest s is =
        let w = then_found (resolved_expr known variables callables scope e) (λ a. and_then (resolved_exprs known variables callables scope es) (λ cs. Ok (more a cs))) bs is in
        let v = then_found (resolved_exprs known variables callables scope es) (λ cs. Ok (more w.0 cs)) bs w.2 in
        let same : more w.0 v.0 ≡ bs = cc (v.2) in
        subst AllLowPowers same (powers scope e w.0 tokens s.0 s.1 w.1, more_items_powers scope es v.0 s.0 rest s.2 v.1)

    more_items_powers : (scope : Scope) (es : ExprSyntaxes) (bs : ExprTrees) (tokens rest : List Token) → MoreItems es tokens rest → resolved_exprs known variables callables scope es ≡ Ok bs → AllLowPowers bs
    more_items_powers scope no_exprs bs tokens rest s is = let same : none ≡ bs = cc is in subst AllLowPowers same tt
    more_items_powers scope (more_exprs e es) bs tokens rest s is =
        let w = then_found (resolved_expr known variables callables scope e) (λ a. and_then (resolved_exprs known variables callables scope es) (λ cs. Ok (more a cs))) bs is in
        let v = then_found (resolved_exprs known variables callables scope es) (λ cs. Ok (more w.0 cs)) bs w.2 in
        let same : more w.0 v.0 ≡ bs = cc (v.2) in
        subst AllLowPowers same (powers scope e w.0 s.0 s.1 s.3 w.1, more_items_powers scope es v.0 s.1 rest s.4 v.1)

    fields_powers : (scope : Scope) (fs : FieldSyntaxes) (bs : ExprTrees) (tokens rest : List Token) → FieldsSpell fs tokens rest → resolved_parts known variables callables scope fs ≡ Ok bs → AllLowPowers bs
    fields_powers scope no_fields bs tokens rest s is = absurd s
    fields_powers scope (more_fields at x e fs) bs tokens rest s is =
        let w = then_found (resolved_expr known variables callables scope e) (λ a. and_then (resolved_parts known variables callables scope fs) (λ cs. Ok (more a cs))) bs is in
        let v = then_found (resolved_parts known variables callables scope fs) (λ cs. Ok (more w.0 cs)) bs w.2 in
        let same : more w.0 v.0 ≡ bs = cc (v.2) in
        subst AllLowPowers same (powers scope e w.0 s.1 s.2 s.5 w.1, more_fields_powers scope fs v.0 s.2 rest s.6 v.1)

    more_fields_powers : (scope : Scope) (fs : FieldSyntaxes) (bs : ExprTrees) (tokens rest : List Token) → MoreFields fs tokens rest → resolved_parts known variables callables scope fs ≡ Ok bs → AllLowPowers bs
    more_fields_powers scope no_fields bs tokens rest s is = let same : none ≡ bs = cc is in subst AllLowPowers same tt
    more_fields_powers scope (more_fields at x e fs) bs tokens rest s is =
        let w = then_found (resolved_expr known variables callables scope e) (λ a. and_then (resolved_parts known variables callables scope fs) (λ cs. Ok (more a cs))) bs is in
        let v = then_found (resolved_parts known variables callables scope fs) (λ cs. Ok (more w.0 cs)) bs w.2 in
        let same : more w.0 v.0 ≡ bs = cc (v.2) in
        subst AllLowPowers same (powers scope e w.0 s.2 s.3 s.7 w.1, more_fields_powers scope fs v.0 s.3 rest s.8 v.1)
