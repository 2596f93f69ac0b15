-- A derivation by other schemes with the same instances: some units for its holes make it the same derivation.
use Rattle.std.proofs.Common.{◌≡◌, ℕ, zero, suc, ◌+◌, ◌-◌, ◌<◌, ltb, lt-ltb, false, cond, List, [], ◌∷◌, ◌++◌, Option, Some, None, slice_get, refl, sym, ap, ◌∙◌, arith}
use Rattle.std.proofs.lemmas.Bool.Decides.{nat_tests}
use Rattle.um_units.specs.PowerMap.{PowerMap}
use Rattle.um_tree.specs.declared.note.UnitNote.{UnitNote}
use Rattle.um_tree.specs.declared.note.UnitNote.TheVariants.{Hole, Written}
use Rattle.um_tree.specs.TypeTree.{TypeTree, num_type, list_type, record_type, NoteTree, bool_note, num_note, list_note, record_note}
use Rattle.um_tree.specs.ExprTree.{ExprTree, ExprTrees, truth, number, local, call, negate, not_expr, pown, arith as arith_tree, compare, both, either, if, bind, split, nil, list_expr, cons, record_expr, field, none, more}
use Rattle.um_tree.specs.ProgramTree.{RecordTree, Signature}
use Rattle.um_tree.specs.Typing.{put_signature}
use Rattle.um_tree.specs.Scheme.{IsInstance}
use Rattle.um_slots.specs.Holes.{unit_holes, units_holes, note_holes, notes_holes, result_holes, Callee, known_by, itself, nobody, callee_holes, record_holes, expr_holes, exprs_holes}
use Rattle.um_slots.specs.Noted.{noted_unit, noted_units, noted_type, noted_types, noted_result}
use Rattle.um_rows.specs.Rules.{after, formed, item, number_rule, call_rule, negate_rule, not_rule, pown_rule, truths_rule, arith_rule, compare_rule, if_rule, split_rule, nil_rule, list_rule, cons_rule, record_rule, field_rule}
use Rattle.um_rows.specs.Derivation.{first_units, offered, derive, derive_all}
use Rattle.um_rows.proofs.Variables.{SignatureBelow, signature_put_alike_below}

-- each signature that a call of the first offers, a call of the second offers too
abbrev pub OffersAll : Callee → Callee → Type 0
OffersAll (known_by s) (known_by t) = SignatureBelow t.vars t.signature × ((g : Signature) → IsInstance s g → IsInstance t g)
OffersAll itself itself = Unit {0}
OffersAll nobody nobody = Unit {0}
OffersAll c d = ⊥

-- the units of the first n holes are the same
abbrev pub Agree : ℕ → (ℕ → PowerMap) → (ℕ → PowerMap) → Type 0
Agree n g h = (k : ℕ) → k < n → g k ≡ h k

-- units for so many holes from n on, behind those that are given, such that this holds of all units that agree with them
pub record Found (size n : ℕ) (given : ℕ → PowerMap) (Holds : (ℕ → PowerMap) → Type 0) : Type 0 where
  pub units : ℕ → PowerMap
  pub kept : Agree n units given
  pub holds : (g : ℕ → PowerMap) → Agree (n + size) g units → Holds g

found_weaker : (size n : ℕ) (given : ℕ → PowerMap) (P Q : (ℕ → PowerMap) → Type 0) → ((g : ℕ → PowerMap) → P g → Q g) → Found size n given P → Found size n given Q
found_weaker size n given P Q step found = record { units = found.units; kept = found.kept; holds = λ g agree. step g (found.holds g agree) }

-- no hole
found_none : (n : ℕ) (given : ℕ → PowerMap) (P : (ℕ → PowerMap) → Type 0) → ((g : ℕ → PowerMap) → P g) → Found 0 n given P
found_none n given P all = record { units = given; kept = λ k low. refl; holds = λ g agree. all g }

-- one part after another
found_both : (a b n : ℕ) (given : ℕ → PowerMap) (P Q : (ℕ → PowerMap) → Type 0) (first : Found a n given P) → Found b (n + a) first.units Q → Found (a + b) n given (λ g. P g × Q g)
found_both a b n given P Q first second = record {
  units = second.units;
  kept = λ k low. second.kept k (omega (arith, low)) ∙ first.kept k low;
  holds = λ g agree. (
    first.holds g (λ k low. agree k (omega (arith, low)) ∙ second.kept k low),
    second.holds g (λ k low. agree k (omega (arith, low))),
  );
}

-- the units that are asked for
module _ (size n : ℕ) (given wanted : ℕ → PowerMap) where
  abbrev chosen : ℕ → PowerMap
  chosen k = cond (ltb k n) (given k) (wanted (k - n))

  chosen_behind : (k : ℕ) → chosen (n + k) ≡ wanted k
  chosen_behind k =
      let past : ltb (n + k) n ≡ false = grind (arith, nat_tests) in
      let back : (n + k) - n ≡ k = omega arith in
      ap (λ b. cond b (given (n + k)) (wanted ((n + k) - n))) past ∙ ap wanted back

  found_units : Found size n given (λ g. (k : ℕ) → k < size → g (n + k) ≡ wanted k)
  found_units = record {
    units = chosen;
    kept = λ k low. ap (λ b. cond b (given k) (wanted (k - n))) (lt-ltb k n low);
    holds = λ g agree k low. agree (n + k) (omega (arith, low)) ∙ chosen_behind k;
  }

-- ---- notes whose holes are numbered from two numbers on
module _ (g f m : ℕ → PowerMap) where
  -- so many holes from n on in the first have the units of those from k on in the second
  abbrev pub Shifted : ℕ → ℕ → ℕ → Type 0
  Shifted size n k = (j : ℕ) → j < size → g (n + j) ≡ f (k + j)

  shifted_first : (a b n k : ℕ) → Shifted (a + b) n k → Shifted a n k
  shifted_first a b n k same j low = same j (omega (arith, low))

  shifted_second : (a b n k : ℕ) → Shifted (a + b) n k → Shifted b (n + a) (k + a)
  shifted_second a b n k same j low =
      let here : n + a + j ≡ n + (a + j) = omega arith in
      let there : k + (a + j) ≡ k + a + j = omega arith in
      ap g here ∙ same (a + j) (omega (arith, low)) ∙ ap f there

  unit_shifted : (n k : ℕ) (x : UnitNote) → Shifted (unit_holes x) n k → noted_unit g m n x ≡ noted_unit f m k x
  unit_shifted n k Hole same =
      let here : n ≡ n + 0 = omega arith in
      let there : k + 0 ≡ k = omega arith in
      ap g here ∙ same 0 (omega arith) ∙ ap f there
  unit_shifted n k (Written u) same = refl

  units_shifted : (n k : ℕ) (xs : List UnitNote) → Shifted (units_holes xs) n k → noted_units g m n xs ≡ noted_units f m k xs
  units_shifted n k [] same = refl
  units_shifted n k (x ∷ xs) same =
      let a = unit_holes x in
      let b = units_holes xs in
      let first = unit_shifted n k x (shifted_first a b n k same) in
      let rest = units_shifted (n + a) (k + a) xs (shifted_second a b n k same) in λ i. first i ∷ rest i

  pub note_shifted : (n k : ℕ) (x : NoteTree) → Shifted (note_holes x) n k → noted_type g m n x ≡ noted_type f m k x
  note_shifted n k bool_note same = refl
  note_shifted n k (num_note x) same = ap num_type (unit_shifted n k x same)
  note_shifted n k (list_note x) same = ap list_type (note_shifted n k x same)
  note_shifted n k (record_note r xs) same = ap (record_type r) (units_shifted n k xs same)

  pub notes_shifted : (n k : ℕ) (xs : List NoteTree) → Shifted (notes_holes xs) n k → noted_types g m n xs ≡ noted_types f m k xs
  notes_shifted n k [] same = refl
  notes_shifted n k (x ∷ xs) same =
      let a = note_holes x in
      let b = notes_holes xs in
      let first = note_shifted n k x (shifted_first a b n k same) in
      let rest = notes_shifted (n + a) (k + a) xs (shifted_second a b n k same) in λ i. first i ∷ rest i

  pub result_shifted : (n k : ℕ) (o : Option NoteTree) → Shifted (result_holes o) n k → noted_result g m n o ≡ noted_result f m k o
  result_shifted n k None same = refl
  result_shifted n k (Some x) same = note_shifted n k x same

same_first : (many : ℕ) (s t : ℕ → PowerMap) → ((k : ℕ) → k < many → s k ≡ t k) → first_units many s ≡ first_units many t
same_first zero s t h = refl
same_first (suc many) s t h =
    let first = h 0 (omega arith) in
    let rest = same_first many (λ k. s (suc k)) (λ k. t (suc k)) (λ k l. h (suc k) (omega (arith, l))) in λ i. first i ∷ rest i

-- ---- expressions
module _ (f m : ℕ → PowerMap) (records : List RecordTree) (self : Signature) (one two : ℕ → Callee) (all : (j : ℕ) → OffersAll (one j) (two j)) where
  abbrev size : ExprTree → ℕ
  size e = expr_holes records two e

  abbrev width : ExprTree → ℕ
  width e = expr_holes records one e

  abbrev sizes : ExprTrees → ℕ
  sizes es = exprs_holes records two es

  -- the holes of the first are numbered from k on, and those of the second from n on
  abbrev IsSame : ℕ → ℕ → ExprTree → (ℕ → PowerMap) → Type 0
  IsSame k n e g = (vars : List TypeTree) → derive g m records self two n vars e ≡ derive f m records self one k vars e

  abbrev AreSame : ℕ → ℕ → ExprTrees → (ℕ → PowerMap) → Type 0
  AreSame k n es g = (vars : List TypeTree) → derive_all g m records self two n vars es ≡ derive_all f m records self one k vars es

  abbrev IsFound : ℕ → ℕ → (ℕ → PowerMap) → ExprTree → Type 0
  IsFound k n given e = Found (size e) n given (IsSame k n e)

  abbrev AreFound : ℕ → ℕ → (ℕ → PowerMap) → ExprTrees → Type 0
  AreFound k n given es = Found (sizes es) n given (AreSame k n es)

  -- a call
  abbrev IsOffered : ℕ → ℕ → Callee → Callee → (ℕ → PowerMap) → Type 0
  IsOffered k n c d g = offered g m records self two n d ≡ offered f m records self one k c

  found_offer : (k n : ℕ) (given : ℕ → PowerMap) (c d : Callee) → OffersAll c d → Found (callee_holes d) n given (IsOffered k n c d)
  found_offer k n given (known_by s) (known_by t) (below, instances) =
      let units : ℕ → PowerMap = λ j. f (k + j) in
      let w = instances (put_signature units s.signature) (units, refl) in
      found_weaker t.vars n given (λ g. (j : ℕ) → j < t.vars → g (n + j) ≡ w.0 j) (IsOffered k n (known_by s) (known_by t))
      (λ g same. ap Some (signature_put_alike_below t.vars (λ j. g (n + j)) w.0 same t.signature below ∙ sym w.1)) (found_units t.vars n given w.0)
  found_offer k n given (known_by s) itself h = absurd h
  found_offer k n given (known_by s) nobody h = absurd h
  found_offer k n given itself (known_by t) h = absurd h
  found_offer k n given itself itself h = found_none n given (IsOffered k n itself itself) (λ g. refl)
  found_offer k n given itself nobody h = absurd h
  found_offer k n given nobody (known_by t) h = absurd h
  found_offer k n given nobody itself h = absurd h
  found_offer k n given nobody nobody h = found_none n given (IsOffered k n nobody nobody) (λ g. refl)

  -- a note
  found_note : (k n many : ℕ) (given : ℕ → PowerMap) (P : (ℕ → PowerMap) → Type 0) → ((g : ℕ → PowerMap) → Shifted g f m many n k → P g) → Found many n given P
  found_note k n many given P step = found_weaker many n given (λ g. (j : ℕ) → j < many → g (n + j) ≡ f (k + j)) P step (found_units many n given (λ j. f (k + j)))

  -- two parts, of which the second may see the type of the first
  found_two : (k n : ℕ) (given : ℕ → PowerMap) (a b e : ExprTree) → ((g : ℕ → PowerMap) → IsSame k n a g × IsSame (k + width a) (n + size a) b g → IsSame k n e g) →
      (first : IsFound k n given a) → IsFound (k + width a) (n + size a) first.units b → Found (size a + size b) n given (IsSame k n e)
  found_two k n given a b e step first second =
      found_weaker (size a + size b) n given (λ g. IsSame k n a g × IsSame (k + width a) (n + size a) b g) (IsSame k n e) step
      (found_both (size a) (size b) n given (IsSame k n a) (IsSame (k + width a) (n + size a) b) first second)

  found_three : (k n : ℕ) (given : ℕ → PowerMap) (c a b e : ExprTree) →
      ((g : ℕ → PowerMap) → IsSame k n c g × (IsSame (k + width c) (n + size c) a g × IsSame (k + width c + width a) (n + size c + size a) b g) → IsSame k n e g) →
      (first : IsFound k n given c) (second : IsFound (k + width c) (n + size c) first.units a) → IsFound (k + width c + width a) (n + size c + size a) second.units b
      → Found (size c + (size a + size b)) n given (IsSame k n e)
  found_three k n given c a b e step first second third =
      let rest = found_both (size a) (size b) (n + size c) first.units (IsSame (k + width c) (n + size c) a) (IsSame (k + width c + width a) (n + size c + size a) b) second third in
      found_weaker (size c + (size a + size b)) n given
      (λ g. IsSame k n c g × (IsSame (k + width c) (n + size c) a g × IsSame (k + width c + width a) (n + size c + size a) b g)) (IsSame k n e) step
      (found_both (size c) (size a + size b) n given (IsSame k n c) (λ g. IsSame (k + width c) (n + size c) a g × IsSame (k + width c + width a) (n + size c + size a) b g) first rest)

  mutual
    pub found : (k n : ℕ) (given : ℕ → PowerMap) (e : ExprTree) → IsFound k n given e
    found k n given (truth at b) = found_none n given (IsSame k n (truth at b)) (λ g vars. refl)
    found k n given (number at c x) =
        found_note k n (unit_holes x) given (IsSame k n (number at c x)) (λ g same vars. ap (number_rule at c x) (unit_shifted g f m n k x same))
    found k n given (local at j) = found_none n given (IsSame k n (local at j)) (λ g vars. refl)
    found k n given (call at j es) =
        let c = callee_holes (one j) in
        let d = callee_holes (two j) in
        let offer = found_offer k n given (one j) (two j) (all j) in
        let parts = found_all (k + c) (n + d) offer.units es in
        found_weaker (d + sizes es) n given (λ g. IsOffered k n (one j) (two j) g × AreSame (k + c) (n + d) es g) (IsSame k n (call at j es))
        (λ g h vars. λ i. after (h.1 vars i).steps (call_rule at (h.0 i) (h.1 vars i).types))
        (found_both d (sizes es) n given (IsOffered k n (one j) (two j)) (AreSame (k + c) (n + d) es) offer parts)
    found k n given (negate at a) =
        found_weaker (size a) n given (IsSame k n a) (IsSame k n (negate at a)) (λ g x vars. λ i. after (x vars i).steps (negate_rule at (x vars i).type)) (found k n given a)
    found k n given (not_expr at a) =
        found_weaker (size a) n given (IsSame k n a) (IsSame k n (not_expr at a)) (λ g x vars. λ i. after (x vars i).steps (not_rule at (x vars i).type)) (found k n given a)
    found k n given (pown at a j) =
        found_weaker (size a) n given (IsSame k n a) (IsSame k n (pown at a j)) (λ g x vars. λ i. after (x vars i).steps (pown_rule at j (x vars i).type)) (found k n given a)
    found k n given (arith_tree at op a b) =
        let first = found k n given a in
        found_two k n given a b (arith_tree at op a b)
        (λ g h vars. λ i. after ((h.0 vars i).steps ++ (h.1 vars i).steps) (arith_rule at op (h.0 vars i).type (h.1 vars i).type))
        first (found (k + width a) (n + size a) first.units b)
    found k n given (compare at sign a b) =
        let first = found k n given a in
        found_two k n given a b (compare at sign a b)
        (λ g h vars. λ i. after ((h.0 vars i).steps ++ (h.1 vars i).steps) (compare_rule at (h.0 vars i).type (h.1 vars i).type))
        first (found (k + width a) (n + size a) first.units b)
    found k n given (both at a b) =
        let first = found k n given a in
        found_two k n given a b (both at a b)
        (λ g h vars. λ i. after ((h.0 vars i).steps ++ (h.1 vars i).steps) (truths_rule at (h.0 vars i).type (h.1 vars i).type))
        first (found (k + width a) (n + size a) first.units b)
    found k n given (either at a b) =
        let first = found k n given a in
        found_two k n given a b (either at a b)
        (λ g h vars. λ i. after ((h.0 vars i).steps ++ (h.1 vars i).steps) (truths_rule at (h.0 vars i).type (h.1 vars i).type))
        first (found (k + width a) (n + size a) first.units b)
    found k n given (if at c a b) =
        let first = found k n given c in
        let second = found (k + width c) (n + size c) first.units a in
        found_three k n given c a b (if at c a b)
        (λ g h vars. λ i. after ((h.0 vars i).steps ++ ((h.1.0 vars i).steps ++ (h.1.1 vars i).steps)) (if_rule at (h.0 vars i).type (h.1.0 vars i).type (h.1.1 vars i).type))
        first second (found (k + width c + width a) (n + size c + size a) second.units b)
    found k n given (bind at a b) =
        let first = found k n given a in
        found_two k n given a b (bind at a b)
        (λ g h vars. λ i. after ((h.0 vars i).steps ++ (h.1 (vars ++ (h.0 vars i).type ∷ []) i).steps) (formed at [] (h.1 (vars ++ (h.0 vars i).type ∷ []) i).type))
        first (found (k + width a) (n + size a) first.units b)
    found k n given (split at c a b) =
        let first = found k n given c in
        let second = found (k + width c) (n + size c) first.units a in
        found_three k n given c a b (split at c a b)
        (λ g h vars. λ i.
        after ((h.0 vars i).steps ++ ((h.1.0 vars i).steps ++ (h.1.1 (vars ++ item (h.0 vars i).type ∷ (h.0 vars i).type ∷ []) i).steps))
        (split_rule at (h.0 vars i).type (h.1.0 vars i).type (h.1.1 (vars ++ item (h.0 vars i).type ∷ (h.0 vars i).type ∷ []) i).type))
        first second (found (k + width c + width a) (n + size c + size a) second.units b)
    found k n given (nil at x) = found_note k n (note_holes x) given (IsSame k n (nil at x)) (λ g same vars. ap (nil_rule at) (note_shifted g f m n k x same))
    found k n given (list_expr at es) =
        found_weaker (sizes es) n given (AreSame k n es) (IsSame k n (list_expr at es)) (λ g ds vars. λ i. after (ds vars i).steps (list_rule at (ds vars i).types)) (found_all k n given es)
    found k n given (cons at a b) =
        let first = found k n given a in
        found_two k n given a b (cons at a b)
        (λ g h vars. λ i. after ((h.0 vars i).steps ++ (h.1 vars i).steps) (cons_rule at (h.0 vars i).type (h.1 vars i).type))
        first (found (k + width a) (n + size a) first.units b)
    found k n given (record_expr at r es) =
        let c = record_holes (slice_get records r) in
        let units = found_units c n given (λ j. f (k + j)) in
        let parts = found_all (k + c) (n + c) units.units es in
        found_weaker (c + sizes es) n given (λ g. ((j : ℕ) → j < c → g (n + j) ≡ f (k + j)) × AreSame (k + c) (n + c) es g) (IsSame k n (record_expr at r es))
        (λ g h vars. let us = same_first c (λ j. g (n + j)) (λ j. f (k + j)) h.0 in λ i. after (h.1 vars i).steps (record_rule at r (us i) (slice_get records r) (h.1 vars i).types))
        (found_both c (sizes es) n given (λ g. (j : ℕ) → j < c → g (n + j) ≡ f (k + j)) (AreSame (k + c) (n + c) es) units parts)
    found k n given (field at r j a) =
        found_weaker (size a) n given (IsSame k n a) (IsSame k n (field at r j a)) (λ g x vars. λ i. after (x vars i).steps (field_rule at r j (slice_get records r) (x vars i).type)) (found k n given a)

    found_all : (k n : ℕ) (given : ℕ → PowerMap) (es : ExprTrees) → AreFound k n given es
    found_all k n given none = found_none n given (AreSame k n none) (λ g vars. refl)
    found_all k n given (more e es) =
        let first = found k n given e in
        let rest = found_all (k + width e) (n + size e) first.units es in
        found_weaker (size e + sizes es) n given (λ g. IsSame k n e g × AreSame (k + width e) (n + size e) es g) (AreSame k n (more e es))
        (λ g h vars. λ i. record { types = (h.0 vars i).type ∷ (h.1 vars i).types; steps = (h.0 vars i).steps ++ (h.1 vars i).steps })
        (found_both (size e) (sizes es) n given (IsSame k n e) (AreSame (k + width e) (n + size e) es) first rest)
