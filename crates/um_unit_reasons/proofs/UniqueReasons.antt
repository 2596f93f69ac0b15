-- What is told of a function that is refused for units is one.
use Rattle.std.proofs.Common.{◌≡◌, ◌⊎◌, inl, inr, ℕ, zero, suc, ◌-◌, ◌<◌, ◌≤◌, Bool, true, false, cond, not, ◌&&◌, ◌||◌, nat_eq, IsTrue, List, [], ◌∷◌, ◌++◌, map, length, get_or, Some, refl, sym, ap, subst, ◌∙◌, arith}
use Rattle.std.specs.Prelude.{Contains, All}
use Rattle.std.specs.List.{list_any, list_all}
use Rattle.std.proofs.lemmas.Bool.{cases_lt, eqb-true, eq-eqb}
use Rattle.std.proofs.lemmas.List.{length-map}
use Rattle.std.proofs.lemmas.List.Elements.{All-nil, All-cons, All-contains}
use Rattle.std.proofs.lemmas.List.Folds.{list_any-append, list_any_at}
use Rattle.um_units.specs.PowerMap.{PowerMap}
use Rattle.um_tree.specs.RawTree.{DeclSyntax}
use Rattle.um_tree.specs.ProgramTree.{ProgramTree}
use Rattle.um_elim.proofs.Cases.{on_test}
use Rattle.um_elim.specs.Solution.{parameter_rows}
use Rattle.um_equal_types.specs.declared.row.Row.{Row}
use Rattle.um_rows.specs.Judgement.{judge}
use Rattle.um_equal_types.specs.Steps.{units_of}
use Rattle.um_reasons.specs.Core.{IsGrown, IsBegun, IsCore}
use Rattle.um_reasons.proofs.CoreLemmas.{one_core}
use Rattle.um_agree.specs.Agreements.{Agreement}
use Rattle.um_agree.specs.RowAgreements.{agreement_of}
use Rattle.um_agree.specs.Answers.{agreement_fits}
use Rattle.um_infer.specs.Inference.{all_schemes}
use Rattle.um_unit_reasons.specs.VariableNames.{function_variables}
use Rattle.um_unit_reasons.specs.UnitReasons.{UnitReason, Refusal, nth_agreement, is_news, others_before, IsPastIn, bases, last_row, last, others, fit, IsOfCore, IsUnitReason, refusal, unsolvable, rigid_parameters, IsReasonOf}

both : (a b : Bool) → (a && b) ≡ true → (a ≡ true) × (b ≡ true)
both true b e = (refl, e)
both false b e = absurd cc

or_more : (a b c : Bool) → (a || b) ≡ true → (a || (b || c)) ≡ true
or_more true b c e = refl
or_more false true c e = refl
or_more false false c e = absurd (cc e)

or_last : (a b c : Bool) → c ≡ true → (a || (b || (c || false))) ≡ true
or_last true b c e = refl
or_last false true c e = refl
or_last false false c e = ap (λ d. d || false) e

-- ---- the agreement of each row of a core is told

-- the number is the failing one's, or among these
abbrev is_told : ℕ → List ℕ → ℕ → Bool
is_told failing numbers m = nat_eq m failing || list_any (nat_eq m) numbers

module _ (agreed : List Agreement) (core : List ℕ) (failing : ℕ) where
  told_more : (numbers : List ℕ) (m k : ℕ) → is_told failing numbers m ≡ true → is_told failing (numbers ++ k ∷ []) m ≡ true
  told_more numbers m k e =
      ap (λ b. nat_eq m failing || b) (list_any-append (nat_eq m) numbers (k ∷ []))
      ∙ or_more (nat_eq m failing) (list_any (nat_eq m) numbers) (list_any (nat_eq m) (k ∷ [])) e

  told_last : (numbers : List ℕ) (m : ℕ) → is_told failing (numbers ++ m ∷ []) m ≡ true
  told_last numbers m =
      ap (λ b. nat_eq m failing || b) (list_any-append (nat_eq m) numbers (m ∷ []))
      ∙ or_last (nat_eq m failing) (list_any (nat_eq m) numbers) (nat_eq m m) (eq-eqb m m refl)

  module _ (n : ℕ) where
    abbrev before : List ℕ
    before = others_before agreed core failing n

    abbrev m : ℕ
    m = agreement_of agreed n

    abbrev after : Bool → List ℕ
    after b = cond b (before ++ m ∷ []) before

    told_still : (k : ℕ) (b : Bool) → is_told failing before k ≡ true → is_told failing (after b) k ≡ true
    told_still k true e = told_more before k m e
    told_still k false e = e

    told_now : list_any (nat_eq n) core ≡ true → is_told failing (after (is_news agreed core failing before n)) m ≡ true
    told_now there = on_test (is_told failing before m)
        (λ e. told_still m (is_news agreed core failing before n) e)
        (λ e.
        let news : is_news agreed core failing before n ≡ true = λ i. there i && not (e i) in
        subst (λ b. is_told failing (after b) m ≡ true) (sym news) (told_last before m))

  told_before : (n j : ℕ) → j < n → list_any (nat_eq j) core ≡ true → is_told failing (others_before agreed core failing n) (agreement_of agreed j) ≡ true
  told_before zero j l there = absurd (omega (arith, l))
  told_before (suc n) j l there = by (told_before n j) (cases_lt j n) where
    by : (j < n → list_any (nat_eq j) core ≡ true → is_told failing (before n) (agreement_of agreed j) ≡ true) → (j < n) ⊎ (n ≤ j) → is_told failing (others_before agreed core failing (suc n)) (agreement_of agreed j) ≡ true
    by rest (inl less) = told_still n (agreement_of agreed j) (is_news agreed core failing (before n) n) (rest less there)
    by rest (inr more) =
        let same : n ≡ j = omega (arith, l, more) in
        subst (λ k. is_told failing (others_before agreed core failing (suc n)) (agreement_of agreed k) ≡ true) same
        (told_now n (subst (λ k. list_any (nat_eq k) core ≡ true) (sym same) there))

-- ---- if all that is told fits, the agreement of each row of the core does
module _ (agreed : List Agreement) where
  abbrev Fits : ℕ → Type 0
  Fits m = agreement_fits (nth_agreement agreed m) ≡ true

  among_fit : (numbers : List ℕ) (m : ℕ) → list_any (nat_eq m) numbers ≡ true → list_all agreement_fits (map (nth_agreement agreed) numbers) ≡ true → Fits m
  among_fit [] m any all = absurd (cc any)
  among_fit (k ∷ numbers) m any all = by (among_fit numbers m) (nat_eq m k) refl any where
    parts : Fits k × (list_all agreement_fits (map (nth_agreement agreed) numbers) ≡ true)
    parts = both (agreement_fits (nth_agreement agreed k)) (list_all agreement_fits (map (nth_agreement agreed) numbers)) all

    by : (list_any (nat_eq m) numbers ≡ true → list_all agreement_fits (map (nth_agreement agreed) numbers) ≡ true → Fits m) → (b : Bool) → nat_eq m k ≡ b → (b || list_any (nat_eq m) numbers) ≡ true → Fits m
    by rest true e any = subst Fits (sym (eqb-true m k e)) parts.0
    by rest false e any = rest any parts.1

  told_fit : (failing : ℕ) (numbers : List ℕ) (m : ℕ) → is_told failing numbers m ≡ true → Fits failing → list_all agreement_fits (map (nth_agreement agreed) numbers) ≡ true → Fits m
  told_fit failing numbers m told own all = by (nat_eq m failing) refl told where
    by : (b : Bool) → nat_eq m failing ≡ b → (b || list_any (nat_eq m) numbers) ≡ true → Fits m
    by true e told = subst Fits (sym (eqb-true m failing e)) own
    by false e told = among_fit numbers m told all

-- ---- the rows of a core are none after the last
module _ (slots : ℕ) (given rows : List PowerMap) where
  abbrev IsWithin : ℕ → Type 0
  IsWithin k = k ≤ length rows - 1

  grown_within : (list further : List ℕ) → IsGrown slots given rows list further → All IsWithin further
  grown_within list [] g = All-nil IsWithin
  grown_within list (j ∷ further) g =
      let within = g.0.within in
      All-cons IsWithin j further (omega (arith, within)) (grown_within (list ++ j ∷ []) further g.1)

  begun_within : (list : List ℕ) → IsBegun slots given rows list → All IsWithin list
  begun_within list b =
      subst (All IsWithin) (sym b.begins)
      (All-cons IsWithin (length rows - 1) b.further (omega arith) (grown_within ((length rows - 1) ∷ []) b.further b.grown))

-- ---- a reason of a refusal
module _ (x : Refusal) where
  abbrev IsCoreOf : List ℕ → Bool → Type 0
  IsCoreOf core cut_off = IsCore x.slots (parameter_rows (bases x) x.parameters) (units_of x.rows) core cut_off

  module _ (core : List ℕ) (cut_off : Bool) (is : IsCoreOf core cut_off) where
    abbrev failing : ℕ
    failing = agreement_of x.agreed (last_row x)

    row_below : (j : ℕ) → Contains core j → j ≤ last_row x
    row_below j there =
        let within = All-contains (λ k. k ≤ length (units_of x.rows) - 1) core j (begun_within x.slots (parameter_rows (bases x) x.parameters) (units_of x.rows) core is.begun) there in
        let same = length-map x.rows (λ (r : Row). r.unit) in
        omega (arith, within, same)

    agreement_told : (j : ℕ) → Contains core j → is_told failing (others_before x.agreed core failing (last_row x)) (agreement_of x.agreed j) ≡ true
    agreement_told j there = by (cases_lt j (last_row x)) where
      listed : list_any (nat_eq j) core ≡ true
      listed = list_any_at (nat_eq j) core there.0 j there.1 (eq-eqb j (get_or core there.0 j) (sym there.2))

      by : (j < last_row x) ⊎ (last_row x ≤ j) → is_told failing (others_before x.agreed core failing (last_row x)) (agreement_of x.agreed j) ≡ true
      by (inl less) = told_before x.agreed core failing (last_row x) j less listed
      by (inr more) =
          let below = row_below j there in
          let same : j ≡ last_row x = omega (arith, more, below) in
          ap (λ b. b || list_any (nat_eq (agreement_of x.agreed j)) (others_before x.agreed core failing (last_row x)))
          (eq-eqb (agreement_of x.agreed j) failing (ap (agreement_of x.agreed) same))

    fits_or_past : IsTrue (fit x core) → IsPastIn x.agreed core → ⊥
    fits_or_past all (j, there, unfit) =
        let parts = both (agreement_fits (last x)) (list_all agreement_fits (others x core)) all in
        let fits = told_fit x.agreed failing (others_before x.agreed core failing (last_row x)) (agreement_of x.agreed j) (agreement_told j there) parts.0 parts.1 in
        let clash : true ≡ false = sym fits ∙ unfit in
        cc clash

    of_core_once : (r s : UnitReason) → IsOfCore x core cut_off r → IsOfCore x core cut_off s → r ≡ s
    of_core_once r s (inl (all, a)) (inl (also, b)) = a ∙ sym b
    of_core_once r s (inl (all, a)) (inr (past, b)) = absurd (fits_or_past all past)
    of_core_once r s (inr (past, a)) (inl (all, b)) = absurd (fits_or_past all past)
    of_core_once r s (inr (past, a)) (inr (also, b)) = a ∙ sym b

  pub one_reason : (r s : UnitReason) → IsUnitReason x r → IsUnitReason x s → r ≡ s
  one_reason r s (core, cut_off, is, a) (other, also, are, b) =
      let same = one_core x.slots (parameter_rows (bases x) x.parameters) (units_of x.rows) other core also cut_off are is in
      let here : IsOfCore x core cut_off s = subst (λ (l : List ℕ). IsOfCore x l cut_off s) same.0 (subst (λ (c : Bool). IsOfCore x other c s) same.1 b) in
      of_core_once core cut_off is r s a here

-- ---- of function i of a program

same_line : (rigid : Bool) (row line at place : ℕ) → unsolvable rigid row at ≡ unsolvable rigid line place → row ≡ line
same_line false row line at place e = cc e
same_line true row line at place e = cc e

pub one_reason_of : (declared : List DeclSyntax) (p : ProgramTree) (i : ℕ) (rigid : Bool) (r s : UnitReason) → IsReasonOf declared p i rigid r → IsReasonOf declared p i rigid s → r ≡ s
one_reason_of declared p i rigid r s (row, at, a, x) (line, place, b, y) =
    let functions : Some a.function ≡ Some b.function = sym a.declared ∙ b.declared in
    let function : a.function ≡ b.function = cc functions in
    let all : all_schemes a.schemes ≡ all_schemes b.schemes = sym a.before ∙ b.before in
    let schemes : a.schemes ≡ b.schemes = cc all in
    let judged : unsolvable rigid row at ≡ unsolvable rigid line place = sym a.judged ∙ (λ k. judge (length p.bases) p.records (schemes k) i (function k)) ∙ b.judged in
    let rows = same_line rigid row line at place judged in
    let same : Refusal = refusal p b.schemes i b.function (function_variables declared i) (rigid_parameters rigid b.function.units) line in
    let moves : refusal p a.schemes i a.function (function_variables declared i) (rigid_parameters rigid a.function.units) row ≡ same =
    λ k. refusal p (schemes k) i (function k) (function_variables declared i) (rigid_parameters rigid (function k).units) (rows k) in
    let here : IsUnitReason same r = subst (λ (z : Refusal). IsUnitReason z r) moves x in
    one_reason same r s here y
