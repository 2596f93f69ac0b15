-- The agreements of a core, one row after another.
use Rattle.std.proofs.Common.{◌≡◌, ℕ, suc, ◌+◌, ◌-◌, ◌<◌, ◌≤◌, add-one, Bool, true, false, cond, not, ◌&&◌, ◌||◌, nat_eq, nat_lt, List, [], ◌∷◌, ◌++◌, map, length, Ok, Err, refl, sym, ap, ◌∙◌, subst, arith}
use Rattle.std.specs.Prelude.{IsTrue, Contains}
use Rattle.std.specs.List.{flat_map, list_any, list_all}
use Rattle.std.proofs.lemmas.Bool.{eqb-true}
use Rattle.std.proofs.lemmas.Bool.Decides.{nat_tests}
use Rattle.std.proofs.lemmas.List.{map-append, length-append}
use Rattle.std.proofs.lemmas.List.Folds.{list_all-append}
use Rattle.std.proofs.lemmas.Cmp.{nat_eq_equiv}
use Rattle.std.proofs.lemmas.Option.{get_or_from_slice_get, slice_get-get_or}
use Rattle.std.proofs.lemmas.Map.Views.{Contains-from_any}
use Rattle.um_units.specs.declared.UnitStop.{UnitStop}
use Rattle.um_units.specs.declared.UnitStop.TheVariants as stop
use Rattle.um_tree.specs.TypeTree.{bool_type}
use Rattle.um_elim.proofs.Cases.{on_test}
use Rattle.um_equal_types.specs.declared.row.Row.{Row}
use Rattle.um_agree.specs.declared.agreements.Told.{Told as Agreed}
use Rattle.um_agree.specs.declared.agreements.Agreements.{Agreements}
use Rattle.um_agree.specs.declared.rule.Rule.TheVariants as asks
use Rattle.um_agree.specs.Agreements.{Agreement, agreement_rows}
use Rattle.um_agree.specs.RowAgreements.{agreement_of}
use Rattle.um_agree.specs.Answers.{AreKept, IsTold, agreement_tree, agreement_fits}
use Rattle.um_unit_reasons.specs.declared.others.CoreAgreements.{CoreAgreements}
use Rattle.um_unit_reasons.specs.UnitReasons.{nth_agreement, is_news, others_before, IsPastIn}
use Rattle.um_unit_reasons.specs.Answers.{told_trees, AreFound, StopsPast, IsAdded, AreAllOf}

-- ---- a row's agreement
within_rows : (agreed : List Agreement) (j : ℕ) → j < length (flat_map agreement_rows agreed) → agreement_of agreed j < length agreed
within_rows [] j l = absurd (omega (arith, l))
within_rows (a ∷ agreed) j l =
    let n : ℕ = length (agreement_rows a) in
    let parts = length-append (agreement_rows a) (flat_map agreement_rows agreed) in
    on_test (nat_lt j n)
    (λ e. subst (λ b. cond b 0 (suc (agreement_of agreed (j - n))) < suc (length agreed)) (sym e) (omega arith))
    (λ e. let past : n ≤ j = grind (arith, nat_tests) in
    let rest = within_rows agreed (j - n) (omega (arith, l, parts, past)) in
    subst (λ b. cond b 0 (suc (agreement_of agreed (j - n))) < suc (length agreed)) (sym e) (omega (arith, rest)))

module _ (agreed : List Agreement) (g : Agreements) (kept : AreKept agreed g) (j : ℕ) (inside : j < length g.rows.list.items.items) where
  number_within : agreement_of agreed j < length agreed
  number_within = within_rows agreed j (let same = ap (λ (rs : List Row). length rs) kept.rows_are in omega (arith, inside, same))

  pub past : (core : List ℕ) → Contains core j → IsTold agreed j (Err stop.Range) → IsPastIn agreed core
  past core there told =
      (j, there, told (nth_agreement agreed (agreement_of agreed j)) (slice_get-get_or agreed (agreement_of agreed j) (record { rule = asks.Sum; at = 0; first = bool_type; second = bool_type }) number_within))

pub told_is : (agreed : List Agreement) (j : ℕ) (one : Agreed) → IsTold agreed j (Ok one) → agreement_tree one.agreement ≡ nth_agreement agreed (agreement_of agreed j)
told_is agreed j one told = sym (get_or_from_slice_get agreed (agreement_of agreed j) (agreement_tree one.agreement) (record { rule = asks.Sum; at = 0; first = bool_type; second = bool_type }) told.1)

pub listed : (core : List ℕ) (j : ℕ) → list_any (nat_eq j) core ≡ true → Contains core j
listed core j e = Contains-from_any eqb-true j core e

pub any_flip : (j : ℕ) (core : List ℕ) → list_any (λ y. nat_eq y j) core ≡ list_any (nat_eq j) core
any_flip j [] = refl
any_flip j (k ∷ core) = λ i. nat_eq_equiv.symm k j i || any_flip j core i

any_number : (test : ℕ → Bool) (found : List Agreed) → list_any (λ (t : Agreed). test t.number) found ≡ list_any test (map (λ (t : Agreed). t.number) found)
any_number test [] = refl
any_number test (t ∷ found) = ap (λ b. test t.number || b) (any_number test found)

-- ---- one row more
module _ (agreed : List Agreement) (core : List ℕ) (last : ℕ) (before : List ℕ) (j : ℕ) where
  abbrev pub m : ℕ
  m = agreement_of agreed j

  abbrev pub after : Bool → List ℕ
  after b = cond b (before ++ m ∷ []) before

  pub not_listed : (old : List Agreed) → list_any (nat_eq j) core ≡ false → AreFound agreed before old → AreFound agreed (after (is_news agreed core last before j)) old
  not_listed old e found =
      let none : is_news agreed core last before j ≡ false = ap (λ b. b && not (nat_eq m last || list_any (nat_eq m) before)) e in
      subst (λ b. AreFound agreed (after b) old) (sym none) found

  module _ (one : Agreed) (old new : List Agreed) (there : list_any (nat_eq j) core ≡ true) (told : IsTold agreed j (Ok one)) (found : AreFound agreed before old) (is : IsAdded last one old new) where
    abbrev pub known : Bool
    known = nat_eq m last || list_any (nat_eq m) before

    same : (nat_eq one.number last || list_any (λ (t : Agreed). nat_eq one.number t.number) old) ≡ known
    same =
        ap (λ b. nat_eq one.number last || b) (any_number (nat_eq one.number) old)
        ∙ (λ i. nat_eq (told.0 i) last || list_any (nat_eq (told.0 i)) (found.numbers_are i))

    new_is : new ≡ cond known old (old ++ one ∷ [])
    new_is = is ∙ ap (λ b. cond b old (old ++ one ∷ [])) same

    news : is_news agreed core last before j ≡ not known
    news = ap (λ b. b && not known) there

    with_one : AreFound agreed (before ++ m ∷ []) (old ++ one ∷ [])
    with_one =
        let trees : told_trees (old ++ one ∷ []) ≡ told_trees old ++ agreement_tree one.agreement ∷ [] = map-append (λ (t : Agreed). agreement_tree t.agreement) old (one ∷ []) in
        record {
          numbers_are = map-append (λ (t : Agreed). t.number) old (one ∷ []) ∙ (λ i. found.numbers_are i ++ told.0 i ∷ []);
          trees_are = trees ∙ (λ i. found.trees_are i ++ told_is agreed j one told i ∷ []) ∙ sym (map-append (nth_agreement agreed) before (m ∷ []));
          fit =
              ap (list_all agreement_fits) trees ∙ list_all-append agreement_fits (told_trees old) (agreement_tree one.agreement ∷ [])
              ∙ (λ i. found.fit i && (told.2 i && true));
        }

    pub added : AreFound agreed (after (is_news agreed core last before j)) new
    added = by known refl where
      by : (b : Bool) → known ≡ b → AreFound agreed (after (is_news agreed core last before j)) new
      by true e =
          subst (AreFound agreed (after (is_news agreed core last before j))) (sym (new_is ∙ ap (λ b. cond b old (old ++ one ∷ [])) e))
          (subst (λ b. AreFound agreed (after b) old) (sym (news ∙ ap not e)) found)
      by false e =
          subst (AreFound agreed (after (is_news agreed core last before j))) (sym (new_is ∙ ap (λ b. cond b old (old ++ one ∷ [])) e))
          (subst (λ b. AreFound agreed (after b) (old ++ one ∷ [])) (sym (news ∙ ap not e)) with_one)

-- ---- all rows
pub none_found : (agreed : List Agreement) → AreFound agreed [] []
none_found agreed = record { numbers_are = refl; trees_are = refl; fit = refl }

pub one_row_more : (agreed : List Agreement) (core : List ℕ) (last j : ℕ) (found : List Agreed)
    → AreFound agreed (cond (is_news agreed core last (others_before agreed core last j) j) (others_before agreed core last j ++ agreement_of agreed j ∷ []) (others_before agreed core last j)) found → AreFound agreed (others_before agreed core last (j + 1)) found
one_row_more agreed core last j found h = subst (λ n. AreFound agreed (others_before agreed core last n) found) (sym (add-one j)) h

-- ---- of a core
pub all_of : (agreed : List Agreement) (core : List ℕ) (row : ℕ) (one : Agreed) (c : CoreAgreements) → IsTold agreed row (Ok one) → c.last.items ≡ one ∷ [] → AreFound agreed (others_before agreed core one.number row) c.others.items → AreAllOf agreed core row c
all_of agreed core row one c told last found = record {
  last_is = ap told_trees last ∙ ap (λ x. x ∷ []) (told_is agreed row one told);
  others_are = found.trees_are ∙ ap (λ n. map (nth_agreement agreed) (others_before agreed core n row)) told.0;
  last_fits = subst (λ x. IsTrue (agreement_fits x)) (told_is agreed row one told) told.2;
  others_fit = found.fit;
}

pub row_stop : (agreed : List Agreement) (g : Agreements) (core : List ℕ) (row : ℕ) → AreKept agreed g → row < length g.rows.list.items.items → Contains core row → (e : UnitStop) → IsTold agreed row (Err e) → StopsPast agreed core e
row_stop agreed g core row kept inside there stop.Range h = past agreed g kept row inside core there h
row_stop agreed g core row kept inside there stop.NoMemory h = tt
