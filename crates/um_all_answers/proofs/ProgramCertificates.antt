-- A formed program with its shapes has its certificates, or a number passes in making them.
use Rattle.std.proofs.Common.{◌≡◌, ◌≢◌, ◌⊎◌, inl, inr, ℕ, zero, suc, ◌+◌, ◌<◌, ◌≤◌, ◌^◌, List, [], ◌∷◌, ◌++◌, map, length, slice_get, ℤ, Option, Some, None, Result, Ok, Err, refl, sym, ap, ◌∙◌, subst, arith, length-append}
use Rattle.std.specs.Prelude.{All, IfOk}
use Rattle.std.proofs.lemmas.List.{length-map}
use Rattle.std.proofs.lemmas.Option.{slice_get_within}
use Rattle.um_units.specs.PowerMap.{PowerMap, nth}
use Rattle.um_tree.specs.declared.program.Scheme.{Scheme}
use Rattle.um_tree.specs.TypeTree.{TypeTree, NoteTree}
use Rattle.um_tree.specs.ProgramTree.{FunctionTree, ProgramTree, Signature, SchemeTree, scheme_tree}
use Rattle.um_tree.specs.Typing.{put, put_signature, moved}
use Rattle.um_tree.specs.Formed.{BasesBelow, IsFormed}
use Rattle.um_tree.specs.Shapes.{IsShaped}
use Rattle.um_tree.specs.Scheme.{signature_types}
use Rattle.um_elim.specs.Numbering.{variable_order, by_place}
use Rattle.um_slots.specs.Noted.{noted_types}
use Rattle.um_slots.specs.Holes.{note_holes}
use Rattle.um_slots.specs.Slots.{slot_count}
use Rattle.um_equal_types.specs.declared.row.Row.{Row}
use Rattle.um_equal_types.specs.declared.row.Rows.{Rows}
use Rattle.um_equal_types.specs.Steps.{rows_of, units_of, first_past}
use Rattle.um_rows.specs.Equations.{slot_equations}
use Rattle.um_rows.specs.Answers.{rows_signature, AreEquations}
use Rattle.um_rows.specs.Generalised.{generalised_unit, generalised}
use Rattle.um_rows.specs.Judgement.{has_scheme, numbered_scheme}
use Rattle.um_infer.specs.Inference.{Inference, all_schemes, stops_at_slots, stops_at_range, stops_at_units, stops_at_not_general, infer, infer_first}
use Rattle.um_infer.proofs.SchemeLists.{item_at, item_or_last}
use Rattle.um_infer.proofs.InferenceLaws.{first_are_principal}
use Rattle.um_infer.proofs.SchemeJudgements.{HasJudgement, schemes_until, scheme_judgement, yes_judged}
use Rattle.um_check.specs.declared.certificate.Yes.{Yes}
use Rattle.um_check.specs.declared.certificate.No.{No}
use Rattle.um_check.specs.Tidy.{IsTidyYes, IsTidyNo}
use Rattle.um_proof.proofs.Inferred.{rows_are_few, rows_hold_declared_units}
use Rattle.um_kept.specs.declared.stop.CertStop.{CertStop}
use Rattle.um_kept.specs.declared.stop.CertStop.TheVariants as stop
use Rattle.um_proof.specs.declared.proofs.Proofs.{Proofs}
use Rattle.um_proof.specs.declared.stop.ProveStop.{ProveStop}
use Rattle.um_proof.specs.declared.stop.ProveStop.TheVariants as prove
use Rattle.um_proof.specs.Answers.{AreFunctionRows, judged, IsYesMade, IsNoMade}
use Rattle.um_proof.specs.Proving.{IsYesOf, IsRefusal, IsWithinLimits, PassesInFunction, AreProofs, AreTidyProofs, IsProved}
use Rattle.um_proof.specs.ProgramSteps.{IsFirstRefused, AreYesOf, AreTidyYes}
use Rattle.um_proof.proofs.FunctionRows.{are_function_rows}
use Rattle.um_proof.proofs.FunctionAnswers.{same_item, yes_valid, yes_range, refused_function, refused_inside, refused_judgement, no_refused, no_valid, no_range, within_limits, refused_within}
use Rattle.um_proof.proofs.Judged.{judged_solved}
use Rattle.um_all_answers.proofs.Values.{kept_items, kept_type, kept_is, kept_are, kept_types}
use Rattle.um_all_answers.proofs.Certificates.{certified}
use Rattle.um_all_answers.proofs.RefusalCertificates.{refuted_or_passes}

noted_count : (holes names : ℕ → PowerMap) (n : ℕ) (ms : List NoteTree) → length (noted_types holes names n ms) ≡ length ms
noted_count holes names n [] = refl
noted_count holes names n (m ∷ ms) = ap suc (noted_count holes names (n + note_holes m) ms)

-- a scheme has as many parameters as the types that it is made of
as_many : (bases parameters slots : ℕ) (units : ℕ → PowerMap) (g : Signature) → length (numbered_scheme (generalised bases parameters slots (put_signature units g))).signature.params ≡ length g.params
as_many bases parameters slots units g =
    let solution = put_signature units g in
    let general = generalised bases parameters slots solution in
    length-map general.params (put (by_place (variable_order (signature_types general)))) ∙ length-map solution.params (moved (generalised_unit bases parameters slots)) ∙ length-map g.params (put units)

-- ---- schemes as the code keeps them

abbrev kept_scheme : (s : SchemeTree) → length s.signature.params < 2 ^ 63 → Scheme
kept_scheme s few = record { params = kept_types s.signature.params few; result = kept_type s.signature.result; vars = s.vars }

kept_scheme_is : (s : SchemeTree) (few : length s.signature.params < 2 ^ 63) → scheme_tree (kept_scheme s few) ≡ s
kept_scheme_is s few = λ i. record { signature = record { params = kept_are s.signature.params i; result = kept_is s.signature.result i }; vars = s.vars }

record AreKept (schemes : List SchemeTree) : Type 0 where
  items : List Scheme
  are : map scheme_tree items ≡ schemes

kept_schemes : (schemes : List SchemeTree) → ((i : ℕ) (s : SchemeTree) → slice_get schemes i ≡ Some s → length s.signature.params < 2 ^ 63) → AreKept schemes
kept_schemes [] few = record { items = []; are = refl }
kept_schemes (s ∷ ss) few =
    let first = few 0 s refl in
    let here = kept_scheme_is s first in
    let more = kept_schemes ss (λ i t at. few (suc i) t at) in
    let there = more.are in
    record { items = kept_scheme s first ∷ more.items; are = λ i. here i ∷ there i }

-- ---- one more certificate

yes_more : (p : ProgramTree) (schemes : List SchemeTree) (list : List Yes) (c : Yes) → AreYesOf p schemes list →
    ((f : FunctionTree) (s : SchemeTree) → slice_get p.functions (length list) ≡ Some f → slice_get schemes (length list) ≡ Some s → IsYesOf p schemes (length list) f s c) → AreYesOf p schemes (list ++ c ∷ [])
yes_more p schemes list c valid last = λ i f s d g h at. elim (item_or_last list c i d at) [
  | inl there ↦ valid i f s d g h there
  | inr w ↦
      let q : i ≡ length list = w.0 in
      subst (λ (y : Yes). IsYesOf p schemes i f s y) w.1 (subst (λ n. IsYesOf p schemes n f s c) (sym q) (last f s (ap (slice_get p.functions) (sym q) ∙ g) (ap (slice_get schemes) (sym q) ∙ h)))
]

tidy_more : (p : ProgramTree) (list : List Yes) (c : Yes) → AreTidyYes p list → ((f : FunctionTree) → slice_get p.functions (length list) ≡ Some f → IsTidyYes (length p.bases) f.units c) → AreTidyYes p (list ++ c ∷ [])
tidy_more p list c tidy last = λ i f d g at. elim (item_or_last list c i d at) [
  | inl there ↦ tidy i f d g there
  | inr w ↦ subst (λ (y : Yes). IsTidyYes (length p.bases) f.units y) w.1 (last f (ap (slice_get p.functions) (sym w.0) ∙ g))
]

module _ (p : ProgramTree) (formed : IsFormed p) (shaped : IsShaped p) where
  abbrev bases : ℕ
  bases = length p.bases

  -- a number passes in making a certificate of some function
  record Passing : Type 0 where
    function : ℕ
    number : ℤ
    passes : PassesInFunction p function number

  -- ---- the rows of a function
  module _ (schemes : List SchemeTree) (i : ℕ) (f : FunctionTree) (declared : slice_get p.functions i ≡ Some f) (n : ℕ) (until : i ≤ n) (few : n ≤ length p.functions) (before : infer_first p n ≡ all_schemes schemes)
      (few_slots : slot_count p.records schemes i f ≤ 2000) (in_range : first_past (slot_equations p.records schemes i f).steps ≡ None) where
    many_rows : length (rows_of (slot_equations p.records schemes i f).steps) < 2 ^ 63
    many_rows =
        let most = rows_are_few p n schemes i f formed shaped few before declared in
        let long = length-map (rows_of (slot_equations p.records schemes i f).steps) (λ (r : Row). r.unit) in
        omega (arith, most, long)

    few_params : length (slot_equations p.records schemes i f).params < 2 ^ 63
    few_params = let most = (formed.functions i f declared).few_params in let long : length (slot_equations p.records schemes i f).params ≡ length f.params = noted_count _ _ 0 f.params in omega (arith, most, long)

    abbrev equations : Rows
    equations = record {
      slots = slot_count p.records schemes i f;
      list = record { items = kept_items (rows_of (slot_equations p.records schemes i f).steps) many_rows };
      params = kept_types (slot_equations p.records schemes i f).params few_params;
      result = kept_type (slot_equations p.records schemes i f).result;
    }

    are : AreEquations p.records schemes i f equations
    are = record {
      few = few_slots;
      in_range = in_range;
      slots = refl;
      list = refl;
      params = kept_are (slot_equations p.records schemes i f).params;
      result = kept_is (slot_equations p.records schemes i f).result;
    }

    declared_units : All (BasesBelow bases) (units_of (rows_of (slot_equations p.records schemes i f).steps))
    declared_units = rows_hold_declared_units p n schemes i f formed shaped few before until declared

    asked : AreFunctionRows bases f.units equations
    asked = are_function_rows p schemes i f equations formed shaped (schemes_until p formed n i schemes few until before) (n, until, few, before) declared are

  -- ---- functions with schemes
  module _ (n : ℕ) (schemes : List SchemeTree) (few : n ≤ length p.functions) (before : infer_first p n ≡ all_schemes schemes) where
    count : length schemes ≡ n
    count = (first_are_principal p formed n schemes few before).count

    record HasYes (i : ℕ) : Type 0 where
      certificate : Yes
      valid : (f : FunctionTree) (s : SchemeTree) → slice_get p.functions i ≡ Some f → slice_get schemes i ≡ Some s → IsYesOf p schemes i f s certificate
      tidy : (f : FunctionTree) → slice_get p.functions i ≡ Some f → IsTidyYes bases f.units certificate

    module _ (i : ℕ) (inside : i < n) (f : FunctionTree) (declared : slice_get p.functions i ≡ Some f) (s : SchemeTree) (at : slice_get schemes i ≡ Some s) where
      j : HasJudgement bases p.records schemes i f (has_scheme s)
      j = scheme_judgement p formed n schemes few before i inside f declared s at

      abbrev r : Rows
      r = equations schemes i f declared n (omega (arith, inside)) few before j.few j.in_range

      rows_are : AreEquations p.records schemes i f r
      rows_are = are schemes i f declared n (omega (arith, inside)) few before j.few j.in_range

      rows_asked : AreFunctionRows bases f.units r
      rows_asked = asked schemes i f declared n (omega (arith, inside)) few before j.few j.in_range

      so : judged bases f.units f.at r ≡ has_scheme s
      so = yes_judged p formed n schemes few before i inside f declared s at r rows_are

      by_result : (result : Result Yes CertStop) → result ≢ Err stop.NoMemory → IsYesMade bases f.units r s result → IfOk result (IsTidyYes bases f.units) → HasYes i ⊎ Passing
      by_result (Ok c) some made tidy =
          let valid : IsYesOf p schemes i f s c = yes_valid p formed n schemes few before i inside f declared s at r rows_are (Ok c) made in
          inl (record {
            certificate = c;
            valid = λ g t e h. subst (λ x. IsYesOf p schemes i g x c) (same_item s t (sym at ∙ h)) (subst (λ x. IsYesOf p schemes i x s c) (same_item f g (sym declared ∙ e)) valid);
            tidy = λ g e. subst (λ (x : FunctionTree). IsTidyYes bases x.units c) (same_item f g (sym declared ∙ e)) tidy;
          })
      by_result (Err (stop.CertRange z)) some made tidy =
          inr (record { function = i; number = z; passes = yes_range p formed n schemes few before i inside f declared s at r rows_are (Err (stop.CertRange z)) made })
      by_result (Err stop.NoMemory) some made tidy = absurd (some refl)

      yes_or_passing : HasYes i ⊎ Passing
      yes_or_passing = let w = certified bases f.units r rows_asked f.at s so in by_result w.result w.some w.made (w.tidy (declared_units schemes i f declared n (omega (arith, inside)) few before j.few j.in_range))

      few_parameters : length s.signature.params < 2 ^ 63
      few_parameters =
          let w = judged_solved bases f.units r.slots f.at (rows_signature r) r.list.items.items s so in
          let same = ap (λ (t : SchemeTree). length t.signature.params) w.scheme ∙ as_many bases f.units r.slots (nth w.units) (rows_signature r) in
          let kept = ap (λ (ts : List TypeTree). length ts) rows_are.params in
          let most = few_params schemes i f declared n (omega (arith, inside)) few before j.few j.in_range in
          omega (arith, same, kept, most)

    within : (i : ℕ) → i < n → i < length p.functions
    within i inside = omega (arith, inside, few)

    within_schemes : (i : ℕ) → i < n → i < length schemes
    within_schemes i inside = let all = count in omega (arith, inside, all)

    of_function : (i : ℕ) → i < n → HasYes i ⊎ Passing
    of_function i inside =
        let w = item_at p.functions i (within i inside) in
        let v = item_at schemes i (within_schemes i inside) in
        yes_or_passing i inside w.0 w.1 v.0 v.1

    few_each : (i : ℕ) (s : SchemeTree) → slice_get schemes i ≡ Some s → length s.signature.params < 2 ^ 63
    few_each i s at =
        let all = count in
        let there = slice_get_within schemes i s at in
        let inside : i < n = omega (arith, all, there) in
        let w = item_at p.functions i (within i inside) in
        few_parameters i inside w.0 w.1 s at

    record HaveYes (m : ℕ) : Type 0 where
      list : List Yes
      long : length list ≡ m
      valid : AreYesOf p schemes list
      tidy : AreTidyYes p list

    one_more : (m : ℕ) → HaveYes m → HasYes m → HaveYes (suc m)
    one_more m h y =
        let n = h.long in
        let all = length-append h.list (y.certificate ∷ []) in
        record {
          list = h.list ++ y.certificate ∷ [];
          long = omega (arith, n, all);
          valid = yes_more p schemes h.list y.certificate h.valid (λ f s e g. subst (λ k. IsYesOf p schemes k f s y.certificate) (sym n) (y.valid f s (ap (slice_get p.functions) (sym n) ∙ e) (ap (slice_get schemes) (sym n) ∙ g)));
          tidy = tidy_more p h.list y.certificate h.tidy (λ f e. y.tidy f (ap (slice_get p.functions) (sym n) ∙ e));
        }

    have_yes : (m : ℕ) → m ≤ n → HaveYes m ⊎ Passing
    have_yes zero most = inl (record { list = []; long = refl; valid = λ i f s c e g at. absurd (cc at); tidy = λ i f c e at. absurd (cc at) })
    have_yes (suc m) most =
        elim (have_yes m (omega (arith, most))) [
          | inr passing ↦ inr passing
          | inl h ↦
              elim (of_function m (omega (arith, most))) [
                | inl y ↦ inl (one_more m h y)
                | inr passing ↦ inr passing
              ]
        ]

    -- ---- all of them, with the refusal if there is one
    module _ (refusal : Option No) (is : IsRefusal p schemes (infer p) refusal) (tidy_no : (c : No) → refusal ≡ Some c → IsTidyNo c) (h : HaveYes n) where
      kept : AreKept schemes
      kept = kept_schemes schemes few_each

      same_count : length kept.items ≡ n
      same_count = let long = length-map kept.items scheme_tree in let all = ap (λ (ss : List SchemeTree). length ss) kept.are in let own = count in omega (arith, long, all, own)

      abbrev proofs : Proofs
      proofs =
          let functions = formed.few_functions in
          let all = same_count in
          let long = h.long in
          record {
            schemes = record { items = kept_items kept.items (omega (arith, few, functions, all)) };
            yes = record { items = kept_items h.list (omega (arith, few, functions, long)) };
            no = refusal;
          }

      proved : AreProofs p proofs
      proved = record {
        schemes = ap (infer_first p) same_count ∙ before ∙ ap all_schemes (sym kept.are);
        count = h.long ∙ sym same_count;
        yes = λ i f s c e g at. subst (λ (ss : List SchemeTree). IsYesOf p ss i f s c) (sym kept.are) (h.valid i f s c e (ap (λ (ss : List SchemeTree). slice_get ss i) (sym kept.are) ∙ g) at);
        no = subst (λ (ss : List SchemeTree). IsRefusal p ss (infer p) refusal) (sym kept.are) is;
      }

      tidied : AreTidyProofs p proofs
      tidied = record { yes = h.tidy; no = tidy_no }

  -- ---- the program

  -- some answer other than want of memory
  pub record HasProofs : Type 0 where
    pub result : Result Proofs ProveStop
    pub some : result ≢ Err prove.NoMemory
    pub is : IsProved p result

  of_passing : IsWithinLimits (infer p) → Passing → HasProofs
  of_passing free w = record { result = Err (prove.CertRange w.function w.number); some = λ e. cc e; is = (free, w.passes) }

  with_yes : (n : ℕ) (schemes : List SchemeTree) (few : n ≤ length p.functions) (before : infer_first p n ≡ all_schemes schemes) (refusal : Option No) → IsRefusal p schemes (infer p) refusal → ((c : No) → refusal ≡ Some c → IsTidyNo c) → HasProofs
  with_yes n schemes few before refusal is tidy_no =
      elim (have_yes n schemes few before n (omega arith)) [
        | inl h ↦ record { result = Ok (proofs n schemes few before refusal is tidy_no h); some = λ e. cc e; is = (proved n schemes few before refusal is tidy_no h, tidied n schemes few before refusal is tidy_no h) }
        | inr passing ↦ of_passing (within_limits p schemes (infer p) refusal is) passing
      ]

  module _ (i : ℕ) (refused : IsFirstRefused (infer p) i) where
    inside : i < length p.functions
    inside = refused_inside p i refused

    module _ (f : FunctionTree) (declared : slice_get p.functions i ≡ Some f) (schemes : List SchemeTree) (before : infer_first p i ≡ all_schemes schemes) where
      most : i ≤ length p.functions
      most = let l = inside in omega (arith, l)

      own : HasJudgement bases p.records schemes i f (refused_function p i refused).judgement
      own = refused_judgement p i refused schemes before f declared

      abbrev own_rows : Rows
      own_rows = equations schemes i f declared i (omega arith) most before own.few own.in_range

      own_rows_are : AreEquations p.records schemes i f own_rows
      own_rows_are = are schemes i f declared i (omega arith) most before own.few own.in_range

      by_refusal : (result : Result No CertStop) → result ≢ Err stop.NoMemory → IsNoMade bases f.units own_rows (judged bases f.units 0 own_rows) result → IfOk result IsTidyNo → HasProofs
      by_refusal (Ok c) some made tidy = with_yes i schemes most before (Some c) (no_valid p i refused schemes before f declared own_rows own_rows_are formed (Ok c) made) (λ d e. (let same : c ≡ d = cc e in subst IsTidyNo same tidy))
      by_refusal (Err (stop.CertRange z)) some made tidy =
          of_passing (refused_within p i refused) (record { function = i; number = z; passes = no_range p i refused schemes before f declared own_rows own_rows_are formed (Err (stop.CertRange z)) made })
      by_refusal (Err stop.NoMemory) some made tidy = absurd (some refl)

      refuted : HasProofs
      refuted =
          let w = refuted_or_passes bases f.units own_rows (asked schemes i f declared i (omega arith) most before own.few own.in_range) (no_refused p i refused schemes before f declared own_rows own_rows_are) in
          by_refusal w.result w.some w.made w.tidy

    first_refused : HasProofs
    first_refused = let h = (refused_function p i refused).of in refuted h.function h.declared h.schemes h.before

  by_inference : (inference : Inference) → infer p ≡ inference → HasProofs
  by_inference (all_schemes schemes) e = with_yes (length p.functions) schemes (omega arith) e None (subst (λ q. IsRefusal p schemes q None) (sym e) refl) (λ c h. absurd (cc h))
  by_inference (stops_at_slots i) e = record { result = Err (prove.Slots i); some = λ h. cc h; is = e }
  by_inference (stops_at_range i at) e = record { result = Err (prove.PowerRange i at); some = λ h. cc h; is = e }
  by_inference (stops_at_units i row at) e = first_refused i (row, at, inl e)
  by_inference (stops_at_not_general i row at) e = first_refused i (row, at, inr e)

  pub has_proofs : HasProofs
  has_proofs = by_inference (infer p) refl
