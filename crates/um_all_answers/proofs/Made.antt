-- The certificates that `prove` makes are printed with names for all their base units.
use Rattle.std.proofs.Common.{◌≡◌, ℕ, zero, suc, ◌+◌, ◌<◌, ◌≤◌, List, [], ◌∷◌, ◌++◌, length, length-append, get_or, slice_get, Option, None, Some, refl, sym, ◌∙◌, subst, arith}
use Rattle.std.specs.Prelude.{All}
use Rattle.std.proofs.lemmas.List.{length-map}
use Rattle.std.proofs.lemmas.List.Elements.{All-weaker}
use Rattle.std.proofs.lemmas.Option.{slice_get-get_or, slice_get_within}
use Rattle.um_units.specs.PowerMap.{PowerMap}
use Rattle.um_tree.specs.ProgramTree.{FunctionTree, ProgramTree, SchemeTree, scheme_tree}
use Rattle.um_tree.specs.Formed.{BasesBelow}
use Rattle.um_slots.specs.Keys.{text_keys}
use Rattle.um_slots.proofs.ParameterSlots.{parameters_have_slots}
use Rattle.um_rows.specs.Judgement.{Judgement, has_scheme, too_many_slots, passes_range, has_no_typing, not_general, judge}
use Rattle.um_infer.specs.Answers.{scheme_trees}
use Rattle.um_infer.specs.Inference.{Inference, all_schemes, stops_at_slots, stops_at_range, stops_at_units, stops_at_not_general, with_judgement, with_function, and_then, infer_first}
use Rattle.um_check.specs.declared.certificate.Yes.{Yes}
use Rattle.um_check.specs.Validity.{ShowsGeneral}
use Rattle.um_proof.specs.declared.proofs.Proofs.{Proofs}
use Rattle.um_proof.specs.Proving.{AreProofs, AreTidyProofs, rows_at, slots_at}
use Rattle.um_all_answers.specs.CertificateLaws.{IsNamed, TextsDetermineProofs}
use Rattle.um_all_answers.proofs.ReadCertificates.{texts_determine_certificates}

-- ---- there are no more schemes than functions
module _ (p : ProgramTree) where
  abbrev AreFew : ℕ → List SchemeTree → Type 0
  AreFew n schemes = (length schemes ≤ n) × (length schemes ≤ length p.functions)

  few_more : (n : ℕ) (before : List SchemeTree) → AreFew n before → (o : Option FunctionTree) → slice_get p.functions n ≡ o →
      (schemes : List SchemeTree) → with_function (length p.bases) p.records before n o ≡ all_schemes schemes → AreFew (suc n) schemes
  few_more n before few None there schemes e =
      let same : before ≡ schemes = cc e in
      subst (AreFew (suc n)) same (let l = few.0 in omega (arith, l), few.1)
  few_more n before few (Some f) there schemes e = by (judge (length p.bases) p.records before n f) e where
    by : (j : Judgement) → with_judgement before n j ≡ all_schemes schemes → AreFew (suc n) schemes
    by (has_scheme s) e =
        let same : before ++ s ∷ [] ≡ schemes = cc e in
        let l = few.0 in let m = slice_get_within p.functions n f there in let k = length-append before (s ∷ []) in
        subst (AreFew (suc n)) same (omega (arith, l, k), omega (arith, l, m, k))
    by too_many_slots e = absurd (cc e)
    by (passes_range at) e = absurd (cc e)
    by (has_no_typing row at) e = absurd (cc e)
    by (not_general row at) e = absurd (cc e)

  schemes_few : (n : ℕ) (schemes : List SchemeTree) → infer_first p n ≡ all_schemes schemes → AreFew n schemes
  schemes_few zero schemes e = let same : [] ≡ schemes = cc e in subst (AreFew 0) same (omega arith, omega arith)
  schemes_few (suc n) schemes e = by (schemes_few n) (infer_first p n) refl e where
    by : ((before : List SchemeTree) → infer_first p n ≡ all_schemes before → AreFew n before) → (r : Inference) → infer_first p n ≡ r → and_then r (λ ss. with_function (length p.bases) p.records ss n (slice_get p.functions n)) ≡ all_schemes schemes → AreFew (suc n) schemes
    by few (all_schemes before) is f = few_more n before (few before is) (slice_get p.functions n) refl schemes f
    by few (stops_at_slots i) is f = absurd (cc f)
    by few (stops_at_range i at) is f = absurd (cc f)
    by few (stops_at_units i row at) is f = absurd (cc f)
    by few (stops_at_not_general i row at) is f = absurd (cc f)

-- ---- unit parameters have slots, each with its unit in `rigid`
wider : (m n : ℕ) → m ≤ n → (us : List PowerMap) → All (BasesBelow m) us → All (BasesBelow n) us
wider m n le us low = All-weaker (BasesBelow m) (BasesBelow n) (λ u h k held. (let l = h k held in omega (arith, l, le))) us low

rigid_named : (bases slots parameters : ℕ) (rows us : List PowerMap) → parameters ≤ slots → ShowsGeneral bases slots parameters rows us → All (BasesBelow (bases + parameters)) us → All (BasesBelow (bases + length us)) us
rigid_named bases slots zero rows us le general low = wider (bases + 0) (bases + length us) (omega arith) us low
rigid_named bases slots (suc n) rows us le general low = wider (bases + suc n) (bases + length us) (let k = general.0.per_slot in omega (arith, le, k)) us low

-- ---- each certificate
no_item : {X : Type 0} (xs : List X) (k : ℕ) → k < length xs → slice_get xs k ≡ None → ⊥
no_item [] k low e = omega (arith, low)
no_item (x ∷ xs) k low e = let there = slice_get-get_or (x ∷ xs) k x low in cc (sym there ∙ e)

pub all_named : (p : ProgramTree) (proofs : Proofs) → AreProofs p proofs → AreTidyProofs p proofs → All (IsNamed (length p.bases)) proofs.yes.items.items
all_named p proofs are tidy k d low =
    let schemes = scheme_trees proofs.schemes in
    let many = length-map proofs.schemes.items.items scheme_tree in
    let count = are.count in
    let few = (schemes_few p (length proofs.schemes.items.items) schemes are.schemes).1 in
    named (slice_get p.functions k) refl (slice_get schemes k) refl (omega (arith, low, many, count, few)) (omega (arith, low, many, count))
  where
    c : Yes
    c = get_or proofs.yes.items.items k d

    there : slice_get proofs.yes.items.items k ≡ Some c
    there = slice_get-get_or proofs.yes.items.items k d low

    one : (f : FunctionTree) → slice_get p.functions k ≡ Some f → (s : SchemeTree) → slice_get (scheme_trees proofs.schemes) k ≡ Some s → IsNamed (length p.bases) c
    one f is s at =
        let valid = are.yes k f s c is at there in
        let clean = tidy.yes k f c is there in
        record {
          per_slot = valid.comes_back.per_slot ∙ sym valid.solves.per_slot;
          solution = clean.solution;
          back = clean.back;
          rigid = rigid_named (length p.bases) (slots_at p (scheme_trees proofs.schemes) k f) f.units (rows_at p (scheme_trees proofs.schemes) k f) c.rigid (parameters_have_slots f.units (text_keys p.records (scheme_trees proofs.schemes) k f)) valid.general clean.rigid;
        }

    named : (o : Option FunctionTree) → slice_get p.functions k ≡ o → (q : Option SchemeTree) → slice_get (scheme_trees proofs.schemes) k ≡ q → k < length p.functions → k < length (scheme_trees proofs.schemes) → IsNamed (length p.bases) c
    named (Some f) is (Some s) at a b = one f is s at
    named None is q at a b = absurd (no_item p.functions k a is)
    named (Some f) is None at a b = absurd (no_item (scheme_trees proofs.schemes) k b at)

pub texts_determine_proofs : TextsDetermineProofs
texts_determine_proofs p proofs others formed are tidy fit a also clean small b e =
    texts_determine_certificates p proofs.yes.items.items others.yes.items.items proofs.no others.no formed (all_named p proofs are tidy) fit a (all_named p others also clean) small b e
