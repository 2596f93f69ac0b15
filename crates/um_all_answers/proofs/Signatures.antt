-- The text of a signature is one, or it is refused; and a function conforms to it, or something differs. Published: crates
-- above use it.
use Rattle.std.proofs.Common.{◌≡◌, ◌≢◌, ◌⊎◌, inl, inr, ℕ, zero, suc, ◌+◌, ◌-◌, ◌*◌, ◌≤◌, ◌<◌, List, [], ◌∷◌, ◌++◌, length, Option, Some, None, refl, sym, ap, ◌∙◌, arith, length-append}
use Rattle.std.specs.Prelude.{Result, Ok, Err}
use Rattle.std.specs.Str.{chars, chars_after, continuation_len, lead_bits}
use Rattle.um_elim.proofs.Cases.{on_test}
use Rattle.um_syntax.specs.declared.token.Token.{Token}
use Rattle.um_syntax.specs.declared.token.Kind.{Kind}
use Rattle.um_syntax.specs.declared.token.Kind.TheVariants as kind
use Rattle.um_syntax.specs.declared.token.LexStop.{LexStop}
use Rattle.um_syntax.specs.declared.token.LexStop.TheVariants as lex
use Rattle.um_vocabulary.specs.declared.vocabulary.Symbol.TheVariants as symbol
use Rattle.um_syntax.specs.Lexing.{HasTokens, HasFault}
use Rattle.um_syntax.specs.Laws.{EachTextIsAnswered}
use Rattle.um_syntax.proofs.TokenCounts.{tokens_within}
use Rattle.um_tree.specs.RawTree.{TypeSyntax}
use Rattle.um_tree.specs.TypeTree.{TypeTree}
use Rattle.um_tree.specs.ProgramTree.{ProgramTree, SchemeTree}
use Rattle.um_reader.specs.Machine.{runs, reached}
use Rattle.um_reader.specs.ReadTo.{ReadAll}
use Rattle.um_reader.specs.declared.reading.ReadStop.{ReadStop}
use Rattle.um_reader.specs.declared.reading.ReadStop.TheVariants as read_stop
use Rattle.um_parse.proofs.Ends.{each_has_reading}
use Rattle.um_unit_texts.specs.UnitStops.{greatest_height, place_of}
use Rattle.um_types.specs.TypeMachine.{TypeState, NeedType, HaveType, InNote, NoType, type_act, type_finish}
use Rattle.um_types.specs.TypeHeights.{all_height}
use Rattle.um_types.specs.SignatureGrammar.{IsSignature}
use Rattle.um_types.specs.SignatureMachine.{SignatureState, InType, NoSignature, type_end, type_ends, type_goes, signature_step, typed, signature_finish, start, machine_of_signatures}
use Rattle.um_types.proofs.SignatureLaws.{signatures_read}
use Rattle.um_measures.specs.declared.abbreviation.Abbreviation.{Abbreviation}
use Rattle.um_measures.specs.Faults.{unknown, twice, wrong_count, hole, range, Found, and_then, each}
use Rattle.um_measures.specs.Known.{Known}
use Rattle.um_measures.specs.ClosedUnits.{given}
use Rattle.um_sig.specs.declared.signature.Signature.{Signature}
use Rattle.um_sig.specs.declared.stop.SigText.{SigText}
use Rattle.um_sig.specs.declared.stop.SigText.TheVariants as stop
use Rattle.um_sig.specs.declared.stop.SigStop.{SigStop}
use Rattle.um_sig.specs.declared.stop.SigStop.TheVariants as sig_stop
use Rattle.um_sig.specs.SignatureNames.{SignatureTypes, one_type, all_type_names, resolved_types, signature_variables, resolved_signature}
use Rattle.um_sig.specs.Reading.{AreTypes, signature_types_of, IsRead}
use Rattle.um_sig.specs.Form.{form, form_at, AreAlike, IsFirstDifference}
use Rattle.um_sig.specs.Steps.{same_form}
use Rattle.um_sig.specs.Matching.{Matching, matched, unmatched, out_of_range, match_types}
use Rattle.um_sig.specs.Instances.{scheme_types}
use Rattle.um_sig.specs.Answers.{IsConformed}
use Rattle.um_sig.proofs.FormLaws.{form-same, same-form}
use Rattle.um_sig.proofs.NeverTwice.{signature_is_never_twice}
use Rattle.um_all_answers.proofs.Texts.{no_memory}
use Rattle.um_all_answers.proofs.Values.{kept_are, kept_types}

-- ---- a signature has no more types than its text has bytes

after_few : (n c : ℕ) (bytes : List ℕ) → length (chars_after n c bytes) ≤ length bytes + 1
after_few zero c [] = omega arith
after_few zero c (b ∷ bytes) = let few = after_few (continuation_len b) (lead_bits b) bytes in omega (arith, few)
after_few (suc n) c [] = omega arith
after_few (suc n) c (b ∷ bytes) = let few = after_few n (c * 64 + (b - 128)) bytes in omega (arith, few)

few_chars : (bytes : List ℕ) → length (chars bytes) ≤ length bytes
unfolding chars
few_chars [] = omega arith
few_chars (b ∷ bytes) = let few = after_few (continuation_len b) (lead_bits b) bytes in omega (arith, few)

-- the types that were read before the last
abbrev before : SignatureState → ℕ
before (InType earlier type) = length earlier
before NoSignature = 0

end_few : (earlier : List TypeSyntax) (t : TypeSyntax) (k : Kind) → before (type_end earlier t k) ≤ length earlier + 1
end_few earlier t (kind.Sign symbol.Arrow) = let long = length-append earlier (t ∷ []) in omega (arith, long)
end_few earlier t _ = omega arith

ends_few : (earlier : List TypeSyntax) (o : Option TypeSyntax) (k : Kind) → before (type_ends earlier o k) ≤ length earlier + 1
ends_few earlier None k = omega arith
ends_few earlier (Some t) k = end_few earlier t k

goes_few : (earlier : List TypeSyntax) (s : TypeState) (ended : SignatureState) → before ended ≤ length earlier + 1 → before (type_goes earlier s ended) ≤ length earlier + 1
goes_few earlier (NeedType depth) ended few = omega arith
goes_few earlier (HaveType depth t) ended few = omega arith
goes_few earlier (InNote depth owner n) ended few = omega arith
goes_few earlier NoType ended few = few

step_few : (state : SignatureState) (token : Token) → before (signature_step state token) ≤ before state + 1
step_few (InType earlier s) token =
    goes_few earlier (type_act s token.kind token.start) (type_ends earlier (type_finish s) token.kind) (ends_few earlier (type_finish s) token.kind)
step_few NoSignature token = omega arith

runs_few : (tokens : List Token) (state : SignatureState) → before (runs signature_step state tokens) ≤ before state + length tokens
runs_few [] state = omega arith
runs_few (token ∷ tokens) state = let one = step_few state token in let more = runs_few tokens (signature_step state token) in omega (arith, one, more)

typed_few : (earlier : List TypeSyntax) (o : Option TypeSyntax) (ts : List TypeSyntax) → typed earlier o ≡ Some ts → length ts ≤ length earlier + 1
typed_few earlier None ts e = absurd (cc e)
typed_few earlier (Some t) ts e = let same : earlier ++ t ∷ [] ≡ ts = cc e in let long = ap (λ (us : List TypeSyntax). length us) same in omega (arith, long, length-append earlier (t ∷ []))

found_few : (state : SignatureState) (ts : List TypeSyntax) → signature_finish state ≡ Some ts → length ts ≤ before state + 1
found_few (InType earlier s) ts e = typed_few earlier (type_finish s) ts e
found_few NoSignature ts e = absurd (cc e)

few_types : (tokens : List Token) (ts : List TypeSyntax) → IsSignature tokens ts → length ts ≤ length tokens + 1
few_types tokens ts is =
    let found = found_few (reached machine_of_signatures tokens) ts (signatures_read.finds tokens ts is) in
    let few = runs_few tokens start in
    omega (arith, found, few)

-- ---- what names stand for is as much

module _ {A B : Type 0} (f : A → Found B) where
  each_many : (xs : List A) (ys : List B) → each f xs ≡ Ok ys → length ys ≡ length xs
  each_many [] ys e = let same : [] ≡ ys = cc e in ap (λ (zs : List B). length zs) (sym same)
  each_many (x ∷ xs) ys e = by (each_many xs) (f x) (each f xs) refl e where
    by : ((more : List B) → each f xs ≡ Ok more → length more ≡ length xs) → (one : Found B) (others : Found (List B)) → each f xs ≡ others → and_then one (λ y. and_then others (λ more. Ok (y ∷ more))) ≡ Ok ys
        → length ys ≡ length (x ∷ xs)
    by further (Err fault) others same e = absurd (cc e)
    by further (Ok y) (Err fault) same e = absurd (cc e)
    by further (Ok y) (Ok more) same e =
        let all : y ∷ more ≡ ys = cc e in
        let long = ap (λ (zs : List B). length zs) all in
        let many = further more same in
        omega (arith, long, many)

resolved_many : (known : Known) (ts : List TypeSyntax) (s : SignatureTypes) → resolved_signature known ts ≡ Ok s → length s.types ≡ length ts
unfolding resolved_signature
resolved_many known ts s e = by (all_type_names known (signature_variables ts) ts) (resolved_types known (signature_variables ts) ts) refl e where
  by : (names : Found (Unit {0})) (types : Found (List TypeTree)) → resolved_types known (signature_variables ts) ts ≡ types
      → and_then names (λ _. and_then types (λ found. Ok (let all : SignatureTypes = record { types = found; vars = length (signature_variables ts) } in all))) ≡ Ok s → length s.types ≡ length ts
  by (Err fault) types same e = absurd (cc e)
  by (Ok none) (Err fault) same e = absurd (cc e)
  by (Ok none) (Ok found) same e =
      let all : (let whole : SignatureTypes = record { types = found; vars = length (signature_variables ts) } in whole) ≡ s = cc e in
      ap (λ (w : SignatureTypes). length w.types) (sym all) ∙ each_many (one_type known (signature_variables ts)) ts found same

is_nothing : (s : SignatureState) → (s ≡ NoSignature) ⊎ (s ≢ NoSignature)
is_nothing NoSignature = inl refl
is_nothing (InType earlier type) = inr (λ e. cc e)

-- ---- the text of a signature

module _ (each_text : EachTextIsAnswered) (p : ProgramTree) (shorts : List Abbreviation) (word : List ℕ) (short : length word ≤ 1048576) where
  -- some answer besides want of memory
  abbrev pub SignatureOrRefusal : Type 0
  SignatureOrRefusal = (r : Result Signature SigText) × (r ≢ Err stop.NoMemory) × IsRead p shorts (chars word) (length word) r

  module _ (tokens : List Token) (has : HasTokens (chars word) tokens) where
    module _ (ts : List TypeSyntax) (are : AreTypes (chars word) ts) (is : IsSignature tokens ts) where
      by_names : (found : Found SignatureTypes) → resolved_signature (given p shorts) ts ≡ found → SignatureOrRefusal
      by_names (Ok s) e =
          let many = resolved_many (given p shorts) ts s e in
          let few = few_types tokens ts is in
          let tokens_few = tokens_within (chars word) tokens has in
          let chars_few = few_chars word in
          let kept : Signature = record { types = kept_types s.types (omega (arith, many, few, tokens_few, chars_few, short)); vars = s.vars } in
          let same : signature_types_of kept ≡ s = λ i. record { types = kept_are s.types i; vars = s.vars } in
          (Ok kept, (λ h. cc h), (ts, are, e ∙ ap (λ (w : SignatureTypes). Ok w) (sym same)))
      by_names (Err (unknown at)) e = (Err (stop.Names at), (λ h. cc h), (ts, are, inl e))
      by_names (Err (wrong_count at)) e = (Err (stop.Names at), (λ h. cc h), (ts, are, inr (inl e)))
      by_names (Err (hole at)) e = (Err (stop.Names at), (λ h. cc h), (ts, are, inr (inr e)))
      by_names (Err (range at)) e = (Err (stop.PowerRange at), (λ h. cc h), (ts, are, e))
      by_names (Err (twice at)) e = absurd (signature_is_never_twice (given p shorts) ts at e)

    by_reading : (r : Result (List TypeSyntax) ReadStop) → r ≢ Err read_stop.NoMemory → ReadAll IsSignature all_height greatest_height (λ (ts : List TypeSyntax). ts) tokens r → SignatureOrRefusal
    by_reading (Ok ts) some is = by_names ts (record { tokens = tokens; lexed = has; parsed = is.0; low = is.1 }) is.0 (resolved_signature (given p shorts) ts) refl
    by_reading (Err (read_stop.Syntax k)) some is = (Err (stop.Syntax (place_of tokens k (length word))), (λ h. cc h), (tokens, k, has, refl, is))
    by_reading (Err (read_stop.High k)) some is = (Err (stop.Height (place_of tokens k (length word))), (λ h. cc h), (tokens, k, has, refl, is))
    by_reading (Err read_stop.NoMemory) some is = absurd (some refl)

  by_fault : (fault : LexStop) → HasFault (chars word) fault → SignatureOrRefusal
  by_fault (lex.BadChar at) is = (Err (stop.Text at), (λ h. cc h), inl is)
  by_fault (lex.NumberRange at) is = (Err (stop.Text at), (λ h. cc h), inr (inl is))
  by_fault (lex.PowerText at) is = (Err (stop.Text at), (λ h. cc h), inr (inr is))
  by_fault lex.NoMemory (tokens, refuses) = absurd (no_memory [] _ _ tokens refuses)

  by_text : ((tokens : List Token) × HasTokens (chars word) tokens) ⊎ ((fault : LexStop) × HasFault (chars word) fault) → SignatureOrRefusal
  by_text (inl (tokens, has)) =
      let (r, some, is) = each_has_reading machine_of_signatures is_nothing signatures_read greatest_height (λ e. cc e) (omega arith) tokens in by_reading tokens has r some is
  by_text (inr (fault, is)) = by_fault fault is

  pub signature_or_refusal : SignatureOrRefusal
  signature_or_refusal = by_text (each_text (chars word))

-- ---- a function is held to it

-- the forms are alike, or they differ first at some index
abbrev AlikeOrDifferent : List TypeTree → List TypeTree → Type 0
AlikeOrDifferent ss ts = AreAlike ss ts ⊎ ((i : ℕ) × IsFirstDifference ss ts i)

longer : (s : TypeTree) (t : TypeTree) (ss ts : List TypeTree) → form s ≡ form t → AlikeOrDifferent ss ts → AlikeOrDifferent (s ∷ ss) (t ∷ ts)
longer s t ss ts same (inl alike) = inl (λ i. same i ∷ alike i)
longer s t ss ts same (inr (k, differ)) = inr (suc k, record { before = earlier; here = differ.here }) where
  earlier : (j : ℕ) → j < suc k → form_at (s ∷ ss) j ≡ form_at (t ∷ ts) j
  earlier zero less = ap (λ f. Some f) same
  earlier (suc j) less = differ.before j (omega (arith, less))

forms_compared : (ss ts : List TypeTree) → AlikeOrDifferent ss ts
forms_compared [] [] = inl refl
forms_compared [] (t ∷ ts) = inr (0, record { before = λ j less. absurd (omega (arith, less)); here = λ e. cc e })
forms_compared (s ∷ ss) [] = inr (0, record { before = λ j less. absurd (omega (arith, less)); here = λ e. cc e })
forms_compared (s ∷ ss) (t ∷ ts) =
    on_test (same_form s t)
    (λ same. longer s t ss ts (form-same s t same) (forms_compared ss ts))
    (λ other. inr (0, record { before = λ j less. absurd (omega (arith, less)); here = λ e. (let same : form s ≡ form t = cc e in cc (sym (same-form s t same) ∙ other)) }))

module _ (bases : ℕ) (s : SchemeTree) (types : List TypeTree) where
  abbrev pub Verdict : Type 0
  Verdict = (r : Result (Unit {0}) SigStop) × (r ≢ Err sig_stop.NoMemory) × IsConformed bases s types r

  by_matching : AreAlike (scheme_types s) types → (m : Matching) → match_types bases s.vars (scheme_types s) types ≡ m → Verdict
  by_matching alike (matched us) e = (Ok tt, (λ h. cc h), (alike, (us, e)))
  by_matching alike (unmatched i) e = (Err (sig_stop.Units i), (λ h. cc h), (alike, e))
  by_matching alike (out_of_range i) e = (Err (sig_stop.Range i), (λ h. cc h), (alike, e))

  by_forms : AlikeOrDifferent (scheme_types s) types → Verdict
  by_forms (inl alike) = by_matching alike (match_types bases s.vars (scheme_types s) types) refl
  by_forms (inr (i, differ)) = (Err (sig_stop.Form i), (λ h. cc h), differ)

  pub verdict : Verdict
  verdict = by_forms (forms_compared (scheme_types s) types)
