-- It is decided whether a word states units.
use Rattle.std.proofs.Common.{◌≡◌, ◌≢◌, ◌⊎◌, inl, inr, ℕ, ◌-◌, ◌<◌, ◌==◌, ◌&&◌, nat_le, Bool, true, false, List, [], ◌∷◌, ◌++◌, codes, length, take, drop, get_or, Option, Some, None, refl, sym, ap, subst, ◌∙◌, arith, length-append}
use Rattle.std.specs.Prelude.{Result, Ok, Err}
use Rattle.std.specs.List.{list_any}
use Rattle.std.specs.Str.{chars, bytes_eq}
use Rattle.std.specs.Str.Iter.{HasSubslice}
use Rattle.std.proofs.lemmas.Bool.Decides.{nat_tests}
use Rattle.std.proofs.lemmas.Slice.Eq.{bytes_eq-Decides}
use Rattle.um_elim.proofs.Cases.{on_test}
use Rattle.um_frac.specs.declared.number.Frac.{Frac}
use Rattle.um_syntax.specs.declared.token.Token.{Token}
use Rattle.um_syntax.specs.declared.token.LexStop.{LexStop}
use Rattle.um_syntax.specs.Lexing.{HasTokens, HasFault}
use Rattle.um_syntax.specs.Laws.{EachTextIsAnswered}
use Rattle.um_syntax.proofs.Whole.{unique_tokens, tokens_or_fault}
use Rattle.um_tree.specs.RawTree.{UnitSyntax}
use Rattle.um_tree.specs.Heights.{unit_height}
use Rattle.um_reader.specs.Stops.{HasOneAnswer}
use Rattle.um_reader.specs.ReadTo.{ReadAll}
use Rattle.um_reader.specs.declared.reading.ReadStop.{ReadStop}
use Rattle.um_reader.specs.declared.reading.ReadStop.TheVariants as read_stop
use Rattle.um_reader.proofs.Readers.{unambiguous}
use Rattle.um_reader.proofs.Answers.{one_answer}
use Rattle.um_parse.proofs.Ends.{each_has_reading}
use Rattle.um_unit_texts.specs.UnitGrammar.{IsUnit}
use Rattle.um_unit_texts.specs.UnitStops.{greatest_height}
use Rattle.um_unit_texts.specs.UnitMachine.{State, Need, Have, Raised, Lowered, Refused}
use Rattle.um_unit_texts.specs.UnitLeast.{machine_of_units}
use Rattle.um_types.proofs.ReaderLaws.{units_read}
use Rattle.um_display.specs.UnitWords.{is_other_white, is_space_at, IsPlain, one_space_each, PartSyntax, IsLowUnit, name_in, positive_in, are_marks, IsNamed, IsSized, IsPartOf, IsPart, texts_in, ArePartsOf, IsUnitWord}
use Rattle.um_display.proofs.SizedParts.{sized_as, cut_at_items}
use Rattle.um_all_answers.proofs.Texts.{within, beyond}
use Rattle.um_all_answers.specs.CallLaws.{UnitWordsAreDecided}

-- one of these has the property, or none has
abbrev Decided : {A : Type 0} → (A → Type 0) → Type 0
Decided {A} P = ((x : A) × P x) ⊎ ((x : A) → P x → ⊥)

-- ---- unit texts

is_nothing : (s : State) → (s ≡ Refused) ⊎ (s ≢ Refused)
is_nothing Refused = inl refl
is_nothing (Need frames) = inr (λ e. cc e)
is_nothing (Have frames operand) = inr (λ e. cc e)
is_nothing (Raised frames base) = inr (λ e. cc e)
is_nothing (Lowered frames base) = inr (λ e. cc e)

module _ (tokens : List Token) where
  one_of : HasOneAnswer IsUnit unit_height greatest_height tokens
  one_of = one_answer IsUnit unit_height greatest_height tokens (unambiguous units_read)

  by_reading : (r : Result UnitSyntax ReadStop) → r ≢ Err read_stop.NoMemory → ReadAll IsUnit unit_height greatest_height (λ (u : UnitSyntax). u) tokens r → Decided (IsLowUnit tokens)
  by_reading (Ok u) some is = inl (u, record { is = is.0; low = is.1 })
  by_reading (Err (read_stop.Syntax k)) some fails = inr (λ u h. one_of.text_or_failure u k h.is fails)
  by_reading (Err (read_stop.High k)) some high = inr (λ u h. one_of.text_or_high u k h.is h.low high)
  by_reading (Err read_stop.NoMemory) some is = absurd (some refl)

  low_unit : Decided (IsLowUnit tokens)
  low_unit = let (r, some, is) = each_has_reading machine_of_units is_nothing units_read greatest_height (λ e. cc e) (omega arith) tokens in by_reading r some is

-- ---- a size with a name

module _ (name number : Token) (inside : List Token) where
  by_value : (label : List ℕ) → name_in name.kind ≡ Some label → (o : Option Frac) → positive_in number.kind ≡ o → Decided (IsLowUnit inside) → Decided (IsNamed name number inside)
  by_value label named None e unit = inr (λ part h. cc (sym e ∙ h.numbered))
  by_value label named (Some value) e (inl (u, low)) =
      inl (record { label = label; size = Some value; unit = u }, record { value = value; named = named; numbered = e; size = refl; unit = low })
  by_value label named (Some value) e (inr none) = inr (λ part h. none part.unit h.unit)

  by_label : (o : Option (List ℕ)) → name_in name.kind ≡ o → Decided (IsNamed name number inside)
  by_label None e = inr (λ part h. cc (sym e ∙ h.named))
  by_label (Some label) e = by_value label e (positive_in number.kind) refl (low_unit inside)

  named : Decided (IsNamed name number inside)
  named = by_label (name_in name.kind) refl

few_none : (tokens : List Token) → length tokens < 5 → (part : PartSyntax) → IsSized tokens part → ⊥
few_none tokens few part s =
    let whole = ap (λ (ts : List Token). length ts) s.whole in
    absurd (omega (arith, few, whole, length-append s.inside (s.greater ∷ [])))

module _ (tokens : List Token) (n e k l g : Token) (inside : List Token) (whole : tokens ≡ n ∷ e ∷ k ∷ l ∷ inside ++ g ∷ []) where
  of_marks : are_marks e l g ≡ true → Decided (IsNamed n k inside) → Decided (IsSized tokens)
  of_marks marked (inl (part, is)) = inl (part, record { name = n; equal = e; number = k; less = l; inside = inside; greater = g; whole = whole; marked = marked; named = is })
  of_marks marked (inr none) = inr (λ part s. none part (sized_as tokens n e k l inside g part whole s).1)

  of_tokens : Decided (IsSized tokens)
  of_tokens = on_test (are_marks e l g) (λ marked. of_marks marked (named n k inside)) (λ other. inr (λ part s. cc (sym (sized_as tokens n e k l inside g part whole s).0 ∙ other)))

sized : (tokens : List Token) → Decided (IsSized tokens)
sized [] = inr (few_none [] (omega arith))
sized (x ∷ more) =
    let all = x ∷ more in
    on_test (nat_le 5 (length all))
    (λ t.
    let many = within 5 (length all) t in
    let last = get_or all (length all - 1) x in
    of_tokens all (get_or all 0 x) (get_or all 1 x) (get_or all 2 x) (get_or all 3 x) last (take (length all - 1 - 4) (drop 4 all))
    (cut_at_items all (get_or all 0 x) (get_or all 1 x) (get_or all 2 x) (get_or all 3 x) last x x x x x many refl refl refl refl refl))
    (λ t. inr (few_none all (beyond 5 (length all) t)))

-- ---- the text of a part

module _ (bytes : List ℕ) (tokens : List Token) where
  by_forms : Decided (IsLowUnit tokens) → Decided (IsSized tokens) → Decided (IsPartOf bytes tokens)
  by_forms (inl (u, low)) other = inl (record { label = one_space_each bytes; size = None; unit = u }, inl (record { label = refl; size = refl; unit = low }))
  by_forms (inr none) (inl (part, is)) = inl (part, inr is)
  by_forms (inr none) (inr other) = inr neither where
    neither : (part : PartSyntax) → IsPartOf bytes tokens part → ⊥
    neither part (inl written) = none part.unit written.unit
    neither part (inr size) = other part size

  form : Decided (IsPartOf bytes tokens)
  form = by_forms (low_unit tokens) (sized tokens)

-- two slashes

abbrev Slashes : List ℕ → Type 0
Slashes bytes = HasSubslice bytes (codes "//")

none_of_one : (c : ℕ) → Slashes (c ∷ []) → ⊥
none_of_one c ([], b, e) =
    let whole : c ∷ [] ≡ 47 ∷ 47 ∷ b = e in let l = ap (λ (xs : List ℕ). length xs) whole in absurd (omega (arith, l))
none_of_one c (x ∷ a, b, e) =
    let whole : c ∷ [] ≡ x ∷ (a ++ (47 ∷ 47 ∷ b)) = e in
    let l = ap (λ (xs : List ℕ). length xs) whole in
    absurd (omega (arith, l, length-append a (47 ∷ 47 ∷ b)))

same_code : (n m : ℕ) → (n == m) ≡ true → n ≡ m
same_code n m t = grind (arith, nat_tests)

both_slashes : (c d : ℕ) → (c == 47 && d == 47) ≡ true → (c ≡ 47) × (d ≡ 47)
both_slashes c d t = by (c == 47) (d == 47) refl refl t where
  by : (a b : Bool) → (c == 47) ≡ a → (d == 47) ≡ b → (a && b) ≡ true → (c ≡ 47) × (d ≡ 47)
  by true true e f h = (same_code c 47 e, same_code d 47 f)
  by true false e f h = absurd (cc h)
  by false b e f h = absurd (cc h)

are_slashes : (c d : ℕ) → c ≡ 47 → d ≡ 47 → (c == 47 && d == 47) ≡ true
are_slashes c d e f = ap (λ x. x == 47 && d == 47) e ∙ ap (λ x. x == 47) f

module _ (c d : ℕ) (rest : List ℕ) (other : (c == 47 && d == 47) ≡ false) (none : Slashes (d ∷ rest) → ⊥) where
  none_later : Slashes (c ∷ d ∷ rest) → ⊥
  none_later ([], b, e) =
      let whole : c ∷ d ∷ rest ≡ 47 ∷ 47 ∷ b = e in
      let first : c ≡ 47 = cc whole in
      let second : d ≡ 47 = cc whole in
      cc (sym (are_slashes c d first second) ∙ other)
  none_later (x ∷ a, b, e) =
      let whole : c ∷ d ∷ rest ≡ x ∷ (a ++ (codes "//" ++ b)) = e in let tail : d ∷ rest ≡ a ++ (codes "//" ++ b) = cc whole in none (a, b, tail)

slashes : (bytes : List ℕ) → Slashes bytes ⊎ (Slashes bytes → ⊥)
slashes [] = inr empty where
  empty : Slashes [] → ⊥
  empty ([], b, e) =
      let whole : [] ≡ 47 ∷ 47 ∷ b = e in let l = ap (λ (xs : List ℕ). length xs) whole in absurd (omega (arith, l))
  empty (x ∷ a, b, e) =
      let whole : [] ≡ x ∷ (a ++ (codes "//" ++ b)) = e in let l = ap (λ (xs : List ℕ). length xs) whole in absurd (omega (arith, l))
slashes (c ∷ []) = inr (none_of_one c)
slashes (c ∷ d ∷ rest) =
    on_test (c == 47 && d == 47)
    (λ t. let (first, second) = both_slashes c d t in inl ([], rest, (λ i. first i ∷ second i ∷ rest)))
    (λ other.
    elim (slashes (d ∷ rest)) [
      | inl w ↦ inl (c ∷ w.0, w.1, ap (λ (xs : List ℕ). c ∷ xs) w.2)
      | inr none ↦ inr (none_later c d rest other none)
    ])

plain : (bytes : List ℕ) → IsPlain bytes ⊎ (IsPlain bytes → ⊥)
plain bytes =
    elim (slashes bytes) [
      | inl comment ↦ inr (λ h. h.no_comment comment)
      | inr none ↦
          on_test (list_any is_other_white (chars bytes))
          (λ t. inr (λ h. cc (sym t ∙ h.no_other_white)))
          (λ white.
          on_test (is_space_at bytes 0)
          (λ t. inr (λ h. cc (sym t ∙ h.no_space_first)))
          (λ first.
          on_test (is_space_at bytes (length bytes - 1))
          (λ t. inr (λ h. cc (sym t ∙ h.no_space_last)))
          (λ last. inl (record { no_comment = none; no_other_white = white; no_space_first = first; no_space_last = last }))))
    ]

-- ---- a word

module _ (each : EachTextIsAnswered) where
  by_tokens : (bytes : List ℕ) → IsPlain bytes → ((tokens : List Token) × HasTokens (chars bytes) tokens) ⊎ ((fault : LexStop) × HasFault (chars bytes) fault) → Decided (IsPart bytes)
  by_tokens bytes simple (inr (fault, is)) = inr (λ part h. tokens_or_fault (chars bytes) h.tokens fault h.lexed is)
  by_tokens bytes simple (inl (tokens, has)) =
      elim (form bytes tokens) [
        | inl w ↦ inl (w.0, record { plain = simple; tokens = tokens; lexed = has; form = w.1 })
        | inr none ↦ inr (λ part h. none part (subst (λ ts. IsPartOf bytes ts part) (unique_tokens (chars bytes) h.tokens tokens h.lexed has) h.form))
      ]

  part : (bytes : List ℕ) → Decided (IsPart bytes)
  part bytes =
      elim (plain bytes) [
        | inl simple ↦ by_tokens bytes simple (each (chars bytes))
        | inr other ↦ inr (λ p h. other h.plain)
      ]

  none_first : (text : List ℕ) (texts : List (List ℕ)) → ((p : PartSyntax) → IsPart text p → ⊥) → (ps : List PartSyntax) → ArePartsOf (text ∷ texts) ps → ⊥
  none_first text texts none [] h = h
  none_first text texts none (p ∷ ps) h = none p h.0

  none_later_text : (text : List ℕ) (texts : List (List ℕ)) → ((ps : List PartSyntax) → ArePartsOf texts ps → ⊥) → (ps : List PartSyntax) → ArePartsOf (text ∷ texts) ps → ⊥
  none_later_text text texts none [] h = h
  none_later_text text texts none (p ∷ ps) h = none ps h.1

  parts : (texts : List (List ℕ)) → Decided (ArePartsOf texts)
  parts [] = inl ([], tt)
  parts (text ∷ texts) =
      elim (part text) [
        | inr none ↦ inr (none_first text texts none)
        | inl w ↦
            elim (parts texts) [
              | inl more ↦ inl (w.0 ∷ more.0, (w.1, more.1))
              | inr none ↦ inr (none_later_text text texts none)
            ]
      ]

  pub unit_words_are_decided : UnitWordsAreDecided
  unit_words_are_decided word =
      on_test (bytes_eq word (codes "-"))
      (λ t. inl ([], inl ((bytes_eq-Decides word (codes "-")).0 t, refl)))
      (λ t.
      let other : word ≡ codes "-" → ⊥ = λ e. cc (sym ((bytes_eq-Decides word (codes "-")).1 e) ∙ t) in
      elim (parts (texts_in word)) [
        | inl w ↦ inl (w.0, inr (other, w.1))
        | inr none ↦ inr (no_parts other none)
      ])
    where
      no_parts : (word ≡ codes "-" → ⊥) → ((ps : List PartSyntax) → ArePartsOf (texts_in word) ps → ⊥) → (ps : List PartSyntax) → IsUnitWord word ps → ⊥
      no_parts other none ps (inl (is, empty)) = other is
      no_parts other none ps (inr (also, are)) = none ps are
