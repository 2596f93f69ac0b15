-- The parts of a word, one text after another.
use Rattle.std.proofs.Common.{◌≡◌, ℕ, suc, ◌+◌, ◌<◌, ◌≤◌, Bool, true, false, cond, not, eqb, List, [], ◌∷◌, ◌++◌, length, Option, Some, None, Bor, refl, sym, ap, subst, ◌∙◌, append_assoc, arith}
use Rattle.std.specs.Prelude.{IsTrue, MatchOption, is_some}
use Rattle.std.specs.List.{position_or_len, before_first, after_first, slice_split, onto_first}
use Rattle.std.proofs.lemmas.List.{append-nil}
use Rattle.std.proofs.lemmas.List.Splits.{slice_split_first}
use Rattle.std.proofs.lemmas.Str.Pattern.{IsSplitOnceResult, split_once_first}
use Rattle.std.proofs.lemmas.Bool.{false≢true}
use Rattle.um_display.specs.declared.word.Parts.{Parts}
use Rattle.um_display.specs.UnitWords.{PartSyntax, IsPart, ArePartsOf, IsUnitWord, texts_in}
use Rattle.um_display.specs.PartView.{parts_syntax, AddsPart, AddsParts}

-- ---- texts between commas

-- without a comma there is one text
uncut : (p : ℕ → Bool) (xs : List ℕ) → length xs ≤ position_or_len p xs → slice_split p xs ≡ xs ∷ []
uncut p [] h = refl
uncut p (x ∷ xs) h = by (p x) (uncut p xs) h where
  by : (b : Bool) → (length xs ≤ position_or_len p xs → slice_split p xs ≡ xs ∷ []) → suc (length xs) ≤ cond (not b) (1 + position_or_len p xs) 0
      → cond b ([] ∷ slice_split p xs) (onto_first x (slice_split p xs)) ≡ (x ∷ xs) ∷ []
  by true next few = absurd (omega (arith, few))
  by false next few = ap (onto_first x) (next (omega (arith, few)))

pub texts_last : (rest : List ℕ) → position_or_len (λ b. eqb b 44) rest ≡ length rest → texts_in rest ≡ rest ∷ []
texts_last rest none = uncut (λ b. eqb b 44) rest (omega (arith, none))

pub texts_cut : (rest text more : List ℕ) → position_or_len (λ b. eqb b 44) rest < length rest → text ≡ before_first (λ b. eqb b 44) rest → more ≡ after_first (λ b. eqb b 44) rest
    → texts_in rest ≡ text ∷ texts_in more
texts_cut rest text more within first behind =
    slice_split_first (λ b. eqb b 44) rest 0 within
    ∙ ap (λ (x : List ℕ). x ∷ texts_in (after_first (λ b. eqb b 44) rest)) (sym first)
    ∙ ap (λ (x : List ℕ). text ∷ texts_in x) (sym behind)

pub texts_next : (rest : List ℕ) (r : Option (Bor (List ℕ) × Bor (List ℕ))) → IsSplitOnceResult 44 rest r
    → MatchOption r (texts_in rest ≡ rest ∷ []) (λ x. texts_in rest ≡ x.0.now ∷ texts_in x.1.now)
texts_next rest None h = texts_last rest (split_once_first 44 rest None h (omega arith))
texts_next rest (Some x) h =
    let sides = split_once_first 44 rest (Some x) h (omega arith) in
    texts_cut rest x.0.now x.1.now sides.0 sides.1 sides.2

-- ---- what was added, and what is still to come

pub record Stand (before now : List PartSyntax) (texts rest : List (List ℕ)) : Type 0 where
  pub added : List PartSyntax
  pub now_is : now ≡ before ++ added
  pub onto : (parts : List PartSyntax) → ArePartsOf rest parts → ArePartsOf texts (added ++ parts)
  pub off : (parts : List PartSyntax) → ArePartsOf texts parts → (others : List PartSyntax) × ArePartsOf rest others

pub at_first : (before : List PartSyntax) (texts : List (List ℕ)) → Stand before before texts texts
at_first before texts = record { added = []; now_is = sym (append-nil before); onto = λ parts h. h; off = λ parts h. (parts, h) }

-- the first text is no part, so the texts aren't parts
first_refused : (text : List ℕ) (texts : List (List ℕ)) (parts : List PartSyntax) → ((part : PartSyntax) → IsPart text part → ⊥) → ArePartsOf (text ∷ texts) parts → ⊥
first_refused text texts [] none h = h
first_refused text texts (part ∷ parts) none h = none part h.0

others_of : (text : List ℕ) (texts : List (List ℕ)) (parts : List PartSyntax) → ArePartsOf (text ∷ texts) parts → (others : List PartSyntax) × ArePartsOf texts others
others_of text texts [] h = absurd h
others_of text texts (part ∷ parts) h = (parts, h.1)

module _ (before now new : List PartSyntax) (texts rest more : List (List ℕ)) (text : List ℕ) where
  pub refused : Stand before now texts rest → rest ≡ text ∷ more → AddsPart now new text false → (parts : List PartSyntax) → ArePartsOf texts parts → ⊥
  refused st cut none parts h =
      let left = st.off parts h in
      first_refused text more left.0 none (subst (λ ts. ArePartsOf ts left.0) cut left.1)

  pub one_more : Stand before now texts rest → rest ≡ text ∷ more → AddsPart now new text true → Stand before new texts more
  one_more st cut (part, after, is) = record {
    added = st.added ++ part ∷ [];
    now_is = after ∙ ap (λ (ps : List PartSyntax). ps ++ part ∷ []) st.now_is ∙ append_assoc before st.added (part ∷ []);
    onto = λ parts h. subst (ArePartsOf texts) (sym (append_assoc st.added (part ∷ []) parts)) (st.onto (part ∷ parts) (subst (λ ts. ArePartsOf ts (part ∷ parts)) (sym cut) (is, h)));
    off = λ parts h. let left = st.off parts h in others_of text more left.0 (subst (λ ts. ArePartsOf ts left.0) cut left.1);
  }

-- the last text
pub ended : (before now new : List PartSyntax) (texts rest : List (List ℕ)) (text : List ℕ) (one : Bool) → Stand before now texts rest → rest ≡ text ∷ [] → AddsPart now new text one → AddsParts before new texts one
ended before now new texts rest text true st cut h =
    let last = one_more before now new texts rest [] text st cut h in
    (last.added, last.now_is, subst (ArePartsOf texts) (append-nil last.added) (last.onto [] tt))
ended before now new texts rest text false st cut h = refused before now new texts rest [] text st cut h

-- whether a word states units
pub stated_by : (word : List ℕ) (o : Option Parts) (b : Bool) → b ≡ is_some o
    → MatchOption o ((parts : List PartSyntax) → IsUnitWord word parts → ⊥) (λ parts. IsUnitWord word (parts_syntax parts))
    → (IsTrue b → (parts : List PartSyntax) × IsUnitWord word parts) × (((parts : List PartSyntax) × IsUnitWord word parts) → IsTrue b)
stated_by word None b e h = (λ t. absurd (false≢true (sym e ∙ t)), λ x. absurd (h x.0 x.1))
stated_by word (Some parts) b e h = (λ t. (parts_syntax parts, h), λ x. e)
