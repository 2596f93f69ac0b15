-- A signature text has one answer, memory aside.
use Rattle.std.proofs.Common.{◌≡◌, ℕ, inl, inr, List, refl, sym, ap, ◌∙◌, subst}
use Rattle.std.specs.Prelude.{Result, Ok, Err}
use Rattle.um_syntax.specs.declared.token.Token.{Token}
use Rattle.um_syntax.specs.declared.token.LexStop.{LexStop}
use Rattle.um_syntax.specs.declared.token.LexStop.TheVariants as lex_stop
use Rattle.um_syntax.specs.Lexing.{HasTokens, HasFault}
use Rattle.um_syntax.proofs.Whole.{unique_tokens, unique_fault, tokens_or_fault}
use Rattle.um_tree.specs.ProgramTree.{ProgramTree}
use Rattle.um_tree.specs.RawTree.{TypeSyntax}
use Rattle.um_unit_texts.specs.UnitStops.{place_of}
use Rattle.um_types.specs.SignatureGrammar.{IsSignature, SignatureFails, SignatureHighAt}
use Rattle.um_types.proofs.SignatureLaws.{signature_answers_exclude}
use Rattle.um_measures.specs.declared.abbreviation.Abbreviation.{Abbreviation}
use Rattle.um_measures.specs.ClosedUnits.{given}
use Rattle.um_measures.specs.Faults.{Fault, unknown, twice, wrong_count, hole, range, Found}
use Rattle.um_sig.specs.SignatureNames.{SignatureTypes, resolved_signature}
use Rattle.um_sig.specs.declared.signature.Signature.{Signature}
use Rattle.um_sig.specs.declared.stop.SigText.{SigText}
use Rattle.um_sig.specs.declared.stop.SigText.TheVariants as stop
use Rattle.um_sig.specs.Reading.{HasFaultAt, HasNameFaultAt, AreTypes, signature_types_of, IsRead}
use Rattle.um_sig.specs.Laws.{AreSameReading, ReadingsAreUnique}

-- ---- the characters

abbrev place_of_stop : LexStop → ℕ
place_of_stop (lex_stop.BadChar at) = at
place_of_stop (lex_stop.NumberRange at) = at
place_of_stop (lex_stop.PowerText at) = at
place_of_stop lex_stop.NoMemory = 0

fault_there : (cs : List ℕ) (at : ℕ) → HasFaultAt cs at → (fault : LexStop) × HasFault cs fault × (place_of_stop fault ≡ at)
fault_there cs at (inl h) = (lex_stop.BadChar at, h, refl)
fault_there cs at (inr (inl h)) = (lex_stop.NumberRange at, h, refl)
fault_there cs at (inr (inr h)) = (lex_stop.PowerText at, h, refl)

one_fault : (cs : List ℕ) (at other : ℕ) → HasFaultAt cs at → HasFaultAt cs other → at ≡ other
one_fault cs at other a b =
    let f = fault_there cs at a in
    let g = fault_there cs other b in
    sym f.2 ∙ ap place_of_stop (unique_fault cs f.0 g.0 f.1 g.1) ∙ g.2

fault_or_tokens : (cs : List ℕ) (at : ℕ) (tokens : List Token) → HasFaultAt cs at → HasTokens cs tokens → ⊥
fault_or_tokens cs at tokens a b = let f = fault_there cs at a in tokens_or_fault cs tokens f.0 b f.1

-- ---- the tokens

module _ (cs : List ℕ) (end : ℕ) where
  -- the tokens fail as signature text at the place, or are too high there
  abbrev FailsAt : ℕ → Type 0
  FailsAt at = (tokens : List Token) × (k : ℕ) × HasTokens cs tokens × (at ≡ place_of tokens k end) × SignatureFails tokens k

  abbrev IsHighAt : ℕ → Type 0
  IsHighAt at = (tokens : List Token) × (k : ℕ) × HasTokens cs tokens × (at ≡ place_of tokens k end) × SignatureHighAt tokens k

same_place : (end : ℕ) (tokens others : List Token) (j k at other : ℕ) → others ≡ tokens → j ≡ k → at ≡ place_of tokens j end → other ≡ place_of others k end → at ≡ other
same_place end tokens others j k at other same index a b = a ∙ ap (λ n. place_of tokens n end) index ∙ ap (λ ts. place_of ts k end) (sym same) ∙ sym b

module _ (cs : List ℕ) (end : ℕ) where
  one_failure_place : (at other : ℕ) → FailsAt cs end at → FailsAt cs end other → at ≡ other
  one_failure_place at other a b =
      let same = unique_tokens cs b.0 a.0 b.2 a.2 in
      same_place end a.0 b.0 a.1 b.1 at other same ((signature_answers_exclude a.0).one_failure a.1 b.1 a.4 (subst (λ ts. SignatureFails ts b.1) same b.4)) a.3 b.3

  one_high_place : (at other : ℕ) → IsHighAt cs end at → IsHighAt cs end other → at ≡ other
  one_high_place at other a b =
      let same = unique_tokens cs b.0 a.0 b.2 a.2 in
      same_place end a.0 b.0 a.1 b.1 at other same ((signature_answers_exclude a.0).one_high a.1 b.1 a.4 (subst (λ ts. SignatureHighAt ts b.1) same b.4)) a.3 b.3

  failure_or_high_place : (at other : ℕ) → FailsAt cs end at → IsHighAt cs end other → ⊥
  failure_or_high_place at other a b =
      let same = unique_tokens cs b.0 a.0 b.2 a.2 in
      (signature_answers_exclude a.0).failure_or_high a.1 b.1 a.4 (subst (λ ts. SignatureHighAt ts b.1) same b.4)

  types_or_failure : (ts : List TypeSyntax) (at : ℕ) → AreTypes cs ts → FailsAt cs end at → ⊥
  types_or_failure ts at a b =
      let same = unique_tokens cs b.0 a.tokens b.2 a.lexed in
      (signature_answers_exclude a.tokens).text_or_failure ts b.1 a.parsed (subst (λ ws. SignatureFails ws b.1) same b.4)

  types_or_high : (ts : List TypeSyntax) (at : ℕ) → AreTypes cs ts → IsHighAt cs end at → ⊥
  types_or_high ts at a b =
      let same = unique_tokens cs b.0 a.tokens b.2 a.lexed in
      (signature_answers_exclude a.tokens).text_or_high ts b.1 a.parsed a.low (subst (λ ws. SignatureHighAt ws b.1) same b.4)

  one_types : (ts us : List TypeSyntax) → AreTypes cs ts → AreTypes cs us → ts ≡ us
  one_types ts us a b =
      let same = unique_tokens cs b.tokens a.tokens b.lexed a.lexed in
      (signature_answers_exclude a.tokens).one_text ts us a.parsed (subst (λ ws. IsSignature ws us) same b.parsed)

fault_or_types : (cs : List ℕ) (at : ℕ) (ts : List TypeSyntax) → HasFaultAt cs at → AreTypes cs ts → ⊥
fault_or_types cs at ts a b = fault_or_tokens cs at b.tokens a b.lexed

-- ---- the names

abbrev place_of_fault : Fault → ℕ
place_of_fault (unknown at) = at
place_of_fault (twice at) = at
place_of_fault (wrong_count at) = at
place_of_fault (hole at) = at
place_of_fault (range at) = at

module _ (found : Found SignatureTypes) where
  name_there : (at : ℕ) → HasNameFaultAt found at → (fault : Fault) × (found ≡ Err fault) × (place_of_fault fault ≡ at)
  name_there at (inl h) = (unknown at, h, refl)
  name_there at (inr (inl h)) = (wrong_count at, h, refl)
  name_there at (inr (inr h)) = (hole at, h, refl)

  one_name : (at other : ℕ) → HasNameFaultAt found at → HasNameFaultAt found other → at ≡ other
  one_name at other a b =
      let f = name_there at a in
      let g = name_there other b in
      let same : f.0 ≡ g.0 = cc (sym f.1 ∙ g.1) in
      sym f.2 ∙ ap place_of_fault same ∙ g.2

  name_or_types : (at : ℕ) (s : SignatureTypes) → HasNameFaultAt found at → found ≡ Ok s → ⊥
  name_or_types at s a e = let f = name_there at a in absurd (cc (sym f.1 ∙ e))

  name_or_range : (at other : ℕ) → HasNameFaultAt found at → found ≡ Err (range other) → ⊥
  name_or_range at other (inl h) e = absurd (cc (sym h ∙ e))
  name_or_range at other (inr (inl h)) e = absurd (cc (sym h ∙ e))
  name_or_range at other (inr (inr h)) e = absurd (cc (sym h ∙ e))

-- ---- all together

module _ (p : ProgramTree) (shorts : List Abbreviation) (cs : List ℕ) (end : ℕ) where
  abbrev found_of : List TypeSyntax → Found SignatureTypes
  found_of ts = resolved_signature (given p shorts) ts

  one_reading : (one other : Result Signature SigText) → IsRead p shorts cs end one → IsRead p shorts cs end other → AreSameReading one other
  one_reading (Err stop.NoMemory) other a b = tt
  one_reading (Ok s) (Ok t) a b =
      let same = one_types cs end a.0 b.0 a.1 b.1 in
      let met : signature_types_of s ≡ signature_types_of t = cc (sym a.2 ∙ ap found_of same ∙ b.2) in
      met
  one_reading (Ok s) (Err (stop.Text place)) a b = absurd (fault_or_types cs place a.0 b a.1)
  one_reading (Ok s) (Err (stop.Syntax place)) a b = absurd (types_or_failure cs end a.0 place a.1 b)
  one_reading (Ok s) (Err (stop.Height place)) a b = absurd (types_or_high cs end a.0 place a.1 b)
  one_reading (Ok s) (Err (stop.Names place)) a b =
      let same = one_types cs end a.0 b.0 a.1 b.1 in
      absurd (name_or_types (found_of b.0) place (signature_types_of s) b.2 (ap found_of (sym same) ∙ a.2))
  one_reading (Ok s) (Err (stop.PowerRange place)) a b = absurd (cc (sym a.2 ∙ ap found_of (one_types cs end a.0 b.0 a.1 b.1) ∙ b.2))
  one_reading (Ok s) (Err stop.NoMemory) a b = tt
  one_reading (Err (stop.Text at)) (Ok t) a b = absurd (fault_or_types cs at b.0 a b.1)
  one_reading (Err (stop.Text at)) (Err (stop.Text place)) a b = ap (λ k. stop.Text k) (one_fault cs at place a b)
  one_reading (Err (stop.Text at)) (Err (stop.Syntax place)) a b = absurd (fault_or_tokens cs at b.0 a b.2)
  one_reading (Err (stop.Text at)) (Err (stop.Height place)) a b = absurd (fault_or_tokens cs at b.0 a b.2)
  one_reading (Err (stop.Text at)) (Err (stop.Names place)) a b = absurd (fault_or_types cs at b.0 a b.1)
  one_reading (Err (stop.Text at)) (Err (stop.PowerRange place)) a b = absurd (fault_or_types cs at b.0 a b.1)
  one_reading (Err (stop.Text at)) (Err stop.NoMemory) a b = tt
  one_reading (Err (stop.Syntax at)) (Ok t) a b = absurd (types_or_failure cs end b.0 at b.1 a)
  one_reading (Err (stop.Syntax at)) (Err (stop.Text place)) a b = absurd (fault_or_tokens cs place a.0 b a.2)
  one_reading (Err (stop.Syntax at)) (Err (stop.Syntax place)) a b = ap (λ k. stop.Syntax k) (one_failure_place cs end at place a b)
  one_reading (Err (stop.Syntax at)) (Err (stop.Height place)) a b = absurd (failure_or_high_place cs end at place a b)
  one_reading (Err (stop.Syntax at)) (Err (stop.Names place)) a b = absurd (types_or_failure cs end b.0 at b.1 a)
  one_reading (Err (stop.Syntax at)) (Err (stop.PowerRange place)) a b = absurd (types_or_failure cs end b.0 at b.1 a)
  one_reading (Err (stop.Syntax at)) (Err stop.NoMemory) a b = tt
  one_reading (Err (stop.Height at)) (Ok t) a b = absurd (types_or_high cs end b.0 at b.1 a)
  one_reading (Err (stop.Height at)) (Err (stop.Text place)) a b = absurd (fault_or_tokens cs place a.0 b a.2)
  one_reading (Err (stop.Height at)) (Err (stop.Syntax place)) a b = absurd (failure_or_high_place cs end place at b a)
  one_reading (Err (stop.Height at)) (Err (stop.Height place)) a b = ap (λ k. stop.Height k) (one_high_place cs end at place a b)
  one_reading (Err (stop.Height at)) (Err (stop.Names place)) a b = absurd (types_or_high cs end b.0 at b.1 a)
  one_reading (Err (stop.Height at)) (Err (stop.PowerRange place)) a b = absurd (types_or_high cs end b.0 at b.1 a)
  one_reading (Err (stop.Height at)) (Err stop.NoMemory) a b = tt
  one_reading (Err (stop.Names at)) (Ok t) a b =
      let same = one_types cs end a.0 b.0 a.1 b.1 in
      absurd (name_or_types (found_of a.0) at (signature_types_of t) a.2 (ap found_of same ∙ b.2))
  one_reading (Err (stop.Names at)) (Err (stop.Text place)) a b = absurd (fault_or_types cs place a.0 b a.1)
  one_reading (Err (stop.Names at)) (Err (stop.Syntax place)) a b = absurd (types_or_failure cs end a.0 place a.1 b)
  one_reading (Err (stop.Names at)) (Err (stop.Height place)) a b = absurd (types_or_high cs end a.0 place a.1 b)
  one_reading (Err (stop.Names at)) (Err (stop.Names place)) a b =
      let same = one_types cs end b.0 a.0 b.1 a.1 in
      ap (λ k. stop.Names k) (one_name (found_of a.0) at place a.2 (subst (λ ts. HasNameFaultAt (found_of ts) place) same b.2))
  one_reading (Err (stop.Names at)) (Err (stop.PowerRange place)) a b =
      let same = one_types cs end a.0 b.0 a.1 b.1 in
      absurd (name_or_range (found_of a.0) at place a.2 (ap found_of same ∙ b.2))
  one_reading (Err (stop.Names at)) (Err stop.NoMemory) a b = tt
  one_reading (Err (stop.PowerRange at)) (Ok t) a b = absurd (cc (sym b.2 ∙ ap found_of (one_types cs end b.0 a.0 b.1 a.1) ∙ a.2))
  one_reading (Err (stop.PowerRange at)) (Err (stop.Text place)) a b = absurd (fault_or_types cs place a.0 b a.1)
  one_reading (Err (stop.PowerRange at)) (Err (stop.Syntax place)) a b = absurd (types_or_failure cs end a.0 place a.1 b)
  one_reading (Err (stop.PowerRange at)) (Err (stop.Height place)) a b = absurd (types_or_high cs end a.0 place a.1 b)
  one_reading (Err (stop.PowerRange at)) (Err (stop.Names place)) a b =
      let same = one_types cs end b.0 a.0 b.1 a.1 in
      absurd (name_or_range (found_of b.0) place at b.2 (ap found_of same ∙ a.2))
  one_reading (Err (stop.PowerRange at)) (Err (stop.PowerRange place)) a b =
      let met : at ≡ place = cc (sym a.2 ∙ ap found_of (one_types cs end a.0 b.0 a.1 b.1) ∙ b.2) in
      ap (λ k. stop.PowerRange k) met
  one_reading (Err (stop.PowerRange at)) (Err stop.NoMemory) a b = tt

pub readings_are_unique : ReadingsAreUnique
readings_are_unique p shorts cs end one other a b = one_reading p shorts cs end one other a b
