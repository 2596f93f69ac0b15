-- A function conforms if each instance of the signature is a typing of it and no power passes the range.
use Rattle.std.proofs.Common.{◌≡◌, ℕ, List, length, chars, Result, Ok, Err, Some, MatchOption, sym, ap, subst}
use Rattle.um_tree.specs.TypeTree.{TypeTree, type_trees}
use Rattle.um_tree.specs.ProgramTree.{ProgramTree, SchemeTree}
use Rattle.um_tree.specs.Formed.{IsFormed}
use Rattle.um_tree.specs.Scheme.{IsPrincipal}
use Rattle.um_measures.specs.declared.abbreviation.Abbreviation.{Abbreviation}
use Rattle.um_sig.specs.SignatureNames.{SignatureTypes}
use Rattle.um_sig.specs.declared.signature.Signature.{Signature as ReadSignature}
use Rattle.um_sig.specs.declared.stop.SigText.{SigText}
use Rattle.um_sig.specs.declared.stop.SigText.TheVariants as sig_text
use Rattle.um_sig.specs.declared.stop.SigStop.{SigStop}
use Rattle.um_sig.specs.declared.stop.SigStop.TheVariants as sig_stop
use Rattle.um_sig.specs.Reading.{IsRead, AreClosedUnits}
use Rattle.um_sig.specs.Answers.{IsConformed}
use Rattle.um_sig.specs.Instances.{AreOverBases, AreAllTypings}
use Rattle.um_sig.specs.Laws.{AreSameReading, ReadingsAreUnique}
use Rattle.um_sig.proofs.SignaturesIn.{named_in, formed_signatures_are_over_their_variables}
use Rattle.um_sig.proofs.TypingLaws.{answers_say_what_typings_are}
use Rattle.um_reports.specs.declared.status.Status.{Status}
use Rattle.um_reports.specs.declared.status.Status.TheVariants.{Done}
use Rattle.um_front.specs.Stages.{CheckedTree, IsCheckedText}
use Rattle.um_front.proofs.CheckedTexts.{shaped_is_formed, units_are_closed, schemes_are_principal}
use Rattle.um_front.proofs.StageLaws.{checked_given}
use Rattle.um_reports.specs.CallRefusals.{IsUnnamedReply, IsConformReply}
use Rattle.um_answers.specs.ConformAnswer.{ConformAnswer, IsConformAnswer, SignatureAnswer, BySignature, MatchingAnswer}
use Rattle.um_answers.specs.Passing.{HasTypings}

-- the types of a signature that was read are over the declared base units
pub read_over_bases : (p : ProgramTree) (shorts : List Abbreviation) (word : List ℕ) (signature : ReadSignature) → AreClosedUnits (length p.bases) shorts → IsRead p shorts (chars word) (length word) (Ok signature)
    → AreOverBases (length p.bases) (type_trees signature.types)
read_over_bases p shorts word signature closed (ts, types, named) =
    (formed_signatures_are_over_their_variables (length p.bases) signature.vars p.records (type_trees signature.types) (named_in p shorts ts (Ok signature) closed named)).1

-- two readings of one text have the same types
pub types_of_readings : (one other : ReadSignature) → AreSameReading (Ok one) (Ok other) → type_trees one.types ≡ type_trees other.types
types_of_readings one other same = ap (λ (s : SignatureTypes). s.types) same

module _ (name word : List ℕ) (c : CheckedTree) (k : ℕ) (text : List ℕ) (status : Status) where
  abbrev p : ProgramTree
  p = c.text.program

  matched_done : (types : List TypeTree) (s : SchemeTree) (r : Result (Unit {0}) SigStop) → IsFormed p → IsPrincipal p k s → AreOverBases (length p.bases) types → AreAllTypings p k types
      → ((i : ℕ) → IsConformed (length p.bases) s types (Err (sig_stop.Range i)) → ⊥) → IsConformed (length p.bases) s types r → IsConformReply name r text status → status ≡ Done
  matched_done types s (Ok done) formed principal over typings in_range conformed reply = reply.1
  matched_done types s (Err (sig_stop.Form i)) formed principal over typings in_range conformed reply =
      absurd (answers_say_what_typings_are p k s types (Err (sig_stop.Form i)) formed principal over conformed typings)
  matched_done types s (Err (sig_stop.Units i)) formed principal over typings in_range conformed reply =
      absurd (answers_say_what_typings_are p k s types (Err (sig_stop.Units i)) formed principal over conformed typings)
  matched_done types s (Err (sig_stop.Range i)) formed principal over typings in_range conformed reply = absurd (in_range i conformed)
  matched_done types s (Err sig_stop.NoMemory) formed principal over typings in_range conformed reply = absurd reply

  -- where the text is read, no other reading is answered
  read_done : (signature : ReadSignature) (r : Result ReadSignature SigText) → AreSameReading (Ok signature) r → (MatchingAnswer k name c (type_trees signature.types) text status → status ≡ Done)
      → BySignature k name word c r text status → status ≡ Done
  read_done signature (Ok other) same done answer = done (subst (λ ts. MatchingAnswer k name c ts text status) (sym (types_of_readings signature other same)) answer)
  read_done signature (Err (sig_text.Text at)) same done reply = absurd same
  read_done signature (Err (sig_text.Syntax at)) same done reply = absurd same
  read_done signature (Err (sig_text.Height at)) same done reply = absurd same
  read_done signature (Err (sig_text.Names at)) same done reply = absurd same
  read_done signature (Err (sig_text.PowerRange at)) same done reply = absurd same
  read_done signature (Err sig_text.NoMemory) same done reply = absurd reply

module _ (one_reading : ReadingsAreUnique) (name word bytes : List ℕ) (c : CheckedTree) (is : IsCheckedText bytes c) (h : HasTypings name word c) (text : List ℕ) (status : Status) where
  matching_done : MatchingAnswer h.number name c (type_trees h.signature.types) text status → status ≡ Done
  unfolding MatchingAnswer
  matching_done (s, given, matched) =
      let principal = schemes_are_principal bytes c is in
      matched_done name word c h.number text status (type_trees h.signature.types) s matched.0 (shaped_is_formed bytes c.text is.shaped) (principal.principal h.number s given)
      (read_over_bases c.text.program c.text.abbreviations word h.signature (units_are_closed bytes c.text is.shaped) h.read) h.typings (λ i. h.in_range s i given) matched.1 matched.2

  reading_done : SignatureAnswer h.number name word c text status → status ≡ Done
  unfolding SignatureAnswer
  reading_done (r, read, answer) =
      read_done name word c h.number text status h.signature r
      (one_reading c.text.program c.text.abbreviations (chars word) (length word) (Ok h.signature) r h.read read) matching_done answer

  named_done : IsConformAnswer name word c text status → status ≡ Done
  unfolding IsConformAnswer
  named_done answer =
      let given : MatchOption (Some h.number) (IsUnnamedReply text status) (λ k. SignatureAnswer k name word c text status) = rw h.named at answer in
      reading_done given

  pub conform_done : ConformAnswer name word bytes text status → status ≡ Done
  unfolding ConformAnswer
  conform_done answer = named_done (checked_given (IsConformAnswer name word) bytes text status c is answer)
