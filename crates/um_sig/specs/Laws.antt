-- What the reading and the matching of a signature come to. The definitions do not rest on this.
-- Source: Kennedy (1996): matching is sound and complete, and a function's scheme has exactly its typings as instances.
use Rattle.std.specs.Prelude.{◌≡◌, ◌⊎◌, ◌<◌, ℕ, All, List, length, Result, Ok, Err}
use Rattle.um_tree.specs.TypeTree.{TypeTree}
use Rattle.um_tree.specs.ProgramTree.{RecordTree, ProgramTree, SchemeTree}
use Rattle.um_tree.specs.Scheme.{IsPrincipal, variables}
use Rattle.um_tree.specs.Formed.{IsTypeIn, IsFormed}
use Rattle.um_measures.specs.declared.abbreviation.Abbreviation.{Abbreviation}
use Rattle.um_sig.specs.declared.signature.Signature.{Signature}
use Rattle.um_sig.specs.declared.stop.SigText.{SigText}
use Rattle.um_sig.specs.declared.stop.SigText.TheVariants as text_stop
use Rattle.um_sig.specs.declared.stop.SigStop.{SigStop}
use Rattle.um_sig.specs.declared.stop.SigStop.TheVariants as stop
use Rattle.um_sig.specs.Instances.{scheme_types, AreOverBases}
use Rattle.um_sig.specs.Answers.{IsConformed, SaysOfInstances, SaysOfAllTypings}
use Rattle.um_sig.specs.Reading.{signature_types_of, IsRead}

-- the scheme is over its own variables alone
abbrev pub IsOverItsVariables : SchemeTree → Type 0
IsOverItsVariables s = All (λ k. k < s.vars) (variables (scheme_types s))

-- a signature is accepted exactly if the scheme has all its instances, unless the range is met: where the answer is
-- this, that is so
abbrev pub AnswersSayWhatInstancesAre : Type 0
AnswersSayWhatInstancesAre =
    (bases : ℕ) (s : SchemeTree) (types : List TypeTree) (r : Result (Unit {0}) SigStop) →
    IsOverItsVariables s → AreOverBases bases (scheme_types s) → AreOverBases bases types →
    IsConformed bases s types r → SaysOfInstances bases (scheme_types s) types r

-- and exactly if all its instances are typings of the function, whose scheme this is in a formed program. What base
-- units the scheme itself holds doesn't matter then
abbrev pub AnswersSayWhatTypingsAre : Type 0
AnswersSayWhatTypingsAre =
    (p : ProgramTree) (i : ℕ) (s : SchemeTree) (types : List TypeTree) (r : Result (Unit {0}) SigStop) →
    IsFormed p → IsPrincipal p i s → AreOverBases (length p.bases) types →
    IsConformed (length p.bases) s types r → SaysOfAllTypings p i types r

-- types over declared base units, so many variables and declared records meet what is asked of a signature
abbrev pub FormedSignaturesAreOverTheirVariables : Type 0
FormedSignaturesAreOverTheirVariables =
    (bases vars : ℕ) (records : List RecordTree) (types : List TypeTree) → All (IsTypeIn bases vars records) types →
    All (λ k. k < vars) (variables types) × AreOverBases bases types

-- no two answers but want of memory stand together
abbrev pub AnswersAreUnique : Type 0
AnswersAreUnique =
    (bases : ℕ) (s : SchemeTree) (types : List TypeTree) (r q : Result (Unit {0}) SigStop) →
    IsConformed bases s types r → IsConformed bases s types q →
    (r ≡ q) ⊎ ((r ≡ Err stop.NoMemory) ⊎ (q ≡ Err stop.NoMemory))

-- ---- what is read

-- both answers are the same signature, or the same refusal at the same place, but for want of memory
abbrev pub AreSameReading : Result Signature SigText → Result Signature SigText → Type 0
AreSameReading (Ok s) (Ok t) = signature_types_of s ≡ signature_types_of t
AreSameReading (Err text_stop.NoMemory) other = Unit {0}
AreSameReading one (Err text_stop.NoMemory) = Unit {0}
AreSameReading (Err e) (Err f) = e ≡ f
AreSameReading one other = ⊥

-- the text alone decides what `read_signature` answers, beside a program with its abbreviations
abbrev pub ReadingsAreUnique : Type 0
ReadingsAreUnique =
    (p : ProgramTree) (shorts : List Abbreviation) (chars : List ℕ) (end : ℕ) (one other : Result Signature SigText) →
    IsRead p shorts chars end one → IsRead p shorts chars end other → AreSameReading one other
