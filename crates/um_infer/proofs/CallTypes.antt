-- What a call is judged, where the schemes of all functions are given.
-- Source: this project's own, on Kennedy (1996).
use Rattle.std.proofs.Common.{◌≡◌, ℕ, List, length, slice_get, Some, Err, refl}
use Rattle.um_tree.specs.ProgramTree.{FunctionTree, ProgramTree, SchemeTree}
use Rattle.um_tree.specs.ValueTree.{InputTrees}
use Rattle.um_tree.specs.Formed.{IsFormed, AreFormedInputs}
use Rattle.um_rows.specs.Solutions.{HaveSchemes}
use Rattle.um_rows.specs.Judgement.{not_general}
use Rattle.um_slots.specs.CallFunction.{call_function}
use Rattle.um_rows.proofs.CallLaws.{judged_calls_have_their_type, judged_untyped_calls_have_none}
use Rattle.um_rows.proofs.GeneralLaws.{general_without_parameters}
use Rattle.um_infer.specs.Inference.{all_schemes, infer}
use Rattle.um_solving.specs.declared.refusal.Refusal.{Refusal}
use Rattle.um_solving.specs.declared.refusal.Refusal.TheVariants as refusal
use Rattle.um_infer.specs.Answers.{CallAnswers, SaysOfCall}
use Rattle.um_infer.specs.CallJudgement.{judge_call}
use Rattle.um_infer.specs.Forming.{IsAnswer}
use Rattle.um_solving.specs.Solving.{IsRefusal}
use Rattle.um_infer.specs.Refusals.{call_stop_of}
use Rattle.um_infer.specs.Laws.{JudgedCallTypes, JudgedCallRefusals}
use Rattle.um_infer.proofs.PrincipalSchemes.{have_schemes}
use Rattle.um_infer.proofs.InferenceLaws.{given_schemes_are_principal}

-- all functions have their schemes
pub have_all : (p : ProgramTree) → IsFormed p → (schemes : List SchemeTree) → infer p ≡ all_schemes schemes → HaveSchemes p schemes (length p.functions)
have_all p formed schemes is = have_schemes p (length p.functions) schemes (given_schemes_are_principal p formed schemes is)

pub judged_call_types : JudgedCallTypes
judged_call_types p schemes k f inputs formed is declared closed s judged = judged_calls_have_their_type p schemes k f inputs formed (have_all p formed schemes is) declared closed s judged

pub judged_call_refusals : JudgedCallRefusals
judged_call_refusals p schemes k f inputs formed is declared closed row at judged t h = judged_untyped_calls_have_none p schemes k f inputs formed (have_all p formed schemes is) declared closed row at judged t h

-- a call has no unit parameters
pub call_is_general : (p : ProgramTree) (schemes : List SchemeTree) (k : ℕ) (f : FunctionTree) (given : InputTrees) (row at : ℕ) → judge_call p schemes k f given ≡ not_general row at → ⊥
call_is_general p schemes k f given row at is = general_without_parameters (length p.bases) p.records schemes (length p.functions) (call_function p.records k f given) refl row at is

-- the answers to a call, from those to the function that it is seen as
pub call_refused : (p : ProgramTree) (schemes : List SchemeTree) (k : ℕ) (f : FunctionTree) (given : InputTrees) (r : Refusal) → IsRefusal (judge_call p schemes k f given) r → CallAnswers (judge_call p schemes k f given) (Err (call_stop_of r))
call_refused p schemes k f given (refusal.Units at) h = (h.0, at, h.1)
call_refused p schemes k f given (refusal.NotGeneral at) h = absurd (call_is_general p schemes k f given h.0 at h.1)
call_refused p schemes k f given (refusal.PowerRange at) h = (at, h)
call_refused p schemes k f given refusal.Slots h = h
call_refused p schemes k f given refusal.NoMemory h = tt

-- the refusal of a call
pub refused_call : (p : ProgramTree) (schemes : List SchemeTree) (k : ℕ) (f : FunctionTree) (given : InputTrees) → IsFormed p → infer p ≡ all_schemes schemes → slice_get p.functions k ≡ Some f → AreFormedInputs (length p.bases) given →
    (r : Refusal) → IsAnswer (judge_call p schemes k f given) (Err r) → SaysOfCall p k given (Err (call_stop_of r))
refused_call p schemes k f given formed is declared closed (refusal.Units at) h = judged_call_refusals p schemes k f given formed is declared closed h.0 at h.1
refused_call p schemes k f given formed is declared closed (refusal.NotGeneral at) h = absurd (call_is_general p schemes k f given h.0 at h.1)
refused_call p schemes k f given formed is declared closed (refusal.PowerRange at) h = tt
refused_call p schemes k f given formed is declared closed refusal.Slots h = tt
refused_call p schemes k f given formed is declared closed refusal.NoMemory h = tt
