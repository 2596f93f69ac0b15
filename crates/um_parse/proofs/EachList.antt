-- Each list of tokens is a program within the limits, or there is a refusal of it; and it is decided whether it begins a
-- program, and whether it is one.
use Rattle.std.proofs.Common.{◌≡◌, ◌≢◌, ◌⊎◌, inl, inr, ℕ, ◌+◌, ◌≤◌, List, [], ◌∷◌, Option, Some, None, refl, arith}
use Rattle.std.specs.Prelude.{Result, Ok, Err}
use Rattle.um_syntax.specs.declared.token.Token.{Token}
use Rattle.um_tree.specs.RawTree.{DeclSyntax}
use Rattle.um_types.specs.declared.parse.LimitKind.{LimitKind}
use Rattle.um_types.specs.declared.parse.LimitKind.TheVariants as limit
use Rattle.um_types.specs.declared.parse.ParseStop.TheVariants as stop
use Rattle.um_reader.specs.ReadTo.{ReadAll}
use Rattle.um_reader.specs.declared.reading.ReadStop.{ReadStop}
use Rattle.um_reader.specs.declared.reading.ReadStop.TheVariants as read_stop
use Rattle.um_parse.proofs.Ends.{each_has_reading, begins_or_not, text_or_not}
use Rattle.um_unit_texts.specs.UnitStops.{greatest_height, place_of}
use Rattle.um_decls.specs.DeclMachine.{ProgramState, InProgram, NoProgram}
use Rattle.um_parse.specs.DeclGrammar.{IsProgram}
use Rattle.um_parse.specs.ProgramHeights.{program_height}
use Rattle.um_parse.specs.ProgramLimits.{functions_in, name_place, passed_limit, WithinLimits, FirstPassed, PassesAt}
use Rattle.um_parse.specs.ProgramLeast.{machine_of_programs}
use Rattle.um_parse.specs.Laws.{AreReadOrRefused, EachListIsAnswered, ProgramsAreDecided}
use Rattle.um_parse.proofs.ProgramComplete.{one_program}
use Rattle.um_parse.proofs.LimitLaws.{large_at}
use Rattle.um_parse.proofs.ProgramLow.{programs_read}

is_nothing : (s : ProgramState) → (s ≡ NoProgram) ⊎ (s ≢ NoProgram)
is_nothing NoProgram = inl refl
is_nothing (InProgram decls d) = inr (λ e. cc e)

-- ---- the limits besides the height

abbrev PassesSome : ℕ → List DeclSyntax → Type 0
PassesSome before ds = (kind : LimitKind) × (at : ℕ) × PassesAt before ds kind at

within_or_passed : (o : Option LimitKind) (place : ℕ) (Rest : Type 0) (Later : LimitKind → ℕ → Type 0) → Rest ⊎ ((kind : LimitKind) × (at : ℕ) × Later kind at)
    → ((o ≡ None) × Rest) ⊎ ((kind : LimitKind) × (at : ℕ) × FirstPassed o place kind at (Later kind at))
within_or_passed None place Rest Later (inl rest) = inl (refl, rest)
within_or_passed None place Rest Later (inr later) = inr later
within_or_passed (Some kind) place Rest Later rest = inr (kind, place, (refl, refl))

limited : (before : ℕ) (ds : List DeclSyntax) → WithinLimits before ds ⊎ PassesSome before ds
limited before [] = inl tt
limited before (d ∷ ds) =
    let further : ℕ = before + functions_in d in
    within_or_passed (passed_limit before d) (name_place d) (WithinLimits further ds) (λ kind at. PassesAt further ds kind at) (limited further ds)

-- ---- what the tokens are

module _ (tokens : List Token) (end : ℕ) where
  by_limits : (ds : List DeclSyntax) → IsProgram tokens ds → program_height ds ≤ greatest_height → WithinLimits 0 ds ⊎ PassesSome 0 ds → AreReadOrRefused tokens end
  by_limits ds is low (inl small) = inl (ds, record { is = is; only = λ other q. one_program tokens other ds q is; low = low; small = small })
  by_limits ds is low (inr (kind, at, passes)) =
      inr (stop.Limit kind at, (λ h. cc h), large_at tokens end kind at (record { ds = ds; is = is; low = low; passes = passes }))

  answered : (r : Result (List DeclSyntax) ReadStop) → r ≢ Err read_stop.NoMemory → ReadAll IsProgram program_height greatest_height (λ (ds : List DeclSyntax). ds) tokens r → AreReadOrRefused tokens end
  answered (Ok ds) some is = by_limits ds is.0 is.1 (limited 0 ds)
  answered (Err (read_stop.Syntax k)) some is = inr (stop.Syntax (place_of tokens k end), (λ h. cc h), (k, refl, is))
  answered (Err (read_stop.High k)) some is = inr (stop.Limit limit.Height (place_of tokens k end), (λ h. cc h), (k, refl, is))
  answered (Err read_stop.NoMemory) some is = absurd (some refl)

pub each_list_is_answered : EachListIsAnswered
each_list_is_answered tokens end =
    let (r, some, is) = each_has_reading machine_of_programs is_nothing programs_read greatest_height (λ e. cc e) (omega arith) tokens in
    answered tokens end r some is

pub programs_are_decided : ProgramsAreDecided
programs_are_decided tokens = (begins_or_not machine_of_programs is_nothing programs_read tokens, text_or_not machine_of_programs is_nothing programs_read tokens)
