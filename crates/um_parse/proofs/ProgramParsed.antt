-- What parsing answers, from the limits of a program that was read; and what the loop over tokens that are handed over
-- gives, with the places of the refusals.
use Rattle.std.proofs.Common.{◌≡◌, ℕ, ◌≤◌, ◌<◌, true, List, length, get_or, Some, None, Result, Ok, Err, sym, ap, subst, ◌∙◌, arith}
use Rattle.um_syntax.specs.declared.token.Token.{Token}
use Rattle.um_tree.specs.declared.raw.RawProgram.{RawProgram}
use Rattle.um_tree.specs.RawTree.{DeclSyntax, program_syntax}
use Rattle.um_reader.specs.Takes.{Takes}
use Rattle.um_reader.specs.declared.taken.Taken.TheVariants as taken
use Rattle.um_reader.specs.declared.reading.ReadStop.TheVariants as read_stop
use Rattle.um_reader.proofs.Loop.{Stands, through, too_high}
use Rattle.um_reader.proofs.Answers.{reads_all}
use Rattle.um_unit_texts.specs.UnitStops.{greatest_height}
use Rattle.um_unit_texts.proofs.TokenPlaces.{place_at, place_behind}
use Rattle.um_types.specs.declared.parse.LimitKind.TheVariants as limit
use Rattle.um_types.specs.declared.parse.ParseStop.{ParseStop}
use Rattle.um_types.specs.declared.parse.ParseStop.TheVariants as stop
use Rattle.um_decls.specs.DeclMachine.{ProgramState, program_finish}
use Rattle.um_parse.specs.ProgramLeast.{machine_of_programs}
use Rattle.um_parse.specs.DeclGrammar.{IsProgram}
use Rattle.um_parse.specs.ProgramHeights.{program_height}
use Rattle.um_parse.specs.Parsed.{IsRead, Parsed, ReadAt, Limited}
use Rattle.um_parse.specs.Spaced.{Rises}
use Rattle.um_parse.specs.declared.program_parse.ReadProgram.{ReadProgram}
use Rattle.um_parse.proofs.ProgramComplete.{one_program}
use Rattle.um_parse.proofs.LimitLaws.{large_at}
use Rattle.um_parse.proofs.ProgramLow.{programs_read}
use Rattle.um_parse.proofs.ProgramPlaces.{program_spaced}

pub limited_parsed : (tokens : List Token) (end : ℕ) (ds : List DeclSyntax) (answer : Result RawProgram ParseStop) → IsProgram tokens ds → program_height ds ≤ greatest_height → Limited ds answer → Parsed tokens end answer
limited_parsed tokens end ds (Ok p) is low l = subst (IsRead tokens) (sym l.0) (record { is = is; only = λ other q. one_program tokens other ds q is; low = low; small = l.1 })
limited_parsed tokens end ds (Err (stop.Syntax at)) is low l = absurd l
limited_parsed tokens end ds (Err (stop.Limit kind at)) is low l = large_at tokens end kind at (record { ds = ds; is = is; low = low; passes = l })
limited_parsed tokens end ds (Err stop.NoMemory) is low l = absurd l

-- the first tokens are read within the height, and this is the state
abbrev pub StandsAt : List Token → ℕ → ProgramState → Type 0
StandsAt tokens k state = Stands machine_of_programs greatest_height tokens k state

module _ (tokens : List Token) (end : ℕ) where
  -- a token is refused
  pub refused_at : (i : ℕ) (x : Token) (old new : ProgramState) → i < length tokens → get_or tokens i x ≡ x → StandsAt tokens i old
      → Takes machine_of_programs greatest_height old x taken.Stops new → Parsed tokens end (Err (stop.Syntax x.start))
  refused_at i x old new lt same s t =
      let refused = sym (through machine_of_programs greatest_height tokens i x old lt same s.1) ∙ t.0 in
      (i, sym (place_at tokens i end x lt same), reads_all programs_read greatest_height tokens program_syntax (Err (read_stop.Syntax i)) (s.0, (λ below. refused), (λ all. absurd (omega (arith, lt, all)))))

  -- a token is too high
  pub high_at : (i : ℕ) (x : Token) (old new : ProgramState) → i < length tokens → get_or tokens i x ≡ x → StandsAt tokens i old
      → Takes machine_of_programs greatest_height old x taken.High new → Parsed tokens end (Err (stop.Limit limit.Height x.start))
  high_at i x old new lt same s t =
      (i, sym (place_at tokens i end x lt same), reads_all programs_read greatest_height tokens program_syntax (Err (read_stop.High i)) (too_high machine_of_programs greatest_height tokens i x old new lt same s t))

  -- all tokens are read
  pub all_read : (i : ℕ) (state : ProgramState) (read : ReadProgram) → i ≡ length tokens → StandsAt tokens i state → Some (program_syntax read.program) ≡ program_finish state → (read.spaced ≡ true → Rises 0 tokens end)
      → ReadAt tokens end (Ok read)
  all_read i state read all s found rise =
      let through_all = subst (λ k. StandsAt tokens k state) all s in
      let is = reads_all programs_read greatest_height tokens program_syntax (Ok read.program) (through_all.0, ap program_finish (sym through_all.1) ∙ sym found) in
      (is.0, is.1, λ spaced. program_spaced end (program_syntax read.program) tokens is.0 (rise spaced))

  -- all tokens are read, and are none
  pub none_read : (i : ℕ) (state : ProgramState) → i ≡ length tokens → StandsAt tokens i state → None ≡ program_finish state → Parsed tokens end (Err (stop.Syntax end))
  none_read i state all s found =
      let through_all = subst (λ k. StandsAt tokens k state) all s in
      (length tokens, sym (place_behind tokens end), reads_all programs_read greatest_height tokens program_syntax (Err (read_stop.Syntax (length tokens))) (through_all.0, (λ below. absurd (omega (arith, below))), (λ e. ap program_finish (sym through_all.1) ∙ sym found)))
