use Rattle.std.proofs.Common.{◌≡◌, map, sym, ◌∙◌}
use Rattle.std.proofs.lemmas.Result.{IfOk-weaker}
use Rattle.um_tree.specs.RawTree.{decl_syntax}
use Rattle.um_reader.specs.Takes.{Gives, Takes}
use Rattle.um_unit_texts.specs.UnitStops.{greatest_height}
use Rattle.um_decls.specs.DeclMachine.{DeclBegin, Expects, ProgramState, InProgram, decl_step, decl_finish, next_decl, program_found, program_finish}
use Rattle.um_parse.specs.ProgramLeast.{machine_of_programs}
use Rattle.um_parse.specs.ReaderStates.{reader_state, program_state}
use Rattle.um_parse.proofs.ProgramSteps.{last_low, next_gives}
use Rattle.um_parse.proofs.program_reader.ProgramReaderReader.take.Goals as goal

pub next_decl-requires-clause-last : goal.next_decl-requires-clause-last
next_decl-requires-clause-last c =
    let old = c.args.self.now in
    last_low (map decl_syntax old.decls.items) (reader_state old.last) (reader_state c.take.new.self) c.args.token.now c.requires.low (rw c.in-Stops.is at c.in_ok-take.ensures.taken)

pub returns-in-Stops : goal.returns-in-Stops
returns-in-Stops c =
    let decls = map decl_syntax c.args.self.now.decls.items in
    let old = reader_state c.args.self.now.last in
    let mid = reader_state c.take.new.self in
    let token = c.args.token.now in
    let left = c.take.new.token in
    let new = program_state c.next_decl.new.self in
    let begun = sym c.is_at_start.ensures ∙ c.if-is_at_start.false in
    record {
      taken =
          IfOk-weaker c.next_decl.result
          (λ t. (st : ProgramState) → program_finish st ≡ program_found decls (decl_finish mid) → Gives machine_of_programs greatest_height st (next_decl decls (decl_finish mid) (decl_step (Expects DeclBegin) left)) t new)
          (λ t. Takes machine_of_programs greatest_height (InProgram decls old) token t new)
          (λ t h. next_gives decls old mid token left t new begun (rw c.in-Stops.is at c.in_ok-take.ensures.taken) (rw c.in-Stops.is at c.in_ok-take.ensures.kept) h) c.next_decl.ensures;
    }
