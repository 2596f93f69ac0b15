use Rattle.std.proofs.Common.{◌≡◌, map}
use Rattle.std.proofs.lemmas.Result.{IfOk-weaker}
use Rattle.um_tree.specs.RawTree.{decl_syntax}
use Rattle.um_reader.specs.Takes.{Gives, Takes}
use Rattle.um_unit_texts.specs.UnitStops.{greatest_height}
use Rattle.um_decls.specs.DeclMachine.{DeclBegin, Expects, ProgramState, InProgram, decl_step, decl_finish, next_decl, program_found, program_finish}
use Rattle.um_parse.specs.ProgramLeast.{machine_of_programs}
use Rattle.um_parse.specs.ReaderStates.{reader_state, program_state}
use Rattle.um_decls.proofs.DeclEnds.{ended}
use Rattle.um_parse.proofs.ProgramSteps.{more_low, one_ends}
use Rattle.um_parse.proofs.program_reader.ProgramReader.next_decl.Goals as goal

pub begin-requires-clause-low : goal.begin-requires-clause-low
begin-requires-clause-low c =
    let old = c.args.self.now in
    let new = c.finish.new.decls.items in
    let e = ended _ old.decls.items new (rw c.if-whole.true at c.in_ok-whole.ensures.found) in
    more_low (map decl_syntax old.decls.items) (map decl_syntax new) e.0 (reader_state c.finish.new.self) e.2 c.finish.ensures.start c.requires.decls (c.requires.last e.0 e.1)

pub returns-then-whole : goal.returns-then-whole
returns-then-whole c =
    let old = c.args.self.now in
    let token = c.args.token.now in
    let state = program_state c.begin.new.self in
    let earlier = map decl_syntax old.decls.items in
    let new = map decl_syntax c.finish.new.decls.items in
    let begun = reader_state c.finish.new.self in
    let found = decl_finish (reader_state old.last) in
    let e = ended _ old.decls.items c.finish.new.decls.items (rw c.if-whole.true at c.in_ok-whole.ensures.found) in
    IfOk-weaker c.begin.result (λ t. Takes machine_of_programs greatest_height (InProgram new begun) token t state)
    (λ t. (st : ProgramState) → program_finish st ≡ program_found earlier found → Gives machine_of_programs greatest_height st (next_decl earlier found (decl_step (Expects DeclBegin) token)) t state)
    (λ t h. one_ends earlier new e.0 begun e.2 c.finish.ensures.start found token t state e.1 h) c.begin.ensures
