-- The machines of unit texts, notes and types read their grammars.
use Rattle.std.proofs.Common.{◌≡◌, ◌≢◌, List, [], ◌++◌, Some, refl, sym, ap, subst, ◌∙◌}
use Rattle.std.proofs.lemmas.List.{append-nil}
use Rattle.um_syntax.specs.declared.token.Token.{Token}
use Rattle.um_tree.specs.RawTree.{UnitSyntax, NoteSyntax, TypeSyntax}
use Rattle.um_tree.specs.Heights.{unit_height}
use Rattle.um_reader.specs.Machine.{runs, IsReaderOf}
use Rattle.um_reader.proofs.Reaching.{reaches_all, runs_sound}
use Rattle.um_unit_texts.specs.UnitGrammar.{IsUnit}
use Rattle.um_types.specs.TypeGrammar.{IsNote, IsType}
use Rattle.um_types.specs.TypeHeights.{note_height, whole_height}
use Rattle.um_unit_texts.specs.UnitMachine.{Need, Refused, run}
use Rattle.um_unit_texts.specs.UnitLeast.{least, machine_of_units}
use Rattle.um_types.specs.NoteMachine.{NeedNote, NoNote, note_step, note_finish, note_least, machine_of_notes}
use Rattle.um_types.specs.TypeMachine.{NeedType, HaveType, NoType, type_step, type_finish, type_least, machine_of_types}
use Rattle.um_unit_texts.proofs.UnitLaws.{ending_of, completed, can_go_on, finds, found}
use Rattle.um_unit_texts.proofs.UnitHeights.{completed_height, unit_up, found_height}
use Rattle.um_types.proofs.NoteComplete.{note_into, note_reaches, note_finds}
use Rattle.um_types.proofs.NoteLaws.{NoteSpellsPrefix, note_sound, note_found, note_ending, note_completed, note_can_end, note_completed_height, note_up, note_found_height}
use Rattle.um_types.proofs.TypeComplete.{type_reaches}
use Rattle.um_types.proofs.TypeSound.{TypeSpellsPrefix, type_sound, type_found}
use Rattle.um_types.proofs.TypeLaws.{type_ending, type_completed, type_can_end, type_completed_height, type_up, type_found_height}

-- ---- unit texts

unit_ends : (tokens : List Token) → run (Need []) tokens ≢ Refused → (more : List Token) × (t : UnitSyntax) × IsUnit (tokens ++ more) t × (unit_height t ≡ least (run (Need []) tokens))
unit_ends tokens ok = (ending_of (run (Need []) tokens), completed (run (Need []) tokens), can_go_on tokens ok, completed_height (run (Need []) tokens) ok)

pub units_read : IsReaderOf machine_of_units IsUnit unit_height
units_read = record { stays = λ token. refl; nothing = refl; finds = finds; found = found; completed = unit_ends; up = unit_up; same_height = found_height }

-- ---- notes

note_spells_prefix : (read rest : List Token) → NoteSpellsPrefix (runs note_step NeedNote read) (read ++ rest) rest
note_spells_prefix read rest = runs_sound note_step NoteSpellsPrefix note_sound read NeedNote (read ++ rest) rest refl

note_reads : (tokens : List Token) (n : NoteSyntax) → IsNote tokens n → note_finish (runs note_step NeedNote tokens) ≡ Some n
note_reads tokens n p = ap note_finish (reaches_all note_step NoNote NeedNote (note_into n) tokens (note_reaches n tokens [] p.spelled p.fits)) ∙ note_finds n p.fits

note_is : (tokens : List Token) (n : NoteSyntax) → note_finish (runs note_step NeedNote tokens) ≡ Some n → IsNote tokens n
note_is tokens n e =
    let st = runs note_step NeedNote tokens in
    let p = note_found st n tokens [] (subst (λ w. NoteSpellsPrefix st w []) (append-nil tokens) (note_spells_prefix tokens [])) e in
    record { spelled = p.0; fits = p.1 }

note_ends : (tokens : List Token) → runs note_step NeedNote tokens ≢ NoNote → (more : List Token) × (n : NoteSyntax) × IsNote (tokens ++ more) n × (note_height n ≡ note_least (runs note_step NeedNote tokens))
note_ends tokens ok =
    let st = runs note_step NeedNote tokens in
    let more = note_ending st in
    let h : NoteSpellsPrefix st (tokens ++ more) more = note_spells_prefix tokens more in
    let p = note_can_end st (tokens ++ more) [] (subst (λ w. NoteSpellsPrefix st (tokens ++ more) w) (sym (append-nil more)) h) ok in
    (more, note_completed st, record { spelled = p.0; fits = p.1 }, note_completed_height st (tokens ++ more) more h)

pub notes_read : IsReaderOf machine_of_notes IsNote note_height
notes_read = record { stays = λ token. refl; nothing = refl; finds = note_reads; found = note_is; completed = note_ends; up = note_up; same_height = note_found_height }

-- ---- types

type_spells_prefix : (read rest : List Token) → TypeSpellsPrefix (runs type_step (NeedType 0) read) (read ++ rest) rest
type_spells_prefix read rest = runs_sound type_step TypeSpellsPrefix type_sound read (NeedType 0) (read ++ rest) rest refl

type_reads : (tokens : List Token) (t : TypeSyntax) → IsType tokens t → type_finish (runs type_step (NeedType 0) tokens) ≡ Some t
type_reads tokens t p = ap type_finish (reaches_all type_step NoType (NeedType 0) (HaveType 0 t) tokens (type_reaches t 0 tokens [] p.spelled p.fits))

type_is : (tokens : List Token) (t : TypeSyntax) → type_finish (runs type_step (NeedType 0) tokens) ≡ Some t → IsType tokens t
type_is tokens t e =
    let st = runs type_step (NeedType 0) tokens in
    let p = type_found st t tokens [] (subst (λ w. TypeSpellsPrefix st w []) (append-nil tokens) (type_spells_prefix tokens [])) e in
    record { spelled = p.0; fits = p.1 }

type_ends : (tokens : List Token) → runs type_step (NeedType 0) tokens ≢ NoType
    → (more : List Token) × (t : TypeSyntax) × IsType (tokens ++ more) t × (whole_height t ≡ type_least (runs type_step (NeedType 0) tokens))
type_ends tokens ok =
    let st = runs type_step (NeedType 0) tokens in
    let more = type_ending st in
    let h : TypeSpellsPrefix st (tokens ++ more) more = type_spells_prefix tokens more in
    let p = type_can_end st (tokens ++ more) [] (subst (λ w. TypeSpellsPrefix st (tokens ++ more) w) (sym (append-nil more)) h) ok in
    (more, type_completed st, record { spelled = p.0; fits = p.1 }, type_completed_height st (tokens ++ more) more h ok)

pub types_read : IsReaderOf machine_of_types IsType whole_height
types_read = record { stays = λ token. refl; nothing = refl; finds = type_reads; found = type_is; completed = type_ends; up = type_up; same_height = type_found_height }
