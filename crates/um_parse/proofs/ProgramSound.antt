-- The tokens of a program that were read are those of the state; what isn't refused begins a program; what is found is one.
use Rattle.std.proofs.Common.{◌≡◌, ◌≢◌, ◌⊎◌, Bool, true, false, cond, List, [], ◌∷◌, ◌++◌, Option, Some, None, refl, sym, subst, inl, inr}
use Rattle.std.proofs.lemmas.List.{append-nil}
use Rattle.um_syntax.specs.declared.token.Token.{Token}
use Rattle.um_tree.specs.RawTree.{DeclSyntax}
use Rattle.um_reader.specs.Machine.{runs}
use Rattle.um_reader.proofs.Reaching.{runs_sound}
use Rattle.um_reader.proofs.Readers.{none_some, some_same}
use Rattle.um_parse.specs.DeclGrammar.{DeclSpells, DeclsSpell, DeclFits, DeclsFit, IsProgram}
use Rattle.um_decls.specs.DeclMachine.{DeclBegin, DeclState, Expects, NoDecl, decl_step, decl_finish, ProgramState, InProgram, NoProgram, program_goes, next_decl, program_step, at_start, program_found, program_finish}
use Rattle.um_parse.proofs.DeclPrefixes.{DeclSpellsPrefix}
use Rattle.um_parse.proofs.DeclSound.{decl_sound, decl_found}
use Rattle.um_parse.proofs.DeclCompletions.{decl_ending, decl_completed, decl_can_end}

abbrev pub ProgramSpellsPrefix : ProgramState → List Token → List Token → Type 0
ProgramSpellsPrefix (InProgram decls d) tokens rest = (mid : List Token) × DeclsSpell decls tokens mid × DeclsFit decls × DeclSpellsPrefix d mid rest × (d ≢ NoDecl)
ProgramSpellsPrefix NoProgram tokens rest = Unit {0}

decls_last : (decls : List DeclSyntax) (d : DeclSyntax) (tokens mid rest : List Token) → DeclsSpell decls tokens mid → DeclSpells d mid rest → DeclsSpell (decls ++ d ∷ []) tokens rest
decls_last [] d tokens mid rest e s = (rest, subst (λ w. DeclSpells d w rest) (sym e) s, refl)
decls_last (c ∷ decls) d tokens mid rest h s = (h.0, h.1, decls_last decls d h.0 mid rest h.2 s)

decls_fit : (decls : List DeclSyntax) (d : DeclSyntax) → DeclsFit decls → DeclFits d → DeclsFit (decls ++ d ∷ [])
decls_fit [] d h fits = (fits, tt)
decls_fit (c ∷ decls) d h fits = (h.0, decls_fit decls d h.1 fits)

goes_sound : (decls : List DeclSyntax) (d : DeclState) (over : ProgramState) (tokens mid rest : List Token) → DeclsSpell decls tokens mid → DeclsFit decls → DeclSpellsPrefix d mid rest
    → ProgramSpellsPrefix over tokens rest → ProgramSpellsPrefix (program_goes decls d over) tokens rest
goes_sound decls NoDecl over tokens mid rest s f h o = o
goes_sound decls _ over tokens mid rest s f h o = (mid, s, f, h, λ e. cc)

next_sound : (decls : List DeclSyntax) (d : DeclState) (found : Option DeclSyntax) (x : Token) (tokens mid rest : List Token) → DeclsSpell decls tokens mid → DeclsFit decls → DeclSpellsPrefix d mid (x ∷ rest)
    → decl_finish d ≡ found → ProgramSpellsPrefix (next_decl decls found (decl_step (Expects DeclBegin) x)) tokens rest
next_sound decls d None x tokens mid rest s f h e = tt
next_sound decls d (Some c) x tokens mid rest s f h e =
    let p = decl_found d c mid (x ∷ rest) h e in
    goes_sound (decls ++ c ∷ []) (decl_step (Expects DeclBegin) x) NoProgram tokens (x ∷ rest) rest (decls_last decls c tokens mid (x ∷ rest) s p.0) (decls_fit decls c f p.1)
    (decl_sound (Expects DeclBegin) x (x ∷ rest) rest (refl, tt)) tt

-- the token that is read goes over to the state
pub program_sound : (st : ProgramState) (x : Token) (tokens rest : List Token) → ProgramSpellsPrefix st tokens (x ∷ rest) → ProgramSpellsPrefix (program_step st x) tokens rest
program_sound (InProgram decls d) x tokens rest h =
    goes_sound decls (decl_step d x) (next_decl decls (decl_finish d) (decl_step (Expects DeclBegin) x)) tokens h.0 rest h.1 h.2 (decl_sound d x h.0 rest h.3)
    (next_sound decls d (decl_finish d) x tokens h.0 rest h.1 h.2 h.3 refl)
program_sound NoProgram x tokens rest h = tt

begin_on : Expects DeclBegin ≢ NoDecl
begin_on e = cc

pub spells_prefix : (read rest : List Token) → ProgramSpellsPrefix (runs program_step (InProgram [] (Expects DeclBegin)) read) (read ++ rest) rest
spells_prefix read rest = runs_sound program_step ProgramSpellsPrefix program_sound read (InProgram [] (Expects DeclBegin)) (read ++ rest) rest (read ++ rest, refl, tt, (refl, tt), begin_on)

-- ---- what can follow

abbrev pub program_ending : ProgramState → List Token
program_ending (InProgram decls d) = decl_ending d
program_ending NoProgram = []

abbrev pub program_completed : ProgramState → List DeclSyntax
program_completed (InProgram decls d) = decls ++ decl_completed d ∷ []
program_completed NoProgram = []

program_can_end : (st : ProgramState) (tokens rest : List Token) → ProgramSpellsPrefix st tokens (program_ending st ++ rest) → st ≢ NoProgram
    → DeclsSpell (program_completed st) tokens rest × DeclsFit (program_completed st)
program_can_end (InProgram decls d) tokens rest h ok =
    let p = decl_can_end d h.0 rest h.3 h.4 in (decls_last decls (decl_completed d) tokens h.0 rest h.1 p.0, decls_fit decls (decl_completed d) h.2 p.1)
program_can_end NoProgram tokens rest h ok = absurd (ok refl)

-- what isn't refused can be completed to a program
pub can_go_on : (read : List Token) → runs program_step (InProgram [] (Expects DeclBegin)) read ≢ NoProgram
    → IsProgram (read ++ program_ending (runs program_step (InProgram [] (Expects DeclBegin)) read)) (program_completed (runs program_step (InProgram [] (Expects DeclBegin)) read))
can_go_on read ok =
    let st : ProgramState = runs program_step (InProgram [] (Expects DeclBegin)) read in
    let more : List Token = program_ending st in
    let p = program_can_end st (read ++ more) [] (subst (λ w. ProgramSpellsPrefix st (read ++ more) w) (sym (append-nil more)) (spells_prefix read more)) ok in
    record { spelled = p.0; fits = p.1 }

-- ---- what is found

pub start_is : (d : DeclState) → at_start d ≡ true → d ≡ Expects DeclBegin
start_is (Expects DeclBegin) here = refl
start_is _ here = absurd cc

-- no declaration has begun, or the last one is found
pub found_is : (decls : List DeclSyntax) (d : DeclState) (ds : List DeclSyntax) → program_finish (InProgram decls d) ≡ Some ds
    → ((d ≡ Expects DeclBegin) × (decls ≡ ds)) ⊎ ((c : DeclSyntax) × (decl_finish d ≡ Some c) × (decls ++ c ∷ [] ≡ ds))
found_is decls d ds e = by (at_start d) refl e
  where
    last : (o : Option DeclSyntax) → decl_finish d ≡ o → program_found decls o ≡ Some ds → (c : DeclSyntax) × (decl_finish d ≡ Some c) × (decls ++ c ∷ [] ≡ ds)
    last (Some c) is f = (c, is, some_same (decls ++ c ∷ []) ds f)
    last None is f = absurd (none_some ds f)

    by : (b : Bool) → at_start d ≡ b → cond b (Some decls) (program_found decls (decl_finish d)) ≡ Some ds
        → ((d ≡ Expects DeclBegin) × (decls ≡ ds)) ⊎ ((c : DeclSyntax) × (decl_finish d ≡ Some c) × (decls ++ c ∷ [] ≡ ds))
    by true here f = inl (start_is d here, some_same decls ds f)
    by false later f = inr (last (decl_finish d) refl f)

program_is : (st : ProgramState) (ds : List DeclSyntax) (tokens rest : List Token) → ProgramSpellsPrefix st tokens rest → program_finish st ≡ Some ds → DeclsSpell ds tokens rest × DeclsFit ds
program_is (InProgram decls d) ds tokens rest h e =
    elim (found_is decls d ds e) [
      | inl w ↦
          let here : DeclSpellsPrefix (Expects DeclBegin) h.0 rest = subst (λ s. DeclSpellsPrefix s h.0 rest) w.0 h.3 in
          subst (λ cs. DeclsSpell cs tokens rest × DeclsFit cs) w.1 (subst (λ r. DeclsSpell decls tokens r) here.0 h.1, h.2)
      | inr w ↦
          let p = decl_found d w.0 h.0 rest h.3 w.1 in
          subst (λ cs. DeclsSpell cs tokens rest × DeclsFit cs) w.2 (decls_last decls w.0 tokens h.0 rest h.1 p.0, decls_fit decls w.0 h.2 p.1)
    ]
program_is NoProgram ds tokens rest h e = absurd (none_some ds e)

-- what is found is a program
pub found : (tokens : List Token) (ds : List DeclSyntax) → program_finish (runs program_step (InProgram [] (Expects DeclBegin)) tokens) ≡ Some ds → IsProgram tokens ds
found tokens ds e =
    let p = program_is (runs program_step (InProgram [] (Expects DeclBegin)) tokens) ds tokens [] (subst (λ w. ProgramSpellsPrefix (runs program_step (InProgram [] (Expects DeclBegin)) tokens) w []) (append-nil tokens) (spells_prefix tokens [])) e in
    record { spelled = p.0; fits = p.1 }
