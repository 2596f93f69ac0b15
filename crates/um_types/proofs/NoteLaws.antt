-- The tokens of a note that were read are those of the state; what isn't refused can be completed; the least height.
use Rattle.std.proofs.Common.{◌≡◌, ◌≢◌, ℕ, ◌≤◌, List, [], ◌∷◌, ◌++◌, Option, Some, None, false, refl, sym, ap, subst, ◌∙◌, arith}
use Rattle.um_syntax.specs.declared.token.Token.{Token}
use Rattle.um_syntax.specs.declared.token.Kind.{Kind}
use Rattle.um_syntax.specs.declared.token.Kind.TheVariants as kind
use Rattle.um_tree.specs.RawTree.{UnitSyntax, NoteSyntax, hole_syntax, unit_note_syntax}
use Rattle.um_unit_texts.specs.UnitTokens.{unit_token}
use Rattle.um_unit_texts.specs.UnitMachine.{Frame, State, Need, Have, Raised, Lowered, Refused, act, unit_step, finish}
use Rattle.um_unit_texts.specs.UnitLeast.{least}
use Rattle.um_types.specs.TypeGrammar.{FirstHole, BeginsAt, NoteSpells, NoteFits}
use Rattle.um_types.specs.TypeHeights.{note_height}
use Rattle.um_types.specs.NoteMachine.{NoteState, NeedNote, HaveHole, InUnit, NoNote, unit_goes, note_begin, note_step, noted, note_finish, note_least}
use Rattle.um_unit_texts.proofs.UnitLaws.{ending_of, completed}
use Rattle.um_unit_texts.proofs.UnitHeights.{completed_height, unit_up, found_height}
use Rattle.um_unit_texts.proofs.UnitNested.{UnitSpellsPrefix, unit_begins, unit_sound, unit_found, unit_can_end}

-- the tokens up to the rest are those of the state
abbrev pub NoteSpellsPrefix : NoteState → List Token → List Token → Type 0
NoteSpellsPrefix NeedNote tokens rest = tokens ≡ rest
NoteSpellsPrefix (HaveHole at) tokens rest = FirstHole at tokens rest
NoteSpellsPrefix (InUnit at u) tokens rest = BeginsAt at tokens × UnitSpellsPrefix u tokens rest
NoteSpellsPrefix NoNote tokens rest = Unit {0}

need_is : (frames : List Frame) → Need frames ≢ Refused
need_is frames e = cc

have_is : (frames : List Frame) (t : UnitSyntax) → Have frames t ≢ Refused
have_is frames t e = cc

raised_is : (frames : List Frame) (t : UnitSyntax) → Raised frames t ≢ Refused
raised_is frames t e = cc

lowered_is : (frames : List Frame) (t : UnitSyntax) → Lowered frames t ≢ Refused
lowered_is frames t e = cc

goes_sound : (at : ℕ) (u : State) (tokens rest : List Token) → BeginsAt at tokens → (u ≢ Refused → UnitSpellsPrefix u tokens rest) → NoteSpellsPrefix (unit_goes at u) tokens rest
goes_sound at (Need frames) tokens rest b h = (b, h (need_is frames))
goes_sound at (Have frames t) tokens rest b h = (b, h (have_is frames t))
goes_sound at (Raised frames t) tokens rest b h = (b, h (raised_is frames t))
goes_sound at (Lowered frames t) tokens rest b h = (b, h (lowered_is frames t))
goes_sound at Refused tokens rest b h = tt

first_sound : (k : Kind) (at : ℕ) (x : Token) (tokens rest : List Token) → x.kind ≡ k → x.start ≡ at → tokens ≡ x ∷ rest → NoteSpellsPrefix (unit_goes at (act (Need []) (unit_token k) at)) tokens rest
first_sound k at x tokens rest ek ea e =
    let same : unit_step (Need []) x ≡ act (Need []) (unit_token k) at = ap (λ j. act (Need []) (unit_token j) x.start) ek ∙ ap (λ a. act (Need []) (unit_token k) a) ea in
    goes_sound at (act (Need []) (unit_token k) at) tokens rest (x, rest, ea, e)
    (λ ok. subst (λ s. UnitSpellsPrefix s tokens rest) same (unit_sound (Need []) x tokens rest (subst (λ w. UnitSpellsPrefix (Need []) tokens w) e (unit_begins tokens)) (λ h. ok (sym same ∙ h))))

begin_sound : (k : Kind) (at : ℕ) (x : Token) (tokens rest : List Token) → x.kind ≡ k → x.start ≡ at → tokens ≡ x ∷ rest → NoteSpellsPrefix (note_begin k at) tokens rest
begin_sound kind.Hole at x tokens rest ek ea e = (x, ek, ea, e)
begin_sound (kind.Name y) at x tokens rest ek ea e = first_sound (kind.Name y) at x tokens rest ek ea e
begin_sound (kind.Var y) at x tokens rest ek ea e = first_sound (kind.Var y) at x tokens rest ek ea e
begin_sound (kind.Number value digits one) at x tokens rest ek ea e = first_sound (kind.Number value digits one) at x tokens rest ek ea e
begin_sound (kind.Word k) at x tokens rest ek ea e = first_sound (kind.Word k) at x tokens rest ek ea e
begin_sound (kind.Sign k) at x tokens rest ek ea e = first_sound (kind.Sign k) at x tokens rest ek ea e

-- the token that is read goes over to the state
pub note_sound : (st : NoteState) (x : Token) (tokens rest : List Token) → NoteSpellsPrefix st tokens (x ∷ rest) → NoteSpellsPrefix (note_step st x) tokens rest
note_sound NeedNote x tokens rest h = begin_sound x.kind x.start x tokens rest refl refl h
note_sound (HaveHole at) x tokens rest h = tt
note_sound (InUnit at u) x tokens rest h = goes_sound at (unit_step u x) tokens rest h.0 (λ ok. unit_sound u x tokens rest h.1 ok)
note_sound NoNote x tokens rest h = tt

noted_is : (at : ℕ) (o : Option UnitSyntax) (n : NoteSyntax) → noted at o ≡ Some n → (u : UnitSyntax) × (o ≡ Some u) × (unit_note_syntax at u ≡ n)
noted_is at (Some u) n e = (u, refl, cc)
noted_is at None n e = absurd cc

-- what is found is a note
pub note_found : (st : NoteState) (n : NoteSyntax) (tokens rest : List Token) → NoteSpellsPrefix st tokens rest → note_finish st ≡ Some n → NoteSpells n tokens rest × NoteFits n
note_found (InUnit at u) n tokens rest h e =
    let w = noted_is at (finish u) n e in
    let p = unit_found u w.0 tokens rest h.1 w.1 in
    subst (λ m. NoteSpells m tokens rest × NoteFits m) w.2 ((h.0, p.0), p.1)
note_found (HaveHole at) n tokens rest h e = let same : hole_syntax at ≡ n = cc in subst (λ m. NoteSpells m tokens rest × NoteFits m) same (h, tt)
note_found NeedNote n tokens rest h e = absurd cc
note_found NoNote n tokens rest h e = absurd cc

-- ---- what can follow

abbrev hole_token : Token
hole_token = record { kind = kind.Hole; start = 0; end = 0; glued = false }

abbrev pub note_ending : NoteState → List Token
note_ending NeedNote = hole_token ∷ []
note_ending (HaveHole at) = []
note_ending (InUnit at u) = ending_of u
note_ending NoNote = []

abbrev pub note_completed : NoteState → NoteSyntax
note_completed NeedNote = hole_syntax 0
note_completed (HaveHole at) = hole_syntax at
note_completed (InUnit at u) = unit_note_syntax at (completed u)
note_completed NoNote = hole_syntax 0

-- what isn't refused can be completed
pub note_can_end : (st : NoteState) (tokens rest : List Token) → NoteSpellsPrefix st tokens (note_ending st ++ rest) → st ≢ NoNote → NoteSpells (note_completed st) tokens rest × NoteFits (note_completed st)
note_can_end NeedNote tokens rest h ok = ((hole_token, refl, refl, h), tt)
note_can_end (HaveHole at) tokens rest h ok = (h, tt)
note_can_end (InUnit at u) tokens rest h ok = let p = unit_can_end u tokens rest h.1 in ((h.0, p.0), p.1)
note_can_end NoNote tokens rest h ok = absurd (ok refl)

-- ---- the least height

-- it is that of the completion
pub note_completed_height : (st : NoteState) (tokens rest : List Token) → NoteSpellsPrefix st tokens rest → note_height (note_completed st) ≡ note_least st
note_completed_height NeedNote tokens rest h = refl
note_completed_height (HaveHole at) tokens rest h = refl
note_completed_height (InUnit at u) tokens rest h = completed_height u h.1.3
note_completed_height NoNote tokens rest h = refl

goes_up : (at n : ℕ) (u : State) → unit_goes at u ≢ NoNote → (u ≢ Refused → n ≤ least u) → n ≤ note_least (unit_goes at u)
goes_up at n (Need frames) ok le = le (need_is frames)
goes_up at n (Have frames t) ok le = le (have_is frames t)
goes_up at n (Raised frames t) ok le = le (raised_is frames t)
goes_up at n (Lowered frames t) ok le = le (lowered_is frames t)
goes_up at n Refused ok le = absurd (ok refl)

-- a token never lowers it
pub note_up : (st : NoteState) (x : Token) → note_step st x ≢ NoNote → note_least st ≤ note_least (note_step st x)
note_up NeedNote x ok = omega arith
note_up (HaveHole at) x ok = absurd (ok refl)
note_up (InUnit at u) x ok = goes_up at (least u) (unit_step u x) ok (λ goes. unit_up u x goes)
note_up NoNote x ok = absurd (ok refl)

-- what is found has it
pub note_found_height : (st : NoteState) (n : NoteSyntax) → note_finish st ≡ Some n → note_height n ≡ note_least st
note_found_height (InUnit at u) n e =
    let w = noted_is at (finish u) n e in ap note_height (sym w.2) ∙ found_height u w.0 w.1
note_found_height (HaveHole at) n e = let same : hole_syntax at ≡ n = cc in ap note_height (sym same)
note_found_height NeedNote n e = absurd cc
note_found_height NoNote n e = absurd cc
