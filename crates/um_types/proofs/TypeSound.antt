-- The tokens of a type text that were read are those of the state, and what stands in it fits.
use Rattle.std.proofs.Common.{◌≡◌, ◌≢◌, ℕ, zero, suc, List, [], ◌∷◌, ◌++◌, Option, Some, None, refl, sym, subst}
use Rattle.um_syntax.specs.declared.token.Token.{Token}
use Rattle.um_syntax.specs.declared.token.Kind.{Kind}
use Rattle.um_syntax.specs.declared.token.Kind.TheVariants as kind
use Rattle.um_vocabulary.specs.declared.vocabulary.Keyword.TheVariants as keyword
use Rattle.um_vocabulary.specs.declared.vocabulary.Symbol.TheVariants as symbol
use Rattle.um_tree.specs.RawTree.{NoteSyntax, TypeSyntax, bool_syntax, num_syntax, record_syntax, list_type_syntax, bracket_type_syntax}
use Rattle.um_unit_texts.specs.UnitMachine.{State}
use Rattle.um_types.specs.TypeGrammar.{FirstSign, FirstWord, FirstKindAt, FirstName, NoteSpells, NotesSpell, AngledSpell, TypeSpells, NoteFits, NotesFit, TypeFits}
use Rattle.um_types.specs.NoteMachine.{NoteState, NeedNote, HaveHole, InUnit, NoNote, note_step, note_finish}
use Rattle.um_types.specs.TypeMachine.{Owner, OfNum, OfName, TypeState, NeedType, HaveType, InNote, NoType, type_begin, open_angle, close_bracket, type_after, owned, next_note, note_end, note_ends, note_goes, type_step, type_finish}
use Rattle.um_types.proofs.NoteLaws.{NoteSpellsPrefix, note_sound, note_found}

-- so many opening brackets
abbrev pub OpenBrackets : ℕ → List Token → List Token → Type 0
OpenBrackets zero tokens rest = tokens ≡ rest
OpenBrackets (suc depth) tokens rest = (mid : List Token) × OpenBrackets depth tokens mid × FirstSign symbol.LeftParen mid rest

-- each note with the comma after it
abbrev pub FrontSpells : List NoteSyntax → List Token → List Token → Type 0
FrontSpells [] tokens rest = tokens ≡ rest
FrontSpells (n ∷ ns) tokens rest = (mid next : List Token) × NoteSpells n tokens mid × FirstSign symbol.Comma mid next × FrontSpells ns next rest

-- what stands before the note
abbrev pub OwnerSpells : Owner → List Token → List Token → Type 0
OwnerSpells OfNum tokens rest = (mid : List Token) × FirstWord keyword.Num tokens mid × FirstSign symbol.Less mid rest
OwnerSpells (OfName at x earlier) tokens rest = (mid next : List Token) × FirstName at x tokens mid × FirstSign symbol.Less mid next × FrontSpells earlier next rest

abbrev pub OwnerFits : Owner → Type 0
OwnerFits OfNum = Unit {0}
OwnerFits (OfName at x earlier) = NotesFit earlier

-- the tokens up to the rest are those of the state
abbrev pub TypeSpellsPrefix : TypeState → List Token → List Token → Type 0
TypeSpellsPrefix (NeedType depth) tokens rest = OpenBrackets depth tokens rest
TypeSpellsPrefix (HaveType depth t) tokens rest = (mid : List Token) × OpenBrackets depth tokens mid × TypeSpells t mid rest × TypeFits t
TypeSpellsPrefix (InNote depth owner n) tokens rest = (mid next : List Token) × OpenBrackets depth tokens mid × OwnerSpells owner mid next × OwnerFits owner × NoteSpellsPrefix n next rest × (n ≢ NoNote)
TypeSpellsPrefix NoType tokens rest = Unit {0}

-- ---- notes

notes_last : (earlier : List NoteSyntax) (n : NoteSyntax) (tokens mid rest : List Token) → FrontSpells earlier tokens mid → NoteSpells n mid rest → NotesSpell (earlier ++ n ∷ []) tokens rest
notes_last [] n tokens mid rest e s = subst (λ w. NoteSpells n w rest) (sym e) s
notes_last (m ∷ []) n tokens mid rest f s = (f.0, f.1, f.2, f.3, subst (λ w. NoteSpells n w rest) (sym f.4) s)
notes_last (m ∷ k ∷ ns) n tokens mid rest f s = (f.0, f.1, f.2, f.3, notes_last (k ∷ ns) n f.1 mid rest f.4 s)

front_last : (earlier : List NoteSyntax) (n : NoteSyntax) (tokens mid next rest : List Token) → FrontSpells earlier tokens mid → NoteSpells n mid next → FirstSign symbol.Comma next rest
    → FrontSpells (earlier ++ n ∷ []) tokens rest
front_last [] n tokens mid next rest e s c = (next, rest, subst (λ w. NoteSpells n w next) (sym e) s, c, refl)
front_last (m ∷ ns) n tokens mid next rest f s c = (f.0, f.1, f.2, f.3, front_last ns n f.1 mid next rest f.4 s c)

pub fits_last : (earlier : List NoteSyntax) (n : NoteSyntax) → NotesFit earlier → NoteFits n → NotesFit (earlier ++ n ∷ [])
fits_last [] n h fits = (fits, tt)
fits_last (m ∷ ns) n h fits = (h.0, fits_last ns n h.1 fits)

angled_last : (earlier : List NoteSyntax) (n : NoteSyntax) (tokens next last rest : List Token) → FirstSign symbol.Less tokens next → NotesSpell (earlier ++ n ∷ []) next last
    → FirstSign symbol.Greater last rest → AngledSpell (earlier ++ n ∷ []) tokens rest
angled_last [] n tokens next last rest less s greater = (next, last, less, s, greater)
angled_last (m ∷ ns) n tokens next last rest less s greater = (next, last, less, s, greater)

-- the type that its last note ends
pub owned_spells : (owner : Owner) (n : NoteSyntax) (tokens mid next rest : List Token) → OwnerSpells owner tokens mid → NoteSpells n mid next → FirstSign symbol.Greater next rest
    → TypeSpells (owned owner n) tokens rest
owned_spells OfNum n tokens mid next rest o s g = (o.0, o.1, (mid, next, o.2, s, g))
owned_spells (OfName at x earlier) n tokens mid next rest o s g = (o.0, o.2, angled_last earlier n o.0 o.1 next rest o.3 (notes_last earlier n o.1 mid next o.4 s) g)

pub owned_fits : (owner : Owner) (n : NoteSyntax) → OwnerFits owner → NoteFits n → TypeFits (owned owner n)
owned_fits OfNum n o fits = (fits, tt)
owned_fits (OfName at x earlier) n o fits = fits_last earlier n o fits

need_is : NeedNote ≢ NoNote
need_is e = cc

hole_is : (at : ℕ) → HaveHole at ≢ NoNote
hole_is at e = cc

unit_is : (at : ℕ) (u : State) → InUnit at u ≢ NoNote
unit_is at u e = cc

-- ---- one token

begin_sound : (depth : ℕ) (what : Kind) (at : ℕ) (tokens mid rest : List Token) → OpenBrackets depth tokens mid → FirstKindAt what at mid rest → TypeSpellsPrefix (type_begin depth what at) tokens rest
begin_sound depth (kind.Name x) at tokens mid rest o f = (mid, o, (rest, f, refl), tt)
begin_sound depth (kind.Word keyword.Num) at tokens mid rest o f = (mid, o, (rest, (f.0, f.1, f.3), refl), tt)
begin_sound depth (kind.Word keyword.Bool) at tokens mid rest o f = (mid, o, (f.0, f.1, f.3), tt)
begin_sound depth (kind.Sign symbol.LeftParen) at tokens mid rest o f = (mid, o, (f.0, f.1, f.3))
begin_sound depth _ at tokens mid rest o f = tt

angle_sound : (depth : ℕ) (t : TypeSyntax) (tokens mid next rest : List Token) → OpenBrackets depth tokens mid → TypeSpells t mid next → FirstSign symbol.Less next rest
    → TypeSpellsPrefix (open_angle depth t) tokens rest
angle_sound depth (num_syntax None) tokens mid next rest o s f = (mid, rest, o, (s.0, s.1, subst (λ w. FirstSign symbol.Less w rest) (sym s.2) f), tt, refl, need_is)
angle_sound depth (num_syntax (Some n)) tokens mid next rest o s f = tt
angle_sound depth (record_syntax at x []) tokens mid next rest o s f = (mid, rest, o, (s.0, rest, s.1, subst (λ w. FirstSign symbol.Less w rest) (sym s.2) f, refl), tt, refl, need_is)
angle_sound depth (record_syntax at x (n ∷ ns)) tokens mid next rest o s f = tt
angle_sound depth bool_syntax tokens mid next rest o s f = tt
angle_sound depth (list_type_syntax t) tokens mid next rest o s f = tt
angle_sound depth (bracket_type_syntax t) tokens mid next rest o s f = tt

close_sound : (depth : ℕ) (t : TypeSyntax) (tokens mid next rest : List Token) → OpenBrackets depth tokens mid → TypeSpells t mid next → TypeFits t → FirstSign symbol.RightParen next rest
    → TypeSpellsPrefix (close_bracket depth t) tokens rest
close_sound zero t tokens mid next rest o s fits f = tt
close_sound (suc depth) t tokens mid next rest o s fits f = (o.0, o.1, (mid, next, o.2, s, f), fits)

after_sound : (depth : ℕ) (t : TypeSyntax) (what : Kind) (at : ℕ) (tokens mid next rest : List Token) → OpenBrackets depth tokens mid → TypeSpells t mid next → TypeFits t → FirstKindAt what at next rest
    → TypeSpellsPrefix (type_after depth t what) tokens rest
after_sound depth t (kind.Word keyword.List) at tokens mid next rest o s fits f = (mid, o, (next, s, (f.0, f.1, f.3)), fits)
after_sound depth t (kind.Sign symbol.RightParen) at tokens mid next rest o s fits f = close_sound depth t tokens mid next rest o s fits (f.0, f.1, f.3)
after_sound depth t (kind.Sign symbol.Less) at tokens mid next rest o s fits f = angle_sound depth t tokens mid next rest o s (f.0, f.1, f.3)
after_sound depth t _ at tokens mid next rest o s fits f = tt

comma_sound : (depth : ℕ) (owner : Owner) (n : NoteSyntax) (tokens mid next last rest : List Token) → OpenBrackets depth tokens mid → OwnerSpells owner mid next → OwnerFits owner
    → NoteSpells n next last → NoteFits n → FirstSign symbol.Comma last rest → TypeSpellsPrefix (next_note depth owner n) tokens rest
comma_sound depth OfNum n tokens mid next last rest o w wf s fits f = tt
comma_sound depth (OfName at x earlier) n tokens mid next last rest o w wf s fits f =
    (mid, rest, o, (w.0, w.1, w.2, w.3, front_last earlier n w.1 next last rest w.4 s f), fits_last earlier n wf fits, refl, need_is)

end_sound : (depth : ℕ) (owner : Owner) (n : NoteSyntax) (what : Kind) (at : ℕ) (tokens mid next last rest : List Token) → OpenBrackets depth tokens mid → OwnerSpells owner mid next
    → OwnerFits owner → NoteSpells n next last → NoteFits n → FirstKindAt what at last rest → TypeSpellsPrefix (note_end depth owner n what) tokens rest
end_sound depth owner n (kind.Sign symbol.Greater) at tokens mid next last rest o w wf s fits f =
    (mid, o, owned_spells owner n mid next last rest w s (f.0, f.1, f.3), owned_fits owner n wf fits)
end_sound depth owner n (kind.Sign symbol.Comma) at tokens mid next last rest o w wf s fits f = comma_sound depth owner n tokens mid next last rest o w wf s fits (f.0, f.1, f.3)
end_sound depth owner n _ at tokens mid next last rest o w wf s fits f = tt

ends_sound : (depth : ℕ) (owner : Owner) (n : NoteState) (found : Option NoteSyntax) (x : Token) (tokens rest : List Token) → TypeSpellsPrefix (InNote depth owner n) tokens (x ∷ rest)
    → note_finish n ≡ found → TypeSpellsPrefix (note_ends depth owner found x.kind) tokens rest
ends_sound depth owner n None x tokens rest h e = tt
ends_sound depth owner n (Some m) x tokens rest h e =
    let p = note_found n m h.1 (x ∷ rest) h.5 e in
    end_sound depth owner m x.kind x.start tokens h.0 h.1 (x ∷ rest) rest h.2 h.3 h.4 p.0 p.1 (x, refl, refl, refl)

-- the note goes on, or ends
goes_sound : (depth : ℕ) (owner : Owner) (n : NoteState) (ended : TypeState) (tokens mid next rest : List Token) → OpenBrackets depth tokens mid → OwnerSpells owner mid next → OwnerFits owner
    → NoteSpellsPrefix n next rest → TypeSpellsPrefix ended tokens rest → TypeSpellsPrefix (note_goes depth owner n ended) tokens rest
goes_sound depth owner NeedNote ended tokens mid next rest o w wf s h = (mid, next, o, w, wf, s, need_is)
goes_sound depth owner (HaveHole at) ended tokens mid next rest o w wf s h = (mid, next, o, w, wf, s, hole_is at)
goes_sound depth owner (InUnit at u) ended tokens mid next rest o w wf s h = (mid, next, o, w, wf, s, unit_is at u)
goes_sound depth owner NoNote ended tokens mid next rest o w wf s h = h

-- the token that is read goes over to the state
pub type_sound : (st : TypeState) (x : Token) (tokens rest : List Token) → TypeSpellsPrefix st tokens (x ∷ rest) → TypeSpellsPrefix (type_step st x) tokens rest
type_sound (NeedType depth) x tokens rest h = begin_sound depth x.kind x.start tokens (x ∷ rest) rest h (x, refl, refl, refl)
type_sound (HaveType depth t) x tokens rest h = after_sound depth t x.kind x.start tokens h.0 (x ∷ rest) rest h.1 h.2 h.3 (x, refl, refl, refl)
type_sound (InNote depth owner n) x tokens rest h =
    goes_sound depth owner (note_step n x) (note_ends depth owner (note_finish n) x.kind) tokens h.0 h.1 rest h.2 h.3 h.4 (note_sound n x h.1 rest h.5)
    (ends_sound depth owner n (note_finish n) x tokens rest h refl)
type_sound NoType x tokens rest h = tt

-- what is found is a type text
pub type_found : (st : TypeState) (t : TypeSyntax) (tokens rest : List Token) → TypeSpellsPrefix st tokens rest → type_finish st ≡ Some t → TypeSpells t tokens rest × TypeFits t
type_found (HaveType zero u) t tokens rest h e =
    let same : u ≡ t = cc in subst (λ w. TypeSpells w tokens rest × TypeFits w) same (subst (λ w. TypeSpells u w rest) (sym h.1) h.2, h.3)
type_found (HaveType (suc depth) u) t tokens rest h e = absurd cc
type_found (NeedType depth) t tokens rest h e = absurd cc
type_found (InNote depth owner n) t tokens rest h e = absurd cc
type_found NoType t tokens rest h e = absurd cc
