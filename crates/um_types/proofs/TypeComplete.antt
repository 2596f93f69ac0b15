-- What a type text spells is read as it, inside any brackets, whatever follows.
use Rattle.std.proofs.Common.{◌≡◌, ◌≢◌, ℕ, suc, Bool, true, false, List, [], ◌∷◌, ◌++◌, Option, Some, None, refl, ap, subst, ◌∙◌, append_assoc}
use Rattle.std.proofs.lemmas.Bool.{false≢true}
use Rattle.um_syntax.specs.declared.token.Token.{Token}
use Rattle.um_syntax.specs.declared.token.Kind.{Kind}
use Rattle.um_syntax.specs.declared.token.Kind.TheVariants as kind
use Rattle.um_vocabulary.specs.declared.vocabulary.Keyword.TheVariants as keyword
use Rattle.um_vocabulary.specs.declared.vocabulary.Symbol.TheVariants as symbol
use Rattle.um_tree.specs.RawTree.{NoteSyntax, TypeSyntax, bool_syntax, num_syntax, record_syntax, list_type_syntax, bracket_type_syntax}
use Rattle.um_unit_texts.specs.UnitTokens.{unit_token}
use Rattle.um_types.specs.TypeGrammar.{FirstKind, FirstSign, NoteSpells, NotesSpell, AngledSpell, TypeSpells, NoteFits, NotesFit, TypeFits, at_most_one}
use Rattle.um_reader.specs.Machine.{Reaches}
use Rattle.um_types.specs.NoteMachine.{NoteState, NeedNote, HaveHole, InUnit, NoNote, note_step, note_finish}
use Rattle.um_types.specs.TypeMachine.{Owner, OfNum, OfName, TypeState, NeedType, HaveType, InNote, NoType, type_begin, type_after, note_end, note_ends, note_goes, type_act, type_step}
use Rattle.um_reader.proofs.Reaching.{reaches_one, reaches_then, reaches_inside}
use Rattle.um_unit_texts.specs.UnitMachine.{is_foreign}
use Rattle.um_types.proofs.NoteComplete.{note_into, note_reaches, note_finds, note_stops}

abbrev pub TypeReaches : TypeState → List Token → TypeState → List Token → Type 0
TypeReaches old tokens new rest = Reaches type_step NoType old tokens new rest

need_is : (depth : ℕ) → NeedType depth ≢ NoType
need_is depth e = cc

have_is : (depth : ℕ) (t : TypeSyntax) → HaveType depth t ≢ NoType
have_is depth t e = cc

note_is : (depth : ℕ) (owner : Owner) (n : NoteState) → InNote depth owner n ≢ NoType
note_is depth owner n e = cc

pub type_then : (a b c : TypeState) (s t r : List Token) → TypeReaches a s b t → TypeReaches b t c r → TypeReaches a s c r
type_then a b c s t r p q = reaches_then type_step NoType a b c s t r p q

-- ---- one token

begins_with : (depth : ℕ) (what : Kind) (new : TypeState) (tokens rest : List Token) → FirstKind what tokens rest → ((at : ℕ) → type_begin depth what at ≡ new) → new ≢ NoType
    → TypeReaches (NeedType depth) tokens new rest
begins_with depth what new tokens rest f step ok =
    reaches_one type_step NoType (NeedType depth) new f.0 tokens rest f.2 (ap (λ w. type_begin depth w f.0.start) f.1 ∙ step f.0.start) ok

goes_with : (depth : ℕ) (t : TypeSyntax) (what : Kind) (new : TypeState) (tokens rest : List Token) → FirstKind what tokens rest → type_after depth t what ≡ new → new ≢ NoType
    → TypeReaches (HaveType depth t) tokens new rest
goes_with depth t what new tokens rest f step ok = reaches_one type_step NoType (HaveType depth t) new f.0 tokens rest f.2 (ap (type_after depth t) f.1 ∙ step) ok

-- the token after a note
ends_with : (depth : ℕ) (owner : Owner) (n : NoteSyntax) (what : Kind) (new : TypeState) (tokens rest : List Token) → NoteFits n → FirstKind what tokens rest
    → is_foreign (unit_token what) ≡ true → note_end depth owner n what ≡ new → new ≢ NoType
    → TypeReaches (InNote depth owner (note_into n)) tokens new rest
ends_with depth owner n what new tokens rest fits f other step ok =
    let ended : TypeState = note_ends depth owner (note_finish (note_into n)) f.0.kind in
    reaches_one type_step NoType (InNote depth owner (note_into n)) new f.0 tokens rest f.2
    (
    ap (λ s. note_goes depth owner s ended) (note_stops n f.0.kind f.0.start (ap (λ k. is_foreign (unit_token k)) f.1 ∙ other))
    ∙ ap (λ o. note_ends depth owner o f.0.kind) (note_finds n fits)
    ∙ ap (note_end depth owner n) f.1
    ∙ step
    )
    ok

-- ---- notes

pub note_goes_on : (depth : ℕ) (owner : Owner) (n : NoteState) (ended : TypeState) → n ≢ NoNote → note_goes depth owner n ended ≡ InNote depth owner n
note_goes_on depth owner NeedNote ended ok = refl
note_goes_on depth owner (HaveHole at) ended ok = refl
note_goes_on depth owner (InUnit at u) ended ok = refl
note_goes_on depth owner NoNote ended ok = absurd (ok refl)

note_inside : (depth : ℕ) (owner : Owner) (n new : NoteState) (token : Token) → note_step n token ≡ new → new ≢ NoNote → type_step (InNote depth owner n) token ≡ InNote depth owner new
note_inside depth owner n new token e ok =
    let ended : TypeState = note_ends depth owner (note_finish n) token.kind in
    ap (λ s. note_goes depth owner s ended) e ∙ note_goes_on depth owner new ended ok

-- a note is read
reads_note : (depth : ℕ) (owner : Owner) (n : NoteSyntax) (tokens rest : List Token) → NoteSpells n tokens rest → NoteFits n → TypeReaches (InNote depth owner NeedNote) tokens (InNote depth owner (note_into n)) rest
reads_note depth owner n tokens rest s fits =
    reaches_inside note_step NoNote (λ t. refl) type_step NoType (λ w. InNote depth owner w) (note_inside depth owner) NeedNote (note_into n) tokens rest (note_is depth owner (note_into n))
    (note_reaches n tokens rest s fits)

-- notes with commas, and the closing angle bracket
reads_notes : (ns : List NoteSyntax) (n : NoteSyntax) (depth at : ℕ) (x : List ℕ) (earlier : List NoteSyntax) (tokens mid rest : List Token) → NotesSpell (n ∷ ns) tokens mid → NotesFit (n ∷ ns)
    → FirstSign symbol.Greater mid rest → TypeReaches (InNote depth (OfName at x earlier) NeedNote) tokens (HaveType depth (record_syntax at x (earlier ++ n ∷ ns))) rest
reads_notes [] n depth at x earlier tokens mid rest s fits f =
    let owner : Owner = OfName at x earlier in
    let done : TypeState = HaveType depth (record_syntax at x (earlier ++ n ∷ [])) in
    type_then (InNote depth owner NeedNote) (InNote depth owner (note_into n)) done tokens mid rest (reads_note depth owner n tokens mid s fits.0)
    (ends_with depth owner n (kind.Sign symbol.Greater) done mid rest fits.0 f refl refl (have_is depth (record_syntax at x (earlier ++ n ∷ []))))
reads_notes (m ∷ ns) n depth at x earlier tokens mid rest s fits f =
    let owner : Owner = OfName at x earlier in
    let more : Owner = OfName at x (earlier ++ n ∷ []) in
    let done : TypeState = HaveType depth (record_syntax at x (earlier ++ n ∷ m ∷ ns)) in
    let parts : (earlier ++ n ∷ []) ++ m ∷ ns ≡ earlier ++ n ∷ m ∷ ns = append_assoc earlier (n ∷ []) (m ∷ ns) in
    type_then (InNote depth owner NeedNote) (InNote depth owner (note_into n)) done tokens s.0 rest (reads_note depth owner n tokens s.0 s.2 fits.0)
    (
    type_then (InNote depth owner (note_into n)) (InNote depth more NeedNote) done s.0 s.1 rest
    (ends_with depth owner n (kind.Sign symbol.Comma) (InNote depth more NeedNote) s.0 s.1 fits.0 s.3 refl refl (note_is depth more NeedNote))
    (subst (λ w. TypeReaches (InNote depth more NeedNote) s.1 (HaveType depth (record_syntax at x w)) rest) parts (reads_notes ns m depth at x (earlier ++ n ∷ []) s.1 mid rest s.4 fits.1 f))
    )

-- angle brackets after a name, if there are notes
reads_angled : (ns : List NoteSyntax) (depth at : ℕ) (x : List ℕ) (tokens rest : List Token) → AngledSpell ns tokens rest → NotesFit ns
    → TypeReaches (HaveType depth (record_syntax at x [])) tokens (HaveType depth (record_syntax at x ns)) rest
reads_angled [] depth at x tokens rest s fits = ([], s, refl, have_is depth (record_syntax at x []))
reads_angled (n ∷ ns) depth at x tokens rest s fits =
    let start : TypeState = InNote depth (OfName at x []) NeedNote in
    type_then (HaveType depth (record_syntax at x [])) start (HaveType depth (record_syntax at x (n ∷ ns))) tokens s.0 rest
    (goes_with depth (record_syntax at x []) (kind.Sign symbol.Less) start tokens s.0 s.2 refl (note_is depth (OfName at x []) NeedNote))
    (reads_notes ns n depth at x [] s.0 s.1 rest s.3 fits s.4)

-- and after `num`
reads_note_of_num : (o : Option NoteSyntax) (depth : ℕ) (tokens rest : List Token) → AngledSpell (at_most_one o) tokens rest → NotesFit (at_most_one o)
    → TypeReaches (HaveType depth (num_syntax None)) tokens (HaveType depth (num_syntax o)) rest
reads_note_of_num None depth tokens rest s fits = ([], s, refl, have_is depth (num_syntax None))
reads_note_of_num (Some n) depth tokens rest s fits =
    let start : TypeState = InNote depth OfNum NeedNote in
    let behind : TypeState = InNote depth OfNum (note_into n) in
    let done : TypeState = HaveType depth (num_syntax (Some n)) in
    type_then (HaveType depth (num_syntax None)) start done tokens s.0 rest
    (goes_with depth (num_syntax None) (kind.Sign symbol.Less) start tokens s.0 s.2 refl (note_is depth OfNum NeedNote))
    (
    type_then start behind done s.0 s.1 rest (reads_note depth OfNum n s.0 s.1 s.3 fits.0)
    (ends_with depth OfNum n (kind.Sign symbol.Greater) done s.1 rest fits.0 s.4 refl refl (have_is depth (num_syntax (Some n))))
    )

-- ---- types

pub type_reaches : (t : TypeSyntax) (depth : ℕ) (tokens rest : List Token) → TypeSpells t tokens rest → TypeFits t → TypeReaches (NeedType depth) tokens (HaveType depth t) rest
type_reaches bool_syntax depth tokens rest s fits = begins_with depth (kind.Word keyword.Bool) (HaveType depth bool_syntax) tokens rest s (λ at. refl) (have_is depth bool_syntax)
type_reaches (num_syntax o) depth tokens rest s fits =
    type_then (NeedType depth) (HaveType depth (num_syntax None)) (HaveType depth (num_syntax o)) tokens s.0 rest
    (begins_with depth (kind.Word keyword.Num) (HaveType depth (num_syntax None)) tokens s.0 s.1 (λ at. refl) (have_is depth (num_syntax None)))
    (reads_note_of_num o depth s.0 rest s.2 fits)
type_reaches (record_syntax at x ns) depth tokens rest s fits =
    let f = s.1 in
    let named : TypeState = HaveType depth (record_syntax at x []) in
    type_then (NeedType depth) named (HaveType depth (record_syntax at x ns)) tokens s.0 rest
    (
    reaches_one type_step NoType (NeedType depth) named f.0 tokens s.0 f.3
    (ap (λ w. type_begin depth w f.0.start) f.1 ∙ ap (λ a. HaveType depth (record_syntax a x [])) f.2) (have_is depth (record_syntax at x []))
    )
    (reads_angled ns depth at x s.0 rest s.2 fits)
type_reaches (list_type_syntax t) depth tokens rest s fits =
    type_then (NeedType depth) (HaveType depth t) (HaveType depth (list_type_syntax t)) tokens s.0 rest (type_reaches t depth tokens s.0 s.1 fits)
    (goes_with depth t (kind.Word keyword.List) (HaveType depth (list_type_syntax t)) s.0 rest s.2 refl (have_is depth (list_type_syntax t)))
type_reaches (bracket_type_syntax t) depth tokens rest s fits =
    let inner : TypeState = HaveType (suc depth) t in
    let done : TypeState = HaveType depth (bracket_type_syntax t) in
    type_then (NeedType depth) (NeedType (suc depth)) done tokens s.0 rest
    (begins_with depth (kind.Sign symbol.LeftParen) (NeedType (suc depth)) tokens s.0 s.2 (λ at. refl) (need_is (suc depth)))
    (
    type_then (NeedType (suc depth)) inner done s.0 s.1 rest (type_reaches t (suc depth) s.0 s.1 s.3 fits)
    (goes_with (suc depth) t (kind.Sign symbol.RightParen) done s.1 rest s.4 refl (have_is depth (bracket_type_syntax t)))
    )

-- ---- what may follow

-- whether a token of the kind goes on no type text that is whole
abbrev pub ends_type : Kind → Bool
ends_type (kind.Sign symbol.Less) = false
ends_type (kind.Word keyword.List) = false
ends_type _ = true

-- such a token is refused after a type text that was read from the start
pub type_stops : (t : TypeSyntax) (k : Kind) (at : ℕ) → ends_type k ≡ true → type_act (HaveType 0 t) k at ≡ NoType
type_stops t (kind.Sign symbol.Less) at e = absurd (false≢true e)
type_stops t (kind.Word keyword.List) at e = absurd (false≢true e)
type_stops t _ at e = refl
