-- The laws of signature texts: what they spell is read as them, what was read stands, what isn't refused can be completed.
use Rattle.std.proofs.Common.{◌≡◌, ◌≢◌, ℕ, ◌≤◌, max, List, [], ◌∷◌, ◌++◌, Option, Some, None, refl, sym, ap, subst, ◌∙◌, append_assoc, arith}
use Rattle.std.proofs.lemmas.List.{append-nil}
use Rattle.um_syntax.specs.declared.token.Token.{Token}
use Rattle.um_syntax.specs.declared.token.Kind.{Kind}
use Rattle.um_syntax.specs.declared.token.Kind.TheVariants as kind
use Rattle.um_vocabulary.specs.declared.vocabulary.Symbol.TheVariants as symbol
use Rattle.um_tree.specs.RawTree.{TypeSyntax}
use Rattle.um_types.specs.TypeGrammar.{FirstSign, TypeSpells, TypeFits}
use Rattle.um_types.specs.TypeHeights.{whole_height, all_height}
use Rattle.um_types.specs.SignatureGrammar.{TypesSpell, TypesFit, IsSignature}
use Rattle.um_unit_texts.specs.UnitStops.{greatest_height}
use Rattle.um_types.specs.Laws.{SignatureAnswersExclude}
use Rattle.um_reader.specs.Machine.{Reaches, IsReaderOf}
use Rattle.um_types.specs.NoteMachine.{NoteState}
use Rattle.um_types.specs.TypeMachine.{Owner, TypeState, NeedType, HaveType, InNote, NoType, type_after, type_step, type_finish}
use Rattle.um_types.specs.SignatureMachine.{SignatureState, InType, NoSignature, type_end, type_ends, type_goes, signature_step, typed, signature_finish, signature_least, start, machine_of_signatures, read_all}
use Rattle.um_reader.proofs.Reaching.{reaches_one, reaches_then, reaches_inside, reaches_all, runs_sound}
use Rattle.um_reader.proofs.Readers.{unambiguous}
use Rattle.um_reader.proofs.Answers.{one_answer}
use Rattle.um_types.proofs.TypeComplete.{type_reaches}
use Rattle.um_types.proofs.TypeSound.{TypeSpellsPrefix, type_sound, type_found}
use Rattle.um_types.proofs.TypeLaws.{type_ending, type_completed, type_can_end, type_completed_height, type_up, type_found_height}

-- ---- what is spelled is read

abbrev SignatureReaches : SignatureState → List Token → SignatureState → List Token → Type 0
SignatureReaches old tokens new rest = Reaches signature_step NoSignature old tokens new rest

-- the state once types were read after others
abbrev signature_into : List TypeSyntax → TypeSyntax → List TypeSyntax → SignatureState
signature_into earlier t [] = InType earlier (HaveType 0 t)
signature_into earlier t (u ∷ us) = signature_into (earlier ++ t ∷ []) u us

pub in_type : (earlier : List TypeSyntax) (s : TypeState) → InType earlier s ≢ NoSignature
in_type earlier s e = cc

pub type_goes_on : (earlier : List TypeSyntax) (s : TypeState) (ended : SignatureState) → s ≢ NoType → type_goes earlier s ended ≡ InType earlier s
type_goes_on earlier (NeedType depth) ended ok = refl
type_goes_on earlier (HaveType depth t) ended ok = refl
type_goes_on earlier (InNote depth owner n) ended ok = refl
type_goes_on earlier NoType ended ok = absurd (ok refl)

type_inside : (earlier : List TypeSyntax) (s new : TypeState) (token : Token) → type_step s token ≡ new → new ≢ NoType → signature_step (InType earlier s) token ≡ InType earlier new
type_inside earlier s new token e ok =
    let ended : SignatureState = type_ends earlier (type_finish s) token.kind in
    ap (λ w. type_goes earlier w ended) e ∙ type_goes_on earlier new ended ok

reads_type : (earlier : List TypeSyntax) (t : TypeSyntax) (tokens rest : List Token) → TypeSpells t tokens rest → TypeFits t
    → SignatureReaches (InType earlier (NeedType 0)) tokens (InType earlier (HaveType 0 t)) rest
reads_type earlier t tokens rest s fits =
    reaches_inside type_step NoType (λ x. refl) signature_step NoSignature (λ w. InType earlier w) (type_inside earlier) (NeedType 0) (HaveType 0 t) tokens rest (in_type earlier (HaveType 0 t))
    (type_reaches t 0 tokens rest s fits)

reads_arrow : (earlier : List TypeSyntax) (t : TypeSyntax) (tokens rest : List Token) → FirstSign symbol.Arrow tokens rest
    → SignatureReaches (InType earlier (HaveType 0 t)) tokens (InType (earlier ++ t ∷ []) (NeedType 0)) rest
reads_arrow earlier t tokens rest f =
    reaches_one signature_step NoSignature (InType earlier (HaveType 0 t)) (InType (earlier ++ t ∷ []) (NeedType 0)) f.0 tokens rest f.2
    (ap (λ w. type_goes earlier (type_after 0 t w) (type_end earlier t w)) f.1) (in_type (earlier ++ t ∷ []) (NeedType 0))

types_reach : (ts : List TypeSyntax) (t : TypeSyntax) (earlier : List TypeSyntax) (tokens rest : List Token) → TypesSpell (t ∷ ts) tokens rest → TypesFit (t ∷ ts)
    → SignatureReaches (InType earlier (NeedType 0)) tokens (signature_into earlier t ts) rest
types_reach [] t earlier tokens rest s fits = reads_type earlier t tokens rest s fits.0
types_reach (u ∷ us) t earlier tokens rest s fits =
    let begun : SignatureState = InType earlier (NeedType 0) in
    let behind : SignatureState = InType earlier (HaveType 0 t) in
    let next : SignatureState = InType (earlier ++ t ∷ []) (NeedType 0) in
    let last : SignatureState = signature_into (earlier ++ t ∷ []) u us in
    reaches_then signature_step NoSignature begun behind last tokens s.0 rest (reads_type earlier t tokens s.0 s.2 fits.0)
    (reaches_then signature_step NoSignature behind next last s.0 s.1 rest (reads_arrow earlier t s.0 s.1 s.3) (types_reach us u (earlier ++ t ∷ []) s.1 rest s.4 fits.1))

into_finds : (ts : List TypeSyntax) (t : TypeSyntax) (earlier : List TypeSyntax) → signature_finish (signature_into earlier t ts) ≡ Some (earlier ++ t ∷ ts)
into_finds [] t earlier = refl
into_finds (u ∷ us) t earlier = into_finds us u (earlier ++ t ∷ []) ∙ ap (λ w. Some w) (append_assoc earlier (t ∷ []) (u ∷ us))

-- a signature text is read as it
finds_signature : (tokens : List Token) (ts : List TypeSyntax) → IsSignature tokens ts → signature_finish (read_all tokens) ≡ Some ts
finds_signature tokens [] p = absurd p.spelled
finds_signature tokens (t ∷ ts) p =
    ap signature_finish (reaches_all signature_step NoSignature start (signature_into [] t ts) tokens (types_reach ts t [] tokens [] p.spelled p.fits)) ∙ into_finds ts t []

-- ---- what was read stands

-- each type with the arrow after it
abbrev FrontSpells : List TypeSyntax → List Token → List Token → Type 0
FrontSpells [] tokens rest = tokens ≡ rest
FrontSpells (t ∷ ts) tokens rest = (mid next : List Token) × TypeSpells t tokens mid × FirstSign symbol.Arrow mid next × FrontSpells ts next rest

-- the tokens up to the rest are those of the state
abbrev SignatureSpellsPrefix : SignatureState → List Token → List Token → Type 0
SignatureSpellsPrefix (InType earlier s) tokens rest = (mid : List Token) × FrontSpells earlier tokens mid × TypesFit earlier × TypeSpellsPrefix s mid rest × (s ≢ NoType)
SignatureSpellsPrefix NoSignature tokens rest = Unit {0}

types_last : (earlier : List TypeSyntax) (t : TypeSyntax) (tokens mid rest : List Token) → FrontSpells earlier tokens mid → TypeSpells t mid rest → TypesSpell (earlier ++ t ∷ []) tokens rest
types_last [] t tokens mid rest e s = subst (λ w. TypeSpells t w rest) (sym e) s
types_last (u ∷ []) t tokens mid rest f s = (f.0, f.1, f.2, f.3, subst (λ w. TypeSpells t w rest) (sym f.4) s)
types_last (u ∷ v ∷ us) t tokens mid rest f s = (f.0, f.1, f.2, f.3, types_last (v ∷ us) t f.1 mid rest f.4 s)

front_last : (earlier : List TypeSyntax) (t : TypeSyntax) (tokens mid next rest : List Token) → FrontSpells earlier tokens mid → TypeSpells t mid next → FirstSign symbol.Arrow next rest
    → FrontSpells (earlier ++ t ∷ []) tokens rest
front_last [] t tokens mid next rest e s a = (next, rest, subst (λ w. TypeSpells t w next) (sym e) s, a, refl)
front_last (u ∷ us) t tokens mid next rest f s a = (f.0, f.1, f.2, f.3, front_last us t f.1 mid next rest f.4 s a)

fits_last : (earlier : List TypeSyntax) (t : TypeSyntax) → TypesFit earlier → TypeFits t → TypesFit (earlier ++ t ∷ [])
fits_last [] t h fits = (fits, tt)
fits_last (u ∷ us) t h fits = (h.0, fits_last us t h.1 fits)

need_is : (depth : ℕ) → NeedType depth ≢ NoType
need_is depth e = cc

have_is : (depth : ℕ) (t : TypeSyntax) → HaveType depth t ≢ NoType
have_is depth t e = cc

note_is : (depth : ℕ) (owner : Owner) (n : NoteState) → InNote depth owner n ≢ NoType
note_is depth owner n e = cc

end_sound : (earlier : List TypeSyntax) (t : TypeSyntax) (what : Kind) (tokens mid next rest : List Token) → FrontSpells earlier tokens mid → TypesFit earlier → TypeSpells t mid next → TypeFits t
    → (x : Token) × (x.kind ≡ what) × (next ≡ x ∷ rest) → SignatureSpellsPrefix (type_end earlier t what) tokens rest
end_sound earlier t (kind.Sign symbol.Arrow) tokens mid next rest o ff s fits f = (rest, front_last earlier t tokens mid next rest o s f, fits_last earlier t ff fits, refl, need_is 0)
end_sound earlier t _ tokens mid next rest o ff s fits f = tt

ends_sound : (earlier : List TypeSyntax) (s : TypeState) (found : Option TypeSyntax) (x : Token) (tokens rest : List Token) → SignatureSpellsPrefix (InType earlier s) tokens (x ∷ rest)
    → type_finish s ≡ found → SignatureSpellsPrefix (type_ends earlier found x.kind) tokens rest
ends_sound earlier s None x tokens rest h e = tt
ends_sound earlier s (Some t) x tokens rest h e =
    let p = type_found s t h.0 (x ∷ rest) h.3 e in end_sound earlier t x.kind tokens h.0 (x ∷ rest) rest h.1 h.2 p.0 p.1 (x, refl, refl)

goes_sound : (earlier : List TypeSyntax) (s : TypeState) (ended : SignatureState) (tokens mid rest : List Token) → FrontSpells earlier tokens mid → TypesFit earlier → TypeSpellsPrefix s mid rest
    → SignatureSpellsPrefix ended tokens rest → SignatureSpellsPrefix (type_goes earlier s ended) tokens rest
goes_sound earlier (NeedType depth) ended tokens mid rest o ff s h = (mid, o, ff, s, need_is depth)
goes_sound earlier (HaveType depth t) ended tokens mid rest o ff s h = (mid, o, ff, s, have_is depth t)
goes_sound earlier (InNote depth owner n) ended tokens mid rest o ff s h = (mid, o, ff, s, note_is depth owner n)
goes_sound earlier NoType ended tokens mid rest o ff s h = h

signature_sound : (st : SignatureState) (x : Token) (tokens rest : List Token) → SignatureSpellsPrefix st tokens (x ∷ rest) → SignatureSpellsPrefix (signature_step st x) tokens rest
signature_sound (InType earlier s) x tokens rest h =
    goes_sound earlier (type_step s x) (type_ends earlier (type_finish s) x.kind) tokens h.0 rest h.1 h.2 (type_sound s x h.0 rest h.3)
    (ends_sound earlier s (type_finish s) x tokens rest h refl)
signature_sound NoSignature x tokens rest h = tt

spells_prefix : (read rest : List Token) → SignatureSpellsPrefix (read_all read) (read ++ rest) rest
spells_prefix read rest = runs_sound signature_step SignatureSpellsPrefix signature_sound read start (read ++ rest) rest (read ++ rest, refl, tt, refl, need_is 0)

typed_is : (earlier : List TypeSyntax) (o : Option TypeSyntax) (ts : List TypeSyntax) → typed earlier o ≡ Some ts → (t : TypeSyntax) × (o ≡ Some t) × (earlier ++ t ∷ [] ≡ ts)
typed_is earlier (Some t) ts e = (t, refl, cc)
typed_is earlier None ts e = absurd cc

is_signature : (st : SignatureState) (ts : List TypeSyntax) (tokens : List Token) → SignatureSpellsPrefix st tokens [] → signature_finish st ≡ Some ts → IsSignature tokens ts
is_signature (InType earlier s) ts tokens h e =
    let w = typed_is earlier (type_finish s) ts e in
    let p = type_found s w.0 h.0 [] h.3 w.1 in
    subst (λ us. IsSignature tokens us) w.2 (record { spelled = types_last earlier w.0 tokens h.0 [] h.1 p.0; fits = fits_last earlier w.0 h.2 p.1 })
is_signature NoSignature ts tokens h e = absurd cc

-- what is found is a signature text
found_signature : (tokens : List Token) (ts : List TypeSyntax) → signature_finish (read_all tokens) ≡ Some ts → IsSignature tokens ts
found_signature tokens ts e = is_signature (read_all tokens) ts tokens (subst (λ w. SignatureSpellsPrefix (read_all tokens) w []) (append-nil tokens) (spells_prefix tokens [])) e

-- ---- what can follow

abbrev ending : SignatureState → List Token
ending (InType earlier s) = type_ending s
ending NoSignature = []

abbrev completed : SignatureState → List TypeSyntax
completed (InType earlier s) = earlier ++ type_completed s ∷ []
completed NoSignature = []

can_end : (st : SignatureState) (tokens : List Token) → SignatureSpellsPrefix st tokens (ending st) → st ≢ NoSignature → IsSignature tokens (completed st)
can_end (InType earlier s) tokens h ok =
    let p = type_can_end s h.0 [] (subst (λ w. TypeSpellsPrefix s h.0 w) (sym (append-nil (type_ending s))) h.3) h.4 in
    record { spelled = types_last earlier (type_completed s) tokens h.0 [] h.1 p.0; fits = fits_last earlier (type_completed s) h.2 p.1 }
can_end NoSignature tokens h ok = absurd (ok refl)

-- ---- the least height

all_height_last : (earlier : List TypeSyntax) (t : TypeSyntax) → all_height (earlier ++ t ∷ []) ≡ max (all_height earlier) (whole_height t)
all_height_last [] t = omega arith
all_height_last (u ∷ us) t = let e = all_height_last us t in omega (arith, e)

completed_height : (st : SignatureState) (tokens rest : List Token) → SignatureSpellsPrefix st tokens rest → st ≢ NoSignature → all_height (completed st) ≡ signature_least st
completed_height (InType earlier s) tokens rest h ok =
    let e = all_height_last earlier (type_completed s) in let same = type_completed_height s h.0 rest h.3 h.4 in omega (arith, e, same)
completed_height NoSignature tokens rest h ok = absurd (ok refl)

end_up : (earlier : List TypeSyntax) (t : TypeSyntax) (what : Kind) → type_end earlier t what ≢ NoSignature → max (all_height earlier) (whole_height t) ≤ signature_least (type_end earlier t what)
end_up earlier t (kind.Sign symbol.Arrow) ok = let e = all_height_last earlier t in omega (arith, e)
end_up earlier t _ ok = absurd (ok refl)

ends_up : (earlier : List TypeSyntax) (s : TypeState) (found : Option TypeSyntax) (what : Kind) → type_finish s ≡ found → type_ends earlier found what ≢ NoSignature
    → signature_least (InType earlier s) ≤ signature_least (type_ends earlier found what)
ends_up earlier s None what e ok = absurd (ok refl)
ends_up earlier s (Some t) what e ok = let same = type_found_height s t e in let up = end_up earlier t what ok in omega (arith, same, up)

goes_up : (low : ℕ) (earlier : List TypeSyntax) (s : TypeState) (ended : SignatureState) → type_goes earlier s ended ≢ NoSignature → (s ≢ NoType → low ≤ signature_least (InType earlier s))
    → (ended ≢ NoSignature → low ≤ signature_least ended) → low ≤ signature_least (type_goes earlier s ended)
goes_up low earlier (NeedType depth) ended ok goes ends = goes (need_is depth)
goes_up low earlier (HaveType depth t) ended ok goes ends = goes (have_is depth t)
goes_up low earlier (InNote depth owner n) ended ok goes ends = goes (note_is depth owner n)
goes_up low earlier NoType ended ok goes ends = ends ok

type_in_up : (earlier : List TypeSyntax) (s : TypeState) (x : Token) → type_step s x ≢ NoType → signature_least (InType earlier s) ≤ signature_least (InType earlier (type_step s x))
type_in_up earlier s x ok = let up = type_up s x ok in omega (arith, up)

-- a token never lowers it
signature_up : (st : SignatureState) (x : Token) → signature_step st x ≢ NoSignature → signature_least st ≤ signature_least (signature_step st x)
signature_up (InType earlier s) x ok =
    goes_up (signature_least (InType earlier s)) earlier (type_step s x) (type_ends earlier (type_finish s) x.kind) ok (λ goes. type_in_up earlier s x goes)
    (λ ends. ends_up earlier s (type_finish s) x.kind refl ends)
signature_up NoSignature x ok = absurd (ok refl)

-- what is found has it
signature_found_height : (st : SignatureState) (ts : List TypeSyntax) → signature_finish st ≡ Some ts → all_height ts ≡ signature_least st
signature_found_height (InType earlier s) ts e =
    let w = typed_is earlier (type_finish s) ts e in
    let same = type_found_height s w.0 w.1 in
    let last = all_height_last earlier w.0 in
    ap all_height (sym w.2) ∙ omega (arith, same, last)
signature_found_height NoSignature ts e = absurd cc

-- ---- the machine reads signature texts

ends : (tokens : List Token) → read_all tokens ≢ NoSignature → (more : List Token) × (ts : List TypeSyntax) × IsSignature (tokens ++ more) ts × (all_height ts ≡ signature_least (read_all tokens))
ends tokens ok =
    let st = read_all tokens in
    let prefix = spells_prefix tokens (ending st) in
    (ending st, completed st, can_end st (tokens ++ ending st) prefix ok, completed_height st (tokens ++ ending st) (ending st) prefix ok)

pub signatures_read : IsReaderOf machine_of_signatures IsSignature all_height
signatures_read = record {
  stays = λ token. refl;
  nothing = refl;
  finds = finds_signature;
  found = found_signature;
  completed = ends;
  up = signature_up;
  same_height = signature_found_height;
}

-- the answers to a signature text exclude one another
pub signature_answers_exclude : SignatureAnswersExclude
signature_answers_exclude tokens = one_answer IsSignature all_height greatest_height tokens (unambiguous signatures_read)
