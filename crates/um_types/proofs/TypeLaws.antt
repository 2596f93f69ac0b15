-- What isn't refused can be completed to a type text; the least height in it never falls, is that of the completion, and is found.
use Rattle.std.proofs.Common.{◌≡◌, ◌≢◌, ℕ, zero, suc, ◌+◌, ◌≤◌, max, List, [], ◌∷◌, ◌++◌, Option, Some, None, false, refl, sym, ap, subst, ◌∙◌, append_assoc, arith}
use Rattle.um_syntax.specs.declared.token.Token.{Token}
use Rattle.um_syntax.specs.declared.token.Kind.{Kind}
use Rattle.um_syntax.specs.declared.token.Kind.TheVariants as kind
use Rattle.um_vocabulary.specs.declared.vocabulary.Keyword.TheVariants as keyword
use Rattle.um_vocabulary.specs.declared.vocabulary.Symbol.TheVariants as symbol
use Rattle.um_tree.specs.RawTree.{NoteSyntax, TypeSyntax, bool_syntax, num_syntax, record_syntax, list_type_syntax, bracket_type_syntax}
use Rattle.um_tree.specs.Heights.{type_height}
use Rattle.um_types.specs.TypeGrammar.{TypeSpells, TypeFits}
use Rattle.um_types.specs.TypeHeights.{note_height, notes_height, units_height, whole_height}
use Rattle.um_types.specs.NoteMachine.{NoteState, NeedNote, HaveHole, InUnit, NoNote, note_step, note_finish, note_least}
use Rattle.um_types.specs.TypeMachine.{Owner, OfNum, OfName, TypeState, NeedType, HaveType, InNote, NoType, type_begin, open_angle, close_bracket, type_after, owned, next_note, note_end, note_ends, note_goes, type_step, type_finish, owner_height, type_least}
use Rattle.um_types.proofs.NoteLaws.{NoteSpellsPrefix, note_ending, note_completed, note_can_end, note_completed_height, note_up, note_found_height}
use Rattle.um_types.proofs.TypeSound.{OpenBrackets, TypeSpellsPrefix, owned_spells, owned_fits}

abbrev bool_token : Token
bool_token = record { kind = kind.Word keyword.Bool; start = 0; end = 0; glued = false }

abbrev greater_token : Token
greater_token = record { kind = kind.Sign symbol.Greater; start = 0; end = 0; glued = false }

abbrev close_token : Token
close_token = record { kind = kind.Sign symbol.RightParen; start = 0; end = 0; glued = false }

-- so many closing brackets, and the type text in so many brackets
abbrev pub closes : ℕ → List Token
closes zero = []
closes (suc depth) = close_token ∷ closes depth

abbrev pub wrapped : ℕ → TypeSyntax → TypeSyntax
wrapped zero t = t
wrapped (suc depth) t = wrapped depth (bracket_type_syntax t)

abbrev pub type_ending : TypeState → List Token
type_ending (NeedType depth) = bool_token ∷ closes depth
type_ending (HaveType depth t) = closes depth
type_ending (InNote depth owner n) = note_ending n ++ greater_token ∷ closes depth
type_ending NoType = []

abbrev pub type_completed : TypeState → TypeSyntax
type_completed (NeedType depth) = wrapped depth bool_syntax
type_completed (HaveType depth t) = wrapped depth t
type_completed (InNote depth owner n) = wrapped depth (owned owner (note_completed n))
type_completed NoType = bool_syntax

closes_spell : (depth : ℕ) (t : TypeSyntax) (tokens mid rest : List Token) → OpenBrackets depth tokens mid → TypeSpells t mid (closes depth ++ rest) → TypeSpells (wrapped depth t) tokens rest
closes_spell zero t tokens mid rest o s = subst (λ w. TypeSpells t w rest) (sym o) s
closes_spell (suc depth) t tokens mid rest o s =
    closes_spell depth (bracket_type_syntax t) tokens o.0 rest o.1 (mid, close_token ∷ (closes depth ++ rest), o.2, s, (close_token, refl, refl))

wrapped_fits : (depth : ℕ) (t : TypeSyntax) → TypeFits t → TypeFits (wrapped depth t)
wrapped_fits zero t fits = fits
wrapped_fits (suc depth) t fits = wrapped_fits depth (bracket_type_syntax t) fits

-- what isn't refused can be completed
pub type_can_end : (st : TypeState) (tokens rest : List Token) → TypeSpellsPrefix st tokens (type_ending st ++ rest) → st ≢ NoType → TypeSpells (type_completed st) tokens rest × TypeFits (type_completed st)
type_can_end (NeedType depth) tokens rest h ok =
    (closes_spell depth bool_syntax tokens (bool_token ∷ (closes depth ++ rest)) rest h (bool_token, refl, refl), wrapped_fits depth bool_syntax tt)
type_can_end (HaveType depth t) tokens rest h ok = (closes_spell depth t tokens h.0 rest h.1 h.2, wrapped_fits depth t h.3)
type_can_end (InNote depth owner n) tokens rest h ok =
    let behind : List Token = closes depth ++ rest in
    let parts : (note_ending n ++ greater_token ∷ closes depth) ++ rest ≡ note_ending n ++ (greater_token ∷ behind) = append_assoc (note_ending n) (greater_token ∷ closes depth) rest in
    let p = note_can_end n h.1 (greater_token ∷ behind) (subst (λ w. NoteSpellsPrefix n h.1 w) parts h.5) h.6 in
    let t : TypeSyntax = owned owner (note_completed n) in (
      closes_spell depth t tokens h.0 rest h.2 (owned_spells owner (note_completed n) h.0 h.1 (greater_token ∷ behind) behind h.3 p.0 (greater_token, refl, refl)),
      wrapped_fits depth t (owned_fits owner (note_completed n) h.4 p.1),
    )
type_can_end NoType tokens rest h ok = absurd (ok refl)

-- ---- the least height

wrapped_height : (depth : ℕ) (t : TypeSyntax) → whole_height (wrapped depth t) ≡ max (type_height t + depth) (units_height t)
wrapped_height zero t = omega arith
wrapped_height (suc depth) t = let e = wrapped_height depth (bracket_type_syntax t) in omega (arith, e)

pub notes_height_last : (earlier : List NoteSyntax) (n : NoteSyntax) → notes_height (earlier ++ n ∷ []) ≡ max (notes_height earlier) (note_height n)
notes_height_last [] n = omega arith
notes_height_last (m ∷ ns) n = let e = notes_height_last ns n in omega (arith, e)

pub owned_height : (owner : Owner) (n : NoteSyntax) → (type_height (owned owner n) ≡ 1) × (units_height (owned owner n) ≡ max (owner_height owner) (note_height n))
owned_height OfNum n = (refl, omega arith)
owned_height (OfName at x earlier) n = (refl, notes_height_last earlier n)

-- it is that of the completion
pub type_completed_height : (st : TypeState) (tokens rest : List Token) → TypeSpellsPrefix st tokens rest → st ≢ NoType → whole_height (type_completed st) ≡ type_least st
type_completed_height (NeedType depth) tokens rest h ok = wrapped_height depth bool_syntax ∙ omega arith
type_completed_height (HaveType depth t) tokens rest h ok = wrapped_height depth t
type_completed_height (InNote depth owner n) tokens rest h ok =
    let t : TypeSyntax = owned owner (note_completed n) in
    let e = owned_height owner (note_completed n) in
    let same : note_height (note_completed n) ≡ note_least n = note_completed_height n h.1 rest h.5 in
    wrapped_height depth t ∙ omega (arith, e.0, e.1, same)
type_completed_height NoType tokens rest h ok = absurd (ok refl)

begin_up : (depth : ℕ) (what : Kind) (at : ℕ) → type_begin depth what at ≢ NoType → depth + 1 ≤ type_least (type_begin depth what at)
begin_up depth (kind.Name x) at ok = omega arith
begin_up depth (kind.Word keyword.Num) at ok = omega arith
begin_up depth (kind.Word keyword.Bool) at ok = omega arith
begin_up depth (kind.Sign symbol.LeftParen) at ok = omega arith
begin_up depth _ at ok = absurd (ok refl)

angle_up : (depth : ℕ) (t : TypeSyntax) → open_angle depth t ≢ NoType → max (type_height t + depth) (units_height t) ≤ type_least (open_angle depth t)
angle_up depth (num_syntax None) ok = omega arith
angle_up depth (num_syntax (Some n)) ok = absurd (ok refl)
angle_up depth (record_syntax at x []) ok = omega arith
angle_up depth (record_syntax at x (n ∷ ns)) ok = absurd (ok refl)
angle_up depth bool_syntax ok = absurd (ok refl)
angle_up depth (list_type_syntax t) ok = absurd (ok refl)
angle_up depth (bracket_type_syntax t) ok = absurd (ok refl)

close_up : (depth : ℕ) (t : TypeSyntax) → close_bracket depth t ≢ NoType → max (type_height t + depth) (units_height t) ≤ type_least (close_bracket depth t)
close_up zero t ok = absurd (ok refl)
close_up (suc depth) t ok = omega arith

after_up : (depth : ℕ) (t : TypeSyntax) (what : Kind) → type_after depth t what ≢ NoType → max (type_height t + depth) (units_height t) ≤ type_least (type_after depth t what)
after_up depth t (kind.Word keyword.List) ok = omega arith
after_up depth t (kind.Sign symbol.RightParen) ok = close_up depth t ok
after_up depth t (kind.Sign symbol.Less) ok = angle_up depth t ok
after_up depth t _ ok = absurd (ok refl)

comma_up : (depth : ℕ) (owner : Owner) (n : NoteSyntax) → next_note depth owner n ≢ NoType → max (depth + 1) (max (owner_height owner) (note_height n)) ≤ type_least (next_note depth owner n)
comma_up depth OfNum n ok = absurd (ok refl)
comma_up depth (OfName at x earlier) n ok = let e = notes_height_last earlier n in omega (arith, e)

greater_up : (depth : ℕ) (owner : Owner) (n : NoteSyntax) → max (depth + 1) (max (owner_height owner) (note_height n)) ≤ type_least (HaveType depth (owned owner n))
greater_up depth owner n = let e = owned_height owner n in omega (arith, e.0, e.1)

end_up : (depth : ℕ) (owner : Owner) (n : NoteSyntax) (what : Kind) → note_end depth owner n what ≢ NoType
    → max (depth + 1) (max (owner_height owner) (note_height n)) ≤ type_least (note_end depth owner n what)
end_up depth owner n (kind.Sign symbol.Greater) ok = greater_up depth owner n
end_up depth owner n (kind.Sign symbol.Comma) ok = comma_up depth owner n ok
end_up depth owner n _ ok = absurd (ok refl)

ends_up : (depth : ℕ) (owner : Owner) (n : NoteState) (found : Option NoteSyntax) (what : Kind) → note_finish n ≡ found → note_ends depth owner found what ≢ NoType
    → type_least (InNote depth owner n) ≤ type_least (note_ends depth owner found what)
ends_up depth owner n None what e ok = absurd (ok refl)
ends_up depth owner n (Some m) what e ok = let same = note_found_height n m e in let up = end_up depth owner m what ok in omega (arith, same, up)

goes_up : (depth low : ℕ) (owner : Owner) (n : NoteState) (ended : TypeState) → note_goes depth owner n ended ≢ NoType → (n ≢ NoNote → low ≤ type_least (InNote depth owner n))
    → (ended ≢ NoType → low ≤ type_least ended) → low ≤ type_least (note_goes depth owner n ended)
goes_up depth low owner NeedNote ended ok goes ends = goes (λ e. cc)
goes_up depth low owner (HaveHole at) ended ok goes ends = goes (λ e. cc)
goes_up depth low owner (InUnit at u) ended ok goes ends = goes (λ e. cc)
goes_up depth low owner NoNote ended ok goes ends = ends ok

note_in_up : (depth : ℕ) (owner : Owner) (n : NoteState) (x : Token) → note_step n x ≢ NoNote → type_least (InNote depth owner n) ≤ type_least (InNote depth owner (note_step n x))
note_in_up depth owner n x ok = let up = note_up n x ok in omega (arith, up)

-- a token never lowers it
pub type_up : (st : TypeState) (x : Token) → type_step st x ≢ NoType → type_least st ≤ type_least (type_step st x)
type_up (NeedType depth) x ok = begin_up depth x.kind x.start ok
type_up (HaveType depth t) x ok = after_up depth t x.kind ok
type_up (InNote depth owner n) x ok =
    goes_up depth (type_least (InNote depth owner n)) owner (note_step n x) (note_ends depth owner (note_finish n) x.kind) ok (λ goes. note_in_up depth owner n x goes)
    (λ ends. ends_up depth owner n (note_finish n) x.kind refl ends)
type_up NoType x ok = absurd (ok refl)

-- what is found has it
pub type_found_height : (st : TypeState) (t : TypeSyntax) → type_finish st ≡ Some t → whole_height t ≡ type_least st
type_found_height (HaveType zero u) t e = let same : u ≡ t = cc in ap whole_height (sym same) ∙ omega arith
type_found_height (HaveType (suc depth) u) t e = absurd cc
type_found_height (NeedType depth) t e = absurd cc
type_found_height (InNote depth owner n) t e = absurd cc
type_found_height NoType t e = absurd cc
