-- One token more of a reader that holds another one, told by what the inner one gives.
use Rattle.std.proofs.Common.{◌≡◌, ◌≢◌, ℕ, ◌≤◌, List, [], ◌∷◌, ◌++◌, map, Some, sym, ap, ◌∙◌, arith}
use Rattle.std.proofs.lemmas.List.{map-append}
use Rattle.um_syntax.specs.declared.token.Token.{Token}
use Rattle.um_syntax.specs.declared.token.Kind.TheVariants as kind
use Rattle.um_vocabulary.specs.declared.vocabulary.Symbol.TheVariants as symbol
use Rattle.um_tree.specs.declared.raw.RawNote.{RawNote}
use Rattle.um_tree.specs.declared.raw.RawType.{RawType}
use Rattle.um_tree.specs.RawTree.{TypeSyntax, note_syntax, type_syntax}
use Rattle.um_reader.specs.Takes.{Gives, Takes}
use Rattle.um_reader.specs.declared.taken.Taken.TheVariants as taken
use Rattle.um_unit_texts.specs.UnitStops.{greatest_height}
use Rattle.um_types.specs.TypeHeights.{whole_height, all_height}
use Rattle.um_types.specs.NoteMachine.{NoteState, NeedNote, machine_of_notes}
use Rattle.um_types.specs.TypeMachine.{Owner, OfName, TypeState, NeedType, HaveType, InNote, NoType, next_note, type_finish, type_least}
use Rattle.um_types.specs.TypeView.{IsLow}
use Rattle.um_types.specs.SignatureMachine.{InType, type_ends, signature_least, machine_of_signatures}
use Rattle.um_types.proofs.NoteLaws.{note_found_height}
use Rattle.um_types.proofs.SignatureLaws.{in_type}

-- ---- a note in a type

pub in_note : (depth : ℕ) (owner : Owner) (n : NoteState) → InNote depth owner n ≢ NoType
in_note depth owner n e = cc

pub have_type : (depth : ℕ) (t : TypeSyntax) → HaveType depth t ≢ NoType
have_type depth t e = cc

-- the note of the type has refused the token
pub note_low : (depth : ℕ) (owner : Owner) (old mid : NoteState) (token : Token) → type_least (InNote depth owner old) ≤ greatest_height → Takes machine_of_notes greatest_height old token taken.Stops mid → IsLow (InNote depth owner mid)
note_low depth owner old mid token low t = (omega (arith, low), (λ m e. let same = note_found_height old m (sym t.1 ∙ e) in omega (arith, low, same)))

-- a comma after a note
pub comma_behind : (depth at : ℕ) (name : List ℕ) (earlier new : List RawNote) (note : RawNote) → new ≡ earlier ++ note ∷ []
    → InNote depth (OfName at name (map note_syntax new)) NeedNote ≡ next_note depth (OfName at name (map note_syntax earlier)) (note_syntax note)
comma_behind depth at name earlier new note pushed =
    ap (λ ns. InNote depth (OfName at name ns) NeedNote) (ap (map note_syntax) pushed ∙ map-append note_syntax earlier (note ∷ []))

-- ---- a type in a signature

heights_last : (earlier : List TypeSyntax) (t : TypeSyntax) → all_height earlier ≤ greatest_height → whole_height t ≤ greatest_height → all_height (earlier ++ t ∷ []) ≤ greatest_height
heights_last [] t low high = omega arith
heights_last (u ∷ us) t low high = let rest = heights_last us t (omega (arith, low)) high in omega (arith, low, rest)

-- `->` after a type
pub arrow_behind : (earlier new : List RawType) (t : RawType) (s last : TypeState) → type_finish s ≡ Some (type_syntax t) → new ≡ earlier ++ t ∷ [] → last ≡ NeedType 0
    → all_height (map type_syntax earlier) ≤ greatest_height → whole_height (type_syntax t) ≤ greatest_height
    → Gives machine_of_signatures greatest_height (InType (map type_syntax earlier) s) (type_ends (map type_syntax earlier) (type_finish s) (kind.Sign symbol.Arrow)) taken.Goes (InType (map type_syntax new) last)
arrow_behind earlier new t s last is pushed begun low high =
    let texts : List TypeSyntax = map type_syntax earlier ++ type_syntax t ∷ [] in
    let e : type_ends (map type_syntax earlier) (type_finish s) (kind.Sign symbol.Arrow) ≡ InType texts (NeedType 0) = ap (λ o. type_ends (map type_syntax earlier) o (kind.Sign symbol.Arrow)) is in
    let same : map type_syntax new ≡ texts = ap (map type_syntax) pushed ∙ map-append type_syntax earlier (t ∷ []) in
    let st : InType (map type_syntax new) last ≡ InType texts (NeedType 0) = ap (λ ts. InType ts last) same ∙ ap (λ w. InType texts w) begun in
    let least = ap signature_least st in
    (st ∙ sym e, in_type (map type_syntax new) last, omega (arith, least, heights_last (map type_syntax earlier) (type_syntax t) low high))
