-- The layout of a note or of a type text has the table's spaces.
use Rattle.std.proofs.Common.{◌≡◌, refl, ap, Bool, true, false, cond, List, [], ◌∷◌, ◌++◌, Option, Some, None}
use Rattle.std.specs.List.{flat_map}
use Rattle.um_tree.specs.RawTree.{NoteSyntax, hole_syntax, unit_note_syntax, TypeSyntax, bool_syntax, num_syntax, record_syntax, list_type_syntax, bracket_type_syntax}
use Rattle.um_types.specs.TypeGrammar.{at_most_one, NoteFits, NotesFit, TypeFits}
use Rattle.um_vocabulary.specs.declared.vocabulary.Symbol.TheVariants as symbol
use Rattle.um_show.specs.Pieces.{Piece, space, comma, less, greater, list_word, bracket_close}
use Rattle.um_show.specs.Layout.{note_pieces, written_pieces, angled_pieces, type_pieces}
use Rattle.um_tidy.specs.declared.stand.Next.{Next}
use Rattle.um_tidy.specs.declared.stand.Next.TheVariants as next_of
use Rattle.um_tidy.specs.declared.stand.Within.TheVariants as within_of
use Rattle.um_tidy.specs.declared.stand.Stand.{Stand}
use Rattle.um_tidy.specs.Stands.{apart, after, before, between, has_ended, opens_units, greater_stand, less_stand}
use Rattle.um_tidy.proofs.SpacedPieces.{joined, gap_of, standing, Spaced, joins, never, first, sign_step, is_typed, ended_measure}
use Rattle.um_tidy.proofs.UnitsSpaced.{UnitSpaced, unit_spaced}

-- behind these pieces a type has ended
pub record TypeSpaced (b : Bool) (ps : List Piece) : Type 0 where
  pub next : Next
  pub typed : is_typed next ≡ true
  pub spaced : Spaced (standing b next_of.Heads within_of.Plain) (gap_of b) ps (standing false next within_of.Plain) joined

-- ---- notes

note_spaced : (n : NoteSyntax) → NoteFits n → (b : Bool) → UnitSpaced b next_of.Operand within_of.Angle (note_pieces n)
note_spaced (hole_syntax at) f b =
    record { next = next_of.Ended; ends = refl; spaced = (first b next_of.Operand within_of.Angle (apart next_of.Ended within_of.Angle) refl, (refl, refl)) }
note_spaced (unit_note_syntax at u) f b = unit_spaced within_of.Angle refl u f b next_of.Operand never

abbrev later_pieces : List NoteSyntax → List Piece
later_pieces ns = flat_map (λ n. (comma ∷ space ∷ []) ++ note_pieces n) ns

notes_spaced : (n : NoteSyntax) (ns : List NoteSyntax) → NotesFit (n ∷ ns) → (b : Bool) → UnitSpaced b next_of.Operand within_of.Angle (note_pieces n ++ later_pieces ns)
notes_spaced n [] f b =
    let r = note_spaced n f.0 b in let end = standing false r.next within_of.Angle in
    record { next = r.next; ends = r.ends; spaced = joins (note_pieces n) [] (standing b next_of.Operand within_of.Angle) end end (gap_of b) joined joined r.spaced (refl, refl) }
notes_spaced n (m ∷ ns) f b =
    let r = note_spaced n f.0 b in let q = notes_spaced m ns f.1 false in
    record {
      next = q.next;
      ends = q.ends;
      spaced = joins (note_pieces n) (later_pieces (m ∷ ns)) (standing b next_of.Operand within_of.Angle) (standing false r.next within_of.Angle) (standing false q.next within_of.Angle) (gap_of b) joined joined r.spaced (refl, (refl, q.spaced));
    }

-- ---- angle brackets

abbrev pub angle : Stand
angle = standing true next_of.Operand within_of.Angle

-- `>` behind units
pub greater_is : (n : Next) → has_ended n ≡ true → greater_stand n within_of.Angle ≡ after next_of.Ended within_of.Plain
greater_is n e =
    ap (λ b. cond b (after next_of.Ended within_of.Angle) (after next_of.Ended within_of.Plain)) (ended_measure n e)

-- Units in angle brackets, directly behind what they belong to.
pub angled : (n : Next) (units ps : List Piece) (t : Stand) → opens_units n true ≡ true → UnitSpaced true next_of.Operand within_of.Angle units → Spaced (standing false next_of.Ended within_of.Plain) joined ps t joined
    → Spaced (standing false n within_of.Plain) joined (less ∷ units ++ greater ∷ ps) t joined
angled n units ps t opens r later =
    sign_step (standing false n within_of.Plain) joined symbol.Less (between next_of.Operand within_of.Angle) (units ++ greater ∷ ps) t joined
    (ap (λ b. less_stand b within_of.Plain) opens) refl
    (joins units (greater ∷ ps) angle (standing false r.next within_of.Angle) t joined joined joined r.spaced
    (sign_step (standing false r.next within_of.Angle) joined symbol.Greater (after next_of.Ended within_of.Plain) ps t joined (greater_is r.next r.ends) refl later))

-- a note in angle brackets
pub angle_spaced : (n : Next) (note : NoteSyntax) → NoteFits note → opens_units n true ≡ true → Spaced (standing false n within_of.Plain) joined (less ∷ note_pieces note ++ greater ∷ []) (standing false next_of.Ended within_of.Plain) joined
angle_spaced n note f opens = angled n (note_pieces note) [] (standing false next_of.Ended within_of.Plain) opens (note_spaced note f true) (refl, refl)

pub record AngledSpaced (ps : List Piece) : Type 0 where
  pub next : Next
  pub typed : is_typed next ≡ true
  pub spaced : Spaced (standing false next_of.Head within_of.Plain) joined ps (standing false next within_of.Plain) joined

angled_spaced : (ns : List NoteSyntax) → NotesFit ns → AngledSpaced (angled_pieces ns)
angled_spaced [] f = record { next = next_of.Head; typed = refl; spaced = (refl, refl) }
angled_spaced (n ∷ ns) f =
    record { next = next_of.Ended; typed = refl; spaced = angled next_of.Head (note_pieces n ++ later_pieces ns) [] (standing false next_of.Ended within_of.Plain) refl (notes_spaced n ns f true) (refl, refl) }

num_spaced : (n : Option NoteSyntax) → NotesFit (at_most_one n) → AngledSpaced (written_pieces n)
num_spaced None f = record { next = next_of.Head; typed = refl; spaced = (refl, refl) }
num_spaced (Some n) f = record { next = next_of.Ended; typed = refl; spaced = angle_spaced next_of.Head n f.0 refl }

-- ---- types

abbrev pub plain : Bool → Next → Stand
plain b n = standing b n within_of.Plain

pub type_spaced : (t : TypeSyntax) → TypeFits t → (b : Bool) → TypeSpaced b (type_pieces t)
type_spaced bool_syntax f b = record { next = next_of.Ended; typed = refl; spaced = (first b next_of.Heads within_of.Plain (apart next_of.Ended within_of.Plain) refl, (refl, refl)) }
type_spaced (num_syntax n) f b =
    let r = num_spaced n f in record { next = r.next; typed = r.typed; spaced = (first b next_of.Heads within_of.Plain (apart next_of.Head within_of.Plain) refl, r.spaced) }
type_spaced (record_syntax at x ns) f b =
    let r = angled_spaced ns f in record { next = r.next; typed = r.typed; spaced = (first b next_of.Heads within_of.Plain (apart next_of.Head within_of.Plain) refl, r.spaced) }
type_spaced (list_type_syntax t) f b =
    let r = type_spaced t f b in
    record {
      next = next_of.Ended;
      typed = refl;
      spaced = joins (type_pieces t) (space ∷ list_word ∷ []) (plain b next_of.Heads) (plain false r.next) (plain false next_of.Ended) (gap_of b) joined joined r.spaced (refl, (refl, (refl, refl)));
    }
type_spaced (bracket_type_syntax t) f b =
    let r = type_spaced t f true in
    record {
      next = next_of.Ended;
      typed = refl;
      spaced = (
        first b next_of.Heads within_of.Plain (before next_of.Heads within_of.Plain) refl,
        joins (type_pieces t) (bracket_close ∷ []) (plain true next_of.Heads) (plain false r.next) (plain false next_of.Ended) joined joined joined r.spaced (refl, (refl, refl)),
      );
    }
