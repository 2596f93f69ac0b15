-- The layout of a note or of a type text whose tokens are those of some text is a chain of pieces.
use Rattle.std.proofs.Common.{◌≡◌, Bool, true, false, List, [], ◌∷◌, ◌++◌, Option, Some, None, refl}
use Rattle.std.specs.List.{flat_map}
use Rattle.um_syntax.specs.declared.token.Token.{Token}
use Rattle.um_tree.specs.RawTree.{NoteSyntax, hole_syntax, unit_note_syntax, TypeSyntax, bool_syntax, num_syntax, record_syntax, list_type_syntax, bracket_type_syntax}
use Rattle.um_types.specs.TypeGrammar.{NoteSpells, NotesSpell, AngledSpell, at_most_one, TypeSpells, NoteFits, NotesFit, TypeFits}
use Rattle.um_show.specs.Pieces.{Piece, space, comma, less, greater, list_word, bracket_close}
use Rattle.um_show.specs.Layout.{note_pieces, written_pieces, angled_pieces, type_pieces}
use Rattle.um_show.proofs.Chain.{fresh, full}
use Rattle.um_show.proofs.GoodTokens.{AllGood, first_good, type_name_good}
use Rattle.um_show.proofs.UnitLinks.{Linked, linked_all, link, never, unit_links}

pub note_links : (n : NoteSyntax) (tokens rest : List Token) → NoteSpells n tokens rest → NoteFits n → AllGood tokens → (g : Bool) → Linked (fresh g false) (note_pieces n) full rest
note_links (hole_syntax at) tokens rest s f h g = record { chain = (tt, refl, refl); good = (first_good tokens rest s.0 s.3 h).1 }
note_links (unit_note_syntax at u) tokens rest s f h g = unit_links u tokens rest s.1 f h g false never

-- a note in angle brackets
pub angle_links : (n : NoteSyntax) (tokens next last rest : List Token) (first closing : Token) → tokens ≡ first ∷ next → NoteSpells n next last → last ≡ closing ∷ rest → NoteFits n → AllGood tokens
    → Linked full (less ∷ note_pieces n ++ greater ∷ []) full rest
angle_links n tokens next last rest first closing e s d f h =
    let r = note_links n next last s f (first_good tokens next first e h).1 true in
    record { chain = (tt, refl, link (note_pieces n) (greater ∷ []) true false r.chain (tt, refl, refl)); good = (first_good last rest closing d r.good).1 }

-- later notes, each with the comma before it
abbrev later_pieces : List NoteSyntax → List Piece
later_pieces ns = flat_map (λ n. (comma ∷ space ∷ []) ++ note_pieces n) ns

notes_links : (n : NoteSyntax) (ns : List NoteSyntax) (tokens rest : List Token) → NotesSpell (n ∷ ns) tokens rest → NotesFit (n ∷ ns) → AllGood tokens → (g : Bool)
    → Linked (fresh g false) (note_pieces n ++ later_pieces ns) full rest
notes_links n [] tokens rest s f h g =
    let r = note_links n tokens rest s f.0 h g in record { chain = link (note_pieces n) [] g false r.chain refl; good = r.good }
notes_links n (m ∷ ns) tokens rest s f h g =
    let r = note_links n tokens s.0 s.2 f.0 h g in
    let q = notes_links m ns s.1 rest s.4 f.1 (first_good s.0 s.1 s.3.0 s.3.2 r.good).1 false in
    record { chain = link (note_pieces n) (later_pieces (m ∷ ns)) g false r.chain (tt, refl, (tt, refl, q.chain)); good = q.good }

angled_links : (ns : List NoteSyntax) (tokens rest : List Token) → AngledSpell ns tokens rest → NotesFit ns → AllGood tokens → Linked full (angled_pieces ns) full rest
angled_links [] tokens rest s f h = linked_all tokens rest s h
angled_links (n ∷ ns) tokens rest s f h =
    let r = notes_links n ns s.0 s.1 s.3 f (first_good tokens s.0 s.2.0 s.2.2 h).1 true in
    record { chain = (tt, refl, link (note_pieces n ++ later_pieces ns) (greater ∷ []) true false r.chain (tt, refl, refl)); good = (first_good s.1 rest s.4.0 s.4.2 r.good).1 }

num_links : (n : Option NoteSyntax) (tokens rest : List Token) → AngledSpell (at_most_one n) tokens rest → NotesFit (at_most_one n) → AllGood tokens → Linked full (written_pieces n) full rest
num_links None tokens rest s f h = linked_all tokens rest s h
num_links (Some n) tokens rest s f h = angle_links n tokens s.0 s.1 rest s.2.0 s.4.0 s.2.2 s.3 s.4.2 f.0 h

pub type_links : (t : TypeSyntax) (tokens rest : List Token) → TypeSpells t tokens rest → TypeFits t → AllGood tokens → (g : Bool) → Linked (fresh g false) (type_pieces t) full rest
type_links bool_syntax tokens rest s f h g = record { chain = (tt, refl, refl); good = (first_good tokens rest s.0 s.2 h).1 }
type_links (num_syntax n) tokens rest s f h g =
    let r = num_links n s.0 rest s.2 f (first_good tokens s.0 s.1.0 s.1.2 h).1 in record { chain = (tt, refl, r.chain); good = r.good }
type_links (record_syntax at x ns) tokens rest s f h g =
    let b = first_good tokens s.0 s.1.0 s.1.3 h in let r = angled_links ns s.0 rest s.2 f b.1 in
    record { chain = (type_name_good s.1.0.kind x s.1.1 b.0, refl, r.chain); good = r.good }
type_links (list_type_syntax t) tokens rest s f h g =
    let r = type_links t tokens s.0 s.1 f h g in
    record { chain = link (type_pieces t) (space ∷ list_word ∷ []) g false r.chain (tt, refl, (tt, refl, refl)); good = (first_good s.0 rest s.2.0 s.2.2 r.good).1 }
type_links (bracket_type_syntax t) tokens rest s f h g =
    let r = type_links t s.0 s.1 s.3 f (first_good tokens s.0 s.2.0 s.2.2 h).1 true in
    record { chain = (tt, refl, link (type_pieces t) (bracket_close ∷ []) true false r.chain (tt, refl, refl)); good = (first_good s.1 rest s.4.0 s.4.2 r.good).1 }
