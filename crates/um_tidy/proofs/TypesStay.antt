-- The tokens of a note or of a type text, in a text laid out anew, are those of the same, places aside.
use Rattle.std.proofs.Common.{◌≡◌, refl, ap, ◌∙◌, subst, true, List, [], ◌∷◌, Option, Some, None, map}
use Rattle.um_syntax.specs.declared.token.Token.{Token}
use Rattle.um_syntax.specs.declared.token.Kind.TheVariants as kind
use Rattle.um_vocabulary.specs.declared.vocabulary.Keyword.TheVariants as keyword
use Rattle.um_vocabulary.specs.declared.vocabulary.Symbol.TheVariants as symbol
use Rattle.um_tree.specs.RawTree.{NoteSyntax, hole_syntax, unit_note_syntax, TypeSyntax, bool_syntax, num_syntax, record_syntax, list_type_syntax, bracket_type_syntax}
use Rattle.um_types.specs.TypeGrammar.{NoteSpells, NotesSpell, AngledSpell, at_most_one, TypeSpells, NoteFits, NotesFit, TypeFits}
use Rattle.um_show.specs.Unplaced.{bare_note, bare_written, bare_type}
use Rattle.um_tidy.specs.declared.stand.Next.{Next}
use Rattle.um_tidy.specs.declared.stand.Next.TheVariants as next_of
use Rattle.um_tidy.specs.declared.stand.Within.TheVariants as within_of
use Rattle.um_tidy.specs.declared.stand.Stand.{Stand}
use Rattle.um_tidy.specs.Stands.{has_ended}
use Rattle.um_tidy.proofs.SpacedPieces.{is_typed}
use Rattle.um_tidy.proofs.TypesSpaced.{greater_is}
use Rattle.um_tidy.proofs.Alike.{Stays, Alike, step}
use Rattle.um_tidy.proofs.UnitsStay.{unit_stays}

-- ---- notes, inside angle brackets

pub record NoteStays (n : NoteSyntax) (rest others : List Token) : Type 0 where
  pub again : NoteSyntax
  pub left : List Token
  pub next : Next
  pub ends : has_ended next ≡ true
  pub spelled : NoteSpells again others left
  pub fits : NoteFits again
  pub same : bare_note again ≡ bare_note n
  pub later : Alike rest next within_of.Angle left

pub note_stays : (n : NoteSyntax) (tokens rest : List Token) → NoteSpells n tokens rest → NoteFits n → (others : List Token) → Alike tokens next_of.Operand within_of.Angle others → NoteStays n rest others
note_stays (hole_syntax at) tokens rest s f others a =
    let o = step s.0 tokens rest kind.Hole next_of.Operand next_of.Ended within_of.Angle within_of.Angle others s.1 refl refl s.3 a in
    record { again = hole_syntax o.token.start; left = o.left; next = next_of.Ended; ends = refl; spelled = (o.token, o.same ∙ s.1, refl, o.first); fits = tt; same = refl; later = o.later }
note_stays (unit_note_syntax at u) tokens rest s f others a =
    let t = s.0.0 in let more = s.0.1 in
    let b : Stays t next_of.Operand within_of.Angle others (Alike more) = subst (λ ts. Alike ts next_of.Operand within_of.Angle others) s.0.3 a in
    let r = unit_stays u tokens rest s.1 f next_of.Operand within_of.Angle others a in
    record { again = unit_note_syntax b.token.start r.again; left = r.left; next = r.next; ends = r.ends; spelled = ((b.token, b.left, refl, b.first), r.spelled); fits = r.fits; same = ap (unit_note_syntax 0) r.same; later = r.later }

record NotesStay (ns : List NoteSyntax) (rest others : List Token) : Type 0 where
  pub first_note : NoteSyntax
  pub more : List NoteSyntax
  pub left : List Token
  pub next : Next
  pub ends : has_ended next ≡ true
  pub spelled : NotesSpell (first_note ∷ more) others left
  pub fits : NotesFit (first_note ∷ more)
  pub same : map bare_note (first_note ∷ more) ≡ map bare_note ns
  pub later : Alike rest next within_of.Angle left

notes_stay : (n : NoteSyntax) (ns : List NoteSyntax) (tokens rest : List Token) → NotesSpell (n ∷ ns) tokens rest → NotesFit (n ∷ ns) → (others : List Token) → Alike tokens next_of.Operand within_of.Angle others → NotesStay (n ∷ ns) rest others
notes_stay n [] tokens rest s f others a =
    let r = note_stays n tokens rest s f.0 others a in
    record { first_note = r.again; more = []; left = r.left; next = r.next; ends = r.ends; spelled = r.spelled; fits = (r.fits, tt); same = ap (λ m. m ∷ []) r.same; later = r.later }
notes_stay n (m ∷ ns) tokens rest s f others a =
    let r = note_stays n tokens s.0 s.2 f.0 others a in
    let o = step s.3.0 s.0 s.1 (kind.Sign symbol.Comma) r.next next_of.Operand within_of.Angle within_of.Angle r.left s.3.1 refl refl s.3.2 r.later in
    let q = notes_stay m ns s.1 rest s.4 f.1 o.left o.later in
    record {
      first_note = r.again;
      more = q.first_note ∷ q.more;
      left = q.left;
      next = q.next;
      ends = q.ends;
      spelled = (r.left, o.left, r.spelled, (o.token, o.same ∙ s.3.1, o.first), q.spelled);
      fits = (r.fits, q.fits);
      same = ap (λ x. x ∷ map bare_note (q.first_note ∷ q.more)) r.same ∙ ap (λ xs. bare_note n ∷ xs) q.same;
      later = q.later;
    }

-- ---- notes in angle brackets, behind a name or `num`

record AngledStays (ns : List NoteSyntax) (rest others : List Token) : Type 0 where
  pub again : List NoteSyntax
  pub left : List Token
  pub next : Next
  pub typed : is_typed next ≡ true
  pub spelled : AngledSpell again others left
  pub fits : NotesFit again
  pub same : map bare_note again ≡ map bare_note ns
  pub later : Alike rest next within_of.Plain left

angled_stay : (ns : List NoteSyntax) (tokens rest : List Token) → AngledSpell ns tokens rest → NotesFit ns → (others : List Token) → Alike tokens next_of.Head within_of.Plain others → AngledStays ns rest others
angled_stay [] tokens rest s f others a =
    record { again = []; left = others; next = next_of.Head; typed = refl; spelled = refl; fits = tt; same = refl; later = subst (λ ts. Alike ts next_of.Head within_of.Plain others) s a }
angled_stay (n ∷ ns) tokens rest s f others a =
    let o = step s.2.0 tokens s.0 (kind.Sign symbol.Less) next_of.Head next_of.Operand within_of.Plain within_of.Angle others s.2.1 refl refl s.2.2 a in
    let r = notes_stay n ns s.0 s.1 s.3 f o.left o.later in
    let g = greater_is r.next r.ends in
    let c = step s.4.0 s.1 rest (kind.Sign symbol.Greater) r.next next_of.Ended within_of.Angle within_of.Plain r.left s.4.1 (ap (λ (z : Stand). z.next) g) (ap (λ (z : Stand). z.within) g) s.4.2 r.later in
    record {
      again = r.first_note ∷ r.more;
      left = c.left;
      next = next_of.Ended;
      typed = refl;
      spelled = (o.left, r.left, (o.token, o.same ∙ s.2.1, o.first), r.spelled, (c.token, c.same ∙ s.4.1, c.first));
      fits = r.fits;
      same = r.same;
      later = c.later;
    }

record WrittenStays (n : Option NoteSyntax) (rest others : List Token) : Type 0 where
  pub again : Option NoteSyntax
  pub left : List Token
  pub next : Next
  pub typed : is_typed next ≡ true
  pub spelled : AngledSpell (at_most_one again) others left
  pub fits : NotesFit (at_most_one again)
  pub same : bare_written again ≡ bare_written n
  pub later : Alike rest next within_of.Plain left

written_stays : (n : Option NoteSyntax) (tokens rest : List Token) → AngledSpell (at_most_one n) tokens rest → NotesFit (at_most_one n) → (others : List Token) → Alike tokens next_of.Head within_of.Plain others → WrittenStays n rest others
written_stays None tokens rest s f others a =
    record { again = None; left = others; next = next_of.Head; typed = refl; spelled = refl; fits = tt; same = refl; later = subst (λ ts. Alike ts next_of.Head within_of.Plain others) s a }
written_stays (Some n) tokens rest s f others a =
    let o = step s.2.0 tokens s.0 (kind.Sign symbol.Less) next_of.Head next_of.Operand within_of.Plain within_of.Angle others s.2.1 refl refl s.2.2 a in
    let r = note_stays n s.0 s.1 s.3 f.0 o.left o.later in
    let g = greater_is r.next r.ends in
    let c = step s.4.0 s.1 rest (kind.Sign symbol.Greater) r.next next_of.Ended within_of.Angle within_of.Plain r.left s.4.1 (ap (λ (z : Stand). z.next) g) (ap (λ (z : Stand). z.within) g) s.4.2 r.later in
    record {
      again = Some r.again;
      left = c.left;
      next = next_of.Ended;
      typed = refl;
      spelled = (o.left, r.left, (o.token, o.same ∙ s.2.1, o.first), r.spelled, (c.token, c.same ∙ s.4.1, c.first));
      fits = (r.fits, tt);
      same = ap (λ m. Some m) r.same;
      later = c.later;
    }

-- ---- types

pub record TypeStays (t : TypeSyntax) (rest others : List Token) : Type 0 where
  pub again : TypeSyntax
  pub left : List Token
  pub next : Next
  pub typed : is_typed next ≡ true
  pub spelled : TypeSpells again others left
  pub fits : TypeFits again
  pub same : bare_type again ≡ bare_type t
  pub later : Alike rest next within_of.Plain left

pub type_stays : (t : TypeSyntax) (tokens rest : List Token) → TypeSpells t tokens rest → TypeFits t → (others : List Token) → Alike tokens next_of.Heads within_of.Plain others → TypeStays t rest others
type_stays bool_syntax tokens rest s f others a =
    let o = step s.0 tokens rest (kind.Word keyword.Bool) next_of.Heads next_of.Ended within_of.Plain within_of.Plain others s.1 refl refl s.2 a in
    record { again = bool_syntax; left = o.left; next = next_of.Ended; typed = refl; spelled = (o.token, o.same ∙ s.1, o.first); fits = tt; same = refl; later = o.later }
type_stays (num_syntax n) tokens rest s f others a =
    let o = step s.1.0 tokens s.0 (kind.Word keyword.Num) next_of.Heads next_of.Head within_of.Plain within_of.Plain others s.1.1 refl refl s.1.2 a in
    let r = written_stays n s.0 rest s.2 f o.left o.later in
    record { again = num_syntax r.again; left = r.left; next = r.next; typed = r.typed; spelled = (o.left, (o.token, o.same ∙ s.1.1, o.first), r.spelled); fits = r.fits; same = ap num_syntax r.same; later = r.later }
type_stays (record_syntax at x ns) tokens rest s f others a =
    let o = step s.1.0 tokens s.0 (kind.Name x) next_of.Heads next_of.Head within_of.Plain within_of.Plain others s.1.1 refl refl s.1.3 a in
    let r = angled_stay ns s.0 rest s.2 f o.left o.later in
    record { again = record_syntax o.token.start x r.again; left = r.left; next = r.next; typed = r.typed; spelled = (o.left, (o.token, o.same ∙ s.1.1, refl, o.first), r.spelled); fits = r.fits; same = ap (record_syntax 0 x) r.same; later = r.later }
type_stays (list_type_syntax t) tokens rest s f others a =
    let r = type_stays t tokens s.0 s.1 f others a in
    let o = step s.2.0 s.0 rest (kind.Word keyword.List) r.next next_of.Ended within_of.Plain within_of.Plain r.left s.2.1 refl refl s.2.2 r.later in
    record { again = list_type_syntax r.again; left = o.left; next = next_of.Ended; typed = refl; spelled = (r.left, r.spelled, (o.token, o.same ∙ s.2.1, o.first)); fits = r.fits; same = ap list_type_syntax r.same; later = o.later }
type_stays (bracket_type_syntax t) tokens rest s f others a =
    let o = step s.2.0 tokens s.0 (kind.Sign symbol.LeftParen) next_of.Heads next_of.Heads within_of.Plain within_of.Plain others s.2.1 refl refl s.2.2 a in
    let r = type_stays t s.0 s.1 s.3 f o.left o.later in
    let c = step s.4.0 s.1 rest (kind.Sign symbol.RightParen) r.next next_of.Ended within_of.Plain within_of.Plain r.left s.4.1 refl refl s.4.2 r.later in
    record {
      again = bracket_type_syntax r.again;
      left = c.left;
      next = next_of.Ended;
      typed = refl;
      spelled = (o.left, r.left, (o.token, o.same ∙ s.2.1, o.first), r.spelled, (c.token, c.same ∙ s.4.1, c.first));
      fits = r.fits;
      same = ap bracket_type_syntax r.same;
      later = c.later;
    }
