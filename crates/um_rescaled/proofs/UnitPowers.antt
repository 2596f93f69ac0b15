-- No `<` follows a power of a unit, a note or a type.
use Rattle.std.proofs.Common.{◌≡◌, inl, inr, ℤ, false, List, [], ◌∷◌, refl, sym, ap, subst, ◌∙◌}
use Rattle.std.proofs.lemmas.Bool.{false≢true}
use Rattle.um_syntax.specs.declared.token.Token.{Token}
use Rattle.um_syntax.specs.Lexing.{is_minus_kind}
use Rattle.um_tree.specs.RawTree.{UnitSyntax, UnitSyntaxes, one_syntax, measure_syntax, variable_syntax, power_syntax, side_syntax, times_syntax, over_syntax, inverse_syntax, bracket_syntax, no_units, more_units}
use Rattle.um_tree.specs.RawTree.{NoteSyntax, hole_syntax, unit_note_syntax, TypeSyntax, bool_syntax, num_syntax, record_syntax, list_type_syntax, bracket_type_syntax}
use Rattle.um_unit_texts.specs.UnitTokens.{UnitToken}
use Rattle.um_unit_texts.specs.UnitGrammar.{Spells as UnitSpells, AllSpell as UnitsSpell, PowerSpells, First as UnitFirst}
use Rattle.um_types.specs.TypeGrammar.{NoteSpells, NotesSpell, AngledSpell, at_most_one, TypeSpells}
use Rattle.um_rescaled.proofs.CaretTokens.{NotLess, AfterMinus, AfterCaret, AllSafe, is_minus_unit, unit_minus, unit_over, unit_over_at, unit_not_less, unit_not_less_at, kind_over, kind_over_at, kind_not_less}

-- the number of a power, after `^`
digits_safe : (what : UnitToken) (tokens rest : List Token) → is_minus_unit what ≡ false → UnitFirst what tokens rest → NotLess rest → AfterCaret tokens
digits_safe what tokens rest none f less =
    let no_minus : is_minus_kind f.0.kind ≡ false = unit_minus f.0.kind ∙ ap is_minus_unit f.1 ∙ none in
    subst AfterCaret (sym f.2) ((λ _. less), (λ m. absurd (false≢true (sym no_minus ∙ m))))

power_safe : (k : ℤ) (next rest : List Token) → PowerSpells k next rest → NotLess rest → AllSafe rest → AfterCaret next × AllSafe next
power_safe k next rest (n, inl d) less h = (digits_safe _ next rest refl d.1.1 less, unit_over _ next rest refl d.1.1 h)
power_safe k next rest (n, inr d) less h =
    let f = d.3.1 in
    let first = d.2 in
    let after : AllSafe d.0 = unit_over _ d.0 rest refl f h in
    (subst AfterCaret (sym first.2) ((λ _. unit_not_less _ d.0 rest refl f), (λ _. subst AfterMinus (sym f.2) less)), unit_over _ next d.0 refl first after)

mutual
  pub unit_safe : (u : UnitSyntax) (tokens rest : List Token) → UnitSpells u tokens rest → NotLess rest → AllSafe rest → AllSafe tokens × NotLess tokens
  unit_safe (one_syntax at) tokens rest s less h = (unit_over_at _ at tokens rest refl s.1 h, unit_not_less_at _ at tokens rest refl s.1)
  unit_safe (measure_syntax at x) tokens rest s less h = (unit_over_at _ at tokens rest refl s h, unit_not_less_at _ at tokens rest refl s)
  unit_safe (variable_syntax at x) tokens rest s less h = (unit_over_at _ at tokens rest refl s h, unit_not_less_at _ at tokens rest refl s)
  unit_safe (power_syntax u k) tokens rest s less h =
      let p = power_safe k s.1 rest s.4 less h in
      let caret : AllSafe s.0 = subst AllSafe (sym s.3.2) ((λ _. p.0), p.1) in
      unit_safe u tokens s.0 s.2 (unit_not_less _ s.0 s.1 refl s.3) caret
  unit_safe (side_syntax us) tokens rest s less h = units_safe us tokens rest s less h
  unit_safe (times_syntax u v) tokens rest s less h =
      let q = unit_safe v s.1 rest s.4 less h in
      unit_safe u tokens s.0 s.2 (unit_not_less _ s.0 s.1 refl s.3) (unit_over _ s.0 s.1 refl s.3 q.0)
  unit_safe (over_syntax u v) tokens rest s less h =
      let q = unit_safe v s.1 rest s.4 less h in
      unit_safe u tokens s.0 s.2 (unit_not_less _ s.0 s.1 refl s.3) (unit_over _ s.0 s.1 refl s.3 q.0)
  unit_safe (inverse_syntax at u) tokens rest s less h =
      let q = unit_safe u s.0 rest s.2 less h in
      (unit_over_at _ at tokens s.0 refl s.1 q.0, unit_not_less_at _ at tokens s.0 refl s.1)
  unit_safe (bracket_syntax at u) tokens rest s less h =
      let q = unit_safe u s.0 s.1 s.3 (unit_not_less _ s.1 rest refl s.4) (unit_over _ s.1 rest refl s.4 h) in
      (unit_over_at _ at tokens s.0 refl s.2 q.0, unit_not_less_at _ at tokens s.0 refl s.2)

  units_safe : (us : UnitSyntaxes) (tokens rest : List Token) → UnitsSpell us tokens rest → NotLess rest → AllSafe rest → AllSafe tokens × NotLess tokens
  units_safe no_units tokens rest s less h = (subst AllSafe (sym s) h, subst NotLess (sym s) less)
  units_safe (more_units u us) tokens rest s less h =
      let q = units_safe us s.0 rest s.2 less h in
      unit_safe u tokens s.0 s.1 q.1 q.0

-- ---- notes and types

pub note_safe : (n : NoteSyntax) (tokens rest : List Token) → NoteSpells n tokens rest → NotLess rest → AllSafe rest → AllSafe tokens
note_safe (hole_syntax at) tokens rest s less h = kind_over_at _ at tokens rest refl s h
note_safe (unit_note_syntax at u) tokens rest s less h = (unit_safe u tokens rest s.1 less h).0

notes_safe : (ns : List NoteSyntax) (tokens rest : List Token) → NotesSpell ns tokens rest → NotLess rest → AllSafe rest → AllSafe tokens
notes_safe [] tokens rest s less h = absurd s
notes_safe (n ∷ []) tokens rest s less h = note_safe n tokens rest s less h
notes_safe (n ∷ m ∷ ns) tokens rest s less h =
    note_safe n tokens s.0 s.2 (kind_not_less _ s.0 s.1 refl s.3) (kind_over _ s.0 s.1 refl s.3 (notes_safe (m ∷ ns) s.1 rest s.4 less h))

angled_safe : (ns : List NoteSyntax) (tokens rest : List Token) → AngledSpell ns tokens rest → AllSafe rest → AllSafe tokens
angled_safe [] tokens rest s h = subst AllSafe (sym s) h
angled_safe (n ∷ ns) tokens rest s h =
    kind_over _ tokens s.0 refl s.2 (notes_safe (n ∷ ns) s.0 s.1 s.3 (kind_not_less _ s.1 rest refl s.4) (kind_over _ s.1 rest refl s.4 h))

pub type_safe : (t : TypeSyntax) (tokens rest : List Token) → TypeSpells t tokens rest → AllSafe rest → AllSafe tokens
type_safe bool_syntax tokens rest s h = kind_over _ tokens rest refl s h
type_safe (num_syntax n) tokens rest s h = kind_over _ tokens s.0 refl s.1 (angled_safe (at_most_one n) s.0 rest s.2 h)
type_safe (record_syntax at x ns) tokens rest s h = kind_over_at _ at tokens s.0 refl s.1 (angled_safe ns s.0 rest s.2 h)
type_safe (list_type_syntax t) tokens rest s h = type_safe t tokens s.0 s.1 (kind_over _ s.0 rest refl s.2 h)
type_safe (bracket_type_syntax t) tokens rest s h = kind_over _ tokens s.0 refl s.2 (type_safe t s.0 s.1 s.3 (kind_over _ s.1 rest refl s.4 h))
