-- Units, notes and types in tokens whose numbers before units are replaced: they stay.
use Rattle.std.proofs.Common.{inl, inr, ℕ, ℤ, List, [], ◌∷◌, Option, ◌∙◌, subst, slice_get}
use Rattle.um_frac.specs.declared.number.Frac.{Frac}
use Rattle.um_syntax.specs.declared.token.Kind.{Kind}
use Rattle.um_syntax.specs.declared.token.Token.{Token}
use Rattle.um_tree.specs.RawTree.{UnitSyntax, UnitSyntaxes, one_syntax, measure_syntax, variable_syntax, power_syntax, side_syntax, times_syntax, over_syntax, inverse_syntax, bracket_syntax, no_units, more_units}
use Rattle.um_tree.specs.RawTree.{NoteSyntax, hole_syntax, unit_note_syntax, TypeSyntax, bool_syntax, num_syntax, record_syntax, list_type_syntax, bracket_type_syntax}
use Rattle.um_unit_texts.specs.UnitTokens.{UnitToken}
use Rattle.um_unit_texts.specs.UnitGrammar.{Spells, AllSpell, PowerSpells, First, FirstAt}
use Rattle.um_types.specs.TypeGrammar.{FirstKind, FirstKindAt, BeginsAt, NoteSpells, NotesSpell, AngledSpell, at_most_one, TypeSpells}
use Rattle.um_scale.specs.RescaledText.{opens_unit, new_number}
use Rattle.um_rescaled.specs.Replaced.{AreReplaced}
use Rattle.um_rescaled.proofs.Picks.{Segment, made, before, empty, single, seen, same_start}

module _ (numbers : ℕ → Option Frac) where
  -- without literals
  abbrev Stays : List Token → List Token → (List Token → List Token → Type 0) → Type 0
  Stays tokens rest Good = Segment numbers [] tokens rest Good

  -- ---- tokens

  first : (what : UnitToken) (tokens rest : List Token) → First what tokens rest → Stays tokens rest (λ x y. First what x y)
  first what tokens rest f = made numbers (single numbers f.0 tokens rest f.2) (λ x y e. (f.0, f.1, e))

  first_at : (what : UnitToken) (at : ℕ) (tokens rest : List Token) → FirstAt what at tokens rest → Stays tokens rest (λ x y. FirstAt what at x y)
  first_at what at tokens rest f = made numbers (single numbers f.0 tokens rest f.3) (λ x y e. (f.0, f.1, f.2, e))

  kind_first : (what : Kind) (tokens rest : List Token) → FirstKind what tokens rest → Stays tokens rest (λ x y. FirstKind what x y)
  kind_first what tokens rest f = made numbers (single numbers f.0 tokens rest f.2) (λ x y e. (f.0, f.1, e))

  kind_first_at : (what : Kind) (at : ℕ) (tokens rest : List Token) → FirstKindAt what at tokens rest → Stays tokens rest (λ x y. FirstKindAt what at x y)
  kind_first_at what at tokens rest f = made numbers (single numbers f.0 tokens rest f.3) (λ x y e. (f.0, f.1, f.2, e))

  -- ---- units

  power_replaced : (k : ℤ) (tokens rest : List Token) → PowerSpells k tokens rest → Stays tokens rest (λ x y. PowerSpells k x y)
  power_replaced k tokens rest (n, inl d) = made numbers (first _ tokens rest d.1.1) (λ x y f. (n, inl (d.0, (d.1.0, f))))
  power_replaced k tokens rest (n, inr d) =
      made numbers (before numbers (first _ tokens d.0 d.2) (first _ d.0 rest d.3.1)) (λ x y g. (n, inr (g.mid, d.1, g.first, (d.3.0, g.second))))

  mutual
    pub unit_replaced : (u : UnitSyntax) (tokens rest : List Token) → Spells u tokens rest → Stays tokens rest (λ x y. Spells u x y)
    unit_replaced (one_syntax at) tokens rest s = made numbers (first_at _ at tokens rest s.1) (λ x y f. (s.0, f))
    unit_replaced (measure_syntax at m) tokens rest s = first_at _ at tokens rest s
    unit_replaced (variable_syntax at v) tokens rest s = first_at _ at tokens rest s
    unit_replaced (power_syntax u k) tokens rest s =
        made numbers (before numbers (unit_replaced u tokens s.0 s.2) (before numbers (first _ s.0 s.1 s.3) (power_replaced k s.1 rest s.4)))
        (λ x y g. (g.mid, g.second.mid, g.first, g.second.first, g.second.second))
    unit_replaced (side_syntax us) tokens rest s = units_replaced us tokens rest s
    unit_replaced (times_syntax u v) tokens rest s =
        made numbers (before numbers (unit_replaced u tokens s.0 s.2) (before numbers (first _ s.0 s.1 s.3) (unit_replaced v s.1 rest s.4)))
        (λ x y g. (g.mid, g.second.mid, g.first, g.second.first, g.second.second))
    unit_replaced (over_syntax u v) tokens rest s =
        made numbers (before numbers (unit_replaced u tokens s.0 s.2) (before numbers (first _ s.0 s.1 s.3) (unit_replaced v s.1 rest s.4)))
        (λ x y g. (g.mid, g.second.mid, g.first, g.second.first, g.second.second))
    unit_replaced (inverse_syntax at u) tokens rest s =
        made numbers (before numbers (first_at _ at tokens s.0 s.1) (unit_replaced u s.0 rest s.2)) (λ x y g. (g.mid, g.first, g.second))
    unit_replaced (bracket_syntax at u) tokens rest s =
        made numbers (before numbers (first_at _ at tokens s.0 s.2) (before numbers (unit_replaced u s.0 s.1 s.3) (first _ s.1 rest s.4)))
        (λ x y g. (g.mid, g.second.mid, g.first, g.second.first, g.second.second))

    units_replaced : (us : UnitSyntaxes) (tokens rest : List Token) → AllSpell us tokens rest → Stays tokens rest (λ x y. AllSpell us x y)
    units_replaced no_units tokens rest s = empty numbers tokens rest s
    units_replaced (more_units u us) tokens rest s =
        made numbers (before numbers (unit_replaced u tokens s.0 s.1) (units_replaced us s.0 rest s.2)) (λ x y g. (g.mid, g.first, g.second))

  -- ---- notes and types

  begins : (at : ℕ) (tokens others : List Token) → BeginsAt at tokens → AreReplaced numbers tokens others → BeginsAt at others
  begins at tokens others b r =
      let x : AreReplaced numbers (b.0 ∷ b.1) others = subst (λ ts. AreReplaced numbers ts others) b.3 r in
      (x.0, x.1, same_start numbers (new_number numbers b.0 (opens_unit (slice_get b.1 0))) b.0 x.0 x.3 ∙ b.2, x.2)

  pub note_replaced : (n : NoteSyntax) (tokens rest : List Token) → NoteSpells n tokens rest → Stays tokens rest (λ x y. NoteSpells n x y)
  note_replaced (hole_syntax at) tokens rest s = kind_first_at _ at tokens rest s
  note_replaced (unit_note_syntax at u) tokens rest s =
      made numbers (seen numbers (unit_replaced u tokens rest s.1)) (λ x y g. (begins at tokens x s.0 g.0, g.2))

  notes_replaced : (ns : List NoteSyntax) (tokens rest : List Token) → NotesSpell ns tokens rest → Stays tokens rest (λ x y. NotesSpell ns x y)
  notes_replaced [] tokens rest s = absurd s
  notes_replaced (n ∷ []) tokens rest s = note_replaced n tokens rest s
  notes_replaced (n ∷ m ∷ ns) tokens rest s =
      made numbers (before numbers (note_replaced n tokens s.0 s.2) (before numbers (kind_first _ s.0 s.1 s.3) (notes_replaced (m ∷ ns) s.1 rest s.4)))
      (λ x y g. (g.mid, g.second.mid, g.first, g.second.first, g.second.second))

  angled_replaced : (ns : List NoteSyntax) (tokens rest : List Token) → AngledSpell ns tokens rest → Stays tokens rest (λ x y. AngledSpell ns x y)
  angled_replaced [] tokens rest s = empty numbers tokens rest s
  angled_replaced (n ∷ ns) tokens rest s =
      made numbers (before numbers (kind_first _ tokens s.0 s.2) (before numbers (notes_replaced (n ∷ ns) s.0 s.1 s.3) (kind_first _ s.1 rest s.4)))
      (λ x y g. (g.mid, g.second.mid, g.first, g.second.first, g.second.second))

  pub type_replaced : (t : TypeSyntax) (tokens rest : List Token) → TypeSpells t tokens rest → Stays tokens rest (λ x y. TypeSpells t x y)
  type_replaced bool_syntax tokens rest s = kind_first _ tokens rest s
  type_replaced (num_syntax n) tokens rest s =
      made numbers (before numbers (kind_first _ tokens s.0 s.1) (angled_replaced (at_most_one n) s.0 rest s.2)) (λ x y g. (g.mid, g.first, g.second))
  type_replaced (record_syntax at m ns) tokens rest s =
      made numbers (before numbers (kind_first_at _ at tokens s.0 s.1) (angled_replaced ns s.0 rest s.2)) (λ x y g. (g.mid, g.first, g.second))
  type_replaced (list_type_syntax t) tokens rest s =
      made numbers (before numbers (type_replaced t tokens s.0 s.1) (kind_first _ s.0 rest s.2)) (λ x y g. (g.mid, g.first, g.second))
  type_replaced (bracket_type_syntax t) tokens rest s =
      made numbers (before numbers (kind_first _ tokens s.0 s.2) (before numbers (type_replaced t s.0 s.1 s.3) (kind_first _ s.1 rest s.4)))
      (λ x y g. (g.mid, g.second.mid, g.first, g.second.first, g.second.second))
