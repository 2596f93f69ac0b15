-- A signature text has no more unit variables than characters: each time that one stands in it is a token, and each token has
-- a character of its own.
use Rattle.std.proofs.Common.{◌≡◌, ℕ, ◌+◌, ◌≤◌, true, inl, inr, Option, Some, None, ℤ, List, [], ◌∷◌, ◌++◌, length, length-append, ap, arith, Ok, Err}
use Rattle.std.specs.Prelude.{Result, IfOk}
use Rattle.std.specs.List.{flat_map}
use Rattle.std.specs.Str.{chars, IsUtf8}
use Rattle.um_syntax.specs.declared.token.Token.{Token}
use Rattle.um_syntax.specs.declared.token.Kind.{Kind}
use Rattle.um_syntax.specs.Lexing.{HasTokens}
use Rattle.um_syntax.proofs.TokenCounts.{tokens_within_bytes}
use Rattle.um_tree.specs.TypeTree.{TypeTree}
use Rattle.um_tree.specs.RawTree.{UnitSyntax, UnitSyntaxes, one_syntax, measure_syntax, variable_syntax, power_syntax, side_syntax, times_syntax, over_syntax, inverse_syntax, bracket_syntax, no_units, more_units}
use Rattle.um_tree.specs.RawTree.{NoteSyntax, hole_syntax, unit_note_syntax, TypeSyntax, bool_syntax, num_syntax, record_syntax, list_type_syntax, bracket_type_syntax}
use Rattle.um_elim.proofs.Cases.{on_test}
use Rattle.um_unit_texts.specs.UnitTokens.{UnitToken, number}
use Rattle.um_unit_texts.specs.UnitGrammar.{First, FirstAt, Digits, PowerSpells, Spells, AllSpell}
use Rattle.um_types.specs.TypeGrammar.{FirstKind, FirstKindAt, NoteSpells, NotesSpell, AngledSpell, at_most_one, TypeSpells}
use Rattle.um_types.specs.SignatureGrammar.{TypesSpell, IsSignature}
use Rattle.um_measures.specs.Faults.{and_then}
use Rattle.um_measures.specs.Known.{Known, is_among}
use Rattle.um_measures.specs.Variables.{unit_variables, all_unit_variables, note_variables, number_variables, type_variables, first_occurrences}
use Rattle.um_sig.specs.SignatureNames.{SignatureTypes, all_type_names, resolved_types, signature_variables, resolved_signature}
use Rattle.um_names.proofs.FormedTypes.{then_found}
use Rattle.um_sig.specs.declared.signature.Signature.{Signature}
use Rattle.um_sig.specs.declared.stop.SigText.{SigText}
use Rattle.um_sig.specs.Reading.{signature_types_of}
use Rattle.um_sig.specs.ReadingSteps.{IsNamed}

-- ---- one token less
one_less : (token : Token) (tokens rest : List Token) → tokens ≡ token ∷ rest → length tokens ≡ length rest + 1
one_less token tokens rest e = let same : length tokens ≡ length (token ∷ rest) = ap length e in omega (arith, same)

first_less : (what : UnitToken) (tokens rest : List Token) → First what tokens rest → length tokens ≡ length rest + 1
first_less what tokens rest f = one_less f.0 tokens rest f.2

at_less : (what : UnitToken) (at : ℕ) (tokens rest : List Token) → FirstAt what at tokens rest → length tokens ≡ length rest + 1
at_less what at tokens rest f = one_less f.0 tokens rest f.3

kind_less : (what : Kind) (tokens rest : List Token) → FirstKind what tokens rest → length tokens ≡ length rest + 1
kind_less what tokens rest f = one_less f.0 tokens rest f.2

kind_at_less : (what : Kind) (at : ℕ) (tokens rest : List Token) → FirstKindAt what at tokens rest → length tokens ≡ length rest + 1
kind_at_less what at tokens rest f = one_less f.0 tokens rest f.3

digits_less : (n : ℕ) (tokens rest : List Token) → Digits n tokens rest → length tokens ≡ length rest + 1
digits_less n tokens rest d = first_less (number d.0 (Some n)) tokens rest d.1

power_less : (k : ℤ) (tokens rest : List Token) → PowerSpells k tokens rest → length rest ≤ length tokens
power_less k tokens rest s =
    elim s.1 [
      | inl d ↦ let a = digits_less s.0 tokens rest d.1 in omega (arith, a)
      | inr d ↦
          let a = first_less _ tokens d.0 d.2 in
          let b = digits_less s.0 d.0 rest d.3 in
          omega (arith, a, b)
    ]

-- ---- the variables and the rest take no more tokens than there are
mutual
  unit_counts : (u : UnitSyntax) (tokens rest : List Token) → Spells u tokens rest → length (unit_variables u) + length rest ≤ length tokens
  unit_counts (one_syntax at) tokens rest s = let a = at_less (number true s.0) at tokens rest s.1 in omega (arith, a)
  unit_counts (measure_syntax at x) tokens rest s = let a = at_less _ at tokens rest s in omega (arith, a)
  unit_counts (variable_syntax at x) tokens rest s = let a = at_less _ at tokens rest s in omega (arith, a)
  unit_counts (power_syntax u k) tokens rest s =
      let a = unit_counts u tokens s.0 s.2 in
      let b = first_less _ s.0 s.1 s.3 in
      let c = power_less k s.1 rest s.4 in
      omega (arith, a, b, c)
  unit_counts (side_syntax us) tokens rest s = units_count us tokens rest s
  unit_counts (times_syntax u v) tokens rest s =
      let a = unit_counts u tokens s.0 s.2 in
      let b = first_less _ s.0 s.1 s.3 in
      let c = unit_counts v s.1 rest s.4 in
      let both = length-append (unit_variables u) (unit_variables v) in
      omega (arith, a, b, c, both)
  unit_counts (over_syntax u v) tokens rest s =
      let a = unit_counts u tokens s.0 s.2 in
      let b = first_less _ s.0 s.1 s.3 in
      let c = unit_counts v s.1 rest s.4 in
      let both = length-append (unit_variables u) (unit_variables v) in
      omega (arith, a, b, c, both)
  unit_counts (inverse_syntax at u) tokens rest s =
      let a = at_less _ at tokens s.0 s.1 in
      let b = unit_counts u s.0 rest s.2 in
      omega (arith, a, b)
  unit_counts (bracket_syntax at u) tokens rest s =
      let a = at_less _ at tokens s.0 s.2 in
      let b = unit_counts u s.0 s.1 s.3 in
      let c = first_less _ s.1 rest s.4 in
      omega (arith, a, b, c)

  units_count : (us : UnitSyntaxes) (tokens rest : List Token) → AllSpell us tokens rest → length (all_unit_variables us) + length rest ≤ length tokens
  units_count no_units tokens rest s = let same : length tokens ≡ length rest = ap length s in omega (arith, same)
  units_count (more_units u us) tokens rest s =
      let a = unit_counts u tokens s.0 s.1 in
      let b = units_count us s.0 rest s.2 in
      let both = length-append (unit_variables u) (all_unit_variables us) in
      omega (arith, a, b, both)

note_counts : (n : NoteSyntax) (tokens rest : List Token) → NoteSpells n tokens rest → length (note_variables n) + length rest ≤ length tokens
note_counts (hole_syntax at) tokens rest s = let a = kind_at_less _ at tokens rest s in omega (arith, a)
note_counts (unit_note_syntax at u) tokens rest s = unit_counts u tokens rest s.1

notes_count : (ns : List NoteSyntax) (tokens rest : List Token) → NotesSpell ns tokens rest → length (flat_map note_variables ns) + length rest ≤ length tokens
notes_count [] tokens rest s = absurd s
notes_count (n ∷ []) tokens rest s =
    let a = note_counts n tokens rest s in
    let both = length-append (note_variables n) [] in
    omega (arith, a, both)
notes_count (n ∷ m ∷ ns) tokens rest s =
    let a = note_counts n tokens s.0 s.2 in
    let b = kind_less _ s.0 s.1 s.3 in
    let c = notes_count (m ∷ ns) s.1 rest s.4 in
    let both = length-append (note_variables n) (flat_map note_variables (m ∷ ns)) in
    omega (arith, a, b, c, both)

angled_counts : (ns : List NoteSyntax) (tokens rest : List Token) → AngledSpell ns tokens rest → length (flat_map note_variables ns) + length rest ≤ length tokens
angled_counts [] tokens rest s = let same : length tokens ≡ length rest = ap length s in omega (arith, same)
angled_counts (n ∷ ns) tokens rest s =
    let a = kind_less _ tokens s.0 s.2 in
    let b = notes_count (n ∷ ns) s.0 s.1 s.3 in
    let c = kind_less _ s.1 rest s.4 in
    omega (arith, a, b, c)

number_counts : (n : Option NoteSyntax) (tokens rest : List Token) → AngledSpell (at_most_one n) tokens rest → length (number_variables n) + length rest ≤ length tokens
number_counts None tokens rest s = angled_counts [] tokens rest s
number_counts (Some n) tokens rest s =
    let a = angled_counts (n ∷ []) tokens rest s in
    let both = length-append (note_variables n) [] in
    omega (arith, a, both)

type_counts : (t : TypeSyntax) (tokens rest : List Token) → TypeSpells t tokens rest → length (type_variables t) + length rest ≤ length tokens
type_counts bool_syntax tokens rest s = let a = kind_less _ tokens rest s in omega (arith, a)
type_counts (num_syntax n) tokens rest s =
    let a = kind_less _ tokens s.0 s.1 in
    let b = number_counts n s.0 rest s.2 in
    omega (arith, a, b)
type_counts (record_syntax at x ns) tokens rest s =
    let a = kind_at_less _ at tokens s.0 s.1 in
    let b = angled_counts ns s.0 rest s.2 in
    omega (arith, a, b)
type_counts (list_type_syntax t) tokens rest s =
    let a = type_counts t tokens s.0 s.1 in
    let b = kind_less _ s.0 rest s.2 in
    omega (arith, a, b)
type_counts (bracket_type_syntax t) tokens rest s =
    let a = kind_less _ tokens s.0 s.2 in
    let b = type_counts t s.0 s.1 s.3 in
    let c = kind_less _ s.1 rest s.4 in
    omega (arith, a, b, c)

types_count : (ts : List TypeSyntax) (tokens rest : List Token) → TypesSpell ts tokens rest → length (flat_map type_variables ts) + length rest ≤ length tokens
types_count [] tokens rest s = absurd s
types_count (t ∷ []) tokens rest s =
    let a = type_counts t tokens rest s in
    let both = length-append (type_variables t) [] in
    omega (arith, a, both)
types_count (t ∷ u ∷ us) tokens rest s =
    let a = type_counts t tokens s.0 s.2 in
    let b = kind_less _ s.0 s.1 s.3 in
    let c = types_count (u ∷ us) s.1 rest s.4 in
    let both = length-append (type_variables t) (flat_map type_variables (u ∷ us)) in
    omega (arith, a, b, c, both)

-- ---- each variable is counted once
firsts_count : (before xs : List (List ℕ)) → length (first_occurrences before xs) ≤ length before + length xs
firsts_count before [] = omega arith
firsts_count before (x ∷ xs) =
    on_test (is_among before x)
    (λ e. let a = firsts_count before xs in rw e (omega (arith, a)))
    (λ e.
    let a = firsts_count (before ++ x ∷ []) xs in
    let longer = length-append before (x ∷ []) in
    rw e (omega (arith, a, longer)))

signature_counts : (known : Known) (texts : List TypeSyntax) (s : SignatureTypes) → resolved_signature known texts ≡ Ok s → s.vars ≡ length (signature_variables texts)
unfolding resolved_signature
signature_counts known texts s e =
    let names = signature_variables texts in
    let found : List TypeTree → SignatureTypes = λ types. record { types = types; vars = length names } in
    let w = then_found (all_type_names known names texts) (λ _. and_then (resolved_types known names texts) (λ types. Ok (found types))) s e in
    let z = then_found (resolved_types known names texts) (λ types. Ok (found types)) s w.2 in
    let same : s ≡ found z.0 = cc (z.2) in
    ap (λ (q : SignatureTypes). q.vars) same

few_of : (known : Known) (texts : List TypeSyntax) (tokens : List Token) (s : SignatureTypes) → IsSignature tokens texts → resolved_signature known texts ≡ Ok s → s.vars ≤ length tokens
few_of known texts tokens s is e =
    let vars = signature_counts known texts s e in
    let once = firsts_count [] (flat_map type_variables texts) in
    let all = types_count texts tokens [] is.spelled in
    omega (arith, vars, once, all)

-- so what is read has few variables
pub named_few : (known : Known) (texts : List TypeSyntax) (text : List ℕ) (tokens : List Token) (r : Result Signature SigText) → IsUtf8 text → length text ≤ 1048576 → HasTokens (chars text) tokens → IsSignature tokens texts →
    IsNamed (resolved_signature known texts) r → IfOk r (λ s. s.vars ≤ 1048576)
named_few known texts text tokens (Ok s) utf8 short lexed is named =
    let few = few_of known texts tokens (signature_types_of s) is named in
    let within = tokens_within_bytes text tokens utf8 lexed in
    omega (arith, few, within, short)
named_few known texts text tokens (Err e) utf8 short lexed is named = tt
