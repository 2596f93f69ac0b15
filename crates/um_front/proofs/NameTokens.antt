-- Each name among the tokens of a text is a name of the language.
use Rattle.std.proofs.Common.{◌≡◌, ℕ, zero, suc, List, [], ◌∷◌, Some, encode_utf8_all, refl, subst}
use Rattle.std.specs.Prelude.{slice_get}
use Rattle.um_syntax.specs.declared.token.Token.{Token}
use Rattle.um_syntax.specs.declared.token.Kind.{Kind}
use Rattle.um_syntax.specs.declared.token.Kind.TheVariants as kind
use Rattle.um_vocabulary.specs.declared.vocabulary.Keyword.TheVariants as keyword
use Rattle.um_syntax.specs.Lexeme.{AllContinue, IsIdentifier, IsWord, IsName}
use Rattle.um_syntax.specs.Lexing.{HasTokens}
use Rattle.um_syntax.proofs.TokenKinds.{AllKinds, KindsHold, kinds_hold}
use Rattle.um_tree.specs.Formed.{AllContinue as FormedContinue, IsIdentifier as FormedIdentifier, IsNameBytes, reserved_words}

continues : (cs : List ℕ) → AllContinue cs → FormedContinue cs
continues [] h = tt
continues (c ∷ cs) h = (h.0, continues cs h.1)

identifier : (cs : List ℕ) → IsIdentifier cs → FormedIdentifier cs
identifier [] h = h
identifier (c ∷ cs) h = (h.0, continues cs h.1)

-- each of these is a reserved word
abbrev AreWords : List (List ℕ) → Type 0
AreWords [] = Unit {0}
AreWords (w ∷ ws) = IsWord w × AreWords ws

reserved_are_words : AreWords reserved_words
reserved_are_words = (
  (keyword.Let, refl),
  (
    (keyword.Rec, refl),
    (
      (keyword.In, refl),
      (
        (keyword.If, refl),
        (
          (keyword.Then, refl),
          (
            (keyword.Else, refl),
            (
              (keyword.Match, refl),
              (
                (keyword.With, refl),
                (
                  (keyword.Type, refl),
                  (
                    (keyword.True, refl),
                    (
                      (keyword.False, refl),
                      (
                        (keyword.Not, refl),
                        (
                          (keyword.Num, refl),
                          (
                            (keyword.Bool, refl),
                            (
                              (keyword.List, refl),
                              (
                                (keyword.Measure, refl),
                                ((keyword.Pown, refl), tt),
                              ),
                            ),
                          ),
                        ),
                      ),
                    ),
                  ),
                ),
              ),
            ),
          ),
        ),
      ),
    ),
  ),
)

word_at : (ws : List (List ℕ)) → AreWords ws → (k : ℕ) (text : List ℕ) → slice_get ws k ≡ Some text → IsWord text
word_at [] all k text e = absurd cc
word_at (w ∷ ws) all zero text e = let same : w ≡ text = cc in subst (λ x. IsWord x) same all.0
word_at (w ∷ ws) all (suc k) text e = word_at ws all.1 k text e

name_bytes : (text : List ℕ) → IsName text → IsNameBytes (encode_utf8_all text)
name_bytes text n = record {
  text = text;
  is = refl;
  identifier = identifier text n.0;
  no_hole = n.1;
  no_word = λ k e. n.2 (word_at reserved_words reserved_are_words k text e);
}

-- P holds of the letters, where it is a name
abbrev pub IsNamed : (List ℕ → Type 0) → Kind → Type 0
IsNamed P (kind.Name letters) = P letters
IsNamed P (kind.Var letters) = Unit {0}
IsNamed P (kind.Number value digits one) = Unit {0}
IsNamed P (kind.Word k) = Unit {0}
IsNamed P kind.Hole = Unit {0}
IsNamed P (kind.Sign k) = Unit {0}

-- P holds of the letters of each name
abbrev pub AllNamed : (List ℕ → Type 0) → List Token → Type 0
AllNamed P = AllKinds (IsNamed P)

abbrev Any : List ℕ → Type 0
Any text = Unit {0}

named_kinds : KindsHold (IsNamed IsNameBytes) Any
named_kinds = record {
  name = λ text named any. name_bytes text named;
  variable = λ name named any. tt;
  number = λ power n v is. tt;
  word = λ k. tt;
  hole = tt;
  sign = λ k. tt;
}

pub tokens_named : (cs : List ℕ) (tokens : List Token) → HasTokens cs tokens → AllNamed IsNameBytes tokens
tokens_named cs tokens l = kinds_hold (IsNamed IsNameBytes) Any named_kinds (λ xs ys any. (tt, tt)) cs tokens tt l
