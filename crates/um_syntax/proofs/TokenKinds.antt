-- What holds of the kind of each lexeme holds of each token of a text. Published: crates above use it.
use Rattle.std.proofs.Common.{◌≡◌, ℕ, Bool, true, false, cond, ◌==◌, List, [], ◌∷◌, ◌++◌, Option, Some, None, option_map, bytes_eq, encode_utf8_all, refl, subst}
use Rattle.um_frac.specs.declared.number.Frac.{Frac}
use Rattle.um_syntax.specs.declared.token.Kind.{Kind}
use Rattle.um_syntax.specs.declared.token.Kind.TheVariants as kind
use Rattle.um_syntax.specs.declared.token.Token.{Token}
use Rattle.um_vocabulary.specs.declared.vocabulary.Keyword.{Keyword}
use Rattle.um_vocabulary.specs.declared.vocabulary.Symbol.{Symbol}
use Rattle.um_syntax.specs.Numeral.{Numeral, numeral_text, number_value}
use Rattle.um_syntax.specs.Lexeme.{IsName, Lexeme, Name, Var, Number, Word, Hole, Sign, text_of, IsLexeme, is_whole, kind_of}
use Rattle.um_syntax.specs.Lexing.{Lexes, HasTokens, is_power_place, body, body_place}

-- it holds of the kind of each token
abbrev pub AllKinds : (Kind → Type 0) → List Token → Type 0
AllKinds P [] = Unit {0}
AllKinds P (token ∷ tokens) = P token.kind × AllKinds P tokens

-- P holds of each lexeme's kind, where S holds of the lexeme's text
pub record KindsHold (P : Kind → Type 0) (S : List ℕ → Type 0) : Type 0 where
  pub name : (text : List ℕ) → IsName text → S text → P (kind.Name (encode_utf8_all text))
  pub variable : (name : List ℕ) → IsName name → S name → P (kind.Var (encode_utf8_all name))
  pub number : (power : Bool) (n : Numeral) (v : Frac) → number_value power n ≡ Some v → P (kind.Number v (is_whole n) (bytes_eq (numeral_text n) (49 ∷ [])))
  pub word : (k : Keyword) → P (kind.Word k)
  pub hole : P kind.Hole
  pub sign : (k : Symbol) → P (kind.Sign k)

-- S holds of the parts of a text of which it holds
abbrev pub HasParts : (List ℕ → Type 0) → Type 0
HasParts S = (xs ys : List ℕ) → S (xs ++ ys) → S xs × S ys

of_kind : (P : Kind → Type 0) (x k : Kind) → Some x ≡ Some k → P x → P k
of_kind P x k e h = let same : x ≡ k = cc in subst P same h

of_value : (P : Kind → Type 0) (f : Frac → Kind) (o : Option Frac) (k : Kind) → ((v : Frac) → o ≡ Some v → P (f v)) → option_map f o ≡ Some k → P k
of_value P f None k h e = absurd (no_kind k e)
  where
    no_kind : (k : Kind) → ◌≡◌ {A = Option Kind} None (Some k) → ⊥
    no_kind k e = cc
of_value P f (Some v) k h e = of_kind P (f v) k e (h v refl)

kind_holds : (P : Kind → Type 0) (S : List ℕ → Type 0) → KindsHold P S → HasParts S → (power : Bool) (lexeme : Lexeme) (k : Kind) → IsLexeme lexeme → S (text_of lexeme) → kind_of power lexeme ≡ Some k → P k
kind_holds P S holds parts power (Name text) k fits s e = of_kind P (kind.Name (encode_utf8_all text)) k e (holds.name text fits s)
kind_holds P S holds parts power (Var name) k fits s e = of_kind P (kind.Var (encode_utf8_all name)) k e (holds.variable name fits (parts (39 ∷ []) name s).1)
kind_holds P S holds parts power (Number n) k fits s e =
    of_value P (λ v. kind.Number v (is_whole n) (bytes_eq (numeral_text n) (49 ∷ []))) (number_value power n) k (λ v is. holds.number power n v is) e
kind_holds P S holds parts power (Word n) k fits s e = of_kind P (kind.Word n) k e (holds.word n)
kind_holds P S holds parts power Hole k fits s e = of_kind P kind.Hole k e holds.hole
kind_holds P S holds parts power (Sign n) k fits s e = of_kind P (kind.Sign n) k e (holds.sign n)

lexes_hold : (P : Kind → Type 0) (S : List ℕ → Type 0) → KindsHold P S → HasParts S → (tokens before : List Token) (at : ℕ) (chars : List ℕ) → S chars → Lexes before at chars tokens → AllKinds P tokens
lexes_hold P S holds parts [] before at chars s l = tt
lexes_hold P S holds parts (t ∷ ts) before at chars s l =
    let n = l.1 in
    let behind = parts n.gap (text_of n.lexeme ++ l.0) (subst S n.cut s) in
    let own = parts (text_of n.lexeme) l.0 behind.1 in
    (kind_holds P S holds parts (is_power_place before) n.lexeme t.kind n.fits own.0 n.kind, lexes_hold P S holds parts ts (before ++ t ∷ []) t.end l.0 own.1 l.2)

body_part : (S : List ℕ → Type 0) → HasParts S → (cs : List ℕ) → S cs → S (body cs)
body_part S parts [] s = s
body_part S parts (c ∷ cs) s = go (c == 65279)
  where
    go : (b : Bool) → S (cond b cs (c ∷ cs))
    go true = (parts (c ∷ []) cs s).1
    go false = s

pub kinds_hold : (P : Kind → Type 0) (S : List ℕ → Type 0) → KindsHold P S → HasParts S → (cs : List ℕ) (tokens : List Token) → S cs → HasTokens cs tokens → AllKinds P tokens
kinds_hold P S holds parts cs tokens s l = lexes_hold P S holds parts tokens [] (body_place cs) (body cs) (body_part S parts cs s) l
