-- Reading a signature text token by token, with the machine of types inside.
-- Source: this project's own.
use Rattle.std.specs.Prelude.{ℕ, max, List, [], ◌∷◌, ◌++◌, Option, Some, None}
use Rattle.um_syntax.specs.declared.token.Token.{Token}
use Rattle.um_syntax.specs.declared.token.Kind.{Kind}
use Rattle.um_syntax.specs.declared.token.Kind.TheVariants as kind
use Rattle.um_vocabulary.specs.declared.vocabulary.Symbol.TheVariants as symbol
use Rattle.um_reader.specs.Machine.{Machine, reached}
use Rattle.um_tree.specs.RawTree.{TypeSyntax}
use Rattle.um_types.specs.TypeHeights.{all_height}
use Rattle.um_types.specs.TypeMachine.{TypeState, NeedType, HaveType, InNote, NoType, type_act, type_finish, type_least}

-- a type text after these
pub data SignatureState : Type 0 where
  InType : (earlier : List TypeSyntax) (type : TypeState) → SignatureState
  NoSignature : SignatureState

-- the token after a type
abbrev pub type_end : List TypeSyntax → TypeSyntax → Kind → SignatureState
type_end earlier t (kind.Sign symbol.Arrow) = InType (earlier ++ t ∷ []) (NeedType 0)
type_end earlier t _ = NoSignature

abbrev pub type_ends : List TypeSyntax → Option TypeSyntax → Kind → SignatureState
type_ends earlier None token = NoSignature
type_ends earlier (Some t) token = type_end earlier t token

-- the type goes on, or ends
abbrev pub type_goes : List TypeSyntax → TypeState → SignatureState → SignatureState
type_goes earlier (NeedType depth) ended = InType earlier (NeedType depth)
type_goes earlier (HaveType depth t) ended = InType earlier (HaveType depth t)
type_goes earlier (InNote depth owner n) ended = InType earlier (InNote depth owner n)
type_goes earlier NoType ended = ended

-- one token more
abbrev pub signature_act : SignatureState → Kind → ℕ → SignatureState
signature_act (InType earlier s) k at = type_goes earlier (type_act s k at) (type_ends earlier (type_finish s) k)
signature_act NoSignature k at = NoSignature

abbrev pub signature_step : SignatureState → Token → SignatureState
signature_step state token = signature_act state token.kind token.start

abbrev pub typed : List TypeSyntax → Option TypeSyntax → Option (List TypeSyntax)
typed earlier None = None
typed earlier (Some t) = Some (earlier ++ t ∷ [])

-- the types, if all is read
abbrev pub signature_finish : SignatureState → Option (List TypeSyntax)
signature_finish (InType earlier s) = typed earlier (type_finish s)
signature_finish NoSignature = None

-- the least that the greatest of the heights in a signature text is that begins with what was read
abbrev pub signature_least : SignatureState → ℕ
signature_least (InType earlier s) = max (all_height earlier) (type_least s)
signature_least NoSignature = 0

-- nothing was read yet
abbrev pub start : SignatureState
start = InType [] (NeedType 0)

-- the machine of signature texts
abbrev pub machine_of_signatures : Machine SignatureState Token (List TypeSyntax)
machine_of_signatures =
    record {
      start = start;
      refused = NoSignature;
      step = signature_step;
      finish = signature_finish;
      least = signature_least;
    }

-- the state after these tokens
abbrev pub read_all : List Token → SignatureState
read_all tokens = reached machine_of_signatures tokens
