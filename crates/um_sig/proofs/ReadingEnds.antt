-- What reading a signature text answers, from what its steps answer.
use Rattle.std.proofs.Common.{ℕ, List}
use Rattle.std.specs.Prelude.{Result, Ok, Err}
use Rattle.um_syntax.specs.declared.token.Token.{Token}
use Rattle.um_syntax.specs.Lexing.{HasTokens}
use Rattle.um_tree.specs.declared.raw.RawTypes.{RawTypes}
use Rattle.um_tree.specs.ProgramTree.{ProgramTree}
use Rattle.um_tree.specs.RawTree.{type_syntaxes}
use Rattle.um_measures.specs.declared.abbreviation.Abbreviation.{Abbreviation}
use Rattle.um_measures.specs.ClosedUnits.{given}
use Rattle.um_sig.specs.SignatureNames.{resolved_signature}
use Rattle.um_sig.specs.declared.signature.Signature.{Signature}
use Rattle.um_sig.specs.declared.stop.SigText.{SigText}
use Rattle.um_sig.specs.declared.stop.SigText.TheVariants as stop
use Rattle.um_sig.specs.Reading.{IsRead, AreTypes}
use Rattle.um_sig.specs.ReadingSteps.{AreTokens, IsParsed, IsNamed}

module _ (p : ProgramTree) (shorts : List Abbreviation) (chars : List ℕ) (end : ℕ) where
  -- a text without tokens
  pub without_tokens : (e : SigText) → AreTokens chars (Err e) → IsRead p shorts chars end (Err e)
  without_tokens (stop.Text at) h = h
  without_tokens (stop.Syntax at) h = absurd h
  without_tokens (stop.Height at) h = absurd h
  without_tokens (stop.Names at) h = absurd h
  without_tokens (stop.PowerRange at) h = absurd h
  without_tokens stop.NoMemory h = tt

  -- tokens that are no types
  pub without_types : (tokens : List Token) → HasTokens chars tokens → (e : SigText) → IsParsed tokens end (Err e) → IsRead p shorts chars end (Err e)
  without_types tokens lexed (stop.Text at) h = absurd h
  without_types tokens lexed (stop.Syntax at) h = (tokens, h.0, lexed, h.1, h.2)
  without_types tokens lexed (stop.Height at) h = (tokens, h.0, lexed, h.1, h.2)
  without_types tokens lexed (stop.Names at) h = absurd h
  without_types tokens lexed (stop.PowerRange at) h = absurd h
  without_types tokens lexed stop.NoMemory h = tt

  -- types, whose names are looked up
  pub with_types : (raw : RawTypes) → AreTypes chars (type_syntaxes raw) → (r : Result Signature SigText) →
      IsNamed (resolved_signature (given p shorts) (type_syntaxes raw)) r → IsRead p shorts chars end r
  with_types raw are (Ok s) h = (type_syntaxes raw, are, h)
  with_types raw are (Err (stop.Text at)) h = absurd h
  with_types raw are (Err (stop.Syntax at)) h = absurd h
  with_types raw are (Err (stop.Height at)) h = absurd h
  with_types raw are (Err (stop.Names at)) h = (type_syntaxes raw, are, h)
  with_types raw are (Err (stop.PowerRange at)) h = (type_syntaxes raw, are, h)
  with_types raw are (Err stop.NoMemory) h = tt
