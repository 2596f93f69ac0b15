-- What was read of a signature text, without where it lies in memory.
-- Source: this project's own.
use Rattle.std.specs.Prelude.{map}
use Rattle.um_tree.specs.RawTree.{type_syntax}
use Rattle.um_types.specs.TypeView.{type_state}
use Rattle.um_types.specs.SignatureMachine.{SignatureState, InType}
use Rattle.um_types.specs.declared.signature_reader.SignatureReader.{SignatureReader}

-- the state of a reader
abbrev pub signature_state : SignatureReader → SignatureState
signature_state r = InType (map type_syntax r.earlier.items) (type_state r.last)
