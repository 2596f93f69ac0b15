use Rattle.um_front.proofs.BeginningTokens.{tokens_begin_characters, syntax_faults_begin_tokens, programs_begin_tokens, name_faults_begin_tokens}
use Rattle.um_front.proofs.TokenPlaces.{lexical_faults_have_places}
use Rattle.um_front.proofs.laws.places_begin_tokens.Goals as goal

pub returns-clause-tokens : goal.returns-clause-tokens
returns-clause-tokens c = tokens_begin_characters

pub returns-clause-syntax : goal.returns-clause-syntax
returns-clause-syntax c = syntax_faults_begin_tokens

pub returns-clause-programs : goal.returns-clause-programs
returns-clause-programs c = programs_begin_tokens

pub returns-clause-names : goal.returns-clause-names
returns-clause-names c = name_faults_begin_tokens

pub returns-clause-characters : goal.returns-clause-characters
returns-clause-characters c = lexical_faults_have_places
