use Rattle.std.proofs.Common.{◌≡◌, ◌++◌, take}
use Rattle.um_sites.specs.NameDetails.{names_text}
use Rattle.um_sites.proofs.text.push_names.Given as goal

abbrev pub invariant-loop-name : goal.invariant-loop-name
invariant-loop-name l = l.text.items ≡ l.initial.text.items ++ names_text l.quoted (take l.name-index l.names)
