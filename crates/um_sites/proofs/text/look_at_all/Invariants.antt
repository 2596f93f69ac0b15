use Rattle.std.proofs.Common.{◌≡◌, filter, drop}
use Rattle.std.specs.Str.{is_utf8}
use Rattle.um_similar.specs.SimilarNames.{looked_at_all}
use Rattle.um_sites.proofs.text.look_at_all.Given as goal

abbrev pub invariant-loop-name : goal.invariant-loop-name
invariant-loop-name l = looked_at_all l.similar (filter is_utf8 (drop l.name-index l.known)) ≡ looked_at_all l.fn.similar (filter is_utf8 l.known)
