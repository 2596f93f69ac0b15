-- What contracts see of a source and a sink in memory that fail on purpose. This project's own.
use Rattle.std.specs.Prelude.{ℕ, ◌-◌, List, length, min}

-- a source in memory: the bytes left, the most bytes that a read gives, the numbers of the calls that fail, how many
-- calls there were, and how many of them failed
pub record MemSourceState : Type 0 where
  pub left : List ℕ
  pub piece : ℕ
  pub fails : List ℕ
  pub calls : ℕ
  pub faults : ℕ

-- how many bytes a read into `space` bytes gives if it doesn't fail: as many as can be
abbrev pub read_count : MemSourceState → ℕ → ℕ
read_count source space = min source.piece (min space (length source.left))

-- a sink in memory: the bytes taken, how many it has room for in all, the most bytes that a write takes, the numbers of
-- the calls that fail, how many calls there were, and how many failed
pub record MemSinkState : Type 0 where
  pub taken : List ℕ
  pub room : ℕ
  pub piece : ℕ
  pub fails : List ℕ
  pub calls : ℕ
  pub faults : ℕ

-- how many of `offered` bytes a write takes if it doesn't fail: as many as can be
abbrev pub write_count : MemSinkState → ℕ → ℕ
write_count sink offered = min sink.piece (min offered (sink.room - length sink.taken))
