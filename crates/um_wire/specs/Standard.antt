-- What contracts see of the adapters over std's readers and writers. This project's own.
use Rattle.std.specs.Prelude.{ℕ}

-- a reader of std, and how many of its reads failed
pub record StdSourceState (R : Type 0) : Type 0 where
  pub reader : R
  pub faults : ℕ

-- a writer of std, and how many of its writes failed, took nothing or weren't flushed
pub record StdSinkState (W : Type 0) : Type 0 where
  pub writer : W
  pub faults : ℕ
