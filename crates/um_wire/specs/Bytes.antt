-- What reads and writes do to the bytes that a source has left and a sink took, in the manner of std's `Io.KnownBytes`:
-- these are known, `Some` of the bytes, if the source or the sink tells them; otherwise they are `None`, of which
-- nothing is claimed. This project's own.
use Rattle.std.specs.Prelude.{◌≡◌, ℕ, ◌<◌, ◌≤◌, List, ◌++◌, length, ⊤, None, Some, Result, IfOk, ◌↔◌}
use Rattle.std.specs.declared.option.Option.{Option}
use Rattle.std.specs.Io.KnownBytes.{Appends, Consumes}

-- known bytes are these
abbrev pub Tells : Option (List ℕ) → List ℕ → Type 0
Tells None bytes = ⊤
Tells (Some known) bytes = known ≡ bytes

-- known bytes begin with these
pub record TellsPrefix (known : Option (List ℕ)) (front : List ℕ) : Type 0 where
  pub rest : List ℕ
  pub told : Tells known (front ++ rest)

-- known bytes number more than `limit`
pub record TellsMoreThan (limit : ℕ) (known : Option (List ℕ)) : Type 0 where
  pub bytes : List ℕ
  pub told : Tells known bytes
  pub more : limit < length bytes

-- the bytes that a call read number more than `limit` exactly if `IsPast` holds
pub record ReadsPast (limit : ℕ) (IsPast : Type 0) (old new : Option (List ℕ)) : Type 0 where
  pub bytes : List ℕ
  pub read : Consumes old new bytes
  pub past : IsPast ↔ (limit < length bytes)

-- a write takes at most its piece, and at least one byte of a piece that isn't empty
abbrev pub TakesSome : {E : Type 0} → Result ℕ E → List ℕ → Type 0
TakesSome result piece = IfOk result (λ n. (n ≤ length piece) × (0 < length piece → 0 < n))

-- known bytes grow by a prefix of `bytes`
pub record AppendsPrefix (old new : Option (List ℕ)) (bytes : List ℕ) : Type 0 where
  pub front : List ℕ
  pub rest : List ℕ
  pub parts : bytes ≡ front ++ rest
  pub added : Appends old new front
