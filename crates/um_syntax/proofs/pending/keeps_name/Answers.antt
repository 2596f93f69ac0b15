-- The table is held against the definition at each byte, by computing.
use Rattle.std.proofs.Common.{◌≡◌, ℕ, zero, suc, ◌<◌, Bool, true, false, ◌&&◌, not, nat_eq, get_or, refl, arith, inl, inr}
use Rattle.std.specs.Bool.{beq}
use Rattle.std.proofs.lemmas.Bool.{cases_eq}
use Rattle.um_syntax.specs.declared.pending.Pending.TheVariants as pending
use Rattle.um_syntax.specs.declared.pending.TheConstants.{NAME_BYTES}
use Rattle.um_syntax.specs.Machine.{keeps}
use Rattle.um_syntax.proofs.pending.keeps_name.Goals as goal

-- the two tests agree on each number below n
agree_below : (ℕ → Bool) → (ℕ → Bool) → ℕ → Bool
agree_below f g zero = true
agree_below f g (suc n) = beq (f n) (g n) && agree_below f g n

both_of : (x y rest : Bool) → (beq x y && rest) ≡ true → (x ≡ y) × (rest ≡ true)
both_of true true rest h = (refl, h)
both_of true false rest h = cc
both_of false true rest h = cc
both_of false false rest h = (refl, h)

agree_at : (f g : ℕ → Bool) (n : ℕ) → agree_below f g n ≡ true → (b : ℕ) → b < n → f b ≡ g b
unfolding agree_below
agree_at f g zero h b less = absurd (omega (arith, less))
agree_at f g (suc n) h b less =
    let both = both_of (f n) (g n) (agree_below f g n) h in
    elim (cases_eq b n) [ inl same ↦ rw same both.0 | inr other ↦ agree_at f g n both.1 b (omega (arith, less, other)) ]

in_table : (b : ℕ) → b < 256 → not (nat_eq (get_or NAME_BYTES b 0) 46) ≡ keeps (pending.Identifier 0) b
unfolding agree_below
in_table b less = agree_at (λ k. not (nat_eq (get_or NAME_BYTES k 0) 46)) (λ k. keeps (pending.Identifier 0) k) 256 refl b less

pub returns : goal.returns
returns c = in_table c.args.byte (omega arith)
