-- What a call used of a net.
use Rattle.std.specs.Prelude.{◌≡◌, ℕ, List}
use Rattle.hy_base.specs.Moves.{Move}
use Rattle.hy_base.specs.Net.{Adds}

-- what a call used of a net: what the moves that it added are, where they are told, that it was not used at all, and how often
-- taking and sending failed before the call and behind it
pub record NetUse : Type 1 where
  pub Plays : (List Move → Type 0) → Type 0
  pub Unused : Type 0
  pub taking_before : ℕ
  pub taking_after : ℕ
  pub sending_before : ℕ
  pub sending_after : ℕ

-- what the call used of the net that it found so and left so
abbrev pub net_use : {N : Type 0} → (N → Type 0) → (N → List Move → Type 0) → (N → ℕ) → (N → ℕ) → N → N → NetUse
net_use told tells taking sending old new = record {
  Plays = λ P. Adds told tells old new P;
  Unused = new ≡ old;
  taking_before = taking old;
  taking_after = taking new;
  sending_before = sending old;
  sending_after = sending new;
}
