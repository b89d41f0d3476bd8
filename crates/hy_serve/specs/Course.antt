-- The course of a role over a net: where its moves, the newest first, can have led it.
use Rattle.std.specs.Prelude.{List, [], ◌∷◌}
use Rattle.hy_base.specs.declared.arrival.Arrived.{Arrived}
use Rattle.hy_base.specs.Moves.{Move, Call, arrived, called}

-- by the rules of what each call does, what each arrival does, and what happens between them, these
-- moves led to this state
pub data Leads
    {S : Type 0} (start : S)
    (Calls : S → Call → S → Type 0)
    (Takes : S → Arrived → S → Type 0)
    (Goes : S → S → Type 0)
    : List Move → S → Type 0 where
  begins : Leads start Calls Takes Goes [] start
  calls : (moves : List Move) (before after : S) (call : Call)
      → Leads start Calls Takes Goes moves before
      → Calls before call after
      → Leads start Calls Takes Goes (called call ∷ moves) after
  takes : (moves : List Move) (before after : S) (a : Arrived)
      → Leads start Calls Takes Goes moves before
      → Takes before a after
      → Leads start Calls Takes Goes (arrived a ∷ moves) after
  goes : (moves : List Move) (before after : S)
      → Leads start Calls Takes Goes moves before
      → Goes before after
      → Leads start Calls Takes Goes moves after
