-- Lemmas on courses.
use Rattle.std.proofs.Common.{List, ◌++◌}
use Rattle.hy_base.specs.declared.arrival.Arrived.{Arrived}
use Rattle.hy_base.specs.Moves.{Move, Call}
use Rattle.hy_serve.specs.Course.{Leads, begins, calls, takes, goes}

-- one course, and another from where it led
pub leads-on : {S : Type 0} (start mid : S) (Calls : S → Call → S → Type 0) (Takes : S → Arrived → S → Type 0) (Goes : S → S → Type 0) (first : List Move)
    → Leads start Calls Takes Goes first mid → (second : List Move) (end : S) → Leads mid Calls Takes Goes second end → Leads start Calls Takes Goes (second ++ first) end
leads-on start mid Calls Takes Goes first one _ _ begins = one
leads-on start mid Calls Takes Goes first one _ _ (calls moves before after call led did) =
    calls (moves ++ first) before after call (leads-on start mid Calls Takes Goes first one moves before led) did
leads-on start mid Calls Takes Goes first one _ _ (takes moves before after a led took) =
    takes (moves ++ first) before after a (leads-on start mid Calls Takes Goes first one moves before led) took
leads-on start mid Calls Takes Goes first one _ _ (goes moves before after led went) =
    goes (moves ++ first) before after (leads-on start mid Calls Takes Goes first one moves before led) went
