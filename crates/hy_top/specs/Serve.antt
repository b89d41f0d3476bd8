-- What a server over a net answers.
use Rattle.std.specs.Prelude.{◌≡◌, ℕ, List, Result, Ok, Err}
use Rattle.hy_base.specs.Faults.{Rose}
use Rattle.hy_base.specs.Moves.{Move}
use Rattle.hy_serve.specs.declared.fault.ServeFault.{ServeFault}
use Rattle.hy_serve.specs.declared.fault.ServeFault.TheVariants as serving
use Rattle.hy_top.specs.Line.{arrivals_line}
use Rattle.hy_top.specs.NetUse.{NetUse}
use Rattle.hy_top.specs.declared.status.Status.{Status}
use Rattle.hy_top.specs.declared.status.Status.TheVariants.{NetFault, NoMemory}

-- how a server plays, by how it ends
abbrev pub Role : Type 1
Role = Result Unit ServeFault → List Move → Type 0

-- the server took all its arrivals, and played as it should; the output tells how many there were
pub record IsServed (Serves : Role) (arrivals : ℕ) (net : NetUse) (output : List ℕ) : Type 0 where
  pub plays : net.Plays (Serves (Ok tt))
  pub told : output ≡ arrivals_line arrivals

-- the server could not listen, or could not take an arrival, and played as it should until then
pub record IsCutOff (Serves : Role) (net : NetUse) : Type 0 where
  pub plays : net.Plays (Serves (Err serving.NetFault))
  pub rose : Rose net.taking_before net.taking_after

-- what a server answers
abbrev pub ServesAt : Role → ℕ → NetUse → Result (List ℕ) Status → Type 0
ServesAt Serves arrivals net (Ok output) = IsServed Serves arrivals net output
ServesAt Serves arrivals net (Err NetFault) = IsCutOff Serves net
ServesAt Serves arrivals net (Err NoMemory) = Unit {0}
ServesAt Serves arrivals net (Err other) = ⊥
