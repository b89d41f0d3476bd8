-- Lemmas on messages that are read piece by piece, whatever their head.
use Rattle.std.proofs.Common.{◌≡◌, ◌≢◌, ℕ, Result, Ok, Err, sym, ◌∙◌}
use Rattle.hy_cwire.specs.declared.fault.HttpFault.{HttpFault}
use Rattle.hy_cwire.specs.declared.fault.HttpFault.TheVariants.{NoMemory}
use Rattle.hy_cwire.specs.declared.progress.Progress.{Progress}
use Rattle.hy_cwire.specs.declared.progress.Progress.TheVariants.{Head, Body, Given, Broken}
use Rattle.hy_cwire.specs.Stages.{IsLive, IsOpen}
use Rattle.hy_serve.specs.Incomplete.{IsIncomplete}

pub incomplete-live : {H : Type 0} (size : H → ℕ) (progress : Progress H)
    → IsIncomplete size progress → IsLive progress
incomplete-live size (Head front) more = tt
incomplete-live size (Body head body) more = tt
incomplete-live size Given more = tt
incomplete-live size (Broken wrong) more = more

pub incomplete-open : {H : Type 0} (size : H → ℕ) (progress : Progress H)
    → IsIncomplete size progress → IsOpen progress
incomplete-open size (Head front) more = tt
incomplete-open size (Body head body) more = tt
incomplete-open size Given more = more
incomplete-open size (Broken wrong) more = absurd more

-- what is answered is not want of memory
pub ok-memory : (result : Result Unit HttpFault) (u : Unit {0}) → result ≡ Ok u → result ≢ Err NoMemory
ok-memory result u is not = absurd (let e : ◌≡◌ {A = Result Unit HttpFault} (Ok u) (Err NoMemory) = sym is ∙ not in cc)

pub err-memory : (result : Result Unit HttpFault) (wrong : HttpFault) → result ≡ Err wrong → wrong ≢ NoMemory → result ≢ Err NoMemory
err-memory result wrong is other not = other (let e : ◌≡◌ {A = Result Unit HttpFault} (Err wrong) (Err NoMemory) = sym is ∙ not in cc)
