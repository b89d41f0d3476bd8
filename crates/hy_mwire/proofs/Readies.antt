-- A message that is ready stands in front, and still does when a piece has come.
use Rattle.std.proofs.Common.{◌≡◌, ℕ, ◌≤◌, List, ◌++◌, length, Option, Some, None, sym, ap, subst, ◌∙◌}
use Rattle.hy_mwire.specs.declared.reader.Ready.{Ready}
use Rattle.hy_mwire.specs.Front.{front_at, message}
use Rattle.hy_mwire.specs.HeldStream.{IsReady}
use Rattle.hy_mwire.proofs.Fronts.{message_fits, message-append}

pub ready-fits : (place : ℕ) (bytes : List ℕ) (held : Option Ready) (ready : Ready) → IsReady (front_at place bytes) held → Some ready ≡ held → ready.size ≤ length bytes
ready-fits place bytes (Some other) ready is same =
    let one : ready ≡ other = cc in
    message_fits place bytes ready.message ready.size (is ∙ ap (λ (r : Ready). message r.message r.size) (sym one))
ready-fits place bytes None ready is same = absurd cc

pub ready-append : (place : ℕ) (bytes more longer : List ℕ) (held : Option Ready) → longer ≡ bytes ++ more → IsReady (front_at place bytes) held → IsReady (front_at place longer) held
ready-append place bytes more longer (Some ready) same is = subst (λ (t : List ℕ). front_at place t ≡ message ready.message ready.size) (sym same) (message-append place bytes more ready.message ready.size is)
ready-append place bytes more longer None same is = tt
