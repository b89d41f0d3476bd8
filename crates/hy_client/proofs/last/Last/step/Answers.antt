use Rattle.std.proofs.Common.{◌≡◌, ◌∙◌, ℕ, List, true, sym, ap, refl}
use Rattle.hy_record.specs.declared.turn.Cue.{Cue}
use Rattle.hy_protocol.specs.Inputs.{addresses}
use Rattle.hy_protocol.specs.Operations.{key_of}
use Rattle.hy_client.specs.Machines.{Task, Continues}
use Rattle.hy_client.specs.declared.last.Last.{Last}
use Rattle.hy_client.proofs.Tasks.{step-turn, step-continues}
use Rattle.hy_client.proofs.last.Last.step.Goals as goal

addressed : (task : Task) (last : Last) (inputs : List Cue) (client op : ℕ) (cue : Cue) → task.client ≡ client → task.op ≡ op → Continues task last inputs → addresses client op last.key cue ≡ true → addresses task.client task.op (key_of task.action) cue ≡ true
addressed task last inputs client op cue who number h for =
    ap (λ (c : ℕ). addresses c task.op (key_of task.action) cue) who ∙ ap (λ (o : ℕ). addresses client o (key_of task.action) cue) number ∙ ap (λ (key : List ℕ). addresses client op key cue) (sym h.key) ∙ for

pub returns-clause-turn : goal.returns-clause-turn
returns-clause-turn c = λ task inputs client op h. step-turn task c.args.self.now inputs c.args.cue.now c.in_ok-turn.turn h c.if-self.false
    (addressed task c.args.self.now inputs c.args.client c.args.op c.args.cue.now client op h (sym c.is_for.ensures ∙ c.if-not-is_for.false)) (c.in_ok-turn.ensures.turn task inputs h.runs)

pub returns-clause-ok : goal.returns-clause-ok
returns-clause-ok c = λ task inputs client op h. step-continues task c.args.self.now _ inputs c.args.cue.now c.in_ok-turn.turn h c.if-self.false
    (addressed task c.args.self.now inputs c.args.client c.args.op c.args.cue.now client op h (sym c.is_for.ensures ∙ c.if-not-is_for.false)) (c.in_ok-turn.ensures.turn task inputs h.runs)
    refl c.is_some-self.ensures (c.in_ok-turn.ensures.ok task inputs h.runs)
