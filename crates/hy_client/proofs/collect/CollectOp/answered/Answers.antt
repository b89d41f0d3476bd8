use Rattle.std.proofs.Common.{◌≡◌, ◌∙◌, ◌<◌, ℕ, Bool, sym, refl, true, false, arith}
use Rattle.std.specs.Prelude.{◌==◌, ◌&&◌}
use Rattle.std.proofs.lemmas.Bool.{ne_eqb}
use Rattle.hy_record.specs.Stamp.{Timestamp, stamp_eq}
use Rattle.hy_protocol.specs.Inputs.{is_gone, is_answer}
use Rattle.hy_record.specs.declared.turn.Cue.TheVariants as cues
use Rattle.hy_client.proofs.Collecting.{idle, no-acknowledgement}
use Rattle.hy_client.proofs.collect.CollectOp.answered.Goals as goal
use Rattle.hy_client.proofs.collect.CollectOp.answered.Goals.{else-reply-self-via-then-reply-self+else-is_gone, else-reply-self-via-else-reply-self}

last-false : (a b : Bool) → (a && b && false) ≡ false
last-false true true = refl
last-false true false = refl
last-false false b = refl

pub returns-else-reply-self : goal.returns-else-reply-self
returns-else-reply-self c = λ plan inputs h.
    let quiet = λ (stamp : Timestamp) (cloud : ℕ) (within : cloud < c.args.self.now.clouds).
    let silent : is_answer is_gone stamp cloud (cues.Cloud c.args.reply.now) ≡ false = elim c.else-reply-self.branch [
      | else-reply-self-via-then-reply-self+else-is_gone w ↦ rw (sym w.is_gone.ensures ∙ w.if-is_gone.false) (last-false (c.args.reply.now.cloud == cloud) (stamp_eq c.args.reply.now.stamp stamp))
      | else-reply-self-via-else-reply-self w ↦ let far = w.if-reply-self.false in rw (ne_eqb c.args.reply.now.cloud cloud (λ same. omega (arith, same, far, within))) refl
    ] in silent in
    idle plan c.args.self.now inputs (cues.Cloud c.args.reply.now) _ h refl (no-acknowledgement c.args.self.now c.args.reply.now quiet) c.quiet.ensures
