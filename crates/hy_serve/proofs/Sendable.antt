-- What a cloud answers can be written, where no request put more than a value.
use Rattle.std.proofs.Common.{◌≡◌, ◌≤◌, ℕ, List, [], ◌∷◌, length, Option, Some, None, sym, subst}
use Rattle.std.proofs.lemmas.Bool.{cases_Bool}
use Rattle.std.proofs.Math.Logic.{⊎_elim}
use Rattle.std.specs.Str.{bytes_eq}
use Rattle.hy_base.specs.declared.limits.TheConstants.{MAX_VALUE}
use Rattle.hy_cwire.specs.Writing.{IsSendableAct, IsSendableSay}
use Rattle.hy_protocol.specs.Cloud.{is_named, held_after, bytes_held, answer_by, cloud_answer}
use Rattle.hy_record.specs.declared.cloud.CloudAct.{CloudAct}
use Rattle.hy_record.specs.declared.cloud.CloudAct.TheVariants.{Put, Get, Delete}
use Rattle.hy_record.specs.declared.cloud.CloudSay.{CloudSay}
use Rattle.hy_record.specs.declared.cloud.Wish.{Wish}
use Rattle.hy_record.specs.Stamp.{Timestamp}
use Rattle.hy_cloud.specs.declared.cloud.Cloud.{Cloud}
use Rattle.hy_serve.specs.CloudStanding.{AreSmall, Stocks, IsStocked}

abbrev pub IsSmallIfHeld : Option (List ℕ) → Type 0
IsSmallIfHeld None = Unit {0}
IsSmallIfHeld (Some bytes) = length bytes ≤ MAX_VALUE

small-after : (act : CloudAct) (held : Option (List ℕ)) → IsSendableAct act → IsSmallIfHeld held → IsSmallIfHeld (held_after act held)
small-after (Put bytes) None small before = small
small-after (Put bytes) (Some held) small before = before
small-after Get held small before = before
small-after Delete held small before = tt

small-held : (wishes : List Wish) → AreSmall wishes → (key : List ℕ) (stamp : Timestamp) → IsSmallIfHeld (bytes_held wishes key stamp)
unfolding bytes_held
small-held [] small key stamp = tt
small-held (wish ∷ wishes) small key stamp = ⊎_elim
    (λ y. rw y (small-after wish.act (bytes_held wishes key stamp) small.0 (small-held wishes small.1 key stamp)))
    (λ n. rw n (small-held wishes small.1 key stamp))
    (cases_Bool (is_named key stamp wish))

answer-sendable : (act : CloudAct) (held : Option (List ℕ)) → IsSmallIfHeld held → IsSendableSay (answer_by act held)
answer-sendable (Put bytes) None small = tt
answer-sendable (Put bytes) (Some held) small = ⊎_elim (λ y. rw y tt) (λ n. rw n tt) (cases_Bool (bytes_eq held bytes))
answer-sendable Get None small = tt
answer-sendable Get (Some held) small = small
answer-sendable Delete held small = tt

-- the answer of the cloud to one more request
pub say-sendable : (cloud : Cloud) (wish : Wish) (say : CloudSay) → IsStocked cloud → ((wishes : List Wish) → Stocks cloud wishes → say ≡ cloud_answer wishes wish) → IsSendableSay say
unfolding cloud_answer
say-sendable cloud wish say stocked says =
    subst IsSendableSay (sym (says stocked.0 stocked.1))
    (answer-sendable wish.act (bytes_held stocked.0 wish.key wish.stamp) (small-held stocked.0 stocked.1.small wish.key wish.stamp))
