-- From what is kept of the keys and of the swaps that were judged to what a service answers and stands for.
use Rattle.std.proofs.Common.{◌≡◌, ℕ, Bool, true, false, List, [], ◌∷◌, Option, Some, None, cond, Result, Ok, Err, refl, sym, ap, ◌∙◌}
use Rattle.std.specs.Prelude.{IfOk, OnOk, OnErr, take, ◌==◌}
use Rattle.std.specs.Global.{Vec}
use Rattle.hy_base.specs.declared.failure.NoMemory.{NoMemory}
use Rattle.hy_record.specs.declared.message.MetaAsk.{MetaAsk}
use Rattle.hy_record.specs.declared.message.MetaAsk.TheVariants as asks
use Rattle.hy_record.specs.declared.message.MetaSay.{MetaSay}
use Rattle.hy_record.specs.declared.message.MetaSay.TheVariants as says
use Rattle.hy_record.specs.Stamp.{Timestamp}
use Rattle.hy_record.specs.Stamps.{is_rising}
use Rattle.hy_record.specs.Record.{RecordValue}
use Rattle.hy_meta.specs.Service.{Attempt, is_judged}
use Rattle.hy_meta.specs.Meta.{Judged, last_swap, is_after_last, repeated_answer, service_answers, Says, GoesOn}
use Rattle.hy_meta.specs.Entry.{EntryValue, tried, tried_say, tried_answers, watched, watch_answers, forgotten, SameEntries, EntryPut}
use Rattle.hy_meta.specs.Verdicts.{NotesLast, SameLasts}
use Rattle.hy_meta.specs.Stands.{Stands}
use Rattle.hy_meta.proofs.Standing.{stands-read, stands-olds, stands-repeated, stands-same, stands-tried, stands-watch, stands-forget, says-read, says-update, says-swap, says-judged, says-watch, says-olds, says-forgot}
use Rattle.hy_meta.proofs.Swaps.{judged-newer}
use Rattle.hy_meta.proofs.Lasts.{lasts-repeated, lasts-judged}

abbrev Answer : Type 0
Answer = Result (Vec MetaSay) NoMemory

module _ (old new : List ℕ → EntryValue) (last : ℕ → Option Judged) (client op : ℕ) (k : List ℕ) where
  pub answers-read : (result : Answer) → IfOk result (λ sent. sent.items ≡ says.Has client op k (old k).rec ∷ []) → Says (Stands old last) (asks.Read client op k) result
  answers-read (Ok sent) is = λ before s. is ∙ says-read old before s.entries client op k
  answers-read (Err e) is = tt

  pub goes-read : (result : Answer) → GoesOn (Stands old last) (Stands old last) (asks.Read client op k) result
  unfolding last_swap
  goes-read (Ok sent) = λ before s. record { entries = stands-read old before s.entries client op k; swaps = s.swaps }
  goes-read (Err e) = λ before s. s

  pub answers-olds : (result : Answer) → OnOk result (is_rising (old k).olds ≡ true) → IfOk result (λ sent. sent.items ≡ says.OldList client op k (take 256 (old k).olds) ∷ []) → Says (Stands old last) (asks.Olds client op k) result
  answers-olds (Ok sent) rising is = λ before s. is ∙ says-olds old before s.entries client op k rising
  answers-olds (Err e) rising is = tt

  pub goes-olds : (result : Answer) → GoesOn (Stands old last) (Stands old last) (asks.Olds client op k) result
  unfolding last_swap
  goes-olds (Ok sent) = λ before s. record { entries = stands-olds old before s.entries client op k; swaps = s.swaps }
  goes-olds (Err e) = λ before s. s

  pub answers-watch : (stamp : Timestamp) (result : Answer) → IfOk result (λ sent. sent.items ≡ watch_answers (old k) (record { client = client; op = op; key = k; stamp = stamp })) → Says (Stands old last) (asks.Watch client op k stamp) result
  answers-watch stamp (Ok sent) is = λ before s. is ∙ says-watch old before s.entries client op k stamp
  answers-watch stamp (Err e) is = tt

  pub goes-watch : (stamp : Timestamp) (result : Answer) → OnOk result (EntryPut old new k (watched (old k) (record { client = client; op = op; key = k; stamp = stamp }))) → OnErr result (SameEntries old new)
      → GoesOn (Stands old last) (Stands new last) (asks.Watch client op k stamp) result
  unfolding last_swap
  goes-watch stamp (Ok sent) puts same = λ before s. record { entries = stands-watch old new before s.entries client op k stamp puts; swaps = s.swaps }
  goes-watch stamp (Err e) puts same = λ before s. record { entries = stands-same old new before same s.entries; swaps = s.swaps }

  pub answers-forget : (stamps : List Timestamp) (result : Answer) → IfOk result (λ sent. sent.items ≡ says.Forgot client op k ∷ []) → Says (Stands old last) (asks.Forget client op k stamps) result
  answers-forget stamps (Ok sent) is = λ before s. is ∙ says-forgot old before s.entries client op k stamps
  answers-forget stamps (Err e) is = tt

  pub goes-forget : (stamps : List Timestamp) (result : Answer) → OnOk result (EntryPut old new k (forgotten (old k) stamps)) → OnErr result (SameEntries old new)
      → GoesOn (Stands old last) (Stands new last) (asks.Forget client op k stamps) result
  unfolding last_swap
  goes-forget stamps (Ok sent) puts same = λ before s. record { entries = stands-forget old new before s.entries client op k stamps puts; swaps = s.swaps }
  goes-forget stamps (Err e) puts same = λ before s. record { entries = stands-same old new before same s.entries; swaps = s.swaps }

  module _ (r : RecordValue) where
    abbrev update : Attempt
    update = record { client = client; op = op; key = k; rec = r; expected = None }

    pub answers-update : (result : Answer) → IfOk result (λ sent. sent.items ≡ tried_answers (old k) update) → Says (Stands old last) (asks.Update client op k r) result
    answers-update (Ok sent) is = λ before s. is ∙ says-update old before s.entries client op k r
    answers-update (Err e) is = tt

    pub goes-update : (result : Answer) → OnOk result (EntryPut old new k (tried (old k) update)) → OnErr result (SameEntries old new)
        → GoesOn (Stands old last) (Stands new last) (asks.Update client op k r) result
    unfolding last_swap
    goes-update (Ok sent) puts same = λ before s. record { entries = stands-tried old new before s.entries (asks.Update client op k r) update refl puts; swaps = s.swaps }
    goes-update (Err e) puts same = λ before s. record { entries = stands-same old new before same s.entries; swaps = s.swaps }

  module _ (expected : Timestamp) (r : RecordValue) where
    abbrev swap : Attempt
    swap = record { client = client; op = op; key = k; rec = r; expected = Some expected }

    abbrev ask : MetaAsk
    ask = asks.Swap client op k expected r

    -- the swap is judged where the verdicts tell so
    judged-so : (before : List MetaAsk) → Stands old last before → (b : Bool) → is_after_last op (last client) ≡ b → is_judged before client op ≡ b
    judged-so before s b is = judged-newer before client op ∙ ap (λ (o : Option Judged). is_after_last op o) (sym (s.swaps client)) ∙ is

    pub answers-judged : (result : Answer) → is_after_last op (last client) ≡ true → IfOk result (λ sent. sent.items ≡ tried_answers (old k) swap) → Says (Stands old last) ask result
    answers-judged (Ok sent) newer is = λ before s. is ∙ says-swap old before s.entries client op k expected r (judged-so before s true newer)
    answers-judged (Err e) newer is = tt

    pub goes-judged : (last' : ℕ → Option Judged) (result : Answer) → is_after_last op (last client) ≡ true → OnOk result (EntryPut old new k (tried (old k) swap))
        → OnOk result (NotesLast last last' client (record { op = op; say = tried_say (old k) swap })) → OnErr result (SameEntries old new) → OnErr result (SameLasts last last')
        → GoesOn (Stands old last) (Stands new last') ask result
    goes-judged last' (Ok sent) newer puts notes same lasts =
        λ before s.
        let so : is_judged before client op ≡ true = judged-so before s true newer in
        record {
          entries = stands-tried old new before s.entries ask swap (rw so refl) puts;
          swaps = lasts-judged last before s.swaps client op k expected r last' so
              (λ c. notes c ∙ ap (λ (say : MetaSay). cond (client == c) (Some (record { op = op; say = say })) (last c)) (says-judged old before s.entries client op k expected r));
        }
    goes-judged last' (Err e) newer puts notes same lasts =
        λ before s. record { entries = stands-same old new before same s.entries; swaps = λ c. lasts c ∙ s.swaps c }

    pub answers-again : (result : Answer) → is_after_last op (last client) ≡ false → IfOk result (λ sent. sent.items ≡ repeated_answer (last client) op) → Says (Stands old last) ask result
    unfolding service_answers
    answers-again (Ok sent) older is =
        λ before s.
        let so : is_judged before client op ≡ false = judged-so before s false older in
        is ∙ rw so (ap (λ (o : Option Judged). repeated_answer o op) (s.swaps client))
    answers-again (Err e) older is = tt

    pub goes-again : (result : Answer) → is_after_last op (last client) ≡ false → GoesOn (Stands old last) (Stands old last) ask result
    goes-again (Ok sent) older =
        λ before s.
        let so : is_judged before client op ≡ false = judged-so before s false older in
        record { entries = stands-repeated old before s.entries client op k expected r so; swaps = lasts-repeated last before s.swaps client op k expected r so }
    goes-again (Err e) older = λ before s. s
