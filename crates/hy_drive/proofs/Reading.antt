-- Lemmas on answers that are read piece by piece.
use Rattle.std.proofs.Common.{◌≡◌, ◌<◌, ℕ, Bool, true, false, List, length, nat_lt, Option, Some, None, Result, Ok, Err, refl, sym, subst, arith}
use Rattle.std.specs.Prelude.{if◌then◌else◌}
use Rattle.std.proofs.lemmas.Bool.Decides.{nat_tests}
use Rattle.hy_record.specs.declared.cloud.CloudSay.{CloudSay}
use Rattle.hy_record.specs.declared.cloud.CloudSay.TheVariants as says
use Rattle.hy_cwire.specs.declared.fault.HttpFault.{HttpFault}
use Rattle.hy_cwire.specs.declared.kind.WishKind.{WishKind}
use Rattle.hy_cwire.specs.declared.progress.Progress.{Progress}
use Rattle.hy_cwire.specs.declared.progress.Progress.TheVariants.{Head, Body, Given, Broken}
use Rattle.hy_cwire.specs.declared.say_head.SayHead.{SayHead}
use Rattle.hy_cwire.specs.Readers.{Answering, IsSayAt, say_body_size}
use Rattle.hy_cwire.specs.Says.{say_in, say_of}
use Rattle.hy_cwire.specs.Stages.{IsOpen, answer_of, next_answer, after_next}
use Rattle.hy_drive.specs.Held.{IsUnfinished, ReadsTo}

-- a fault that a piece showed
pub reads-wrong : (asked : WishKind) (bytes : List ℕ) (mid : Progress SayHead) (new : Answering) (wrong : HttpFault)
    → Err wrong ≡ answer_of mid → IsSayAt bytes mid → IsOpen mid → new.asked ≡ asked → ReadsTo bytes asked new (Some (says.Bad 0))
reads-wrong asked bytes (Head front) new wrong is at still same = absurd (let e : ◌≡◌ {A = Result Unit HttpFault} (Err wrong) (Ok tt) = is in cc)
reads-wrong asked bytes (Body head body) new wrong is at still same = absurd (let e : ◌≡◌ {A = Result Unit HttpFault} (Err wrong) (Ok tt) = is in cc)
reads-wrong asked bytes Given new wrong is at still same = absurd still
reads-wrong asked bytes (Broken fault) new wrong is at still same = record {
  comes = record { progress = Broken fault; at = at; open_still = still; is = refl };
  asked_still = same;
  goes_on = tt;
}

-- a whole answer
pub reads-whole : (asked : WishKind) (bytes : List ℕ) (mid : Progress SayHead) (new : Answering) (say : CloudSay)
    → Ok (Some say) ≡ next_answer (say_in asked) mid → IsSayAt bytes mid → new.asked ≡ asked → ReadsTo bytes asked new (Some say)
reads-whole asked bytes (Head front) new say is at same = absurd (let e : ◌≡◌ {A = Result (Option CloudSay) HttpFault} (Ok (Some say)) (Ok None) = is in cc)
reads-whole asked bytes (Body head body) new say is at same = record {
  comes = record { progress = Body head body; at = at; open_still = tt; is = let e : ◌≡◌ {A = Result (Option CloudSay) HttpFault} (Ok (Some say)) (Ok (say_in asked head body)) = is in cc };
  asked_still = same;
  goes_on = tt;
}
reads-whole asked bytes Given new say is at same = absurd (let e : ◌≡◌ {A = Result (Option CloudSay) HttpFault} (Ok (Some say)) (Ok None) = is in cc)
reads-whole asked bytes (Broken fault) new say is at same = absurd (let e : ◌≡◌ {A = Result (Option CloudSay) HttpFault} (Ok (Some say)) (Err fault) = is in cc)

short-body : (asked : WishKind) (bytes : List ℕ) (head : SayHead) (body : List ℕ) (new : Answering) (short : Bool) → short ≡ nat_lt (length body) head.size
    → ◌≡◌ {A = Result (Option CloudSay) HttpFault} (Ok None) (Ok (if short then None else Some (say_of asked head.status body)))
    → new.progress ≡ (if short then Body head body else Given) → IsSayAt bytes (Body head body) → new.asked ≡ asked → ReadsTo bytes asked new None
short-body asked bytes head body new true is-short is ends at same = record {
  comes = record { progress = Body head body; at = at; open_still = tt; is = rw (← is-short) refl };
  asked_still = same;
  goes_on = subst (λ (p : Progress SayHead). IsSayAt bytes p × IsUnfinished p) (sym ends) (at, (let less : length body < head.size = grind (arith, nat_tests) in less));
}
short-body asked bytes head body new false is-short is ends at same =
    absurd (let e : ◌≡◌ {A = Result (Option CloudSay) HttpFault} (Ok None) (Ok (Some (say_of asked head.status body))) = is in cc)

-- an answer that is not whole
pub reads-partial : (asked : WishKind) (bytes : List ℕ) (mid : Progress SayHead) (new : Answering)
    → Ok None ≡ next_answer (say_in asked) mid → new.progress ≡ after_next say_body_size mid → IsSayAt bytes mid → IsOpen mid → new.asked ≡ asked → ReadsTo bytes asked new None
reads-partial asked bytes (Head front) new is ends at still same = record {
  comes = record { progress = Head front; at = at; open_still = tt; is = refl };
  asked_still = same;
  goes_on = subst (λ (p : Progress SayHead). IsSayAt bytes p × IsUnfinished p) (sym ends) (at, tt);
}
reads-partial asked bytes (Body head body) new is ends at still same = short-body asked bytes head body new (nat_lt (length body) head.size) refl is ends at same
reads-partial asked bytes Given new is ends at still same = absurd still
reads-partial asked bytes (Broken fault) new is ends at still same = absurd (let e : ◌≡◌ {A = Result (Option CloudSay) HttpFault} (Ok None) (Err fault) = is in cc)
