-- Lemmas on requests that are read piece by piece.
use Rattle.std.proofs.Common.{◌≡◌, ◌≤◌, ◌<◌, ℕ, Bool, true, false, List, ◌++◌, length, drop, nat_lt, Option, Some, None, Result, Ok, Err, refl, sym, ap, subst, arith}
use Rattle.std.specs.Prelude.{if◌then◌else◌}
use Rattle.std.proofs.lemmas.Bool.Decides.{nat_tests}
use Rattle.std.proofs.lemmas.List.{length-take}
use Rattle.hy_base.specs.declared.limits.TheConstants.{MAX_VALUE}
use Rattle.hy_record.specs.declared.cloud.Wish.{Wish}
use Rattle.hy_cwire.specs.declared.ask_head.AskHead.{AskHead}
use Rattle.hy_cwire.specs.declared.fault.HttpFault.{HttpFault}
use Rattle.hy_cwire.specs.declared.kind.WishKind.{WishKind}
use Rattle.hy_cwire.specs.declared.kind.WishKind.TheVariants.{Put, Get, Delete}
use Rattle.hy_cwire.specs.declared.progress.Progress.{Progress}
use Rattle.hy_cwire.specs.declared.progress.Progress.TheVariants.{Head, Body, Given, Broken}
use Rattle.hy_cwire.specs.Asks.{wish_in, wish_of, act_of}
use Rattle.hy_cwire.specs.Readers.{IsAskAt, ask_body_size}
use Rattle.hy_cwire.specs.Stages.{IsOpen, answer_of, next_answer, after_next}
use Rattle.hy_cwire.specs.Writing.{IsSendableAct}
use Rattle.hy_cwire.proofs.Sizes.{ask-fits}
use Rattle.hy_serve.specs.declared.cloud_lines.Reading.TheVariants.{Partial, Asks, Wrong}
use Rattle.hy_serve.specs.CloudRole.{Line, asking, asks}
use Rattle.hy_serve.specs.CloudStanding.{IsAsking, IsWaiting, Reads, ReadsTo, ReadsLine, ReadsOn, GoesOn}

-- a fault
pub reads-wrong : (bytes : List ℕ) (mid : Progress AskHead) (wrong : HttpFault) → Err wrong ≡ answer_of mid → IsAskAt bytes mid → IsOpen mid → ReadsTo bytes mid (Wrong wrong)
reads-wrong bytes (Head front) wrong is at still = absurd (let no : ◌≡◌ {A = Result Unit HttpFault} (Err wrong) (Ok tt) = is in cc)
reads-wrong bytes (Body head body) wrong is at still = absurd (let no : ◌≡◌ {A = Result Unit HttpFault} (Err wrong) (Ok tt) = is in cc)
reads-wrong bytes Given wrong is at still = absurd still
reads-wrong bytes (Broken fault) wrong is at still = record {
  comes = record { progress = Broken fault; at = at; open_still = still; is = let same : ◌≡◌ {A = Result Unit HttpFault} (Err wrong) (Err fault) = is in cc };
  small = tt;
  goes_on = tt;
}

body-small : (kind : WishKind) (body : List ℕ) → length body ≤ MAX_VALUE → IsSendableAct (act_of kind body)
body-small Put body fits = fits
body-small Get body fits = tt
body-small Delete body fits = tt

whole-body : (bytes : List ℕ) (head : AskHead) (body : List ℕ) (wish : Wish) (after : Progress AskHead) (short : Bool) → short ≡ nat_lt (length body) head.size
    → ◌≡◌ {A = Result (Option Wish) HttpFault} (Ok (Some wish)) (Ok (if short then None else Some (wish_of head body))) → IsAskAt bytes (Body head body) → ReadsTo bytes after (Asks wish)
whole-body bytes head body wish after true is-short is at = absurd (let no : ◌≡◌ {A = Result (Option Wish) HttpFault} (Ok (Some wish)) (Ok None) = is in cc)
whole-body bytes head body wish after false is-short is at =
    let same : wish ≡ wish_of head body = cc in
    let fits : length body ≤ MAX_VALUE = omega (arith, ask-fits _ _ at.2, ap (λ (l : List ℕ). length l) at.3, length-take head.size (drop at.0 bytes)) in record {
      comes = record { progress = Body head body; at = at; open_still = tt; is = rw (← is-short) (ap asks same) };
      small = subst (λ (w : Wish). IsSendableAct w.act) (sym same) (body-small head.kind body fits);
      goes_on = tt;
    }

-- a whole request
pub reads-whole : (bytes : List ℕ) (mid after : Progress AskHead) (wish : Wish) → Ok (Some wish) ≡ next_answer wish_in mid → IsAskAt bytes mid → ReadsTo bytes after (Asks wish)
reads-whole bytes (Head front) after wish is at = absurd (let no : ◌≡◌ {A = Result (Option Wish) HttpFault} (Ok (Some wish)) (Ok None) = is in cc)
reads-whole bytes (Body head body) after wish is at = whole-body bytes head body wish after (nat_lt (length body) head.size) refl is at
reads-whole bytes Given after wish is at = absurd (let no : ◌≡◌ {A = Result (Option Wish) HttpFault} (Ok (Some wish)) (Ok None) = is in cc)
reads-whole bytes (Broken fault) after wish is at = absurd (let no : ◌≡◌ {A = Result (Option Wish) HttpFault} (Ok (Some wish)) (Err fault) = is in cc)

short-body : (bytes : List ℕ) (head : AskHead) (body : List ℕ) (after : Progress AskHead) (short : Bool) → short ≡ nat_lt (length body) head.size
    → ◌≡◌ {A = Result (Option Wish) HttpFault} (Ok None) (Ok (if short then None else Some (wish_of head body))) → after ≡ (if short then Body head body else Given)
    → IsAskAt bytes (Body head body) → ReadsTo bytes after Partial
short-body bytes head body after true is-short is ends at = record {
  comes = record { progress = Body head body; at = at; open_still = tt; is = rw (← is-short) refl };
  small = tt;
  goes_on = subst (λ (p : Progress AskHead). IsAskAt bytes p × IsWaiting p) (sym ends) (at, (let less : length body < head.size = grind (arith, nat_tests) in less));
}
short-body bytes head body after false is-short is ends at = absurd (let no : ◌≡◌ {A = Result (Option Wish) HttpFault} (Ok None) (Ok (Some (wish_of head body))) = is in cc)

-- a request that is not whole
pub reads-partial : (bytes : List ℕ) (mid after : Progress AskHead) → Ok None ≡ next_answer wish_in mid → after ≡ after_next ask_body_size mid → IsAskAt bytes mid → IsOpen mid → ReadsTo bytes after Partial
reads-partial bytes (Head front) after is ends at still = record {
  comes = record { progress = Head front; at = at; open_still = tt; is = refl };
  small = tt;
  goes_on = subst (λ (p : Progress AskHead). IsAskAt bytes p × IsWaiting p) (sym ends) (at, tt);
}
reads-partial bytes (Body head body) after is ends at still = short-body bytes head body after (nat_lt (length body) head.size) refl is ends at
reads-partial bytes Given after is ends at still = absurd still
reads-partial bytes (Broken fault) after is ends at still = absurd (let no : ◌≡◌ {A = Result (Option Wish) HttpFault} (Ok None) (Err fault) = is in cc)

held-behind : (new : Progress AskHead) (bytes : List ℕ) → GoesOn bytes new Partial → IsAsking new (asking bytes)
held-behind new bytes goes = record { bytes = bytes; is = refl; at = goes.0; waiting = goes.1 }

-- a connection that asks goes on
pub partial-line : (old new : Progress AskHead) (piece : List ℕ) → Reads old new piece Partial → ReadsOn (Some old) (Some new) piece Partial
partial-line old new piece reads line holds =
    let to = reads holds.waiting holds.bytes holds.at in
    subst (λ (l : Line). ReadsLine l piece (Some (Some new)) Partial) (sym holds.is)
    (record { comes = to.comes; small = tt; line = held-behind new (holds.bytes ++ piece) to.goes_on })

pub whole-line : (old new : Progress AskHead) (piece : List ℕ) (wish : Wish) → Reads old new piece (Asks wish) → ReadsOn (Some old) None piece (Asks wish)
whole-line old new piece wish reads line holds =
    let to = reads holds.waiting holds.bytes holds.at in
    subst (λ (l : Line). ReadsLine l piece (Some None) (Asks wish)) (sym holds.is)
    (record { comes = to.comes; small = to.small; line = refl })

pub wrong-line : (old new : Progress AskHead) (piece : List ℕ) (wrong : HttpFault) → Reads old new piece (Wrong wrong) → ReadsOn (Some old) None piece (Wrong wrong)
wrong-line old new piece wrong reads line holds =
    let to = reads holds.waiting holds.bytes holds.at in
    subst (λ (l : Line). ReadsLine l piece (Some None) (Wrong wrong)) (sym holds.is)
    (record { comes = to.comes; small = tt; line = refl })

-- one that counts no more
pub over-line : (piece : List ℕ) → ReadsOn None None piece Partial
over-line piece line is = subst (λ (l : Line). ReadsLine l piece (Some None) Partial) (sym is) (refl, refl)
