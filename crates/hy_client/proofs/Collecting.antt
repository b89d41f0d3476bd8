-- One more input of a collection, by its state.
use Rattle.std.proofs.Common.{◌≡◌, ℕ, ◌+◌, ◌-◌, ◌≤◌, ◌<◌, Bool, true, false, List, [], ◌∷◌, length, get_or, Option, Some, None, Result, Ok, Err, refl, sym, ap, subst, ◌∙◌, inl, inr, arith}
use Rattle.std.specs.Prelude.{◌==◌, ◌⊎◌, nat_le, filter, is_some, if◌then◌else◌, IfOk, OnOk, OnErr, IsErr}
use Rattle.std.specs.List.{flat_map}
use Rattle.std.specs.Option.{option_or}
use Rattle.std.proofs.lemmas.Bool.{false≢true}
use Rattle.std.proofs.lemmas.Bool.Decides.{nat_tests}
use Rattle.std.proofs.lemmas.List.{length-map}
use Rattle.hy_base.specs.declared.failure.NoMemory.{NoMemory}
use Rattle.hy_record.specs.Stamp.{Timestamp}
use Rattle.hy_base.specs.Shape.{IsShape, cloud_count}
use Rattle.hy_record.specs.declared.action.Phase.TheVariants as phases
use Rattle.hy_record.specs.declared.action.Reply.{Reply}
use Rattle.hy_record.specs.declared.action.Reply.TheVariants as told
use Rattle.hy_record.specs.declared.message.MetaSay.{MetaSay}
use Rattle.hy_record.specs.declared.message.MetaSay.TheVariants as says
use Rattle.hy_record.specs.declared.cloud.CloudReply.{CloudReply}
use Rattle.hy_record.specs.declared.turn.Cue.{Cue}
use Rattle.hy_record.specs.declared.turn.Cue.TheVariants as cues
use Rattle.hy_record.specs.declared.turn.Out.{Out}
use Rattle.hy_record.specs.declared.turn.Turn.{Turn}
use Rattle.hy_protocol.specs.declared.plan.CollectPlan.{CollectPlan}
use Rattle.hy_protocol.specs.Inputs.{addresses, inputs_for, is_answer, is_gone, is_tick, is_forgot, olds_of}
use Rattle.hy_protocol.specs.Collect.{first_olds, since_olds, deleting_clouds, forget_with, forget_at, forget_of, collected_by, nothing_by, asks_olds, forgets, deletes, earlier_collect_sends, collect_sends_by, collect_sends, collect_reply}
use Rattle.hy_protocol.specs.Progress.{Progress, deletion_progress, progress_since_olds, collect_progress}
use Rattle.hy_protocol.specs.Turns.{quiet_turn, own_turn, turn_of, settled_progress, collect_turn, collect_progress_of}
use Rattle.hy_operation.specs.Steps.{Steps}
use Rattle.hy_operation.specs.declared.issuer.Issuer.{Issuer}
use Rattle.hy_operation.proofs.Inputs.{inputs-own, inputs-foreign, turn-own, turn-foreign, turn-before-reply, turn-after-reply, progress-before-reply, progress-after-reply}
use Rattle.hy_client.specs.Targets.{stamps_of, is_lacking, gone_clouds, deletes_of}
use Rattle.hy_client.specs.declared.target.Target.{Target}
use Rattle.hy_client.specs.Collecting.{Tracks, Begins, are_deleted, IsAsking, IsDeleting, IsForgetting, StandsAt, StandsForOwn, StandsForInputs, Takes, progress_at, issuer_of}
use Rattle.hy_client.specs.declared.deletion.Deletion.{Deletion}
use Rattle.hy_client.specs.declared.collect.State.{State}
use Rattle.hy_client.specs.declared.collect.State.TheVariants as at
use Rattle.hy_client.specs.declared.collect.CollectOp.{CollectOp}
use Rattle.hy_client.proofs.Deletions.{quiet-tracks, deleted-is, have-is, deletes-are}

-- ---- the definitions, one input further

olds-step : (cue : Cue) (before : List Cue) → first_olds (cue ∷ before) ≡ option_or (first_olds before) (olds_of cue)
unfolding first_olds
olds-step cue before = refl

since-step : (cue : Cue) (before : List Cue) → since_olds (cue ∷ before) ≡ (if is_some (first_olds before) then cue ∷ since_olds before else [])
unfolding since_olds
since-step cue before = refl

forget-step : (plan : CollectPlan) (cue : Cue) (before : List Cue) → forget_of plan (cue ∷ before) ≡ option_or (forget_of plan before) (forget_at plan (cue ∷ before))
unfolding forget_of
forget-step plan cue before = refl

reply-step : (plan : CollectPlan) (cue : Cue) (before : List Cue) → collect_reply plan (cue ∷ before) ≡ option_or (collect_reply plan before) (option_or (collected_by (forget_of plan before) cue) (nothing_by (first_olds (cue ∷ before))))
unfolding collect_reply
reply-step plan cue before = refl

sends-step : (plan : CollectPlan) (cue : Cue) (before : List Cue)
    → collect_sends plan (cue ∷ before) ≡ (if is_some (collect_reply plan before) then [] else collect_sends_by plan cue before (forget_of plan before) (forget_at plan (cue ∷ before)))
unfolding collect_sends
sends-step plan cue before = refl

-- what can be forgotten, by the first list
forget-now : (plan : CollectPlan) (inputs : List Cue) (o : Option (List Timestamp)) → first_olds inputs ≡ o → forget_at plan inputs ≡ forget_with plan inputs o
unfolding forget_at
forget-now plan inputs o is = rw is refl

-- a list that is not empty can be forgotten where each of its timestamps is deleted in enough clouds
forget-some : (plan : CollectPlan) (inputs : List Cue) (stamps : List Timestamp) → 0 < length stamps
    → forget_with plan inputs (Some stamps) ≡ (if are_deleted (cloud_count plan.f plan.k) (cloud_count plan.f plan.k - plan.f) (since_olds inputs) stamps then Some stamps else None)
unfolding deleting_clouds
forget-some plan inputs [] some = absurd (omega (arith, some))
forget-some plan inputs (s ∷ ss) some = refl

nothing-some : (stamps : List Timestamp) → 0 < length stamps → nothing_by (Some stamps) ≡ None
nothing-some [] some = absurd (omega (arith, some))
nothing-some (s ∷ ss) some = refl

-- how far it is, by the first list and what was asked to be forgotten
progress-now : (plan : CollectPlan) (inputs : List Cue) (o : Option (List Timestamp)) → first_olds inputs ≡ o → collect_progress plan inputs ≡ progress_since_olds plan inputs o
unfolding collect_progress
progress-now plan inputs o is = rw is refl

progress-later : (plan : CollectPlan) (inputs : List Cue) (stamps : List Timestamp) (g : Option (List Timestamp)) → first_olds inputs ≡ Some stamps → forget_of plan inputs ≡ g → collect_progress plan inputs ≡ deletion_progress plan inputs stamps g
progress-later plan inputs stamps g is to_forget = progress-now plan inputs (Some stamps) is ∙ ap (deletion_progress plan inputs stamps) to_forget

-- ---- what a collection does at an input

-- the machine did this, and stands for one input more
abbrev pub Did : CollectPlan → CollectOp → List Cue → Cue → Turn → Type 0
Did plan n inputs cue turn = (turn ≡ own_turn (collect_sends plan) (collect_reply plan) (cue ∷ inputs)) × StandsForOwn plan n (cue ∷ inputs)

-- the machine is as before but for its state
pub record IsMoved (m n : CollectOp) (state : State) : Type 0 where
  pub issuer : n.issuer ≡ m.issuer
  pub clouds : n.clouds ≡ m.clouds
  pub enough : n.enough ≡ m.enough
  pub at : n.state ≡ state

-- a state that stands for one input more, where there was no reply
moved : (plan : CollectPlan) (m n : CollectOp) (inputs : List Cue) (cue : Cue) (turn : Turn) (state : State) → StandsForOwn plan m inputs → IsMoved m n state → collect_reply plan inputs ≡ None
    → turn ≡ record { sends = collect_sends plan (cue ∷ inputs); reply = collect_reply plan (cue ∷ inputs) } → StandsAt plan state (cue ∷ inputs) → collect_progress plan (cue ∷ inputs) ≡ progress_at state → Did plan n inputs cue turn
moved plan m n inputs cue turn state h to none is stands progress = (
  is ∙ sym (turn-before-reply (collect_sends plan) (collect_reply plan) inputs cue none),
  record {
    issuer = to.issuer ∙ h.issuer;
    clouds = to.clouds ∙ h.clouds;
    enough = to.enough ∙ h.enough;
    shape = h.shape;
    state = subst (λ (s : State). StandsAt plan s (cue ∷ inputs)) (sym to.at) stands;
    progress = progress-before-reply (collect_reply plan) (collect_progress plan) inputs cue none ∙ progress ∙ ap progress_at (sym to.at);
  },
)

-- after the reply
replied-goes : (plan : CollectPlan) (m n : CollectOp) (inputs : List Cue) (cue : Cue) (turn : Turn) → StandsForOwn plan m inputs → IsMoved m n m.state → is_some (collect_reply plan inputs) ≡ true
    → ((later : List Cue) → is_some (collect_reply plan later) ≡ true → StandsAt plan m.state later) → turn ≡ quiet_turn → Did plan n inputs cue turn
replied-goes plan m n inputs cue turn h to there stands is =
    let after : is_some (collect_reply plan (cue ∷ inputs)) ≡ true = ap is_some (reply-step plan cue inputs) ∙ kept (collect_reply plan inputs) (option_or (collected_by (forget_of plan inputs) cue) (nothing_by (first_olds (cue ∷ inputs)))) there in
    let silent : collect_sends plan (cue ∷ inputs) ≡ [] = sends-step plan cue inputs ∙ rw there refl in (
      is ∙ ap (λ (outs : List Out). record { sends = outs; reply = None }) (sym silent) ∙ sym (turn-after-reply (collect_sends plan) (collect_reply plan) inputs cue there),
      record {
        issuer = to.issuer ∙ h.issuer;
        clouds = to.clouds ∙ h.clouds;
        enough = to.enough ∙ h.enough;
        shape = h.shape;
        state = subst (λ (s : State). StandsAt plan s (cue ∷ inputs)) (sym to.at) (stands (cue ∷ inputs) after);
        progress = progress-after-reply (collect_reply plan) (collect_progress plan) inputs cue there ∙ h.progress ∙ ap progress_at (sym to.at);
      },
    )
  where
    kept : (o p : Option Reply) → is_some o ≡ true → is_some (option_or o p) ≡ true
    kept None p e = absurd (false≢true e)
    kept (Some x) p e = refl

-- ---- the deletions

-- not each timestamp is deleted in enough clouds
lacking-all : (plan : CollectPlan) (inputs : List Cue) (stamps : List Timestamp) (deletion : Deletion) → Tracks (cloud_count plan.f plan.k) (cloud_count plan.f plan.k - plan.f) stamps (since_olds inputs) deletion → 0 < deletion.left
    → are_deleted (cloud_count plan.f plan.k) (cloud_count plan.f plan.k - plan.f) (since_olds inputs) stamps ≡ false
lacking-all plan inputs stamps deletion tracks lacks =
    subst (λ (ss : List Timestamp). are_deleted (cloud_count plan.f plan.k) (cloud_count plan.f plan.k - plan.f) (since_olds inputs) ss ≡ false) tracks.lists
    (deleted-is (cloud_count plan.f plan.k) (cloud_count plan.f plan.k - plan.f) (since_olds inputs) deletion.targets.items (λ i d within. (tracks.each i d within).lacking) ∙ ap (λ (m : ℕ). m == 0) (sym tracks.left) ∙ (let some : (deletion.left == 0) ≡ false = grind (arith, nat_tests, lacks) in some))

drop-progress : (plan : CollectPlan) (inputs : List Cue) (stamps : List Timestamp) (deletion : Deletion) → Tracks (cloud_count plan.f plan.k) (cloud_count plan.f plan.k - plan.f) stamps (since_olds inputs) deletion
    → deletion_progress plan inputs stamps None ≡ progress_at (at.Deleting deletion)
unfolding deleting_clouds
drop-progress plan inputs stamps deletion tracks =
    let count : length stamps ≡ length deletion.targets.items = ap length (sym tracks.lists) ∙ length-map deletion.targets.items (λ target. target.stamp) in
    let sum = subst (λ (ss : List Timestamp). length (filter (λ stamp. nat_le (cloud_count plan.f plan.k - plan.f) (length (gone_clouds (cloud_count plan.f plan.k) stamp (since_olds inputs)))) ss) + length (filter is_lacking deletion.targets.items) ≡ length deletion.targets.items) tracks.lists
    (have-is (cloud_count plan.f plan.k) (cloud_count plan.f plan.k - plan.f) (since_olds inputs) deletion.targets.items (λ i d within. (tracks.each i d within).lacking)) in
    let have : length (filter (λ stamp. nat_le (cloud_count plan.f plan.k - plan.f) (length (gone_clouds (cloud_count plan.f plan.k) stamp (since_olds inputs)))) stamps) ≡ length deletion.targets.items - deletion.left = omega (arith, sum, tracks.left) in
    let of_have : ℕ → Progress = λ n. record { phase = phases.Drop; have = n; need = length stamps } in
    let of_need : ℕ → Progress = λ n. record { phase = phases.Drop; have = length deletion.targets.items - deletion.left; need = n } in
    ap of_have have ∙ ap of_need count

-- the deletions that no cloud acknowledged by these inputs
deletes-now : (plan : CollectPlan) (m : CollectOp) (before inputs : List Cue) (stamps : List Timestamp) (deletion : Deletion) → StandsForOwn plan m before → Tracks (cloud_count plan.f plan.k) (cloud_count plan.f plan.k - plan.f) stamps (since_olds inputs) deletion
    → flat_map (deletes_of m.issuer m.clouds) deletion.targets.items ≡ deletes plan inputs stamps
deletes-now plan m before inputs stamps deletion h tracks =
    let who : flat_map (deletes_of m.issuer m.clouds) deletion.targets.items ≡ flat_map (deletes_of (issuer_of plan) (cloud_count plan.f plan.k)) deletion.targets.items =
    ap (λ (issuer : Issuer). flat_map (deletes_of issuer m.clouds) deletion.targets.items) h.issuer ∙ ap (λ (n : ℕ). flat_map (deletes_of (issuer_of plan) n) deletion.targets.items) h.clouds in
    who ∙ deletes-are plan (cloud_count plan.f plan.k) (cloud_count plan.f plan.k - plan.f) (since_olds inputs) deletion.targets.items tracks.each ∙ ap (deletes plan inputs) tracks.lists

-- ---- before the list

module _ (plan : CollectPlan) (m n : CollectOp) (inputs : List Cue) (cue : Cue) (turn : Turn) (h : StandsForOwn plan m inputs) (was : m.state ≡ at.Asking) where
  asking : IsAsking plan inputs
  asking = subst (λ (s : State). StandsAt plan s inputs) was h.state

  olds-now : first_olds (cue ∷ inputs) ≡ olds_of cue
  olds-now = olds-step cue inputs ∙ rw asking.olds refl

  sends-now : (o : Option (List Timestamp)) → first_olds (cue ∷ inputs) ≡ o → forget_with plan (cue ∷ inputs) o ≡ None → collect_sends plan (cue ∷ inputs) ≡ earlier_collect_sends plan cue inputs None o
  sends-now o is none = sends-step plan cue inputs ∙ rw (asking.reply, asking.forget, forget-now plan (cue ∷ inputs) o is, none, asking.olds, is) refl

  reply-now : (o : Option (List Timestamp)) → first_olds (cue ∷ inputs) ≡ o → collect_reply plan (cue ∷ inputs) ≡ nothing_by o
  reply-now o is = reply-step plan cue inputs ∙ rw (asking.reply, asking.forget, is) refl

  forget-later : (o : Option (List Timestamp)) → first_olds (cue ∷ inputs) ≡ o → forget_with plan (cue ∷ inputs) o ≡ None → forget_of plan (cue ∷ inputs) ≡ None
  forget-later o is none = forget-step plan cue inputs ∙ rw (asking.forget, forget-now plan (cue ∷ inputs) o is, none) refl

  -- no list
  pub asking-goes : IsMoved m n at.Asking → olds_of cue ≡ None → turn ≡ record { sends = (if is_tick cue then asks_olds plan else []); reply = None } → Did plan n inputs cue turn
  asking-goes to none is =
      let olds = olds-now ∙ none in
      let sends = sends-now None olds refl in
      let reply = reply-now None olds in
      moved plan m n inputs cue turn at.Asking h to asking.reply (is ∙ (let e : record { sends = (if is_tick cue then asks_olds plan else []); reply = None } ≡ record { sends = collect_sends plan (cue ∷ inputs); reply = collect_reply plan (cue ∷ inputs) } = rw (sends, reply) refl in e))
      (record { olds = olds; forget = forget-later None olds refl; reply = reply }) (progress-now plan (cue ∷ inputs) None olds)

  -- an empty list
  pub asking-ends : IsMoved m n at.Empty → olds_of cue ≡ Some [] → turn ≡ record { sends = []; reply = Some (told.Collected 0) } → Did plan n inputs cue turn
  asking-ends to empty is =
      let olds = olds-now ∙ empty in
      let sends = sends-now (Some []) olds refl in
      let reply = reply-now (Some []) olds in
      moved plan m n inputs cue turn at.Empty h to asking.reply (is ∙ (let e : record { sends = []; reply = Some (told.Collected 0) } ≡ record { sends = collect_sends plan (cue ∷ inputs); reply = collect_reply plan (cue ∷ inputs) } = rw (sends, reply) refl in e))
      (ap is_some reply) (progress-later plan (cue ∷ inputs) [] None olds (forget-later (Some []) olds refl))

  -- a list
  pub asking-begins : (deletion : Deletion) (stamps : List Timestamp) → IsMoved m n (at.Deleting deletion) → olds_of cue ≡ Some stamps → 0 < length stamps → Begins m.enough stamps deletion
      → turn ≡ record { sends = flat_map (deletes_of m.issuer m.clouds) deletion.targets.items; reply = None } → Did plan n inputs cue turn
  asking-begins deletion stamps to list some fresh is =
      let olds = olds-now ∙ list in
      let since : since_olds (cue ∷ inputs) ≡ [] = since-step cue inputs ∙ rw asking.olds refl in
      let enough_some : 0 < cloud_count plan.f plan.k - plan.f = (let parts = h.shape.some in omega (arith, parts)) in
      let at_first = subst (λ (e : ℕ). Tracks (cloud_count plan.f plan.k) e stamps [] deletion) h.enough (fresh.tracks (cloud_count plan.f plan.k) (subst (λ (e : ℕ). 0 < e) (sym h.enough) enough_some)) in
      let tracks = subst (λ (cs : List Cue). Tracks (cloud_count plan.f plan.k) (cloud_count plan.f plan.k - plan.f) stamps cs deletion) (sym since) at_first in
      let lacks : 0 < deletion.left = subst (λ (count : ℕ). 0 < count) (sym fresh.all) some in
      let none : forget_with plan (cue ∷ inputs) (Some stamps) ≡ None = forget-some plan (cue ∷ inputs) stamps some ∙ rw (lacking-all plan (cue ∷ inputs) stamps deletion tracks lacks) refl in
      let sends = sends-now (Some stamps) olds none in
      let reply = reply-now (Some stamps) olds ∙ nothing-some stamps some in
      let forget = forget-later (Some stamps) olds none in
      let sent : List Out → Turn = λ outs. record { sends = outs; reply = None } in
      let replied : Option Reply → Turn = λ r. record { sends = collect_sends plan (cue ∷ inputs); reply = r } in
      moved plan m n inputs cue turn (at.Deleting deletion) h to asking.reply (is ∙ ap sent (deletes-now plan m inputs (cue ∷ inputs) stamps deletion h tracks ∙ sym sends) ∙ ap replied (sym reply))
      (record { stamps = stamps; olds = olds; tracks = tracks; lacks = lacks; forget = forget; reply = reply }) (progress-later plan (cue ∷ inputs) stamps None olds forget ∙ drop-progress plan (cue ∷ inputs) stamps deletion tracks)

-- ---- after the list

module _ (plan : CollectPlan) (m n : CollectOp) (inputs : List Cue) (cue : Cue) (turn : Turn) (deletion : Deletion) (h : StandsForOwn plan m inputs) (was : m.state ≡ at.Deleting deletion) where
  pub deleting : IsDeleting plan deletion inputs
  deleting = subst (λ (s : State). StandsAt plan s inputs) was h.state

  listed : first_olds (cue ∷ inputs) ≡ Some deleting.stamps
  listed = olds-step cue inputs ∙ rw deleting.olds refl

  since-now : since_olds (cue ∷ inputs) ≡ cue ∷ since_olds inputs
  since-now = since-step cue inputs ∙ rw deleting.olds refl

  some-stamps : 0 < length deleting.stamps
  some-stamps = nonempty deletion.targets.items deleting.tracks.lists (subst (λ (left : ℕ). 0 < left) deleting.tracks.left deleting.lacks)
    where
      nonempty : (ts : List Target) → stamps_of ts ≡ deleting.stamps → 0 < length (filter is_lacking ts) → 0 < length deleting.stamps
      nonempty [] same none = absurd (omega (arith, none))
      nonempty (t ∷ ts) same some = subst (λ (ss : List Timestamp). 0 < length ss) same (omega arith)

  silent : collect_reply plan (cue ∷ inputs) ≡ None
  silent = reply-step plan cue inputs ∙ rw (deleting.reply, deleting.forget, listed, nothing-some deleting.stamps some-stamps) refl

  sent-now : (g : Option (List Timestamp)) → forget_with plan (cue ∷ inputs) (Some deleting.stamps) ≡ g → collect_sends plan (cue ∷ inputs) ≡ collect_sends_by plan cue inputs None g
  sent-now g is = sends-step plan cue inputs ∙ rw (deleting.reply, deleting.forget, forget-now plan (cue ∷ inputs) (Some deleting.stamps) listed, is) refl

  forgot-now : (g : Option (List Timestamp)) → forget_with plan (cue ∷ inputs) (Some deleting.stamps) ≡ g → forget_of plan (cue ∷ inputs) ≡ g
  forgot-now g is = forget-step plan cue inputs ∙ rw (deleting.forget, forget-now plan (cue ∷ inputs) (Some deleting.stamps) listed, is) refl

  -- not each timestamp is deleted in enough clouds
  pub deleting-goes : (after : Deletion) → IsMoved m n (at.Deleting after)
      → ((stamps : List Timestamp) (since : List Cue) → Tracks (cloud_count plan.f plan.k) (cloud_count plan.f plan.k - plan.f) stamps since deletion → Tracks (cloud_count plan.f plan.k) (cloud_count plan.f plan.k - plan.f) stamps (cue ∷ since) after × (0 < after.left))
      → turn ≡ record { sends = (if is_tick cue then flat_map (deletes_of m.issuer m.clouds) deletion.targets.items else []); reply = None } → Did plan n inputs cue turn
  deleting-goes after to goes is =
      let t = goes deleting.stamps (since_olds inputs) deleting.tracks in
      let tracks = subst (λ (cs : List Cue). Tracks (cloud_count plan.f plan.k) (cloud_count plan.f plan.k - plan.f) deleting.stamps cs after) (sym since-now) t.0 in
      let none : forget_with plan (cue ∷ inputs) (Some deleting.stamps) ≡ None = forget-some plan (cue ∷ inputs) deleting.stamps some-stamps ∙ rw (lacking-all plan (cue ∷ inputs) deleting.stamps after tracks t.1) refl in
      let sends : collect_sends plan (cue ∷ inputs) ≡ (if is_tick cue then deletes plan inputs deleting.stamps else []) = sent-now None none ∙ rw deleting.olds refl in
      let sent : List Out → Turn = λ outs. record { sends = outs; reply = None } in
      let replied : Option Reply → Turn = λ r. record { sends = collect_sends plan (cue ∷ inputs); reply = r } in
      let same : (if is_tick cue then flat_map (deletes_of m.issuer m.clouds) deletion.targets.items else []) ≡ (if is_tick cue then deletes plan inputs deleting.stamps else []) =
      ap (λ (outs : List Out). if is_tick cue then outs else []) (deletes-now plan m inputs inputs deleting.stamps deletion h deleting.tracks) in
      moved plan m n inputs cue turn (at.Deleting after) h to deleting.reply (is ∙ ap sent (same ∙ sym sends) ∙ ap replied (sym silent))
      (record { stamps = deleting.stamps; olds = listed; tracks = tracks; lacks = t.1; forget = forgot-now None none; reply = silent }) (progress-later plan (cue ∷ inputs) deleting.stamps None listed (forgot-now None none) ∙ drop-progress plan (cue ∷ inputs) deleting.stamps after tracks)

  -- each timestamp is deleted in enough clouds
  pub deleting-ends : (told_stamps : List Timestamp) → IsMoved m n (at.Forgetting told_stamps) → is_tick cue ≡ false
      → ((stamps : List Timestamp) (since : List Cue) → Tracks (cloud_count plan.f plan.k) (cloud_count plan.f plan.k - plan.f) stamps since deletion → (told_stamps ≡ stamps) × (are_deleted (cloud_count plan.f plan.k) (cloud_count plan.f plan.k - plan.f) (cue ∷ since) stamps ≡ true))
      → turn ≡ record { sends = forgets plan told_stamps; reply = None } → Did plan n inputs cue turn
  deleting-ends told_stamps to calm ends is =
      let e = ends deleting.stamps (since_olds inputs) deleting.tracks in
      let all : are_deleted (cloud_count plan.f plan.k) (cloud_count plan.f plan.k - plan.f) (since_olds (cue ∷ inputs)) deleting.stamps ≡ true =
      subst (λ (cs : List Cue). are_deleted (cloud_count plan.f plan.k) (cloud_count plan.f plan.k - plan.f) cs deleting.stamps ≡ true) (sym since-now) e.1 in
      let now : forget_with plan (cue ∷ inputs) (Some deleting.stamps) ≡ Some told_stamps = forget-some plan (cue ∷ inputs) deleting.stamps some-stamps ∙ rw all (ap (λ (ss : List Timestamp). Some ss) (sym e.0)) in
      let sends : collect_sends plan (cue ∷ inputs) ≡ forgets plan told_stamps = sent-now (Some told_stamps) now in
      let sent : List Out → Turn = λ outs. record { sends = outs; reply = None } in
      let replied : Option Reply → Turn = λ r. record { sends = collect_sends plan (cue ∷ inputs); reply = r } in
      let olds : first_olds (cue ∷ inputs) ≡ Some told_stamps = listed ∙ ap (λ (ss : List Timestamp). Some ss) (sym e.0) in
      moved plan m n inputs cue turn (at.Forgetting told_stamps) h to deleting.reply (is ∙ ap sent (sym sends) ∙ ap replied (sym silent))
      (record { some = subst (λ (ss : List Timestamp). 0 < length ss) (sym e.0) some-stamps; olds = olds; forget = forgot-now (Some told_stamps) now; reply = silent }) (progress-later plan (cue ∷ inputs) told_stamps (Some told_stamps) olds (forgot-now (Some told_stamps) now))

-- ---- after the request to forget

module _ (plan : CollectPlan) (m n : CollectOp) (inputs : List Cue) (cue : Cue) (turn : Turn) (stamps : List Timestamp) (h : StandsForOwn plan m inputs) (was : m.state ≡ at.Forgetting stamps) where
  forgetting : IsForgetting plan stamps inputs
  forgetting = subst (λ (s : State). StandsAt plan s inputs) was h.state

  known : first_olds (cue ∷ inputs) ≡ Some stamps
  known = olds-step cue inputs ∙ rw forgetting.olds refl

  asked : forget_of plan (cue ∷ inputs) ≡ Some stamps
  asked = forget-step plan cue inputs ∙ rw forgetting.forget refl

  told-now : collect_reply plan (cue ∷ inputs) ≡ (if is_forgot cue then Some (told.Collected (length stamps)) else None)
  told-now = reply-step plan cue inputs ∙ rw (forgetting.reply, forgetting.forget, known, nothing-some stamps forgetting.some) (by_test (is_forgot cue))
    where
      by_test : (b : Bool) → option_or (if b then Some (told.Collected (length stamps)) else None) None ≡ (if b then Some (told.Collected (length stamps)) else None)
      by_test true = refl
      by_test false = refl

  sent-again : collect_sends plan (cue ∷ inputs) ≡ (if is_tick cue then forgets plan stamps else [])
  sent-again = sends-step plan cue inputs ∙ rw (forgetting.reply, forgetting.forget) refl

  -- the service has not answered
  pub forgetting-goes : IsMoved m n (at.Forgetting stamps) → is_forgot cue ≡ false → turn ≡ record { sends = (if is_tick cue then forgets plan stamps else []); reply = None } → Did plan n inputs cue turn
  forgetting-goes to other is =
      let silent : collect_reply plan (cue ∷ inputs) ≡ None = told-now ∙ rw other refl in
      let sent : List Out → Turn = λ outs. record { sends = outs; reply = None } in
      let replied : Option Reply → Turn = λ r. record { sends = collect_sends plan (cue ∷ inputs); reply = r } in
      moved plan m n inputs cue turn (at.Forgetting stamps) h to forgetting.reply (is ∙ ap sent (sym sent-again) ∙ ap replied (sym silent))
      (record { some = forgetting.some; olds = known; forget = asked; reply = silent }) (progress-later plan (cue ∷ inputs) stamps (Some stamps) known asked)

  -- the service forgot
  pub forgetting-ends : IsMoved m n at.Collected → is_forgot cue ≡ true → is_tick cue ≡ false → turn ≡ record { sends = []; reply = Some (told.Collected (length stamps)) } → Did plan n inputs cue turn
  forgetting-ends to forgot calm is =
      let reply : collect_reply plan (cue ∷ inputs) ≡ Some (told.Collected (length stamps)) = told-now ∙ rw forgot refl in
      let sends : collect_sends plan (cue ∷ inputs) ≡ [] = sent-again ∙ rw calm refl in
      let sent : List Out → Turn = λ outs. record { sends = outs; reply = Some (told.Collected (length stamps)) } in
      let replied : Option Reply → Turn = λ r. record { sends = collect_sends plan (cue ∷ inputs); reply = r } in
      moved plan m n inputs cue turn at.Collected h to forgetting.reply (is ∙ ap sent (sym sends) ∙ ap replied (sym reply)) (ap is_some reply) (progress-later plan (cue ∷ inputs) stamps (Some stamps) known asked)

-- ---- inputs that change nothing

abbrev pub IsIdleAt : ℕ → State → Cue → Type 0
IsIdleAt clouds at.Asking cue = olds_of cue ≡ None
IsIdleAt clouds (at.Deleting deletion) cue = (stamp : Timestamp) (cloud : ℕ) → cloud < clouds → is_answer is_gone stamp cloud cue ≡ false
IsIdleAt clouds (at.Forgetting stamps) cue = is_forgot cue ≡ false
IsIdleAt clouds at.Empty cue = Unit {0}
IsIdleAt clouds at.Collected cue = Unit {0}

-- at a state
pub idle-at : (plan : CollectPlan) (m n : CollectOp) (inputs : List Cue) (cue : Cue) (turn : Turn) (s : State) → StandsForOwn plan m inputs → m.state ≡ s → IsMoved m n s → is_tick cue ≡ false → IsIdleAt m.clouds s cue → turn ≡ quiet_turn → Did plan n inputs cue turn
idle-at plan m n inputs cue turn s h was to calm idle is = by_state s was to idle
  where
    calm_turn : (outs : List Out) → quiet_turn ≡ record { sends = (if is_tick cue then outs else []); reply = None }
    calm_turn outs = rw calm refl

    by_state : (s : State) → m.state ≡ s → IsMoved m n s → IsIdleAt m.clouds s cue → Did plan n inputs cue turn
    by_state at.Asking was to none = asking-goes plan m n inputs cue turn h was to none (is ∙ calm_turn _)
    by_state (at.Deleting deletion) was to quiet = deleting-goes plan m n inputs cue turn deletion h was deletion to
        (λ stamps since tracks. quiet-tracks (cloud_count plan.f plan.k) (cloud_count plan.f plan.k - plan.f) stamps since cue deletion (λ k d within cloud in_store. quiet (get_or deletion.targets.items k d).stamp cloud (subst (λ (count : ℕ). cloud < count) (sym h.clouds) in_store)) (deleting plan m n inputs cue turn deletion h was).lacks tracks) (is ∙ calm_turn _)
    by_state (at.Forgetting stamps) was to other = forgetting-goes plan m n inputs cue turn stamps h was to other (is ∙ calm_turn _)
    by_state at.Empty was to none = replied-goes plan m n inputs cue turn h (record { issuer = to.issuer; clouds = to.clouds; enough = to.enough; at = to.at ∙ sym was }) (subst (λ (s : State). StandsAt plan s inputs) was h.state) (λ later there. subst (λ (s : State). StandsAt plan s later) (sym was) there) is
    by_state at.Collected was to none = replied-goes plan m n inputs cue turn h (record { issuer = to.issuer; clouds = to.clouds; enough = to.enough; at = to.at ∙ sym was }) (subst (λ (s : State). StandsAt plan s inputs) was h.state) (λ later there. subst (λ (s : State). StandsAt plan s later) (sym was) there) is

-- at every state
pub idle : (plan : CollectPlan) (m : CollectOp) (inputs : List Cue) (cue : Cue) (turn : Turn) → StandsForOwn plan m inputs → is_tick cue ≡ false → ((s : State) → m.state ≡ s → IsIdleAt m.clouds s cue) → turn ≡ quiet_turn → Did plan m inputs cue turn
idle plan m inputs cue turn h calm idles is = idle-at plan m m inputs cue turn m.state h refl (record { issuer = refl; clouds = refl; enough = refl; at = refl }) calm (idles m.state refl) is

-- an answer of the service, but for a list or that it forgot
pub other-say : (m : CollectOp) (say : MetaSay) → ((c o : ℕ) (k : List ℕ) (ss : List Timestamp) → say ≡ says.OldList c o k ss → ⊥) → ((c o : ℕ) (k : List ℕ) → say ≡ says.Forgot c o k → ⊥)
    → (s : State) → m.state ≡ s → IsIdleAt m.clouds s (cues.Meta say)
other-say m say no_list not_forgot s was = by_say say s no_list not_forgot
  where
    idles : (cue : Cue) → olds_of cue ≡ None → is_forgot cue ≡ false → ((stamp : Timestamp) (cloud : ℕ) → cloud < m.clouds → is_answer is_gone stamp cloud cue ≡ false) → (t : State) → IsIdleAt m.clouds t cue
    idles cue none other quiet at.Asking = none
    idles cue none other quiet (at.Deleting deletion) = quiet
    idles cue none other quiet (at.Forgetting stamps) = other
    idles cue none other quiet at.Empty = tt
    idles cue none other quiet at.Collected = tt

    by_say : (say : MetaSay) (t : State) → ((c o : ℕ) (k : List ℕ) (ss : List Timestamp) → say ≡ says.OldList c o k ss → ⊥) → ((c o : ℕ) (k : List ℕ) → say ≡ says.Forgot c o k → ⊥) → IsIdleAt m.clouds t (cues.Meta say)
    by_say (says.Has c o k r) t no_list not_forgot = idles (cues.Meta (says.Has c o k r)) refl refl (λ stamp cloud within. refl) t
    by_say (says.Applied c o k a) t no_list not_forgot = idles (cues.Meta (says.Applied c o k a)) refl refl (λ stamp cloud within. refl) t
    by_say (says.Kept c o k a) t no_list not_forgot = idles (cues.Meta (says.Kept c o k a)) refl refl (λ stamp cloud within. refl) t
    by_say (says.Fired c o k a) t no_list not_forgot = idles (cues.Meta (says.Fired c o k a)) refl refl (λ stamp cloud within. refl) t
    by_say (says.Swapped c o k a) t no_list not_forgot = idles (cues.Meta (says.Swapped c o k a)) refl refl (λ stamp cloud within. refl) t
    by_say (says.Changed c o k a) t no_list not_forgot = idles (cues.Meta (says.Changed c o k a)) refl refl (λ stamp cloud within. refl) t
    by_say (says.OldList c o k ss) t no_list not_forgot = absurd (no_list c o k ss refl)
    by_say (says.Forgot c o k) t no_list not_forgot = absurd (not_forgot c o k refl)

-- a list, after the first
pub later-list : (m : CollectOp) (c o : ℕ) (k : List ℕ) (ss : List Timestamp) → (m.state ≡ at.Asking → ⊥) → (s : State) → m.state ≡ s → IsIdleAt m.clouds s (cues.Meta (says.OldList c o k ss))
later-list m c o k ss other at.Asking was = absurd (other was)
later-list m c o k ss other (at.Deleting deletion) was = λ stamp cloud within. refl
later-list m c o k ss other (at.Forgetting stamps) was = refl
later-list m c o k ss other at.Empty was = tt
later-list m c o k ss other at.Collected was = tt

-- the service forgot what this collection did not ask it to
pub stray-forgot : (m : CollectOp) (c o : ℕ) (k : List ℕ) → ((stamps : List Timestamp) → m.state ≡ at.Forgetting stamps → ⊥) → (s : State) → m.state ≡ s → IsIdleAt m.clouds s (cues.Meta (says.Forgot c o k))
stray-forgot m c o k other at.Asking was = refl
stray-forgot m c o k other (at.Deleting deletion) was = λ stamp cloud within. refl
stray-forgot m c o k other (at.Forgetting stamps) was = absurd (other stamps was)
stray-forgot m c o k other at.Empty was = tt
stray-forgot m c o k other at.Collected was = tt

-- an answer of a cloud where nothing is deleted
pub stray-answer : (m : CollectOp) (reply : CloudReply) → ((deletion : Deletion) → m.state ≡ at.Deleting deletion → ⊥) → (s : State) → m.state ≡ s → IsIdleAt m.clouds s (cues.Cloud reply)
stray-answer m reply other at.Asking was = refl
stray-answer m reply other (at.Deleting deletion) was = absurd (other deletion was)
stray-answer m reply other (at.Forgetting stamps) was = refl
stray-answer m reply other at.Empty was = tt
stray-answer m reply other at.Collected was = tt

-- an answer of a cloud that is no acknowledgement
pub no-acknowledgement : (m : CollectOp) (reply : CloudReply) → ((stamp : Timestamp) (cloud : ℕ) → cloud < m.clouds → is_answer is_gone stamp cloud (cues.Cloud reply) ≡ false) → (s : State) → m.state ≡ s → IsIdleAt m.clouds s (cues.Cloud reply)
no-acknowledgement m reply quiet at.Asking was = refl
no-acknowledgement m reply quiet (at.Deleting deletion) was = quiet
no-acknowledgement m reply quiet (at.Forgetting stamps) was = refl
no-acknowledgement m reply quiet at.Empty was = tt
no-acknowledgement m reply quiet at.Collected was = tt

-- a timeout after the reply
pub late-tick : (plan : CollectPlan) (m : CollectOp) (inputs : List Cue) (turn : Turn) → StandsForOwn plan m inputs → (m.state ≡ at.Empty) ⊎ (m.state ≡ at.Collected) → turn ≡ quiet_turn → Did plan m inputs cues.Tick turn
late-tick plan m inputs turn h (inl was) is = replied-goes plan m m inputs cues.Tick turn h (record { issuer = refl; clouds = refl; enough = refl; at = refl }) (subst (λ (s : State). StandsAt plan s inputs) was h.state) (λ later there. subst (λ (s : State). StandsAt plan s later) (sym was) there) is
late-tick plan m inputs turn h (inr was) is = replied-goes plan m m inputs cues.Tick turn h (record { issuer = refl; clouds = refl; enough = refl; at = refl }) (subst (λ (s : State). StandsAt plan s inputs) was h.state) (λ later there. subst (λ (s : State). StandsAt plan s later) (sym was) there) is

-- a timeout tells nothing of the timestamps
pub tick-tracks : (plan : CollectPlan) (stamps : List Timestamp) (since : List Cue) (deletion : Deletion) → 0 < deletion.left → Tracks (cloud_count plan.f plan.k) (cloud_count plan.f plan.k - plan.f) stamps since deletion
    → Tracks (cloud_count plan.f plan.k) (cloud_count plan.f plan.k - plan.f) stamps (cues.Tick ∷ since) deletion × (0 < deletion.left)
tick-tracks plan stamps since deletion lacks tracks = quiet-tracks (cloud_count plan.f plan.k) (cloud_count plan.f plan.k - plan.f) stamps since cues.Tick deletion (λ k d within cloud in_store. refl) lacks tracks

-- a set can name each cloud of the store
pub few-clouds : (plan : CollectPlan) (m : CollectOp) (inputs : List Cue) → StandsForOwn plan m inputs → cloud_count plan.f plan.k ≤ 16
few-clouds plan m inputs h = let faults = h.shape.faults in let parts = h.shape.parts in omega (arith, faults, parts)

-- how far it is, over all inputs
pub progress-is : (plan : CollectPlan) (m : CollectOp) (inputs : List Cue) → StandsForInputs plan m inputs → collect_progress_of plan inputs ≡ progress_at m.state
unfolding collect_progress_of
progress-is plan m inputs h = h.progress

-- ---- over all inputs

pub stands-start : (plan : CollectPlan) (m : CollectOp) → m.issuer ≡ issuer_of plan → m.clouds ≡ cloud_count plan.f plan.k → m.enough ≡ cloud_count plan.f plan.k - plan.f → IsShape plan.f plan.k → m.state ≡ at.Asking → StandsForInputs plan m []
unfolding inputs_for first_olds forget_of collect_reply settled_progress collect_progress
stands-start plan m issuer clouds enough shape state =
    record {
      issuer = issuer;
      clouds = clouds;
      enough = enough;
      shape = shape;
      state = subst (λ (s : State). StandsAt plan s []) (sym state) (let start : IsAsking plan [] = record { olds = refl; forget = refl; reply = refl } in start);
      progress = ap progress_at (sym state);
    }

pub first-sends : (plan : CollectPlan) → (collect_turn plan []).sends ≡ asks_olds plan
unfolding collect_turn turn_of own_turn collect_sends
first-sends plan = refl

turn-own-is : (plan : CollectPlan) (inputs : List Cue) (cue : Cue) → addresses plan.client plan.op plan.key cue ≡ true → collect_turn plan (cue ∷ inputs) ≡ own_turn (collect_sends plan) (collect_reply plan) (cue ∷ inputs_for plan.client plan.op plan.key inputs)
unfolding collect_turn
turn-own-is plan inputs cue own = turn-own (collect_sends plan) (collect_reply plan) plan.client plan.op plan.key inputs cue own

addressed : (plan : CollectPlan) (m : CollectOp) (inputs : List Cue) (cue : Cue) (b : Bool) → StandsForInputs plan m inputs → addresses m.issuer.client m.issuer.op m.issuer.key cue ≡ b → addresses plan.client plan.op plan.key cue ≡ b
addressed plan m inputs cue b h is = subst (λ (issuer : Issuer). addresses issuer.client issuer.op issuer.key cue ≡ b) h.issuer is

-- an input for the collection
module _ (m n : CollectOp) (cue : Cue) (own : addresses m.issuer.client m.issuer.op m.issuer.key cue ≡ true) where
  pub step-turn : (result : Result Turn NoMemory) → Takes m n cue result → IfOk result (λ turn. (plan : CollectPlan) (inputs : List Cue) → StandsForInputs plan m inputs → turn ≡ collect_turn plan (cue ∷ inputs))
  step-turn (Ok turn) takes = λ plan inputs h. (takes plan (inputs_for plan.client plan.op plan.key inputs) h).0 ∙ sym (turn-own-is plan inputs cue (addressed plan m inputs cue true h own))
  step-turn (Err e) takes = tt

  pub step-ok : (result : Result Turn NoMemory) → Takes m n cue result → OnOk result ((plan : CollectPlan) (inputs : List Cue) → StandsForInputs plan m inputs → StandsForInputs plan n (cue ∷ inputs))
  step-ok (Ok turn) takes = λ plan inputs h. subst (λ (cs : List Cue). StandsForOwn plan n cs) (sym (inputs-own plan.client plan.op plan.key inputs cue (addressed plan m inputs cue true h own))) (takes plan (inputs_for plan.client plan.op plan.key inputs) h).1
  step-ok (Err e) takes = tt

  pub step-err : (result : Result Turn NoMemory) → Takes m n cue result → OnErr result ((plan : CollectPlan) (inputs : List Cue) → StandsForInputs plan m inputs → StandsForInputs plan n inputs)
  step-err (Ok turn) takes = tt
  step-err (Err e) takes = λ plan inputs h. takes plan (inputs_for plan.client plan.op plan.key inputs) h

-- an input for another operation
pub foreign-turn : (m : CollectOp) (cue : Cue) → addresses m.issuer.client m.issuer.op m.issuer.key cue ≡ false → (plan : CollectPlan) (inputs : List Cue) → StandsForInputs plan m inputs → collect_turn plan (cue ∷ inputs) ≡ quiet_turn
unfolding collect_turn
foreign-turn m cue foreign plan inputs h = turn-foreign (collect_sends plan) (collect_reply plan) plan.client plan.op plan.key inputs cue (addressed plan m inputs cue false h foreign)

pub foreign-stands : (m : CollectOp) (cue : Cue) → addresses m.issuer.client m.issuer.op m.issuer.key cue ≡ false → (plan : CollectPlan) (inputs : List Cue) → StandsForInputs plan m inputs → StandsForInputs plan m (cue ∷ inputs)
foreign-stands m cue foreign plan inputs h = subst (λ (cs : List Cue). StandsForOwn plan m cs) (sym (inputs-foreign plan.client plan.op plan.key inputs cue (addressed plan m inputs cue false h foreign))) h

-- memory ran out, and nothing has changed
pub failed : (result : Result Turn NoMemory) (turn : Turn) (more same : Type 0) → IsErr result → same → Steps result turn more same
failed (Ok t) turn more same no_error stays = absurd (false≢true no_error)
failed (Err e) turn more same is_error stays = stays
