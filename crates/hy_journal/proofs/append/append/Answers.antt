use Rattle.std.proofs.Common.{◌≡◌, inl, ℕ, ◌+◌, ◌-◌, ◌≤◌, max, List, [], ◌∷◌, length, drop, ap, ◌∙◌, subst, arith}
use Rattle.hy_disk.specs.Disk.{written, Torn, TornFrom, OnlyFile}
use Rattle.hy_disk.specs.Laws.{length-written}
use Rattle.hy_journal.specs.declared.limits.TheConstants.{MAX_JOURNAL}
use Rattle.hy_journal.specs.declared.entry.Entry.{Entry}
use Rattle.hy_journal.specs.File.{HasOrLacks}
use Rattle.hy_journal.specs.Keeper.{CanAppend}
use Rattle.hy_journal.proofs.Moments.{weaker, and_then}
use Rattle.hy_journal.proofs.Results.{on_ok_two}
use Rattle.hy_journal.proofs.Appending.{staged, torn_behind, written_behind, torn_gate, settled_after}
use Rattle.hy_journal.proofs.append.append.Goals as goal

-- the entry's write leaves what the journal had
before_gate : (entries : List Entry) (entry : Entry) (end : ℕ) (bytes file : List ℕ) (may_leave : List ℕ → Type 0)
    → CanAppend entries entry end bytes file may_leave
    → (c : List ℕ) → TornFrom end (length bytes) may_leave c → HasOrLacks entries (entry ∷ []) c
before_gate entries entry end bytes file may_leave can c torn =
    let is : torn.0 ≡ file = (can.settled.durable torn.0).0 torn.1 in
    inl (torn_behind entries file can.settled.journal end (length bytes) c can.settled.behind can.within
    (subst (λ (f : List ℕ). Torn end (length bytes) f c) is torn.2))

mid_is : (entries : List Entry) (entry : Entry) (end : ℕ) (bytes file mid : List ℕ) (may_leave : List ℕ → Type 0)
    (can : CanAppend entries entry end bytes file may_leave) → mid ≡ written end bytes file
    → mid ≡ staged entries can.settled.journal.gate entry (drop (end + length bytes) file)
mid_is entries entry end bytes file mid may_leave can is = is ∙ written_behind entries entry file can.settled.journal end bytes can.settled.behind can.spelled

mid_within : (entries : List Entry) (entry : Entry) (end : ℕ) (bytes file mid : List ℕ) (may_leave : List ℕ → Type 0)
    (can : CanAppend entries entry end bytes file may_leave) → mid ≡ written end bytes file
    → length mid ≤ MAX_JOURNAL
mid_within entries entry end bytes file mid may_leave can is =
    omega (arith, ap (length {A = ℕ}) is, length-written end bytes file, can.within, can.settled.journal.within)

-- the gate's write leaves the entry or not
at_gate : (entries : List Entry) (entry : Entry) (end : ℕ) (bytes file mid : List ℕ) (may_leave mid_leave : List ℕ → Type 0)
    → CanAppend entries entry end bytes file may_leave → mid ≡ written end bytes file → OnlyFile mid mid_leave
    → (c : List ℕ) → TornFrom (end - 1) 1 mid_leave c → HasOrLacks entries (entry ∷ []) c
at_gate entries entry end bytes file mid may_leave mid_leave can is durable c torn =
    let same : torn.0 ≡ mid = (durable torn.0).0 torn.1 in
    torn_gate entries entry can.settled.journal.gate (drop (end + length bytes) file) mid (mid_is entries entry end bytes file mid may_leave can is)
    (mid_within entries entry end bytes file mid may_leave can is)
    can.settled.journal.each can.known (end - 1) c (omega (arith, can.settled.behind)) (subst (λ (f : List ℕ). Torn (end - 1) 1 f c) same torn.2)

pub returns-in_err-store-clause-any_moment : goal.returns-in_err-store-clause-any_moment
returns-in_err-store-clause-any_moment g c entries entry can =
    weaker g.D.Disk.moment g.D.Disk.left_since c.args.disk.now c.store.new.disk _ (HasOrLacks entries (entry ∷ [])) c.store.ensures.any_moment
    (before_gate entries entry c.args.end c.args.bytes.now (g.D.Disk.contents c.args.disk.now) (g.D.Disk.may_leave c.args.disk.now) can)

pub returns-clause-any_moment : goal.returns-clause-any_moment
returns-clause-any_moment g c entries entry can =
    and_then g.D.Disk.moment g.D.Disk.left_since c.args.disk.now c.store.new.disk c.store-2.new.disk _ _
    (HasOrLacks entries (entry ∷ [])) c.store.ensures.any_moment c.store-2.ensures.any_moment
    (before_gate entries entry c.args.end c.args.bytes.now (g.D.Disk.contents c.args.disk.now) (g.D.Disk.may_leave c.args.disk.now) can)
    (at_gate entries entry c.args.end c.args.bytes.now (g.D.Disk.contents c.args.disk.now) (g.D.Disk.contents c.store.new.disk)
    (g.D.Disk.may_leave c.args.disk.now) (g.D.Disk.may_leave c.store.new.disk) can
    c.in_ok-store.ensures.contents c.in_ok-store.ensures.durable)

pub returns-clause-settled : goal.returns-clause-settled
returns-clause-settled g c = on_ok_two c.store-2.result _ c.store-2.ensures.contents c.store-2.ensures.durable (λ is durable entries entry can.
    let mid = g.D.Disk.contents c.store.new.disk in
    let file = g.D.Disk.contents c.args.disk.now in
    let leaves = g.D.Disk.may_leave c.args.disk.now in
    settled_after entries entry can.settled.journal.gate (drop (c.args.end + length c.args.bytes.now) file) mid
    (mid_is entries entry c.args.end c.args.bytes.now file mid leaves can c.in_ok-store.ensures.contents)
    (mid_within entries entry c.args.end c.args.bytes.now file mid leaves can c.in_ok-store.ensures.contents) can.settled.journal.each can.known c.args.end c.args.bytes.now can.settled.behind can.spelled _ _ is durable)

pub returns-in_err-store-clause-reach : goal.returns-in_err-store-clause-reach
returns-in_err-store-clause-reach g c =
    let n = length c.args.bytes.now in
    let e = c.args.end in
    g.met.D.Disk.reach_more c.args.disk.now c.store.new.disk 2 4 n (n + 1) (e + n) (e + n) (omega arith) (omega arith) (omega arith) c.store.ensures.reach

pub returns-clause-reach : goal.returns-clause-reach
returns-clause-reach g c =
    let n = length c.args.bytes.now in
    let e = c.args.end in
    g.met.D.Disk.reach_more c.args.disk.now c.store-2.new.disk (2 + 2) 4 (n + 1) (n + 1) (max (e + n) (e - 1 + 1)) (e + n) (omega arith) (omega arith)
    (omega (arith, c.requires))
    (g.met.D.Disk.reach_then c.args.disk.now c.store.new.disk c.store-2.new.disk 2 2 n 1 (e + n) (e - 1 + 1) c.store.ensures.reach c.store-2.ensures.reach)
