use Rattle.std.proofs.Common.{◌≡◌, ◌+◌, Some, None, Option, sym, ap, ◌∙◌, subst, arith}
use Rattle.hy_shared.specs.declared.layout.Layout.{Layout}
use Rattle.hy_shared.specs.declared.running.Running.{Running}
use Rattle.hy_shared.specs.Layout.{row_of}
use Rattle.hy_shared.specs.Sessions.{TableValue, SessionValue, IsSession, next_row}
use Rattle.hy_shared.proofs.Moving.{begin-allowed, begin-keeps}
use Rattle.hy_shared.proofs.shared.SharedMeta.begin.Goals as goal

-- the session is of this table, and runs nothing
pub count_begin-found-requires-clause-rule : goal.count_begin-found-requires-clause-rule
count_begin-found-requires-clause-rule c =
    let p = c.pass.inside in
    let z : Layout = c.args.self.now.layout in
    let layout : p.layout ≡ z = ap (λ (s : SessionValue). s.table.layout) c.pass.view_is ∙ ap (λ (t : TableValue). t.layout) c.requires.table in
    let idle : p.running ≡ None = ap (λ (s : SessionValue). s.running) c.pass.view_is ∙ c.requires.idle in
    let session : IsSession z p.client p.begun None p.seat.me.0.seen =
    subst (λ (q : Layout × Option Running). IsSession q.0 p.client p.begun q.1 p.seat.me.0.seen) (λ i. (layout i, idle i)) c.pass.invariant.1 in
    let begun = ap (λ (s : SessionValue). s.begun) c.pass.view_is in
    let room = c.requires.room in
    let row : c.next_row-row.result ≡ row_of z p.client p.begun =
    c.next_row-row.ensures ∙ sym (ap next_row c.pass.view_is) ∙ ap (λ (y : Layout). row_of y p.client p.begun) layout in
    begin-allowed z p.client p.begun _ _ p.seat.me c.pass.invariant.0 session (omega (arith, begun, room)) c.next_row-row.result row c.args.key c.args.act c.requires.key c.requires.plain

pub overflow_add-place : goal.overflow_add-place
overflow_add-place c = let small = c.count_begin-found.ensures.told.2 in omega (arith, small)

pub invariant_of-pass : goal.invariant_of-pass
invariant_of-pass c =
    let p = c.pass.inside in
    let z : Layout = c.args.self.now.layout in
    let layout : p.layout ≡ z = ap (λ (s : SessionValue). s.table.layout) c.pass.view_is ∙ ap (λ (t : TableValue). t.layout) c.requires.table in
    let idle : p.running ≡ None = ap (λ (s : SessionValue). s.running) c.pass.view_is ∙ c.requires.idle in
    let session : IsSession z p.client p.begun None p.seat.me.0.seen =
    subst (λ (q : Layout × Option Running). IsSession q.0 p.client p.begun q.1 p.seat.me.0.seen) (λ i. (layout i, idle i)) c.pass.invariant.1 in
    let begun = ap (λ (s : SessionValue). s.begun) c.pass.view_is in
    let room = c.requires.room in
    let row : c.next_row-row.result ≡ row_of z p.client p.begun =
    c.next_row-row.ensures ∙ sym (ap next_row c.pass.view_is) ∙ ap (λ (y : Layout). row_of y p.client p.begun) layout in
    let kept = begin-keeps z p.client p.begun p.seat.me c.count_begin-found.new.seat.me c.pass.invariant.0 session (omega (arith, begun, room)) c.next_row-row.result row c.args.key c.args.act c.requires.key
    c.count_begin-found.ensures.told.0 c.count_begin-found.ensures.slots in
    (kept.0, subst (λ (y : Layout). IsSession y p.client (p.begun + 1) (Some (record { row = c.next_row-row.result; key = c.args.key; act = c.args.act; found = None; set = None })) c.count_begin-found.new.seat.me.0.seen) (sym layout) kept.1)
