use Rattle.std.proofs.Common.{◌≡◌, sym, ap, ◌∙◌, subst}
use Rattle.std.proofs.lemmas.Option.{same_Some}
use Rattle.hy_shared.specs.declared.layout.Layout.{Layout}
use Rattle.hy_shared.specs.declared.running.Running.{Running}
use Rattle.hy_shared.specs.Sessions.{SessionValue, TableValue}
use Rattle.hy_shared.specs.Found.{HasWritten}
use Rattle.hy_shared.specs.Recorded.{HasRecord}
use Rattle.hy_shared.proofs.Moving.{value}
use Rattle.hy_shared.proofs.RowReading.{looked-written, reads-none, reads-some}
use Rattle.hy_shared.proofs.shared.SharedMeta.read.Goals as goal

pub read_row-rec-requires-clause-written : goal.read_row-rec-requires-clause-written
read_row-rec-requires-clause-written c =
    let looks = c.in-Some.ensures in
    let r : Running = c.now-key.result in
    let same : looks.running ≡ r = same_Some looks.running r (sym looks.ran ∙ c.now-key.ensures) in
    let written = looked-written c.args.pass.now c.look.new.pass c.in-Some.seen looks in
    let layout : c.args.pass.now.table.layout ≡ c.args.self.now.layout = ap (λ (t : TableValue). t.layout) c.requires.table in
    subst (λ (q : Layout × Running). HasWritten q.0 c.pass.inside.seat.me.0.seen q.1.key c.in-Some.seen.row c.in-Some.seen.stamp) (λ i. (layout i, same i))
    (subst (λ (s : SessionValue). HasWritten c.args.pass.now.table.layout s.seen looks.running.key c.in-Some.seen.row c.in-Some.seen.stamp) (sym c.pass.view_is) written)

pub returns-in-Some-clause-ok : goal.returns-in-Some-clause-ok
returns-in-Some-clause-ok c =
    let p = c.pass.inside in
    let looks = c.in-Some.ensures in
    let r : Running = c.now-key.result in
    let same : looks.running ≡ r = same_Some looks.running r (sym looks.ran ∙ c.now-key.ensures) in
    let read = c.read_row-rec.ensures in
    let later : value p.layout p.client c.read_row-rec.new.seat.table_id p.begun p.running c.read_row-rec.new.seat.me ≡ c.look.new.pass =
    (λ i. value p.layout p.client (read.table i) p.begun p.running (read.same i)) ∙ c.pass.view_is in
    let layout : c.args.self.now.layout ≡ c.look.new.pass.table.layout = sym (ap (λ (t : TableValue). t.layout) (looks.sees.table ∙ c.requires.table)) in
    let seen : SessionValue = c.look.new.pass in
    reads-some c.args.self.now.layout c.args.pass.now c.look.new.pass _ c.in-Some.seen (record { rec = c.read_row-rec.result; row = c.in-Some.seen.row }) looks (sym later)
    (λ i. record { stamp = sym read.stamp i; row = c.in-Some.seen.row }) r.key (ap (λ (q : Running). q.key) same) layout
    (subst (λ (s : SessionValue). HasRecord s.seen r.key c.in-Some.seen.row c.read_row-rec.result) c.pass.view_is read.recorded) read.fits

pub returns-in-None-clause-ok : goal.returns-in-None-clause-ok
returns-in-None-clause-ok c = reads-none c.args.pass.now c.look.new.pass c.in-None.ensures
