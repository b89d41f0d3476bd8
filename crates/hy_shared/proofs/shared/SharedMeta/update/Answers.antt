use Rattle.std.proofs.Common.{◌≡◌, ℕ, ◌<◌, max, List, Some, None, Option, refl, sym, ap, ◌∙◌, subst}
use Rattle.std.proofs.lemmas.Option.{same_Some}
use Rattle.atomic_table.specs.Table.{Allows}
use Rattle.hy_record.specs.Stamp.{Timestamp, stamp_lt, next_stamp}
use Rattle.hy_points.specs.Atomic.{writes}
use Rattle.hy_shared.specs.declared.layout.Layout.{Layout}
use Rattle.hy_shared.specs.declared.event.Event.TheVariants.{Set}
use Rattle.hy_shared.specs.declared.running.Running.{Running}
use Rattle.hy_shared.specs.declared.said.Said.TheVariants.{Applied, Kept}
use Rattle.hy_shared.specs.Layout.{head_place}
use Rattle.hy_shared.specs.Rule.{IsTable}
use Rattle.hy_shared.specs.Events.{pack, packed_stamp}
use Rattle.hy_shared.specs.Moves.{RaisesHead}
use Rattle.hy_shared.specs.Sessions.{TableValue, SessionValue, IsSession}
use Rattle.hy_record.specs.Record.{RecordValue, IsRecord}
use Rattle.hy_shared.specs.Rows.{IsRowOf, FitsLayout, record_words}
use Rattle.hy_shared.specs.Answers.{Raises}
use Rattle.hy_shared.proofs.Storing.{row-few}
use Rattle.hy_shared.proofs.Moving.{set-allowed, set-keeps, row-low, owns-row, raises-back, raises-to, value}
use Rattle.hy_shared.proofs.shared.SharedMeta.update.Goals as goal

pub packed-word-requires-clause-row : goal.packed-word-requires-clause-row
packed-word-requires-clause-row c =
    let p = c.pass.inside in
    let r : Running = c.now-running.result in
    let now : p.running ≡ Some r = ap (λ (s : SessionValue). s.running) c.pass.view_is ∙ c.now-running.ensures in
    row-low p.layout p.client p.begun p.seat.me.0.seen r (subst (λ (q : Option Running). IsSession p.layout p.client p.begun q p.seat.me.0.seen) now c.pass.invariant.1)

pub raise_head-old-requires-clause-key : goal.raise_head-old-requires-clause-key
raise_head-old-requires-clause-key c =
    let p = c.pass.inside in
    let r : Running = c.now-running.result in
    let now : p.running ≡ Some r = ap (λ (s : SessionValue). s.running) c.pass.view_is ∙ c.now-running.ensures in
    let layout = ap (λ (s : SessionValue). s.table.layout) c.pass.view_is ∙ ap (λ (t : TableValue). t.layout) c.requires.table in
    subst (λ (y : Layout). r.key < y.keys) layout (c.pass.invariant.1.runs r now).key

pub write_row-requires-clause-row : goal.write_row-requires-clause-row
write_row-requires-clause-row c =
    let p = c.pass.inside in
    let r : Running = c.now-running.result in
    let z : Layout = c.args.self.now.layout in
    let layout : p.layout ≡ z = ap (λ (s : SessionValue). s.table.layout) c.pass.view_is ∙ ap (λ (t : TableValue). t.layout) c.requires.table in
    let now : p.running ≡ Some r = ap (λ (s : SessionValue). s.running) c.pass.view_is ∙ c.now-running.ensures in
    let session : IsSession z p.client p.begun (Some r) p.seat.me.0.seen =
    subst (λ (q : Layout × Option Running). IsSession q.0 p.client p.begun q.1 p.seat.me.0.seen) (λ i. (layout i, now i)) c.pass.invariant.1 in
    let may = c.requires.next in
    let same : may.running ≡ r = same_Some may.running r (sym may.runs ∙ c.now-running.ensures) in
    let unset : r.set ≡ None = ap (λ (q : Running). q.set) (sym same) ∙ may.not_set in
    owns-row z p.client p.begun p.seat.me c.pass.invariant.0 r session unset

pub write_row-requires-clause-few : goal.write_row-requires-clause-few
write_row-requires-clause-few c =
    let z : Layout = c.args.self.now.layout in
    let rec : RecordValue = c.args.rec.now in
    let words : List ℕ = record_words rec in
    let fits : FitsLayout z rec = subst (λ (t : TableValue). FitsLayout t.layout rec) c.requires.table c.requires.next.fits in
    let row_of : IsRowOf z rec.stamp words = record { rec = rec; words_are = refl; ruled = subst IsRecord c.known-known.ensures.same c.known-known.ensures.ruled; stamp_is = refl; fits = fits } in
    row-few z rec.stamp words row_of

pub raise_head-old-requires-clause-rule : goal.raise_head-old-requires-clause-rule
raise_head-old-requires-clause-rule c =
    let p = c.pass.inside in
    let r : Running = c.now-running.result in
    let z : Layout = c.args.self.now.layout in
    let layout : p.layout ≡ z = ap (λ (s : SessionValue). s.table.layout) c.pass.view_is ∙ ap (λ (t : TableValue). t.layout) c.requires.table in
    let now : p.running ≡ Some r = ap (λ (s : SessionValue). s.running) c.pass.view_is ∙ c.now-running.ensures in
    let session : IsSession z p.client p.begun (Some r) p.seat.me.0.seen =
    subst (λ (q : Layout × Option Running). IsSession q.0 p.client p.begun q.1 p.seat.me.0.seen) (λ i. (layout i, now i)) c.pass.invariant.1 in
    let may = c.requires.next in
    let same : may.running ≡ r = same_Some may.running r (sym may.runs ∙ c.now-running.ensures) in
    let unset : r.set ≡ None = ap (λ (q : Running). q.set) (sym same) ∙ may.not_set in
    let rec : RecordValue = c.args.rec.now in
    let words : List ℕ = record_words rec in
    let fits : FitsLayout z rec = subst (λ (t : TableValue). FitsLayout t.layout rec) c.requires.table c.requires.next.fits in
    let row_of : IsRowOf z rec.stamp words = record { rec = rec; words_are = refl; ruled = subst IsRecord c.known-known.ensures.same c.known-known.ensures.ruled; stamp_is = refl; fits = fits } in
    let client : c.args.pass.now.client ≡ p.client = sym (ap (λ (s : SessionValue). s.client) c.pass.view_is) in
    let ready = c.write_row.new.seat in
    let allowed = set-allowed z p.client p.begun p.seat.me c.pass.invariant.0 r session c.args.self.now.id.slots ready.id ready.me rec.stamp may.found words c.write_row.ensures.view row_of
    (ap (λ (q : Running). writes q.act) (sym same) ∙ may.is_write) unset (ap (λ (q : Running). q.found) (sym same) ∙ may.read)
    (ap (next_stamp may.found) (sym client) ∙ may.next) in
    let packed_is : c.packed-word.result ≡ pack rec.stamp r.row = c.packed-word.ensures ∙ ap (λ (s : Timestamp). pack s r.row) c.stamp-stamp.ensures in
    subst (λ (w : ℕ). Allows (IsTable z) c.args.self.now.id.slots ready.id ready.me (head_place r.key) (λ n. max n w) (λ n after. RaisesHead z ready.me.0 (Set r.row r.key rec.stamp (stamp_lt (packed_stamp n) rec.stamp) words) r.key n after.0 × (after.1 ≡ ready.me.1))) (sym packed_is) allowed

pub unpacked-found-requires : goal.unpacked-found-requires
unpacked-found-requires c = c.raise_head-old.ensures.told.number

pub invariant_of-pass : goal.invariant_of-pass
invariant_of-pass c =
    let p = c.pass.inside in
    let r : Running = c.now-running.result in
    let z : Layout = c.args.self.now.layout in
    let layout : p.layout ≡ z = ap (λ (s : SessionValue). s.table.layout) c.pass.view_is ∙ ap (λ (t : TableValue). t.layout) c.requires.table in
    let now : p.running ≡ Some r = ap (λ (s : SessionValue). s.running) c.pass.view_is ∙ c.now-running.ensures in
    let session : IsSession p.layout p.client p.begun (Some r) p.seat.me.0.seen = subst (λ (q : Option Running). IsSession p.layout p.client p.begun q p.seat.me.0.seen) now c.pass.invariant.1 in
    let may = c.requires.next in
    let same : may.running ≡ r = same_Some may.running r (sym may.runs ∙ c.now-running.ensures) in
    let unset : r.set ≡ None = ap (λ (q : Running). q.set) (sym same) ∙ may.not_set in
    let n : ℕ = c.raise_head-old.result in
    let stamp : Timestamp = c.args.rec.now.stamp in
    let words : List ℕ = record_words c.args.rec.now in
    let told = raises-back p.layout p.seat.me.0 c.write_row.new.seat.me.0 c.raise_head-old.new.seat.me.0 r.row words (Set r.row r.key stamp (stamp_lt (packed_stamp n) stamp) words) r.key n c.write_row.ensures.view
    (subst (λ (y : Layout). RaisesHead y c.write_row.new.seat.me.0 (Set r.row r.key stamp (stamp_lt (packed_stamp n) stamp) words) r.key n c.raise_head-old.new.seat.me.0) (sym layout) c.raise_head-old.ensures.told) in
    let kept = set-keeps p.layout p.client p.begun p.seat.me c.pass.invariant.0 r session c.raise_head-old.new.seat.me stamp (stamp_lt (packed_stamp n) stamp) words unset told.appends (c.raise_head-old.ensures.slots ∙ c.write_row.ensures.slots) in
    (kept.0, subst (λ (s : Timestamp). IsSession p.layout p.client p.begun (Some (record { row = r.row; key = r.key; act = r.act; found = r.found; set = Some s })) c.raise_head-old.new.seat.me.0.seen) (sym c.stamp-stamp.ensures) kept.1)

pub returns-then-is_below : goal.returns-then-is_below
returns-then-is_below c =
    let p = c.pass.inside in
    let r : Running = c.now-running.result in
    let z : Layout = c.args.self.now.layout in
    let layout : p.layout ≡ z = ap (λ (s : SessionValue). s.table.layout) c.pass.view_is ∙ ap (λ (t : TableValue). t.layout) c.requires.table in
    let now : p.running ≡ Some r = ap (λ (s : SessionValue). s.running) c.pass.view_is ∙ c.now-running.ensures in
    let n : ℕ = c.raise_head-old.result in
    let stamp : Timestamp = c.args.rec.now.stamp in
    let words : List ℕ = record_words c.args.rec.now in
    let told = raises-back p.layout p.seat.me.0 c.write_row.new.seat.me.0 c.raise_head-old.new.seat.me.0 r.row words (Set r.row r.key stamp (stamp_lt (packed_stamp n) stamp) words) r.key n c.write_row.ensures.view
    (subst (λ (y : Layout). RaisesHead y c.write_row.new.seat.me.0 (Set r.row r.key stamp (stamp_lt (packed_stamp n) stamp) words) r.key n c.raise_head-old.new.seat.me.0) (sym layout) c.raise_head-old.ensures.told) in
    let raised = raises-to p.layout p.client p.begun p.seat.me c.raise_head-old.new.seat.me c.pass.invariant.0 r p.running p.seat.table_id c.raise_head-old.new.seat.table_id (c.raise_head-old.ensures.table ∙ c.write_row.ensures.table)
    c.args.pass.now c.pass.view_is c.now-running.ensures n stamp words Applied told
    (ap (λ (s : Timestamp). stamp_lt s stamp) (sym c.unpacked-found.ensures.stamp) ∙ ap (stamp_lt c.unpacked-found.result.0) (sym c.stamp-stamp.ensures) ∙ sym c.is_below.ensures ∙ c.if-is_below.true) tt in
    subst (λ (s : Timestamp). Raises c.args.pass.now stamp words Applied (value p.layout p.client c.raise_head-old.new.seat.table_id p.begun (Some (record { row = r.row; key = r.key; act = r.act; found = r.found; set = Some s })) c.raise_head-old.new.seat.me)) (sym c.stamp-stamp.ensures) raised

pub invariant_of-pass-2 : goal.invariant_of-pass-2
invariant_of-pass-2 c =
    let p = c.pass.inside in
    let r : Running = c.now-running.result in
    let z : Layout = c.args.self.now.layout in
    let layout : p.layout ≡ z = ap (λ (s : SessionValue). s.table.layout) c.pass.view_is ∙ ap (λ (t : TableValue). t.layout) c.requires.table in
    let now : p.running ≡ Some r = ap (λ (s : SessionValue). s.running) c.pass.view_is ∙ c.now-running.ensures in
    let session : IsSession p.layout p.client p.begun (Some r) p.seat.me.0.seen = subst (λ (q : Option Running). IsSession p.layout p.client p.begun q p.seat.me.0.seen) now c.pass.invariant.1 in
    let may = c.requires.next in
    let same : may.running ≡ r = same_Some may.running r (sym may.runs ∙ c.now-running.ensures) in
    let unset : r.set ≡ None = ap (λ (q : Running). q.set) (sym same) ∙ may.not_set in
    let n : ℕ = c.raise_head-old.result in
    let stamp : Timestamp = c.args.rec.now.stamp in
    let words : List ℕ = record_words c.args.rec.now in
    let told = raises-back p.layout p.seat.me.0 c.write_row.new.seat.me.0 c.raise_head-old.new.seat.me.0 r.row words (Set r.row r.key stamp (stamp_lt (packed_stamp n) stamp) words) r.key n c.write_row.ensures.view
    (subst (λ (y : Layout). RaisesHead y c.write_row.new.seat.me.0 (Set r.row r.key stamp (stamp_lt (packed_stamp n) stamp) words) r.key n c.raise_head-old.new.seat.me.0) (sym layout) c.raise_head-old.ensures.told) in
    let kept = set-keeps p.layout p.client p.begun p.seat.me c.pass.invariant.0 r session c.raise_head-old.new.seat.me stamp (stamp_lt (packed_stamp n) stamp) words unset told.appends (c.raise_head-old.ensures.slots ∙ c.write_row.ensures.slots) in
    (kept.0, subst (λ (s : Timestamp). IsSession p.layout p.client p.begun (Some (record { row = r.row; key = r.key; act = r.act; found = r.found; set = Some s })) c.raise_head-old.new.seat.me.0.seen) (sym c.stamp-stamp.ensures) kept.1)

pub returns : goal.returns
returns c =
    let p = c.pass.inside in
    let r : Running = c.now-running.result in
    let z : Layout = c.args.self.now.layout in
    let layout : p.layout ≡ z = ap (λ (s : SessionValue). s.table.layout) c.pass.view_is ∙ ap (λ (t : TableValue). t.layout) c.requires.table in
    let now : p.running ≡ Some r = ap (λ (s : SessionValue). s.running) c.pass.view_is ∙ c.now-running.ensures in
    let n : ℕ = c.raise_head-old.result in
    let stamp : Timestamp = c.args.rec.now.stamp in
    let words : List ℕ = record_words c.args.rec.now in
    let told = raises-back p.layout p.seat.me.0 c.write_row.new.seat.me.0 c.raise_head-old.new.seat.me.0 r.row words (Set r.row r.key stamp (stamp_lt (packed_stamp n) stamp) words) r.key n c.write_row.ensures.view
    (subst (λ (y : Layout). RaisesHead y c.write_row.new.seat.me.0 (Set r.row r.key stamp (stamp_lt (packed_stamp n) stamp) words) r.key n c.raise_head-old.new.seat.me.0) (sym layout) c.raise_head-old.ensures.told) in
    let raised = raises-to p.layout p.client p.begun p.seat.me c.raise_head-old.new.seat.me c.pass.invariant.0 r p.running p.seat.table_id c.raise_head-old.new.seat.table_id (c.raise_head-old.ensures.table ∙ c.write_row.ensures.table)
    c.args.pass.now c.pass.view_is c.now-running.ensures n stamp words (Kept c.unpacked-found.result.0) told
    (ap (λ (s : Timestamp). stamp_lt s stamp) (sym c.unpacked-found.ensures.stamp) ∙ ap (stamp_lt c.unpacked-found.result.0) (sym c.stamp-stamp.ensures) ∙ sym c.is_below.ensures ∙ c.if-is_below.false) c.unpacked-found.ensures.stamp in
    subst (λ (s : Timestamp). Raises c.args.pass.now stamp words (Kept c.unpacked-found.result.0) (value p.layout p.client c.raise_head-old.new.seat.table_id p.begun (Some (record { row = r.row; key = r.key; act = r.act; found = r.found; set = Some s })) c.raise_head-old.new.seat.me)) (sym c.stamp-stamp.ensures) raised
