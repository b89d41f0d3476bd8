use Rattle.std.proofs.Common.{◌≡◌, ℕ, ◌+◌, ◌*◌, List, [], ◌∷◌, length, take, drop, sym, ap, ◌∙◌, subst, arith}
use Rattle.std.specs.Prelude.{flat_map, All}
use Rattle.hy_shared.specs.declared.layout.Layout.{Layout}
use Rattle.hy_shared.specs.declared.event.Event.{Event}
use Rattle.hy_shared.specs.Rows.{record_words, hash_words}
use Rattle.hy_shared.specs.Answers.{IsWordOf}
use Rattle.hy_shared.specs.Sessions.{TableValue}
use Rattle.std.specs.List.{slice_get}
use Rattle.std.proofs.lemmas.List.{length_push}
use Rattle.std.proofs.Common.{◌/◌, ◌%◌}
use Rattle.hy_record.specs.Spelling.{kind_byte}
use Rattle.hy_record.specs.Record.{kind_of_parts}
use Rattle.hy_record.specs.Record.{RecordValue}
use Rattle.hy_record.specs.Hash.{IsHash}
use Rattle.std.proofs.lemmas.List.Elements.{All-push}
use Rattle.hy_shared.specs.Found.{IsWritten, HasWritten}
use Rattle.hy_shared.proofs.Moving.{Sat}
use Rattle.hy_shared.proofs.RowReading.{tomb-written, value-written, written-as, has-record, stamped, reads-value, hash-more}
use Rattle.hy_shared.proofs.shared.SharedMeta.read_row.Goals as goal

pub deletion-requires : goal.deletion-requires
deletion-requires c = stamped c.args.self.now.layout c.args.seat.now.me.0.seen c.args._key c.args.seen.now.row c.args.seen.now.stamp c.requires.written

pub returns-then-head-eq0-clause-recorded : goal.returns-then-head-eq0-clause-recorded
returns-then-head-eq0-clause-recorded c =
    let log : List Event = c.args.seat.now.me.0.seen in
    let z : Layout = c.args.self.now.layout in
    let seen = c.args.seen.now in
    let made : c.ruled.result ≡ c.deletion.result = c.ruled.ensures.same in
    let words : 0 ∷ [] ≡ record_words c.ruled.result = sym (ap record_words (made ∙ c.deletion.ensures)) in
    has-record log z c.args._key seen.row seen.stamp c.ruled.result
    (written-as z log c.args._key seen.row seen.stamp (0 ∷ []) (record_words c.ruled.result) words
    (tomb-written z log c.args._key seen.row seen.stamp c.read_word-head.result c.requires.written c.read_word-head.ensures.word c.if-head-eq0.true))
    (ap (λ (r : RecordValue). r.stamp) (made ∙ c.deletion.ensures)) c.ruled.ensures.ruled

pub loop-i-preserved : goal.loop-i-preserved
loop-i-preserved c =
    let l = c.loop-i in
    let first : List Event = c.read_word-head.new.seat.me.0.seen in
    let row : ℕ = c.args.seen.now.row in
    let a_same = l.invariant.same in
    let b_same = c.read_word-a.ensures.same ∙ a_same in
    let c_same = c.read_word-b.ensures.same ∙ b_same in
    let d_same = c.read_word-c.ensures.same ∙ c_same in
    let i : ℕ = l.i in
    let in_a = subst (λ (m : Sat). IsWordOf m.0.seen row (1 + 4 * i) c.read_word-a.result) a_same c.read_word-a.ensures.word in
    let in_b = subst (λ (m : Sat). IsWordOf m.0.seen row (2 + 4 * i) c.read_word-b.result) b_same c.read_word-b.ensures.word in
    let in_c = subst (λ (m : Sat). IsWordOf m.0.seen row (3 + 4 * i) c.read_word-c.result) c_same c.read_word-c.ensures.word in
    let in_d = subst (λ (m : Sat). IsWordOf m.0.seen row (4 + 4 * i) c.read_word-d.result) d_same c.read_word-d.ensures.word in
    let room = l.invariant.room in let many = l.invariant.many in
    let pushed = c.push_reserved.ensures in
    let items = pushed.items in let capacity = pushed.capacity in
    record {
      table = c.read_word-d.ensures.table ∙ c.read_word-c.ensures.table ∙ c.read_word-b.ensures.table ∙ c.read_word-a.ensures.table ∙ l.invariant.table;
      same = c.read_word-d.ensures.same ∙ d_same;
      room = omega (arith, room, capacity);
      many = ap length items ∙ length_push l.hashes.items c.hash_of_words.result ∙ ap (λ n. n + 1) many;
      read = λ place key stamp applied words at long.
          ap (flat_map hash_words) items
          ∙ hash-more first row place key stamp applied words l.hashes.items c.hash_of_words.result i c.hash_count-count.result c.read_word-a.result c.read_word-b.result c.read_word-c.result c.read_word-d.result
          at long c.loop-i-test.true (l.invariant.read place key stamp applied words at long) in_a in_b in_c in_d c.hash_of_words.ensures.words;
      sizes = subst (All IsHash) (sym items) (All-push IsHash l.hashes.items c.hash_of_words.result l.invariant.sizes c.hash_of_words.ensures.size);
    }

pub of_hashes-requires-clause-size : goal.of_hashes-requires-clause-size
of_hashes-requires-clause-size c =
    let log : List Event = c.args.seat.now.me.0.seen in
    let y : Layout = c.self.inside.layout in
    let layout : y ≡ c.args.self.now.layout = ap (λ (t : TableValue). t.layout) c.self.view_is in
    let seen = c.args.seen.now in
    let has = subst (λ (z : Layout). HasWritten z log c.args._key seen.row seen.stamp) (sym layout) c.requires.written in
    (reads-value y log c.args._key seen.row seen.stamp c.read_word-head.result has c.read_word-head.ensures.word c.if-head-eq0.false).size

pub of_hashes-requires-clause-quorum : goal.of_hashes-requires-clause-quorum
of_hashes-requires-clause-quorum c =
    let log : List Event = c.args.seat.now.me.0.seen in
    let y : Layout = c.self.inside.layout in
    let layout : y ≡ c.args.self.now.layout = ap (λ (t : TableValue). t.layout) c.self.view_is in
    let seen = c.args.seen.now in
    let has = subst (λ (z : Layout). HasWritten z log c.args._key seen.row seen.stamp) (sym layout) c.requires.written in
    (reads-value y log c.args._key seen.row seen.stamp c.read_word-head.result has c.read_word-head.ensures.word c.if-head-eq0.false).clouds

pub returns-clause-recorded : goal.returns-clause-recorded
returns-clause-recorded c =
    let log : List Event = c.args.seat.now.me.0.seen in
    let y : Layout = c.self.inside.layout in
    let layout : y ≡ c.args.self.now.layout = ap (λ (t : TableValue). t.layout) c.self.view_is in
    let seen = c.args.seen.now in
    let l = c.loop-i in
    let hashes = l.hashes.items in
    let count : ℕ = c.hash_count-count.result in
    let lower = c.loop-i-test.false in let upper = l.auto.i-end in
    let end : l.i ≡ count = omega (arith, lower, upper) in
    let has = subst (λ (z : Layout). HasWritten z log c.args._key seen.row seen.stamp) (sym layout) c.requires.written in
    let written = value-written y log c.args._key seen.row seen.stamp c.read_word-head.result count hashes has c.read_word-head.ensures.word c.if-head-eq0.false c.hash_count-count.ensures.value
    (λ place key stamp applied words at long. l.invariant.read place key stamp applied words (ap (λ (m : Sat). slice_get m.0.seen place) c.read_word-head.ensures.same ∙ at) long ∙ ap (λ n. take (4 * n) (drop 1 words)) end) in
    let made : c.ruled-2.result ≡ c.of_hashes.result = c.ruled-2.ensures.same in
    has-record log c.args.self.now.layout c.args._key seen.row seen.stamp c.ruled-2.result
    (written-as c.args.self.now.layout log c.args._key seen.row seen.stamp _ (record_words c.ruled-2.result) (sym (ap record_words (made ∙ c.of_hashes.ensures)))
    (subst (λ (z : Layout). IsWritten z log c.args._key seen.row seen.stamp ((c.read_word-head.result / 4294967296 * 4294967296 + kind_byte (kind_of_parts y.k) * 65536 + c.read_word-head.result % 65536) ∷ flat_map hash_words hashes)) layout written))
    (ap (λ (r : RecordValue). r.stamp) (made ∙ c.of_hashes.ensures)) c.ruled-2.ensures.ruled
