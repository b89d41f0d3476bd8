-- Lemmas on the connections to clouds.
use Rattle.std.proofs.Common.{◌≡◌, ◌==◌, ℕ, Bool, List, [], ◌++◌, Option, Some, None, refl, sym, ap, subst, ◌∙◌, cond, eq-eqb, rules}
use Rattle.std.proofs.lemmas.Bool.{cond-true, cond-false}
use Rattle.std.specs.Cmp.{unsigned_tied}
use Rattle.std.specs.BTreeMap.{BTreeMap}
use Rattle.std.specs.Option.{IsSome}
use Rattle.std.specs.Prelude.{if◌then◌else◌}
use Rattle.std.specs.Ordering.{nat_cmp}
use Rattle.std.specs.BTreeMap as tree
use Rattle.hy_record.specs.declared.cloud.CloudSay.{CloudSay}
use Rattle.hy_record.specs.declared.turn.Cue.{Cue}
use Rattle.hy_cwire.specs.declared.kind.WishKind.{WishKind}
use Rattle.hy_cwire.specs.declared.progress.Progress.TheVariants.{Head}
use Rattle.hy_cwire.specs.Readers.{Answering, IsSayAt}
use Rattle.hy_drive.specs.declared.errand.Errand.{Errand}
use Rattle.hy_drive.specs.declared.cloud_lines.CloudLine.{CloudLine}
use Rattle.hy_drive.specs.declared.cloud_lines.CloudLines.{CloudLines}
use Rattle.hy_drive.specs.State.{Waiting, answer_to}
use Rattle.hy_drive.specs.Judging.{kind_of, ComesTo}
use Rattle.hy_drive.specs.Held.{line_at, HoldsLine, IsAwaited, KeepsOthers, Awaits, ReadsReply, ReadsTo, ReadsLine, ReadsAt, ReadsWaiting, LineBehind, with_more, errand_answer, TakesLine, taken, ReadsOn, RepliesAt}

abbrev pub Lines : Type 0
Lines = BTreeMap ℕ CloudLine

abbrev pub with_lines : Lines → CloudLines
with_lines lines = record { lines = lines }

written : (old new : Lines) (conn : ℕ) (held : Option CloudLine) → tree.UpdatesBy nat_cmp (nat_cmp conn) old new held
    → (c : ℕ) → line_at (with_lines new) c ≡ (if conn == c then held else line_at (with_lines old) c)
unfolding line_at
written old new conn held updates c =
    subst (λ (b : Bool). tree.get nat_cmp new c ≡ cond b held (tree.get nat_cmp old c)) (unsigned_tied conn c) (updates.0 c)

pub written-here : (old new : Lines) (conn : ℕ) (held : Option CloudLine) → tree.UpdatesBy nat_cmp (nat_cmp conn) old new held → line_at (with_lines new) conn ≡ held
written-here old new conn held updates = written old new conn held updates conn ∙ cond-true (conn == conn) _ _ (eq-eqb conn conn refl)

pub written-else : (old new : Lines) (conn : ℕ) (held : Option CloudLine) → tree.UpdatesBy nat_cmp (nat_cmp conn) old new held → KeepsOthers (with_lines old) (with_lines new) conn
written-else old new conn held updates c other = written old new conn held updates c ∙ cond-false (conn == c) _ _ other

-- ---- an answer is awaited

pub awaits-new : (old new : Lines) (conn : ℕ) (errand : Errand) (asked : WishKind) (reader : Answering)
    → reader ≡ record { asked = asked; progress = Head [] } → IsSayAt [] reader.progress
    → tree.UpdatesBy nat_cmp (nat_cmp conn) old new (Some (record { errand = errand; reader = reader })) → Awaits (with_lines old) (with_lines new) conn errand asked
awaits-new old new conn errand asked reader fresh at updates = record {
  here = written-here old new conn _ updates ∙ ap (λ (r : Answering). Some (record { errand = errand; reader = r })) fresh;
  at = subst (λ (r : Answering). IsSayAt [] r.progress) fresh at;
  others = written-else old new conn _ updates;
}

-- ---- an answer goes on

is-some : (held : Option CloudLine) (was : CloudLine) → Some was ≡ held → IsSome held
is-some held was is = subst (λ (h : Option CloudLine). IsSome h) is (search rules)

waits-on : (was now : CloudLine) (waiting : Waiting) (piece : List ℕ) (answer : Option CloudSay) → now.errand ≡ was.errand → IsAwaited was waiting
    → ReadsTo (waiting.bytes ++ piece) was.reader.asked now.reader answer → LineBehind (Some now) (with_more waiting piece) answer
waits-on was now waiting piece None same holds to = record {
  errand = same ∙ holds.errand;
  asked = to.asked_still ∙ holds.asked;
  at = to.goes_on.0;
  unfinished = to.goes_on.1;
}
waits-on was now waiting piece (Some say) same holds to = same ∙ holds.errand

reads-waiting : (was now : CloudLine) (waiting : Waiting) (piece : List ℕ) (answer : Option CloudSay) → now.errand ≡ was.errand → IsAwaited was waiting
    → ReadsTo (waiting.bytes ++ piece) was.reader.asked now.reader answer → ReadsWaiting (with_more waiting piece) (Some now) answer
reads-waiting was now waiting piece answer same holds to = record {
  comes = subst (λ (asked : WishKind). ComesTo asked (waiting.bytes ++ piece) answer) holds.asked to.comes;
  line = waits-on was now waiting piece answer same holds to;
}

reads-held : (was now : CloudLine) (waiting : Option Waiting) (piece : List ℕ) (answer : Option CloudSay) → now.errand ≡ was.errand → ReadsReply was.reader now.reader piece answer
    → HoldsLine (Some was) waiting → ReadsAt waiting piece (Some now) answer
reads-held was now None piece answer same reads holds = absurd holds
reads-held was now (Some waiting) piece answer same reads holds =
    reads-waiting was now waiting piece answer same holds (reads holds.unfinished waiting.bytes holds.at)

pub reads-known : (old new : Lines) (conn : ℕ) (was now : CloudLine) (piece : List ℕ) (answer : Option CloudSay) → Some was ≡ line_at (with_lines old) conn
    → (IsSome (line_at (with_lines old) conn) → tree.UpdatesBy nat_cmp (nat_cmp conn) old new (Some now)) → now.errand ≡ was.errand
    → ReadsReply was.reader now.reader piece answer → ReadsLine (with_lines old) (with_lines new) conn piece answer
reads-known old new conn was now piece answer is updates same reads =
    let wrote = updates (is-some (line_at (with_lines old) conn) was is) in record {
      line = λ waiting holds.
          subst (λ (held : Option CloudLine). ReadsAt waiting piece held answer) (sym (written-here old new conn (Some now) wrote))
          (reads-held was now waiting piece answer same reads (subst (λ (held : Option CloudLine). HoldsLine held waiting) (sym is) holds));
      others = written-else old new conn (Some now) wrote;
    }

none-held : (waiting : Option Waiting) (piece : List ℕ) → HoldsLine None waiting → ReadsAt waiting piece None None
none-held None piece holds = (refl, refl)
none-held (Some waiting) piece holds = absurd holds

pub reads-absent : (old new : Lines) (conn : ℕ) (piece : List ℕ) → new ≡ old → None ≡ line_at (with_lines old) conn → ReadsLine (with_lines old) (with_lines new) conn piece None
reads-absent old new conn piece same none = record {
  line = λ waiting holds.
      subst (λ (held : Option CloudLine). ReadsAt waiting piece held None) (none ∙ sym (ap (λ (lines : Lines). line_at (with_lines lines) conn) same))
      (none-held waiting piece (subst (λ (held : Option CloudLine). HoldsLine held waiting) (sym none) holds));
  others = λ c other. ap (λ (lines : Lines). line_at (with_lines lines) c) same;
}

-- ---- a connection counts no more

pub takes-line : (old new : Lines) (conn : ℕ) (say : CloudSay) (line : CloudLine) → Some line ≡ line_at (with_lines old) conn
    → tree.UpdatesBy nat_cmp (nat_cmp conn) old new None → TakesLine (with_lines old) (with_lines new) conn say (Some (errand_answer line.errand say))
takes-line old new conn say line is updates = record {
  answers = ap (λ (held : Option CloudLine). taken held say) is;
  here = written-here old new conn None updates;
  others = written-else old new conn None updates;
}

pub takes-none : (old new : Lines) (conn : ℕ) (say : CloudSay) → None ≡ line_at (with_lines old) conn
    → tree.UpdatesBy nat_cmp (nat_cmp conn) old new None → TakesLine (with_lines old) (with_lines new) conn say None
takes-none old new conn say is updates = record {
  answers = ap (λ (held : Option CloudLine). taken held say) is;
  here = written-here old new conn None updates;
  others = written-else old new conn None updates;
}

-- ---- bytes come

pub goes-on : (old mid : CloudLines) (conn : ℕ) (piece : List ℕ) → ReadsLine old mid conn piece None → ReadsOn old mid conn piece None
goes-on old mid conn piece reads = record {
  line = λ waiting holds. waits-still waiting piece (line_at mid conn) (reads.line waiting holds);
  others = reads.others;
} where
  waits-still : (waiting : Option Waiting) (piece : List ℕ) (held : Option CloudLine) → ReadsAt waiting piece held None → RepliesAt waiting piece held None
  waits-still None piece held read = (refl, read.1)
  waits-still (Some waiting) piece held read = (read.comes, read.line)

answered-by : (waiting : Waiting) (held after : Option CloudLine) (say : CloudSay) (input : Option Cue) → ReadsWaiting waiting held (Some say) → input ≡ taken held say → after ≡ None
    → (place : List ℕ) → (w : Waiting) → with_more w place ≡ waiting → RepliesAt (Some w) place after input
answered-by waiting None after say input read is none place w same = absurd read.line
answered-by waiting (Some line) after say input read is none place w same =
    subst (λ (i : Option Cue). RepliesAt (Some w) place after i) (sym is) (record {
      say = say;
      comes = subst (λ (x : Waiting). ComesTo (kind_of x.ask.wish.act) x.bytes (Some say)) (sym same) read.comes;
      is = ap (λ (errand : Errand). errand_answer errand say) read.line ∙ ap (λ (x : Waiting). answer_to x.ask say) (sym same);
      gone = none;
    })

replies-at : (waiting : Option Waiting) (piece : List ℕ) (held after : Option CloudLine) (say : CloudSay) (input : Option Cue) → ReadsAt waiting piece held (Some say)
    → input ≡ taken held say → after ≡ None → RepliesAt waiting piece after input
replies-at None piece held after say input read is none = absurd (let e : ◌≡◌ {A = Option CloudSay} (Some say) None = read.0 in cc)
replies-at (Some waiting) piece held after say input read is none = answered-by (with_more waiting piece) held after say input read is none piece waiting refl

pub comes-whole : (old mid new : CloudLines) (conn : ℕ) (piece : List ℕ) (say : CloudSay) (input : Option Cue) → ReadsLine old mid conn piece (Some say) → TakesLine mid new conn say input
    → ReadsOn old new conn piece input
comes-whole old mid new conn piece say input reads takes = record {
  line = λ waiting holds. replies-at waiting piece (line_at mid conn) (line_at new conn) say input (reads.line waiting holds) takes.answers takes.here;
  others = λ c other. takes.others c other ∙ reads.others c other;
}
