-- The operations of an atomic log: where each reads, writes and returns, and what the record of its key was there.
use Rattle.std.proofs.Common.{◌≡◌, ℕ, ◌+◌, ◌<◌, ◌≤◌, Bool, true, false, cond, List, [], take, Option, Some, None, is_some, refl, sym, ap, subst, ◌∙◌, inl, inr, arith}
use Rattle.std.specs.Prelude.{◌⊎◌, ◌==◌, ◌&&◌}
use Rattle.std.specs.List.{slice_get}
use Rattle.std.specs.Option.{option_map_or}
use Rattle.std.proofs.lemmas.Bool.{both_ways, cases_lt}
use Rattle.std.proofs.lemmas.Bool.Decides.{nat_tests}
use Rattle.std.proofs.lemmas.Option.{none-some, same_Some, cond_some}
use Rattle.hy_record.specs.Key.{key_eq}
use Rattle.hy_record.proofs.Order.{key_eq-true, key_eq-same, stamp_eq-same}
use Rattle.hy_record.specs.Stamp.{Timestamp, stamp_lt, stamp_eq, next_stamp}
use Rattle.hy_points.specs.declared.point.ActKind.{ActKind}
use Rattle.hy_points.specs.declared.point.ActKind.TheVariants.{Swap}
use Rattle.hy_points.specs.declared.point.Point.{Point}
use Rattle.hy_points.specs.declared.point.Point.TheVariants.{Begin, Ask, Set, Try, End}
use Rattle.hy_points.specs.declared.telling.Asking.{Asking}
use Rattle.hy_points.specs.declared.telling.Setting.{Setting}
use Rattle.hy_points.specs.declared.telling.Trying.{Trying}
use Rattle.hy_points.specs.Lookups.{Beginning, first_from, beginning_at, setting_at, trying_at, beginning, asking, last_asking, setting, trying, ending, is_of_key}
use Rattle.hy_points.specs.Atomic.{Fits, IsRunning, IsAtomicLog, AsksOnce, AsksAnew, expects, is_met, applied_stamp, greatest_stamp, logged_stamp, no_stamp, writes}
use Rattle.hy_points.proofs.Places.{Tells, first-upto, front-at, fits-at, continues-front, begins, sets, tries, begun-there, asked-there, set-there, tried-there, ended-there, begun-front, asked-front, ended-front, front-begun, front-set, front-tried, front-ended, last-first}
use Rattle.hy_points.proofs.Swapping.{both-of, swap-same, expecting, HasRead, Wrote}
use Rattle.hy_points.proofs.Heights.{IsApplied, height, picks-alike}

-- a timestamp is below the next, which is its client's
pub next-above : (found : Timestamp) (client : ℕ) (stamp : Timestamp) → next_stamp found client ≡ Some stamp → (stamp_lt found stamp ≡ true) × (stamp.cid ≡ client) × (stamp_lt no_stamp stamp ≡ true)
unfolding stamp_lt
next-above found client stamp is =
    let made = (cond_some _ (record { sn = found.sn + 1; cid = client }) stamp is).1 in
    let sn : found.sn + 1 ≡ stamp.sn = ap (λ (t : Timestamp). t.sn) made in
    let cid : client ≡ stamp.cid = ap (λ (t : Timestamp). t.cid) made in
    (grind (arith, nat_tests), sym cid, grind (arith, nat_tests))

ended-some : (o : Option ℕ) → is_some o ≡ true → (e : ℕ) × (o ≡ Some e)
ended-some None is = cc
ended-some (Some e) is = (e, refl)

not-ended : (o : Option ℕ) (e : ℕ) → is_some o ≡ false → o ≡ Some e → ⊥
not-ended o e is same = both_ways (is_some o) is (ap is_some same)

-- a reading of an operation on the key
pub record Reads (log : List Point) (key : List ℕ) (op : ℕ) (ask : Asking) : Type 0 where
  pub begun : Beginning
  pub is_begun : beginning log op ≡ Some begun
  pub of_key : begun.key ≡ key
  pub after : begun.place < ask.place
  pub finds : ask.found ≡ height (applied_stamp log key) log ask.place

-- a writing of an operation on the key
pub record Writes (log : List Point) (key : List ℕ) (op : ℕ) (set : Setting) : Type 0 where
  pub begun : Beginning
  pub is_begun : beginning log op ≡ Some begun
  pub of_key : begun.key ≡ key
  pub by : Wrote log op begun.act set
  pub ask : Asking
  pub after : begun.place < ask.place
  pub behind : ask.place < set.place
  pub finds : ask.found ≡ height (applied_stamp log key) log ask.place
  pub next : next_stamp ask.found begun.client ≡ Some set.stamp
  pub applies : set.is_applied ≡ stamp_lt (height (applied_stamp log key) log set.place) set.stamp

-- the try of a swap on the key
pub record Tries (log : List Point) (key : List ℕ) (op : ℕ) (tried : Trying) : Type 0 where
  pub begun : Beginning
  pub is_begun : beginning log op ≡ Some begun
  pub of_key : begun.key ≡ key
  pub expected : Timestamp
  pub kind : begun.act ≡ Swap expected
  pub ask : Asking
  pub after : begun.place < ask.place
  pub behind : ask.place < tried.place
  pub found_first : ask.found ≡ height (applied_stamp log key) log ask.place
  pub as_expected : ask.found ≡ expected
  pub next : next_stamp expected begun.client ≡ Some tried.stamp
  pub finds : tried.found ≡ height (applied_stamp log key) log tried.place

no-asking : (op : ℕ) → last_asking [] op ≡ asking [] op
unfolding last_asking asking
no-asking op = refl

pub eqb-same : (n : ℕ) → (n == n) ≡ true
eqb-same n = grind (arith, nat_tests)

module _ (log : List Point) (atomic : IsAtomicLog log) where
  pub fits : (place : ℕ) (point : Point) → slice_get log place ≡ Some point → Fits (take place log) point
  unfolding IsAtomicLog
  fits place point there = fits-at Fits [] log place point atomic there

  -- the beginning of an operation is the only one
  pub only-begun : (place op client : ℕ) (key : List ℕ) (act : ActKind) → slice_get log place ≡ Some (Begin op client key act)
      → beginning log op ≡ Some (record { place = place; client = client; key = key; act = act })
  unfolding beginning
  only-begun place op client key act there =
      let self : beginning_at op (0 + place) (Begin op client key act) ≡ Some (record { place = 0 + place; client = client; key = key; act = act }) = rw (eqb-same op) refl in
      let f = first-upto (beginning_at op) 0 log place (Begin op client key act) (record { place = 0 + place; client = client; key = key; act = act }) there self in
      by_place f.0 f.1 f.2.0 f.2.1 (cases_lt f.2.0.place place)
    where
      by_place : (b : Beginning) → first_from (beginning_at op) 0 log ≡ Some b → (t : Tells (beginning_at op) 0 log b) → t.place ≤ place → (t.place < place) ⊎ (place ≤ t.place)
          → first_from (beginning_at op) 0 log ≡ Some (record { place = place; client = client; key = key; act = act })
      by_place b is t upto (inl less) =
          (let told = begins op (0 + t.place) t.point b t.tells in
          let place_ = told.1 in
          let before : beginning (take place log) op ≡ Some b = front-begun log place op b is (omega (arith, place_, less)) in
          absurd (none-some b (sym (fits place (Begin op client key act) there).is_new ∙ before)))
      by_place b is t upto (inr past) =
          (let told = begins op (0 + t.place) t.point b t.tells in
          let same : t.place ≡ place = omega (arith, upto, past) in
          let e : Some (Begin op b.client b.key b.act) ≡ Some (Begin op client key act) = sym (t.there ∙ ap Some told.0) ∙ ap (slice_get log) same ∙ there in
          is ∙ joined b told.1 same e)
        where
          joined : (b : Beginning) → b.place ≡ 0 + t.place → t.place ≡ place → Some (Begin op b.client b.key b.act) ≡ Some (Begin op client key act) → Some b ≡ Some (record { place = place; client = client; key = key; act = act })
          joined b at same e =
              (let place_ : b.place ≡ place = omega (arith, at, same) in
              let client_ : b.client ≡ client = cc in let key_ : b.key ≡ key = cc in let act_ : b.act ≡ act = cc in
              let quad : (b.place, b.client, b.key, b.act) ≡ (place, client, key, act) = cc in
              let made : ℕ × ℕ × List ℕ × ActKind → Option Beginning = λ q. Some (record { place = q.0; client = q.1; key = q.2; act = q.3 }) in
              ap made quad)

  -- the writing of an operation is the only one
  pub only-set : (place op : ℕ) (stamp : Timestamp) (applied : Bool) → slice_get log place ≡ Some (Set op stamp applied)
      → setting log op ≡ Some (record { place = place; stamp = stamp; is_applied = applied })
  unfolding setting
  only-set place op stamp applied there =
      let self : setting_at op (0 + place) (Set op stamp applied) ≡ Some (record { place = 0 + place; stamp = stamp; is_applied = applied }) = rw (eqb-same op) refl in
      let f = first-upto (setting_at op) 0 log place (Set op stamp applied) (record { place = 0 + place; stamp = stamp; is_applied = applied }) there self in
      by_place f.0 f.1 f.2.0 f.2.1 (cases_lt f.2.0.place place)
    where
      by_place : (s : Setting) → first_from (setting_at op) 0 log ≡ Some s → (t : Tells (setting_at op) 0 log s) → t.place ≤ place → (t.place < place) ⊎ (place ≤ t.place)
          → first_from (setting_at op) 0 log ≡ Some (record { place = place; stamp = stamp; is_applied = applied })
      by_place s is t upto (inl less) =
          (let told = sets op (0 + t.place) t.point s t.tells in
          let place_ = told.1 in
          let before : setting (take place log) op ≡ Some s = front-set log place op s is (omega (arith, place_, less)) in
          absurd (none-some s (sym (fits place (Set op stamp applied) there).not_set ∙ before)))
      by_place s is t upto (inr past) =
          (let told = sets op (0 + t.place) t.point s t.tells in
          let same : t.place ≡ place = omega (arith, upto, past) in
          let e : Some (Set op s.stamp s.is_applied) ≡ Some (Set op stamp applied) = sym (t.there ∙ ap Some told.0) ∙ ap (slice_get log) same ∙ there in
          is ∙ joined s told.1 same e)
        where
          joined : (s : Setting) → s.place ≡ 0 + t.place → t.place ≡ place → Some (Set op s.stamp s.is_applied) ≡ Some (Set op stamp applied) → Some s ≡ Some (record { place = place; stamp = stamp; is_applied = applied })
          joined s at same e =
              (let place_ : s.place ≡ place = omega (arith, at, same) in
              let stamp_ : s.stamp ≡ stamp = cc in let applied_ : s.is_applied ≡ applied = cc in
              let triple : (s.place, s.stamp, s.is_applied) ≡ (place, stamp, applied) = cc in
              let made : ℕ × Timestamp × Bool → Option Setting = λ q. Some (record { place = q.0; stamp = q.1; is_applied = q.2 }) in
              ap made triple)

  -- the try of an operation is the only one
  pub only-tried : (place op : ℕ) (stamp found : Timestamp) → slice_get log place ≡ Some (Try op stamp found)
      → trying log op ≡ Some (record { place = place; stamp = stamp; found = found })
  unfolding trying
  only-tried place op stamp found there =
      let self : trying_at op (0 + place) (Try op stamp found) ≡ Some (record { place = 0 + place; stamp = stamp; found = found }) = rw (eqb-same op) refl in
      let f = first-upto (trying_at op) 0 log place (Try op stamp found) (record { place = 0 + place; stamp = stamp; found = found }) there self in
      by_place f.0 f.1 f.2.0 f.2.1 (cases_lt f.2.0.place place)
    where
      by_place : (s : Trying) → first_from (trying_at op) 0 log ≡ Some s → (t : Tells (trying_at op) 0 log s) → t.place ≤ place → (t.place < place) ⊎ (place ≤ t.place)
          → first_from (trying_at op) 0 log ≡ Some (record { place = place; stamp = stamp; found = found })
      by_place s is t upto (inl less) =
          (let told = tries op (0 + t.place) t.point s t.tells in
          let place_ = told.1 in
          let before : trying (take place log) op ≡ Some s = front-tried log place op s is (omega (arith, place_, less)) in
          absurd (none-some s (sym (fits place (Try op stamp found) there).not_tried ∙ before)))
      by_place s is t upto (inr past) =
          (let told = tries op (0 + t.place) t.point s t.tells in
          let same : t.place ≡ place = omega (arith, upto, past) in
          let e : Some (Try op s.stamp s.found) ≡ Some (Try op stamp found) = sym (t.there ∙ ap Some told.0) ∙ ap (slice_get log) same ∙ there in
          is ∙ joined s told.1 same e)
        where
          joined : (s : Trying) → s.place ≡ 0 + t.place → t.place ≡ place → Some (Try op s.stamp s.found) ≡ Some (Try op stamp found) → Some s ≡ Some (record { place = place; stamp = stamp; found = found })
          joined s at same e =
              (let place_ : s.place ≡ place = omega (arith, at, same) in
              let stamp_ : s.stamp ≡ stamp = cc in let found_ : s.found ≡ found = cc in
              let triple : (s.place, s.stamp, s.found) ≡ (place, stamp, found) = cc in
              let made : ℕ × Timestamp × Timestamp → Option Trying = λ q. Some (record { place = q.0; stamp = q.1; found = q.2 }) in
              ap made triple)

  -- an operation that runs in a front began alike in both
  same-begun : (n place op : ℕ) → place < n → IsRunning (take place log) op → beginning (take n log) op ≡ beginning log op
  same-begun n place op less runs =
      let b = begun-front log place op runs.begun runs.is_begun in
      let before = b.1 in
      front-begun log n op runs.begun b.0 (omega (arith, less, before)) ∙ sym b.0

  applied-front : (n : ℕ) (key : List ℕ) (place : ℕ) (point : Point) → slice_get (take n log) place ≡ Some point → applied_stamp (take n log) key point ≡ applied_stamp log key point
  applied-front n key place (Begin op client k act) there = refl
  applied-front n key place (Ask op found) there = refl
  applied-front n key place (Set op stamp applied) there =
      let f = front-at log n place (Set op stamp applied) there in
      ap (λ (o : Option Beginning). cond (applied && option_map_or (λ (b : Beginning). key_eq b.key key) o false) (Some stamp) None) (same-begun n place op f.0 (fits place (Set op stamp applied) f.1).runs)
  applied-front n key place (Try op stamp found) there =
      let f = front-at log n place (Try op stamp found) there in
      ap (λ (o : Option Beginning). cond (option_map_or (λ (b : Beginning). expects b.act found) o false && option_map_or (λ (b : Beginning). key_eq b.key key) o false) (Some stamp) None) (same-begun n place op f.0 (fits place (Try op stamp found) f.1).runs)
  applied-front n key place (End op) there = refl

  -- the record of a key after a front is the greatest that was applied in it
  pub logged-height : (n : ℕ) (key : List ℕ) → logged_stamp (take n log) key ≡ height (applied_stamp log key) log n
  unfolding logged_stamp height
  logged-height n key = ap greatest_stamp (picks-alike (applied_stamp (take n log) key) (applied_stamp log key) (take n log) (applied-front n key))

  -- a reading, by the beginning of its operation
  pub reading : (op : ℕ) (ask : Asking) → asking log op ≡ Some ask → (b : Beginning) → beginning log op ≡ Some b → Reads log b.key op ask
  reading op ask is b begun =
      let f = fits ask.place (Ask op ask.found) (asked-there log op ask is) in
      let r = begun-front log ask.place op f.runs.begun f.runs.is_begun in
      let same : f.runs.begun ≡ b = same_Some f.runs.begun b (sym r.0 ∙ begun) in
      let less = r.1 in
      record {
        begun = b;
        is_begun = begun;
        of_key = refl;
        after = subst (λ (x : Beginning). x.place < ask.place) same less;
        finds = f.finds ∙ logged-height ask.place f.runs.begun.key ∙ ap (λ (x : Beginning). height (applied_stamp log x.key) log ask.place) same;
      }

  -- a writing, by the beginning of its operation
  pub writing : AsksOnce log → (op : ℕ) (set : Setting) → setting log op ≡ Some set → (b : Beginning) → beginning log op ≡ Some b → Writes log b.key op set
  unfolding AsksOnce
  writing once op set is b begun =
      let f = fits set.place (Set op set.stamp set.is_applied) (set-there log op set is) in
      let r = begun-front log set.place op f.runs.begun f.runs.is_begun in
      let same : f.runs.begun ≡ b = same_Some f.runs.begun b (sym r.0 ∙ begun) in
      let asked : asking (take set.place log) op ≡ Some f.ask = sym (last-first [] (take set.place log) op (no-asking op) (continues-front AsksAnew [] log set.place once)) ∙ f.asked in
      let a = asked-front log set.place op f.ask asked in
      let read = reading op f.ask a.0 b begun in
      record {
        begun = b;
        is_begun = begun;
        of_key = refl;
        by = inl (subst (λ (x : Beginning). writes x.act ≡ true) same f.is_write, is);
        ask = f.ask;
        after = subst (λ (x : Beginning). x.place < f.ask.place) (same_Some read.begun b (sym read.is_begun ∙ begun)) read.after;
        behind = a.1;
        finds = read.finds;
        next = subst (λ (x : Beginning). next_stamp f.ask.found x.client ≡ Some set.stamp) same f.next;
        applies = f.applies ∙ ap (λ t. stamp_lt t set.stamp) (logged-height set.place f.runs.begun.key ∙ ap (λ (x : Beginning). height (applied_stamp log x.key) log set.place) same);
      }

  -- a try, by the beginning of its operation
  pub trial : AsksOnce log → (op : ℕ) (tried : Trying) → trying log op ≡ Some tried → (b : Beginning) → beginning log op ≡ Some b → Tries log b.key op tried
  unfolding AsksOnce
  trial once op tried is b begun =
      let f = fits tried.place (Try op tried.stamp tried.found) (tried-there log op tried is) in
      let r = begun-front log tried.place op f.runs.begun f.runs.is_begun in
      let same : f.runs.begun ≡ b = same_Some f.runs.begun b (sym r.0 ∙ begun) in
      let asked : asking (take tried.place log) op ≡ Some f.ask = sym (last-first [] (take tried.place log) op (no-asking op) (continues-front AsksAnew [] log tried.place once)) ∙ f.asked in
      let a = asked-front log tried.place op f.ask asked in
      let read = reading op f.ask a.0 b begun in
      record {
        begun = b;
        is_begun = begun;
        of_key = refl;
        expected = f.expected;
        kind = subst (λ (x : Beginning). x.act ≡ Swap f.expected) same f.is_swap;
        ask = f.ask;
        after = subst (λ (x : Beginning). x.place < f.ask.place) (same_Some read.begun b (sym read.is_begun ∙ begun)) read.after;
        behind = a.1;
        found_first = read.finds;
        as_expected = f.as_expected;
        next = subst (λ (x : Beginning). next_stamp f.expected x.client ≡ Some tried.stamp) same f.next;
        finds = f.finds ∙ logged-height tried.place f.runs.begun.key ∙ ap (λ (x : Beginning). height (applied_stamp log x.key) log tried.place) same;
      }

  -- what wrote is a writing, and what read a reading
  pub wrote : AsksOnce log → (op : ℕ) (set : Setting) (b : Beginning) → beginning log op ≡ Some b → Wrote log op b.act set → Writes log b.key op set
  wrote once op set b begun (inl by) = writing once op set by.1 b begun
  wrote once op set b begun (inr by) =
      let t = trial once op by.tried by.has b begun in
      let same : t.begun ≡ b = same_Some t.begun b (sym t.is_begun ∙ begun) in
      let kind : b.act ≡ Swap t.expected = subst (λ (x : Beginning). x.act ≡ Swap t.expected) same t.kind in
      let one : t.expected ≡ by.tried.found = swap-same (sym kind ∙ by.kind) in
      let next : next_stamp t.expected b.client ≡ Some by.tried.stamp = subst (λ (x : Beginning). next_stamp t.expected x.client ≡ Some by.tried.stamp) same t.next in
      let above : stamp_lt t.expected by.tried.stamp ≡ true = (next-above t.expected b.client by.tried.stamp next).0 in
      subst (Writes log b.key op) (sym by.is) (record {
        begun = b;
        is_begun = begun;
        of_key = refl;
        by = inr (record { tried = by.tried; kind = by.kind; has = by.has; is = refl });
        ask = t.ask;
        after = subst (λ (x : Beginning). x.place < t.ask.place) same t.after;
        behind = t.behind;
        finds = t.found_first;
        next = ap (λ s. next_stamp s b.client) t.as_expected ∙ next;
        applies = sym (ap (λ s. stamp_lt s by.tried.stamp) (sym t.finds ∙ sym one) ∙ above);
      })

  pub has-read : AsksOnce log → (op : ℕ) (ask : Asking) (b : Beginning) → beginning log op ≡ Some b → HasRead log op b.act ask → Reads log b.key op ask
  has-read once op ask b begun (inl get) = reading op ask get.1 b begun
  has-read once op ask b begun (inr (inl by)) = reading op ask by.asked b begun
  has-read once op ask b begun (inr (inr by)) =
      let t = trial once op by.tried by.has b begun in
      let after_ = t.after in let behind_ = t.behind in
      subst (Reads log b.key op) (sym by.is) (record {
        begun = b;
        is_begun = begun;
        of_key = refl;
        after = subst (λ (x : Beginning). x.place < by.tried.place) (same_Some t.begun b (sym t.is_begun ∙ begun)) (omega (arith, after_, behind_));
        finds = t.finds;
      })

  -- ---- what is applied

  pub own-op : (key : List ℕ) (op : ℕ) (b : Beginning) → beginning log op ≡ Some b → b.key ≡ key → is_of_key log key op ≡ true
  own-op key op b is of = ap (λ o. option_map_or (λ (b : Beginning). key_eq b.key key) o false) is ∙ ap (λ k. key_eq k key) of ∙ key_eq-same key

  pub own-begun : (key : List ℕ) (op : ℕ) → is_of_key log key op ≡ true → (b : Beginning) × (beginning log op ≡ Some b) × (b.key ≡ key)
  own-begun key op is = by_begun (beginning log op) refl is
    where
      by_begun : (o : Option Beginning) → beginning log op ≡ o → option_map_or (λ (b : Beginning). key_eq b.key key) o false ≡ true → (b : Beginning) × (beginning log op ≡ Some b) × (b.key ≡ key)
      by_begun None e f = cc
      by_begun (Some b) e f = (b, e, key_eq-true b.key key f)

  -- a swap meets what it expects, and nothing else
  pub met : (op : ℕ) (b : Beginning) (found expected : Timestamp) → beginning log op ≡ Some b → b.act ≡ Swap expected → is_met log op found ≡ stamp_eq expected found
  met op b found expected is kind = ap (λ o. option_map_or (λ (x : Beginning). expects x.act found) o false) is ∙ ap (λ act. expects act found) kind

  -- an applied writing is applied where it stands
  pub wrote-there : (key : List ℕ) (op : ℕ) (set : Setting) (b : Beginning) → beginning log op ≡ Some b → b.key ≡ key → Wrote log op b.act set → set.is_applied ≡ true → IsApplied (applied_stamp log key) log set.place set.stamp
  wrote-there key op set b is of (inl by) applied = record {
    point = Set op set.stamp true;
    there = set-there log op set by.1 ∙ ap (λ x. Some (Set op set.stamp x)) applied;
    picks = rw (own-op key op b is of) refl;
  }
  wrote-there key op set b is of (inr by) applied = subst (λ (s : Setting). IsApplied (applied_stamp log key) log s.place s.stamp) (sym by.is) (record {
    point = Try op by.tried.stamp by.tried.found;
    there = tried-there log op by.tried by.has;
    picks = rw (met op b by.tried.found by.tried.found is by.kind ∙ stamp_eq-same by.tried.found, own-op key op b is of) refl;
  })

  -- what is applied was written
  pub record WroteThere (key : List ℕ) (place : ℕ) (stamp : Timestamp) : Type 0 where
    pub op : ℕ
    pub begun : Beginning
    pub is_begun : beginning log op ≡ Some begun
    pub of_key : begun.key ≡ key
    pub by : Wrote log op begun.act (record { place = place; stamp = stamp; is_applied = true })

  pub applied-wrote : (key : List ℕ) (place : ℕ) (stamp : Timestamp) → IsApplied (applied_stamp log key) log place stamp → WroteThere key place stamp
  applied-wrote key place stamp a = by_point a.point a.there a.picks
    where
      by_point : (point : Point) → slice_get log place ≡ Some point → applied_stamp log key point ≡ Some stamp → WroteThere key place stamp
      by_point (Begin op client k act) there picks = absurd (none-some stamp picks)
      by_point (Ask op found) there picks = absurd (none-some stamp picks)
      by_point (End op) there picks = absurd (none-some stamp picks)
      by_point (Set op s false) there picks = absurd (none-some stamp picks)
      by_point (Set op s true) there picks =
          (let c = cond_some (is_of_key log key op) s stamp picks in
          let b = own-begun key op c.0 in
          let f = fits place (Set op s true) there in
          let same : f.runs.begun ≡ b.0 = same_Some f.runs.begun b.0 (sym (begun-front log place op f.runs.begun f.runs.is_begun).0 ∙ b.1) in
          record {
            op = op;
            begun = b.0;
            is_begun = b.1;
            of_key = b.2;
            by = inl (subst (λ (x : Beginning). writes x.act ≡ true) same f.is_write, only-set place op s true there ∙ ap (λ t. Some (record { place = place; stamp = t; is_applied = true })) c.1);
          })
      by_point (Try op s found) there picks =
          (let c = cond_some (is_met log op found && is_of_key log key op) s stamp picks in
          let g = both-of (is_met log op found) (is_of_key log key op) c.0 in
          let b = own-begun key op g.1 in
          record {
            op = op;
            begun = b.0;
            is_begun = b.1;
            of_key = b.2;
            by = inr (record {
              tried = record { place = place; stamp = s; found = found };
              kind = expecting b.0.act found (sym (ap (λ o. option_map_or (λ (x : Beginning). expects x.act found) o false) b.1) ∙ g.0);
              has = only-tried place op s found there;
              is = ap (λ t. record { place = place; stamp = t; is_applied = true }) (sym c.1);
            });
          })

  -- where a reading stands nothing is applied
  pub read-there : (key : List ℕ) (op : ℕ) (ask : Asking) (b : Beginning) → beginning log op ≡ Some b → HasRead log op b.act ask → (point : Point) × (slice_get log ask.place ≡ Some point) × (applied_stamp log key point ≡ None)
  read-there key op ask b is (inl get) = (Ask op ask.found, asked-there log op ask get.1, refl)
  read-there key op ask b is (inr (inl by)) = (Ask op ask.found, asked-there log op ask by.asked, refl)
  read-there key op ask b is (inr (inr by)) = (
    Try op by.tried.stamp by.tried.found,
    ap (λ (a : Asking). slice_get log a.place) by.is ∙ tried-there log op by.tried by.has,
    rw (met op b by.tried.found by.expected is by.kind ∙ by.other) refl,
  )

  own-front : (key : List ℕ) (n op : ℕ) (c : Beginning) (k : List ℕ) → beginning log op ≡ Some c → c.key ≡ key → k ≡ key → c.place < n → is_of_key (take n log) k op ≡ true
  own-front key n op c k is of_key k_is less =
      ap (λ o. option_map_or (λ (b : Beginning). key_eq b.key k) o false) (front-begun log n op c is less)
      ∙ (ap (λ q. key_eq q k) (of_key ∙ sym k_is) ∙ key_eq-same k)

  -- an operation of a key that runs in a front, by its beginning
  runs-own : (key : List ℕ) (n op : ℕ) → is_of_key log key op ≡ true → (r : IsRunning (take n log) op) → (beginning log op ≡ Some r.begun) × (r.begun.place < n) × (r.begun.key ≡ key)
  runs-own key n op own r =
      let b = begun-front log n op r.begun r.is_begun in
      let c = own-begun key op own in
      (b.0, b.1, ap (λ (x : Beginning). x.key) (same_Some r.begun c.0 (sym b.0 ∙ c.1)) ∙ c.2)

  -- a key is not both written and tried
  pub never-both : (key : List ℕ) (a b : ℕ) (s : Setting) (t : Trying) → setting log a ≡ Some s → is_of_key log key a ≡ true → trying log b ≡ Some t → is_of_key log key b ≡ true → ⊥
  never-both key a b s t set own tried too =
      let f = fits s.place (Set a s.stamp s.is_applied) (set-there log a s set) in
      let g = fits t.place (Try b t.stamp t.found) (tried-there log b t tried) in
      let x = runs-own key s.place a own f.runs in
      let y = runs-own key t.place b too g.runs in
      let at = x.1 in let also = y.1 in
      elim (cases_lt s.place t.place) [
        | inl less ↦ none-some s (sym (g.none_set a (own-front key t.place a f.runs.begun g.runs.begun.key x.0 x.2 y.2 (omega (arith, at, less)))) ∙ front-set log t.place a s set less)
        | inr past ↦ elim (cases_lt t.place s.place) [
          | inl less ↦ none-some t (sym (f.none_tried b (own-front key s.place b g.runs.begun f.runs.begun.key y.0 y.2 x.2 (omega (arith, also, less)))) ∙ front-tried log s.place b t tried less)
          | inr upto ↦
              let same : s.place ≡ t.place = omega (arith, past, upto) in
              differ (sym (set-there log a s set) ∙ ap (slice_get log) same ∙ tried-there log b t tried)
        ]
      ]
    where
      differ : Some (Set a s.stamp s.is_applied) ≡ Some (Try b t.stamp t.found) → ⊥
      differ e = cc

  -- a return comes behind the beginning, the reading and the writing
  pub ended-begun : (op e : ℕ) → ending log op ≡ Some e → (b : Beginning) → beginning log op ≡ Some b → b.place < e
  ended-begun op e is b begun =
      let f = fits e (End op) (ended-there log op e is) in
      let r = begun-front log e op f.runs.begun f.runs.is_begun in
      subst (λ (x : Beginning). x.place < e) (same_Some f.runs.begun b (sym r.0 ∙ begun)) r.1

  running-ended : (op e place : ℕ) (point : Point) → ending log op ≡ Some e → slice_get log place ≡ Some point → IsRunning (take place log) op → (End op ≡ point → ⊥) → place < e
  running-ended op e place point is there runs other = by_place (cases_lt place e)
    where
      by_place : (place < e) ⊎ (e ≤ place) → place < e
      by_place (inl less) = less
      by_place (inr past) = by_same (cases_lt e place)
        where
          by_same : (e < place) ⊎ (place ≤ e) → place < e
          by_same (inl less) = absurd (not-ended (ending (take place log) op) e runs.not_ended (front-ended log place op e is less))
          by_same (inr upto) =
              (let same : e ≡ place = omega (arith, past, upto) in
              absurd (other (same_Some (End op) point (sym (ended-there log op e is) ∙ ap (slice_get log) same ∙ there))))

  pub asked-ended : (op e : ℕ) → ending log op ≡ Some e → (ask : Asking) → asking log op ≡ Some ask → ask.place < e
  asked-ended op e is ask asked =
      let there = asked-there log op ask asked in
      running-ended op e ask.place (Ask op ask.found) is there (fits ask.place (Ask op ask.found) there).runs (λ same. cc)

  pub set-ended : (op e : ℕ) → ending log op ≡ Some e → (set : Setting) → setting log op ≡ Some set → set.place < e
  set-ended op e is set has =
      let there = set-there log op set has in
      running-ended op e set.place (Set op set.stamp set.is_applied) is there (fits set.place (Set op set.stamp set.is_applied) there).runs (λ same. cc)

  pub tried-ended : (op e : ℕ) → ending log op ≡ Some e → (tried : Trying) → trying log op ≡ Some tried → tried.place < e
  tried-ended op e is tried has =
      let there = tried-there log op tried has in
      running-ended op e tried.place (Try op tried.stamp tried.found) is there (fits tried.place (Try op tried.stamp tried.found) there).runs (λ same. cc)

  pub read-ended : (op e : ℕ) → ending log op ≡ Some e → (act : ActKind) (ask : Asking) → HasRead log op act ask → ask.place < e
  read-ended op e is act ask (inl get) = asked-ended op e is ask get.1
  read-ended op e is act ask (inr (inl by)) = asked-ended op e is ask by.asked
  read-ended op e is act ask (inr (inr by)) = subst (λ (a : Asking). a.place < e) (sym by.is) (tried-ended op e is by.tried by.has)

  pub wrote-ended : (op e : ℕ) → ending log op ≡ Some e → (act : ActKind) (set : Setting) → Wrote log op act set → set.place < e
  wrote-ended op e is act set (inl by) = set-ended op e is set by.1
  wrote-ended op e is act set (inr by) = subst (λ (s : Setting). s.place < e) (sym by.is) (tried-ended op e is by.tried by.has)

  -- a client begins an operation when its earlier ones have returned
  pub one-by-one : (a b : ℕ) (x y : Beginning) → beginning log a ≡ Some x → beginning log b ≡ Some y → x.client ≡ y.client → x.place < y.place → (e : ℕ) × (ending log a ≡ Some e) × (e < y.place)
  one-by-one a b x y first second same less =
      let f = fits y.place (Begin b y.client y.key y.act) (begun-there log b y second) in
      let ended = ended-some (ending (take y.place log) a) (f.is_free a x (front-begun log y.place a x first less) same) in
      let r = ended-front log y.place a ended.0 ended.1 in
      (ended.0, r.0, r.1)
