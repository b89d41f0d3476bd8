-- The points of a trace are an atomic log in which no operation reads twice.
use Rattle.std.proofs.Common.{◌≡◌, ℕ, ◌+◌, ◌<◌, Bool, false, List, [], ◌∷◌, ◌++◌, length, reverse, Option, Some, None, refl, sym, ap, subst, ◌∙◌, inl, inr, arith}
use Rattle.std.specs.Prelude.{◌⊎◌}
use Rattle.std.specs.List.{AllByRecursion}
use Rattle.std.specs.Option.{option_map, option_and_then}
use Rattle.std.specs.Ordering.{is_lt}
use Rattle.std.proofs.lemmas.Option.{none-some, same_Some}
use Rattle.hy_record.specs.declared.action.Action.{Action}
use Rattle.hy_record.specs.declared.action.Action.TheVariants as asked
use Rattle.hy_record.specs.declared.message.MetaAsk.TheVariants as asks
use Rattle.hy_record.specs.Stamp.{Timestamp}
use Rattle.hy_meta.specs.Service.{Attempt, stamp_of_record}
use Rattle.hy_protocol.specs.Operations.{key_of, write_plan}
use Rattle.hy_protocol.specs.Read.{version_of}
use Rattle.hy_protocol.specs.Write.{first_has, own_stamp}
use Rattle.hy_points.specs.declared.point.ActKind.{ActKind}
use Rattle.hy_points.specs.declared.point.ActKind.TheVariants as acts
use Rattle.hy_points.specs.declared.point.Point.{Point}
use Rattle.hy_points.specs.declared.point.Point.TheVariants as points
use Rattle.hy_points.specs.Atomic.{IsAtomicLog, AsksOnce}
use Rattle.hy_points.specs.Marks.{sorted_by}
use Rattle.hy_points.specs.Runs.{Reading, Run, IsPointOf}
use Rattle.hy_points.proofs.ByMoment.{nat-upto}
use Rattle.hy_points.proofs.Listing.{IsIn, in-sorted, AllPairs, pairs-sorted, all-sort}
use Rattle.hy_points.proofs.OneOrder.{all-of, all-in}
use Rattle.hy_points.proofs.RunLog.{AreRising, AreMomentsOf, is-atomic, asks-once}
use Rattle.hy_points.proofs.Sorting.{AreInOrder, all-each, sorted-ordered}
use Rattle.hy_trace.specs.Deeds.{Params, Deed, Joined, Began, Handed, Served, Granted, Stopped, Nothing, start_of, inputs_of}
use Rattle.hy_trace.specs.History.{Return, return_of, Begun, begun_of}
use Rattle.hy_trace.specs.Points.{Update, first_update, is_own, version_made}
use Rattle.hy_trace.specs.Trace.{IsTrace}
use Rattle.hy_theorems.proofs.Beginnings.{AreOthers, IsAmongBegun, begun-are, begun-in}
use Rattle.hy_theorems.proofs.Listing as listing
use Rattle.hy_theorems.proofs.Meaning.{ask_with}
use Rattle.hy_theorems.specs.Writing.{Puts, Deletes, Swaps, change_value}
use Rattle.hy_theorems.proofs.TopAt.{top_at}
use Rattle.hy_log.specs.declared.moment.Moment.{Moment}
use Rattle.hy_log.specs.Courses.{first_made, version_stamp, stamp_before}
use Rattle.hy_log.specs.Points.{moment, point_at, those_told, step_cmp, write_ask, read_ask, set_with, write_set, try_with, swap_try, return_end, begun_with, moments_by, moments_of, all_moments, points_of}
use Rattle.hy_log.proofs.DeedAt.{deed_at, read-deed, begin-deed, update-deed, end-deed}
use Rattle.hy_log.proofs.FirstMade.{first-sent, version-sent}
use Rattle.hy_log.proofs.Timing.{steps-total}
use Rattle.hy_log.proofs.TraceRuns.{number_of, writing_with, trial_with, first_reading, version_reading, own_writing, own_trial, own_end, change_run, get_run, run_by, IsRun, kind, begun-is, map-some, writing-parts, trial-parts, set-change, trial-change, are-runs}

-- ---- lists

abbrev pub step_of : Moment → ℕ
step_of m = m.step

in-front : {A : Type 0} (xs ys : List A) (x : A) → IsIn xs x → IsIn (xs ++ ys) x
in-front [] ys x is = absurd is
in-front (first ∷ xs) ys x (inl is) = inl is
in-front (first ∷ xs) ys x (inr later) = inr (in-front xs ys x later)

in-back : {A : Type 0} (xs ys : List A) (x : A) → IsIn ys x → IsIn (xs ++ ys) x
in-back [] ys x is = is
in-back (first ∷ xs) ys x is = inr (in-back xs ys x is)

in-either : {A : Type 0} (xs ys : List A) (x : A) → IsIn (xs ++ ys) x → IsIn xs x ⊎ IsIn ys x
in-either [] ys x is = inr is
in-either (first ∷ xs) ys x (inl is) = inl (inl is)
in-either (first ∷ xs) ys x (inr later) = elim (in-either xs ys x later) [ inl front ↦ inl (inr front) | inr back ↦ inr back ]

of-sorted : {A : Type 0} (cmp : A → A → _) (xs : List A) (x : A) → IsIn (sorted_by cmp xs) x → IsIn xs x
of-sorted cmp xs x is = all-of (λ y. IsIn xs y) (sorted_by cmp xs) x (all-sort cmp (λ y. IsIn xs y) xs (all-in (λ y. IsIn xs y) xs (λ y there. there))) is

all-joined : {A : Type 0} (P : A → Type 0) (xs ys : List A) → AllByRecursion P xs → AllByRecursion P ys → AllByRecursion P (xs ++ ys)
all-joined P [] ys front back = back
all-joined P (x ∷ xs) ys front back = (front.0, all-joined P xs ys front.1 back)

pairs-joined : {A : Type 0} (R : A → A → Type 0) (xs ys : List A) → AllPairs R xs → AllPairs R ys → ((x y : A) → IsIn xs x → IsIn ys y → R x y) → AllPairs R (xs ++ ys)
pairs-joined R [] ys first second across = second
pairs-joined R (x ∷ xs) ys first second across = (
  all-joined (R x) xs ys first.0 (all-in (R x) ys (λ y is. across x y (inl refl) is)),
  pairs-joined R xs ys first.1 second (λ a b one two. across a b (inr one) two),
)

-- ---- the moments of an operation

in-told : (ms : List (Option Moment)) (m : Moment) → IsIn (those_told ms) m → IsIn ms (Some m)
in-told [] m is = absurd is
in-told (None ∷ ms) m is = inr (in-told ms m is)
in-told (Some x ∷ ms) m (inl is) = inl (ap Some is)
in-told (Some x ∷ ms) m (inr later) = inr (in-told ms m later)

told-in : (ms : List (Option Moment)) (m : Moment) → IsIn ms (Some m) → IsIn (those_told ms) m
told-in [] m is = absurd is
told-in (None ∷ ms) m (inl is) = absurd (none-some m is)
told-in (None ∷ ms) m (inr later) = told-in ms m later
told-in (Some x ∷ ms) m (inl is) = inl (same_Some x m is)
told-in (Some x ∷ ms) m (inr later) = inr (told-in ms m later)

-- the moments of a run
module _ (run : Run) (n : ℕ) (b : Begun) (key : List ℕ) (act : ActKind) (ask set end : Option Moment)
    (op_is : n ≡ run.op) (client_is : b.client ≡ run.client) (key_is : key ≡ run.key) (act_is : act ≡ run.act) (begun_is : length b.start.before + 1 ≡ run.begun) where
  tell-with : ((m : Moment) → ask ≡ Some m → IsPointOf run m.step m.point) → ((m : Moment) → set ≡ Some m → IsPointOf run m.step m.point) → ((m : Moment) → end ≡ Some m → IsPointOf run m.step m.point)
      → (m : Moment) → IsIn (begun_with n b key act ask set end) m → IsPointOf run m.step m.point
  tell-with asks sets ends m (inl is) = subst (λ (x : Moment). IsPointOf run x.step x.point) is (op_is, client_is, key_is, act_is, begun_is)
  tell-with asks sets ends m (inr later) = by_place (in-told (ask ∷ set ∷ end ∷ []) m later)
    where
      by_place : IsIn (ask ∷ set ∷ end ∷ []) (Some m) → IsPointOf run m.step m.point
      by_place (inl is) = asks m is
      by_place (inr (inl is)) = sets m is
      by_place (inr (inr (inl is))) = ends m is
      by_place (inr (inr (inr none))) = absurd none

  begin-same : (op client : ℕ) (k : List ℕ) (a : ActKind) → op ≡ run.op → client ≡ run.client → k ≡ run.key → a ≡ run.act → points.Begin n b.client key act ≡ points.Begin op client k a
  begin-same op client k a e f g h = cc

  has-with : ((s : ℕ) (found : Timestamp) → run.asked ≡ Some (record { step = s; found = found }) → ask ≡ Some (moment s (points.Ask n found)))
      → ((s : ℕ) (stamp : Timestamp) (applied : Bool) → run.set ≡ Some (record { step = s; stamp = stamp; is_applied = applied }) → set ≡ Some (moment s (points.Set n stamp applied)))
      → ((s : ℕ) (stamp found : Timestamp) → run.tried ≡ Some (record { step = s; stamp = stamp; found = found }) → set ≡ Some (moment s (points.Try n stamp found)))
      → ((s : ℕ) → run.ended ≡ Some s → end ≡ Some (moment s (points.End n)))
      → (s : ℕ) (q : Point) → IsPointOf run s q → (m : Moment) × IsIn (begun_with n b key act ask set end) m × (m.step ≡ s) × (m.point ≡ q)
  has-with asks sets tries ends s (points.Begin op client k a) of =
      (moment (length b.start.before + 1) (points.Begin n b.client key act), inl refl, begun_is ∙ sym of.4, begin-same op client k a of.0 of.1 of.2 of.3)
  has-with asks sets tries ends s (points.Ask op found) of =
      (moment s (points.Ask n found), inr (told-in (ask ∷ set ∷ end ∷ []) (moment s (points.Ask n found)) (inl (asks s found of.1))), refl, ap (λ (o : ℕ). points.Ask o found) (op_is ∙ sym of.0))
  has-with asks sets tries ends s (points.Set op stamp applied) of =
      (moment s (points.Set n stamp applied), inr (told-in (ask ∷ set ∷ end ∷ []) (moment s (points.Set n stamp applied)) (inr (inl (sets s stamp applied of.1)))), refl, ap (λ (o : ℕ). points.Set o stamp applied) (op_is ∙ sym of.0))
  has-with asks sets tries ends s (points.Try op stamp found) of =
      (moment s (points.Try n stamp found), inr (told-in (ask ∷ set ∷ end ∷ []) (moment s (points.Try n stamp found)) (inr (inl (tries s stamp found of.1)))), refl, ap (λ (o : ℕ). points.Try o stamp found) (op_is ∙ sym of.0))
  has-with asks sets tries ends s (points.End op) of =
      (moment s (points.End n), inr (told-in (ask ∷ set ∷ end ∷ []) (moment s (points.End n)) (inr (inr (inl (ends s of.1))))), refl, ap points.End (op_is ∙ sym of.0))

set-parts : (n : ℕ) (stamp : Option Timestamp) (u : Option Update) (m : Moment) → set_with n stamp u ≡ Some m → (x : Update) × (s : Timestamp) × (u ≡ Some x) × (stamp ≡ Some s) × (moment x.step (points.Set n s x.is_applied) ≡ m)
set-parts n None None m is = absurd (none-some m is)
set-parts n (Some s) None m is = absurd (none-some m is)
set-parts n None (Some u) m is = absurd (none-some m is)
set-parts n (Some s) (Some u) m is = (u, s, refl, refl, same_Some (moment u.step (points.Set n s u.is_applied)) m is)

try-parts : (t : List Deed) (n : ℕ) (stamp : Option Timestamp) (u : Option Update) (m : Moment) → try_with t n stamp u ≡ Some m → (x : Update) × (s : Timestamp) × (u ≡ Some x) × (stamp ≡ Some s) × (moment x.step (points.Try n s (stamp_before t x.key x.step)) ≡ m)
try-parts t n None None m is = absurd (none-some m is)
try-parts t n (Some s) None m is = absurd (none-some m is)
try-parts t n None (Some u) m is = absurd (none-some m is)
try-parts t n (Some s) (Some u) m is = (u, s, refl, refl, same_Some (moment u.step (points.Try n s (stamp_before t u.key u.step))) m is)

module _ (p : Params) (t : List Deed) (b : Begun) where
  abbrev n : ℕ
  n = number_of b

  first-asks : (run : Run) → n ≡ run.op → run.asked ≡ first_reading p t b → (m : Moment) → write_ask t n b ≡ Some m → IsPointOf run m.step m.point
  first-asks run op asked_ m is =
      let x = map-some (λ held. moment (first_made b.client b.op t) (points.Ask n (stamp_of_record held))) (first_has (inputs_of b.client b.op t)) m is in
      subst (λ (y : Moment). IsPointOf run y.step y.point) x.2 (op, asked_ ∙ ap (option_map (λ held. record { step = first_made b.client b.op t; found = stamp_of_record held })) x.1)

  version-asks : (run : Run) → n ≡ run.op → run.asked ≡ version_reading p t b → (m : Moment) → read_ask t n b ≡ Some m → IsPointOf run m.step m.point
  version-asks run op asked_ m is =
      let x = map-some (λ version. moment (version_made b.client b.op t) (points.Ask n (version_stamp version))) (version_of (inputs_of b.client b.op t)) m is in
      subst (λ (y : Moment). IsPointOf run y.step y.point) x.2 (op, asked_ ∙ ap (option_map (λ version. record { step = version_made b.client b.op t; found = version_stamp version })) x.1)

  own-sets : (run : Run) (key : List ℕ) (value : Option (List ℕ)) → n ≡ run.op → run.set ≡ own_writing p t b key value → (m : Moment) → write_set p t n b key value ≡ Some m → IsPointOf run m.step m.point
  own-sets run key value op set m is =
      let x = set-parts n (own_stamp (write_plan p.f p.k b.client b.op key value) (inputs_of b.client b.op t)) (first_update (is_own b.client b.op) t) m is in
      subst (λ (y : Moment). IsPointOf run y.step y.point) x.4
      (op, set ∙ (ap (λ (s : Option Timestamp). writing_with s (first_update (is_own b.client b.op) t)) x.3 ∙ ap (writing_with (Some x.1)) x.2))

  own-tries : (run : Run) (key value : List ℕ) → n ≡ run.op → run.tried ≡ own_trial p t b key value → (m : Moment) → swap_try p t n b key value ≡ Some m → IsPointOf run m.step m.point
  own-tries run key value op tried m is =
      let x = try-parts t n (own_stamp (write_plan p.f p.k b.client b.op key (Some value)) (inputs_of b.client b.op t)) (first_update (is_own b.client b.op) t) m is in
      subst (λ (y : Moment). IsPointOf run y.step y.point) x.4
      (op, tried ∙ (ap (λ (s : Option Timestamp). trial_with t s (first_update (is_own b.client b.op) t)) x.3 ∙ ap (trial_with t (Some x.1)) x.2))

  own-ends : (run : Run) → n ≡ run.op → run.ended ≡ own_end p t b → (m : Moment) → return_end p t n b ≡ Some m → IsPointOf run m.step m.point
  own-ends run op ended m is =
      let x = map-some (λ (r : Return). moment r.at (points.End n)) (return_of p b.client b.op t) m is in
      subst (λ (y : Moment). IsPointOf run y.step y.point) x.2 (op, ended ∙ ap (option_map (λ (r : Return). r.at)) x.1)

  -- each moment of an operation is one of its run
  tells-by : (a : Action) → (m : Moment) → IsIn (moments_by p t n b a) m → (run : Run) × (run_by p t b a ≡ Some run) × IsPointOf run m.step m.point
  tells-by (asked.Put key value) m is =
      let run = change_run p t b key (Puts value) in
      (run, refl, tell-with run n b key acts.Put (write_ask t n b) (write_set p t n b key (Some value)) (return_end p t n b) refl refl refl refl refl (first-asks run refl refl) (own-sets run key (Some value) refl refl) (own-ends run refl refl) m is)
  tells-by (asked.Delete key) m is =
      let run = change_run p t b key (Deletes) in
      (run, refl, tell-with run n b key acts.Delete (write_ask t n b) (write_set p t n b key None) (return_end p t n b) refl refl refl refl refl (first-asks run refl refl) (own-sets run key None refl refl) (own-ends run refl refl) m is)
  tells-by (asked.Swap key expected value) m is =
      let run = change_run p t b key (Swaps expected value) in
      (run, refl, tell-with run n b key (acts.Swap expected) (write_ask t n b) (swap_try p t n b key value) (return_end p t n b) refl refl refl refl refl (first-asks run refl refl) (own-tries run key value refl refl) (own-ends run refl refl) m is)
  tells-by (asked.Get key) m is =
      let run = get_run p t b key in
      (run, refl, tell-with run n b key acts.Get (read_ask t n b) None (return_end p t n b) refl refl refl refl refl (version-asks run refl refl) (λ x none. absurd (none-some x none)) (own-ends run refl refl) m is)
  tells-by (asked.Collect key) m is = absurd is

  first-asked : (s : ℕ) (found : Timestamp) → first_reading p t b ≡ Some (record { step = s; found = found }) → write_ask t n b ≡ Some (moment s (points.Ask n found))
  first-asked s found is =
      let x = map-some (λ held. record { step = first_made b.client b.op t; found = stamp_of_record held }) (first_has (inputs_of b.client b.op t)) (record { step = s; found = found }) is in
      ap (option_map (λ held. moment (first_made b.client b.op t) (points.Ask n (stamp_of_record held)))) x.1 ∙ ap (λ (r : Reading). Some (moment r.step (points.Ask n r.found))) x.2

  version-asked : (s : ℕ) (found : Timestamp) → version_reading p t b ≡ Some (record { step = s; found = found }) → read_ask t n b ≡ Some (moment s (points.Ask n found))
  version-asked s found is =
      let x = map-some (λ version. record { step = version_made b.client b.op t; found = version_stamp version }) (version_of (inputs_of b.client b.op t)) (record { step = s; found = found }) is in
      ap (option_map (λ version. moment (version_made b.client b.op t) (points.Ask n (version_stamp version)))) x.1 ∙ ap (λ (r : Reading). Some (moment r.step (points.Ask n r.found))) x.2

  own-set : (key : List ℕ) (value : Option (List ℕ)) (s : ℕ) (stamp : Timestamp) (applied : Bool) → own_writing p t b key value ≡ Some (record { step = s; stamp = stamp; is_applied = applied }) → write_set p t n b key value ≡ Some (moment s (points.Set n stamp applied))
  own-set key value s stamp applied is =
      let x = writing-parts (own_stamp (write_plan p.f p.k b.client b.op key value) (inputs_of b.client b.op t)) (first_update (is_own b.client b.op) t) (record { step = s; stamp = stamp; is_applied = applied }) is in
      ap (λ (o : Option Timestamp). set_with n o (first_update (is_own b.client b.op) t)) x.2 ∙ (ap (set_with n (Some stamp)) x.1
      ∙ (ap (λ (k : ℕ). Some (moment k (points.Set n stamp x.0.is_applied))) (sym x.3) ∙ ap (λ (f : Bool). Some (moment s (points.Set n stamp f))) (sym x.4)))

  own-tried : (key value : List ℕ) (s : ℕ) (stamp found : Timestamp) → own_trial p t b key value ≡ Some (record { step = s; stamp = stamp; found = found }) → swap_try p t n b key value ≡ Some (moment s (points.Try n stamp found))
  own-tried key value s stamp found is =
      let x = trial-parts t (own_stamp (write_plan p.f p.k b.client b.op key (Some value)) (inputs_of b.client b.op t)) (first_update (is_own b.client b.op) t) (record { step = s; stamp = stamp; found = found }) is in
      ap (λ (o : Option Timestamp). try_with t n o (first_update (is_own b.client b.op) t)) x.2 ∙ (ap (try_with t n (Some stamp)) x.1
      ∙ (ap (λ (k : ℕ). Some (moment k (points.Try n stamp (stamp_before t x.0.key x.0.step)))) (sym x.3) ∙ ap (λ (f : Timestamp). Some (moment s (points.Try n stamp f))) (sym x.4)))

  own-ended : (s : ℕ) → own_end p t b ≡ Some s → return_end p t n b ≡ Some (moment s (points.End n))
  own-ended s is =
      let x = map-some (λ (r : Return). r.at) (return_of p b.client b.op t) s is in
      ap (option_map (λ (r : Return). moment r.at (points.End n))) x.1 ∙ ap (λ (k : ℕ). Some (moment k (points.End n))) x.2

  has-by : (a : Action) (run : Run) → run_by p t b a ≡ Some run → (s : ℕ) (q : Point) → IsPointOf run s q → (m : Moment) × IsIn (moments_by p t n b a) m × (m.step ≡ s) × (m.point ≡ q)
  has-by (asked.Put key value) run is s q of =
      let own = change_run p t b key (Puts value) in
      has-with own n b key acts.Put (write_ask t n b) (write_set p t n b key (Some value)) (return_end p t n b) refl refl refl refl refl first-asked (own-set key (Some value)) (λ k stamp found none. absurd (none-some _ none)) own-ended s q (subst (λ (r : Run). IsPointOf r s q) (sym (same_Some own run is)) of)
  has-by (asked.Delete key) run is s q of =
      let own = change_run p t b key (Deletes) in
      has-with own n b key acts.Delete (write_ask t n b) (write_set p t n b key None) (return_end p t n b) refl refl refl refl refl first-asked (own-set key None) (λ k stamp found none. absurd (none-some _ none)) own-ended s q (subst (λ (r : Run). IsPointOf r s q) (sym (same_Some own run is)) of)
  has-by (asked.Swap key expected value) run is s q of =
      let own = change_run p t b key (Swaps expected value) in
      has-with own n b key (acts.Swap expected) (write_ask t n b) (swap_try p t n b key value) (return_end p t n b) refl refl refl refl refl first-asked (λ k stamp applied none. absurd (none-some _ none)) (own-tried key value) own-ended s q (subst (λ (r : Run). IsPointOf r s q) (sym (same_Some own run is)) of)
  has-by (asked.Get key) run is s q of =
      let own = get_run p t b key in
      has-with own n b key acts.Get (read_ask t n b) None (return_end p t n b) refl refl refl refl refl version-asked (λ k stamp applied none. absurd (none-some _ none)) (λ k stamp found none. absurd (none-some _ none)) own-ended s q (subst (λ (r : Run). IsPointOf r s q) (sym (same_Some own run is)) of)
  has-by (asked.Collect key) run is s q of = absurd (none-some run is)

-- ---- the steps of the moments differ

-- whose deed it is, and of which kind
record Name : Type 0 where
  client : ℕ
  op : ℕ
  kind : ℕ

abbrev name : ℕ → ℕ → ℕ → Name
name c o k = record { client = c; op = o; kind = k }

abbrev name_of : Deed → Option Name
name_of (Began c o a) = Some (name c o 0)
name_of (Served (asks.Read c o k)) = Some (name c o 1)
name_of (Served (asks.Update c o k r)) = Some (name c o 2)
name_of (Served (asks.Watch c o k s)) = None
name_of (Served (asks.Olds c o k)) = None
name_of (Served (asks.Forget c o k ss)) = None
name_of (Served (asks.Swap c o k e r)) = Some (name c o 2)
name_of (Handed c o w cue) = Some (name c o 3)
name_of Joined = None
name_of (Granted ask) = None
name_of (Stopped c) = None
name_of Nothing = None

tried-name : (a : Attempt) (e : Option Timestamp) → name_of (Served (ask_with a e)) ≡ Some (name a.client a.op 2)
tried-name a None = refl
tried-name a (Some e) = refl

abbrev name_at : List Deed → ℕ → Option Name
name_at t n = option_and_then name_of (deed_at t n)

abbrev kind_of : Point → ℕ
kind_of (points.Begin op client key act) = 0
kind_of (points.Ask op found) = 1
kind_of (points.Set op stamp applied) = 2
kind_of (points.Try op stamp found) = 2
kind_of (points.End op) = 3

abbrev Alike : Moment → Moment → Type 0
Alike m x = kind_of m.point ≡ kind_of x.point → ⊥

pairs-told : (g : Moment) (a s e : Option Moment) → kind_of g.point ≡ 0 → ((m : Moment) → a ≡ Some m → kind_of m.point ≡ 1) → ((m : Moment) → s ≡ Some m → kind_of m.point ≡ 2) → ((m : Moment) → e ≡ Some m → kind_of m.point ≡ 3)
    → AllPairs Alike (g ∷ those_told (a ∷ s ∷ e ∷ []))
pairs-told g None None None k0 k1 k2 k3 = (tt, tt)
pairs-told g None None (Some z) k0 k1 k2 k3 = (let c = k3 z refl in ((λ i. omega (arith, i, k0, c), tt), (tt, tt)))
pairs-told g None (Some y) None k0 k1 k2 k3 = (let b = k2 y refl in ((λ i. omega (arith, i, k0, b), tt), (tt, tt)))
pairs-told g (Some x) None None k0 k1 k2 k3 = (let a = k1 x refl in ((λ i. omega (arith, i, k0, a), tt), (tt, tt)))
pairs-told g None (Some y) (Some z) k0 k1 k2 k3 = (let b = k2 y refl in let c = k3 z refl in ((λ i. omega (arith, i, k0, b), (λ i. omega (arith, i, k0, c), tt)), ((λ i. omega (arith, i, b, c), tt), (tt, tt))))
pairs-told g (Some x) None (Some z) k0 k1 k2 k3 = (let a = k1 x refl in let c = k3 z refl in ((λ i. omega (arith, i, k0, a), (λ i. omega (arith, i, k0, c), tt)), ((λ i. omega (arith, i, a, c), tt), (tt, tt))))
pairs-told g (Some x) (Some y) None k0 k1 k2 k3 = (let a = k1 x refl in let b = k2 y refl in ((λ i. omega (arith, i, k0, a), (λ i. omega (arith, i, k0, b), tt)), ((λ i. omega (arith, i, a, b), tt), (tt, tt))))
pairs-told g (Some x) (Some y) (Some z) k0 k1 k2 k3 =
    let a = k1 x refl in let b = k2 y refl in let c = k3 z refl in
    ((λ i. omega (arith, i, k0, a), (λ i. omega (arith, i, k0, b), (λ i. omega (arith, i, k0, c), tt))), ((λ i. omega (arith, i, a, b), (λ i. omega (arith, i, a, c), tt)), ((λ i. omega (arith, i, b, c), tt), (tt, tt))))

module _ (p : Params) (t : List Deed) (b : Begun) where
  ask-kind : (m : Moment) → write_ask t (number_of b) b ≡ Some m → kind_of m.point ≡ 1
  ask-kind m is = (let x = map-some (λ held. moment (first_made b.client b.op t) (points.Ask (number_of b) (stamp_of_record held))) (first_has (inputs_of b.client b.op t)) m is in sym (ap (λ (y : Moment). kind_of y.point) x.2))

  version-kind : (m : Moment) → read_ask t (number_of b) b ≡ Some m → kind_of m.point ≡ 1
  version-kind m is = (let x = map-some (λ version. moment (version_made b.client b.op t) (points.Ask (number_of b) (version_stamp version))) (version_of (inputs_of b.client b.op t)) m is in sym (ap (λ (y : Moment). kind_of y.point) x.2))

  set-kind : (key : List ℕ) (value : Option (List ℕ)) (m : Moment) → write_set p t (number_of b) b key value ≡ Some m → kind_of m.point ≡ 2
  set-kind key value m is = (let x = set-parts (number_of b) (own_stamp (write_plan p.f p.k b.client b.op key value) (inputs_of b.client b.op t)) (first_update (is_own b.client b.op) t) m is in sym (ap (λ (y : Moment). kind_of y.point) x.4))

  try-kind : (key value : List ℕ) (m : Moment) → swap_try p t (number_of b) b key value ≡ Some m → kind_of m.point ≡ 2
  try-kind key value m is = (let x = try-parts t (number_of b) (own_stamp (write_plan p.f p.k b.client b.op key (Some value)) (inputs_of b.client b.op t)) (first_update (is_own b.client b.op) t) m is in sym (ap (λ (y : Moment). kind_of y.point) x.4))

  end-kind : (m : Moment) → return_end p t (number_of b) b ≡ Some m → kind_of m.point ≡ 3
  end-kind m is = (let x = map-some (λ (r : Return). moment r.at (points.End (number_of b))) (return_of p b.client b.op t) m is in sym (ap (λ (y : Moment). kind_of y.point) x.2))

  own-pairs : (a : Action) → AllPairs Alike (moments_by p t (number_of b) b a)
  own-pairs (asked.Put key value) = pairs-told (moment (length b.start.before + 1) (points.Begin (number_of b) b.client key acts.Put)) (write_ask t (number_of b) b) (write_set p t (number_of b) b key (Some value)) (return_end p t (number_of b) b) refl ask-kind (set-kind key (Some value)) end-kind
  own-pairs (asked.Delete key) = pairs-told (moment (length b.start.before + 1) (points.Begin (number_of b) b.client key acts.Delete)) (write_ask t (number_of b) b) (write_set p t (number_of b) b key None) (return_end p t (number_of b) b) refl ask-kind (set-kind key None) end-kind
  own-pairs (asked.Get key) = pairs-told (moment (length b.start.before + 1) (points.Begin (number_of b) b.client key acts.Get)) (read_ask t (number_of b) b) None (return_end p t (number_of b) b) refl version-kind (λ m none. absurd (none-some m none)) end-kind
  own-pairs (asked.Collect key) = tt
  own-pairs (asked.Swap key expected value) = pairs-told (moment (length b.start.before + 1) (points.Begin (number_of b) b.client key (acts.Swap expected))) (write_ask t (number_of b) b) (swap_try p t (number_of b) b key value) (return_end p t (number_of b) b) refl ask-kind (try-kind key value) end-kind

module _ (p : Params) (t : List Deed) (trace : IsTrace p t) where
  at-deed : (d : Deed) (n : ℕ) → deed_at t n ≡ Some d → name_at t n ≡ name_of d
  at-deed d n is = ap (option_and_then name_of) is

  -- the deed of an operation's first update
  update-named : (b : Begun) (u : Update) → first_update (is_own b.client b.op) t ≡ Some u → name_at t u.step ≡ Some (name b.client b.op 2)
  update-named b x first =
      let u = update-deed b.client b.op t x first in
      at-deed (Served (ask_with u.attempt u.attempt.expected)) x.step u.deed
      ∙ (tried-name u.attempt u.attempt.expected ∙ (ap (λ (c : ℕ). Some (name c u.attempt.op 2)) u.client ∙ ap (λ (o : ℕ). Some (name b.client o 2)) u.op))

  -- the deed of a point's step is its operation's
  named : (run : Run) → (is : IsRun p t run) → (n : ℕ) (q : Point) → IsPointOf run n q → name_at t n ≡ Some (name is.b.client is.b.op (kind_of q))
  named run is n (points.Begin op client key act) of =
      ap (name_at t) (of.4 ∙ (begun-is p t run is).2) ∙ at-deed (Began is.b.client is.b.op is.b.start.action) (length is.b.start.before + 1) (begin-deed is.b.client is.b.op t is.b.start is.began).0
  named run is n (points.End op) of =
      let r = map-some (λ (x : Return). x.at) (return_of p is.b.client is.b.op t) n (sym (begun-is p t run is).3 ∙ of.1) in
      let e = end-deed p is.b.client is.b.op t r.0 trace r.1 in
      ap (name_at t) (sym r.2) ∙ at-deed (Handed is.b.client is.b.op e.0 e.1) r.0.at e.2
  named run is n (points.Ask op found) of = elim (kind p t run is) [
    | inl w ↦
        let x = map-some (λ held. record { step = first_made is.b.client is.b.op t; found = stamp_of_record held }) (first_has (inputs_of is.b.client is.b.op t)) (record { step = n; found = found }) (sym (ap (λ (y : Run). y.asked) w.run_is) ∙ of.1) in
        let deed = read-deed p t (first_made is.b.client is.b.op t) is.b.client is.b.op (key_of is.b.start.action) x.0 (first-sent p is.b.client is.b.op t trace is.b.start is.began x.0 x.1) in
        ap (name_at t) (sym (ap (λ (r : Reading). r.step) x.2)) ∙ at-deed (Served (asks.Read is.b.client is.b.op (key_of is.b.start.action))) (first_made is.b.client is.b.op t) deed
    | inr w ↦
        let x = map-some (λ version. record { step = version_made is.b.client is.b.op t; found = version_stamp version }) (version_of (inputs_of is.b.client is.b.op t)) (record { step = n; found = found }) (sym (ap (λ (y : Run). y.asked) w.run_is) ∙ of.1) in
        let deed = read-deed p t (version_made is.b.client is.b.op t) is.b.client is.b.op (key_of is.b.start.action) x.0.rec (version-sent p is.b.client is.b.op t trace is.b.start is.began x.0 x.1) in
        ap (name_at t) (sym (ap (λ (r : Reading). r.step) x.2)) ∙ at-deed (Served (asks.Read is.b.client is.b.op (key_of is.b.start.action))) (version_made is.b.client is.b.op t) deed
  ]
  named run is n (points.Set op stamp applied) of = elim (kind p t run is) [
    | inr w ↦ absurd (none-some (record { step = n; stamp = stamp; is_applied = applied }) (sym (ap (λ (y : Run). y.set) w.run_is) ∙ of.1))
    | inl w ↦
        let c = set-change p t is.b run.key w.change (record { step = n; stamp = stamp; is_applied = applied }) (sym (ap (λ (y : Run). y.set) w.run_is) ∙ of.1) in
        let x = writing-parts (own_stamp (write_plan p.f p.k is.b.client is.b.op run.key (change_value w.change)) (inputs_of is.b.client is.b.op t)) (first_update (is_own is.b.client is.b.op) t) (record { step = n; stamp = stamp; is_applied = applied }) c.2 in
        ap (name_at t) x.3 ∙ update-named is.b x.0 x.1
  ]
  named run is n (points.Try op stamp found) of = elim (kind p t run is) [
    | inr w ↦ absurd (none-some (record { step = n; stamp = stamp; found = found }) (sym (ap (λ (y : Run). y.tried) w.run_is) ∙ of.1))
    | inl w ↦
        let c = trial-change p t is.b run.key w.change (record { step = n; stamp = stamp; found = found }) (sym (ap (λ (y : Run). y.tried) w.run_is) ∙ of.1) in
        let x = trial-parts t (own_stamp (write_plan p.f p.k is.b.client is.b.op run.key (Some c.value)) (inputs_of is.b.client is.b.op t)) (first_update (is_own is.b.client is.b.op) t) (record { step = n; stamp = stamp; found = found }) c.trial in
        ap (name_at t) x.3 ∙ update-named is.b x.0 x.1
  ]

  -- each moment of an operation that began
  own-tells : (b : Begun) → start_of b.client b.op t ≡ Some b.start → (m : Moment) → IsIn (moments_of p t b) m → (run : Run) × (is : IsRun p t run) × IsPointOf run m.step m.point × (is.b ≡ b)
  own-tells b began m there = (let x = tells-by p t b b.start.action m there in (x.0, record { b = b; began = began; is = x.1 }, x.2, refl))

  own-named : (b : Begun) → start_of b.client b.op t ≡ Some b.start → (m : Moment) → IsIn (moments_of p t b) m → name_at t m.step ≡ Some (name b.client b.op (kind_of m.point))
  own-named b began m there = (let x = tells-by p t b b.start.action m there in named x.0 (record { b = b; began = began; is = x.1 }) m.step m.point x.2)

  abbrev Apart : Moment → Moment → Type 0
  Apart m x = m.step ≡ x.step → ⊥

  names-same : (c o k b n l : ℕ) → Some (name c o k) ≡ Some (name b n l) → (c ≡ b) × (o ≡ n) × (k ≡ l)
  names-same c o k b n l e = (let f = same_Some (name c o k) (name b n l) e in (ap (λ (x : Name). x.client) f, ap (λ (x : Name). x.op) f, ap (λ (x : Name). x.kind) f))

  -- the moments of one operation
  own-apart : (b : Begun) → start_of b.client b.op t ≡ Some b.start → AllPairs Apart (moments_of p t b)
  own-apart b began = each (moments_of p t b) (λ m there. there) (own-pairs p t b b.start.action)
    where
      one : (m : Moment) (xs : List Moment) → IsIn (moments_of p t b) m → ((x : Moment) → IsIn xs x → IsIn (moments_of p t b) x) → AllByRecursion (Alike m) xs → AllByRecursion (Apart m) xs
      one m [] there within all = tt
      one m (x ∷ xs) there within all = (
        (λ same. all.0 (names-same b.client b.op (kind_of m.point) b.client b.op (kind_of x.point) (sym (own-named b began m there) ∙ (ap (name_at t) same ∙ own-named b began x (within x (inl refl))))).2),
        one m xs there (λ y is. within y (inr is)) all.1,
      )

      each : (xs : List Moment) → ((x : Moment) → IsIn xs x → IsIn (moments_of p t b) x) → AllPairs Alike xs → AllPairs Apart xs
      each [] within pairs = tt
      each (x ∷ xs) within pairs = (one x xs (within x (inl refl)) (λ y is. within y (inr is)) pairs.0, each xs (λ y is. within y (inr is)) pairs.1)

  abbrev pub HasBegun : Begun → Type 0
  HasBegun b = start_of b.client b.op t ≡ Some b.start

  abbrev AreUnlike : Begun → Begun → Type 0
  AreUnlike b a = (b.client ≡ a.client) × (b.op ≡ a.op) → ⊥

  of-all : (ops : List Begun) (m : Moment) → IsIn (all_moments p t ops) m → (b : Begun) × IsIn ops b × IsIn (moments_of p t b) m
  of-all [] m is = absurd is
  of-all (b ∷ ops) m is = elim (in-either (moments_of p t b) (all_moments p t ops) m is) [
    | inl own ↦ (b, inl refl, own)
    | inr later ↦ (let x = of-all ops m later in (x.0, inr x.1, x.2))
  ]

  to-all : (ops : List Begun) (b : Begun) (m : Moment) → IsIn ops b → IsIn (moments_of p t b) m → IsIn (all_moments p t ops) m
  to-all [] b m is own = absurd is
  to-all (first ∷ ops) b m (inl is) own = in-front (moments_of p t first) (all_moments p t ops) m (subst (λ (x : Begun). IsIn (moments_of p t x) m) (sym is) own)
  to-all (first ∷ ops) b m (inr later) own = in-back (moments_of p t first) (all_moments p t ops) m (to-all ops b m later own)

  all-apart : (ops : List Begun) → AllByRecursion HasBegun ops → AllPairs AreUnlike ops → AllPairs Apart (all_moments p t ops)
  all-apart [] began unlike = tt
  all-apart (b ∷ ops) began unlike =
      pairs-joined Apart (moments_of p t b) (all_moments p t ops) (own-apart b began.0) (all-apart ops began.1 unlike.1)
      (λ m x own later same. (
      let of = of-all ops x later in
      let names = names-same b.client b.op (kind_of m.point) of.0.client of.0.op (kind_of x.point) (sym (own-named b began.0 m own) ∙ (ap (name_at t) same ∙ own-named of.0 (all-of HasBegun ops of.0 began.1 of.1) x of.2)) in
      all-of (AreUnlike b) ops of.0 unlike.0 of.1 (names.0, names.1)))

-- ---- in the order of their beginnings

all-snoc : {A : Type 0} (P : A → Type 0) (xs : List A) (x : A) → AllByRecursion P xs → P x → AllByRecursion P (xs ++ x ∷ [])
all-snoc P [] x all one = (one, tt)
all-snoc P (y ∷ xs) x all one = (all.0, all-snoc P xs x all.1 one)

pairs-snoc : {A : Type 0} (R : A → A → Type 0) (xs : List A) (x : A) → AllPairs R xs → AllByRecursion (λ y. R y x) xs → AllPairs R (xs ++ x ∷ [])
pairs-snoc R [] x pairs all = (tt, tt)
pairs-snoc R (y ∷ xs) x pairs all = (all-snoc (R y) xs x pairs.0 all.0, pairs-snoc R xs x pairs.1 all.1)

others-reverse : (ops : List Begun) → AreOthers ops → AllPairs (λ b a. (b.client ≡ a.client) × (b.op ≡ a.op) → ⊥) (reverse ops)
others-reverse [] others = tt
others-reverse (b ∷ ops) others =
    subst (AllPairs (λ c a. (c.client ≡ a.client) × (c.op ≡ a.op) → ⊥)) (sym (listing.reverse-more b ops))
    (pairs-snoc (λ c a. (c.client ≡ a.client) × (c.op ≡ a.op) → ⊥) (reverse ops) b (others-reverse ops others.1)
    (listing.all-reverse (λ c. (c.client ≡ b.client) × (c.op ≡ b.op) → ⊥) ops (all-each (λ a. (b.client ≡ a.client) × (b.op ≡ a.op) → ⊥) (λ c. (c.client ≡ b.client) × (c.op ≡ b.op) → ⊥) ops (λ a unlike same. unlike (sym same.0, sym same.1)) others.0)))

in-snoc : {A : Type 0} (xs : List A) (x : A) → IsIn (xs ++ x ∷ []) x
in-snoc xs x = in-back xs (x ∷ []) x (inl refl)

pub among-reverse : (ops : List Begun) (b : Begun) → IsAmongBegun ops b → IsIn (reverse ops) b
among-reverse [] b is = absurd is
among-reverse (first ∷ ops) b (inl is) = subst (λ (x : List Begun). IsIn x b) (sym (listing.reverse-more first ops)) (subst (λ (x : Begun). IsIn (reverse ops ++ first ∷ []) x) is (in-snoc (reverse ops) first))
among-reverse (first ∷ ops) b (inr later) = subst (λ (x : List Begun). IsIn x b) (sym (listing.reverse-more first ops)) (in-front (reverse ops) (first ∷ []) b (among-reverse ops b later))

strictly : (xs : List Moment) → AreInOrder step_cmp xs → AllPairs (λ m x. m.step ≡ x.step → ⊥) xs → AreRising step_of xs
strictly [] ordered apart = tt
strictly (m ∷ ms) ordered apart = (each ms ordered.0 apart.0, strictly ms ordered.1 apart.1)
  where
    each : (xs : List Moment) → AllByRecursion (λ (x : Moment). is_lt (step_cmp x m) ≡ false) xs → AllByRecursion (λ (x : Moment). m.step ≡ x.step → ⊥) xs → AllByRecursion (λ (x : Moment). m.step < x.step) xs
    each [] upto other = tt
    each (x ∷ xs) upto other = ((let le = nat-upto x.step m.step upto.0 in let ne = other.0 in omega (arith, le, ne)), each xs upto.1 other.1)

module _ (p : Params) (t : List Deed) (trace : IsTrace p t) where
  abbrev ops : List Begun
  ops = reverse (begun_of t)

  abbrev pub in_order : List Moment
  in_order = sorted_by step_cmp (all_moments p t ops)

  pub began-all : AllByRecursion (HasBegun p t trace) ops
  began-all = listing.all-reverse (HasBegun p t trace) (begun_of t) (begun-are p t trace).0

  pub are-moments : AreMomentsOf step_of point_at (IsRun p t) in_order
  are-moments = record {
    rising = strictly in_order (sorted-ordered step_cmp steps-total (all_moments p t ops))
        (pairs-sorted step_cmp (λ m x. m.step ≡ x.step → ⊥) (λ m x other same. other (sym same)) (all_moments p t ops) (all-apart p t trace ops began-all (others-reverse (begun_of t) (begun-are p t trace).1)));
    tells = λ m there. (
        let x = of-all p t trace ops m (of-sorted step_cmp (all_moments p t ops) m there) in
        let y = tells-by p t x.0 x.0.start.action m x.2 in
        (y.0, record { b = x.0; began = all-of (HasBegun p t trace) ops x.0 began-all x.1; is = y.1 }, y.2));
    has = λ run n q is of. (
        let x = has-by p t is.b is.b.start.action run is.is n q of in
        (x.0, in-sorted step_cmp (all_moments p t ops) x.0 (to-all p t trace ops is.b x.0 (among-reverse (begun_of t) is.b (begun-in is.b.client is.b.op t is.b.start is.began)) x.1), x.2, x.3));
  }

  pub points-atomic : IsAtomicLog (points_of p t)
  unfolding points_of
  points-atomic = is-atomic step_of point_at (IsRun p t) (top_at t) in_order are-moments (are-runs p t trace)

  pub points-once : AsksOnce (points_of p t)
  unfolding points_of
  points-once = asks-once step_of point_at (IsRun p t) (top_at t) in_order are-moments (are-runs p t trace)
