-- What is kept of the steps.
use Rattle.std.proofs.Common.{◌≡◌, ℕ, zero, suc, ◌+◌, ◌-◌, ◌<◌, ◌≤◌, Bool, true, false, nat_lt, nat_le, List, [], ◌∷◌, ◌++◌, map, length, slice_get, Option, Some, None, cond, refl, sym, ap, ◌∙◌, inl, inr, arith}
use Rattle.std.specs.Option.{option_map}
use Rattle.std.proofs.lemmas.List.{length-map, length-append}
use Rattle.std.proofs.lemmas.Option.{slice_get-map}
use Rattle.std.proofs.lemmas.Bool.{cases_lt, le-leb, lt-leb, ltb-true}
use Rattle.hy_trace.specs.Deeds.{Params, Deed}
use Rattle.hy_trace.specs.Messages.{Message, sent_at, messages_of, message_at, step_of}
use Rattle.hy_log.specs.declared.post.Post.{Post}
use Rattle.hy_log.specs.Kept.{Posted}
use Rattle.hy_log.specs.declared.effects.Beginning.{Beginning}
use Rattle.hy_log.specs.declared.effects.Effects.{Effects}
use Rattle.hy_log.specs.declared.log.Started.{Started}
use Rattle.hy_log.specs.declared.course.Course.{Course}
use Rattle.hy_log.specs.declared.notes.Note.{Note}
use Rattle.hy_log.specs.declared.effects.Heard.{Heard}
use Rattle.hy_log.specs.declared.effects.Return.{Return}
use Rattle.hy_log.specs.declared.effects.Updated.{Updated}
use Rattle.hy_trace.specs.Trace.{IsTrace}
use Rattle.hy_log.specs.Courses.{noted_by, note_of_heard, note_of_return, note_of_update, course_at, course_of, AreCourses}
use Rattle.hy_log.proofs.Coursing.{course-step}
use Rattle.hy_log.specs.Effects.{AreEffects, post_of, beginning_at, return_at, updated_at}
use Rattle.hy_log.specs.Log.{LogKeeps, posted, started, posted_of, started_of, posted_at}

-- the courses after the notes of a deed's effects
pub courses-kept : (p : Params) (d : Deed) (t : List Deed) (e : Effects) (courses later : List (List Course)) → AreEffects p d t e → (IsTrace p t → AreCourses p t courses) →
    ((c o : ℕ) → course_at later c o ≡ noted_by (note_of_update (length t + 1) e.updated) c o (noted_by (note_of_return (length t + 1) e.returned) c o (noted_by (note_of_heard e.heard) c o (course_at courses c o)))) →
    IsTrace p (d ∷ t) → AreCourses p (d ∷ t) later
unfolding IsTrace
courses-kept p d t e courses later are courses_are notes trace = λ c o.
    notes c o
    ∙ ap (λ (x : Course). noted_by (note_of_update (length t + 1) e.updated) c o (noted_by (note_of_return (length t + 1) e.returned) c o (noted_by (note_of_heard e.heard) c o x))) (courses_are trace.1 c o)
    ∙ ap (λ (x : Option Updated). noted_by (note_of_update (length t + 1) x) c o (noted_by (note_of_return (length t + 1) e.returned) c o (noted_by (note_of_heard e.heard) c o (course_of p t c o)))) are.updated
    ∙ ap (λ (x : Option Return). noted_by (note_of_update (length t + 1) (updated_at d t)) c o (noted_by (note_of_return (length t + 1) x) c o (noted_by (note_of_heard e.heard) c o (course_of p t c o)))) are.returned
    ∙ ap (λ (x : Option Heard). noted_by (note_of_update (length t + 1) (updated_at d t)) c o (noted_by (note_of_return (length t + 1) (return_at p d t)) c o (noted_by (note_of_heard x) c o (course_of p t c o)))) are.heard
    ∙ sym (course-step p d t c o trace)

-- three notes, one after the other
pub noted-thrice : (courses one two three : List (List Course)) (x y z heard returned updated : Option Note) →
    ((c o : ℕ) → course_at one c o ≡ noted_by x c o (course_at courses c o)) → ((c o : ℕ) → course_at two c o ≡ noted_by y c o (course_at one c o)) → ((c o : ℕ) → course_at three c o ≡ noted_by z c o (course_at two c o)) →
    x ≡ heard → y ≡ returned → z ≡ updated → (c o : ℕ) → course_at three c o ≡ noted_by updated c o (noted_by returned c o (noted_by heard c o (course_at courses c o)))
noted-thrice courses one two three x y z heard returned updated first second third x_is y_is z_is c o =
    third c o ∙ ap (noted_by z c o) (second c o ∙ ap (noted_by y c o) (first c o ∙ ap (λ (n : Option Note). noted_by n c o (course_at courses c o)) x_is) ∙ ap (λ (n : Option Note). noted_by n c o (noted_by heard c o (course_at courses c o))) y_is)
    ∙ ap (λ (n : Option Note). noted_by n c o (noted_by returned c o (noted_by heard c o (course_at courses c o)))) z_is

pub appended : (p : Params) (d : Deed) (t : List Deed) (e : Effects) (posts later : List Posted) (starts begun : List Started) (courses after : List (List Course)) (n : ℕ) → AreEffects p d t e → LogKeeps p t posts starts courses n →
    later ≡ posts ++ map (posted (n + 1)) e.posts.items → begun ≡ starts ++ started (n + 1) e.began →
    ((c o : ℕ) → course_at after c o ≡ noted_by (note_of_update (n + 1) e.updated) c o (noted_by (note_of_return (n + 1) e.returned) c o (noted_by (note_of_heard e.heard) c o (course_at courses c o)))) →
    LogKeeps p (d ∷ t) later begun after (n + 1)
unfolding posted_of started_of
appended p d t e posts later starts begun courses after n are logs later_is begun_is after_is =
    let count = logs.steps_are in
    record {
      posts_are = later_is ∙ ap (λ (x : List Posted). x ++ map (posted (n + 1)) e.posts.items) logs.posts_are ∙ ap (λ (x : List Post). posted_of p t ++ map (posted (n + 1)) x) are.posts ∙ ap (λ (k : ℕ). posted_of p t ++ map (posted (k + 1)) (map post_of (sent_at p d t))) count;
      starts_are = begun_is ∙ ap (λ (x : List Started). x ++ started (n + 1) e.began) logs.starts_are ∙ ap (λ (x : Option Beginning). started_of t ++ started (n + 1) x) are.began ∙ ap (λ (k : ℕ). started_of t ++ started (k + 1) (beginning_at d)) count;
      courses_are = courses-kept p d t e courses after are logs.courses_are (λ c o. after_is c o ∙ ap (λ (k : ℕ). noted_by (note_of_update (k + 1) e.updated) c o (noted_by (note_of_return (k + 1) e.returned) c o (noted_by (note_of_heard e.heard) c o (course_at courses c o)))) count);
      steps_are = omega (arith, count);
    }

-- ---- messages by their numbers

get-front : {A : Type 0} (xs ys : List A) (i : ℕ) → i < length xs → slice_get (xs ++ ys) i ≡ slice_get xs i
get-front [] ys i lt = absurd (omega arith)
get-front (x ∷ xs) ys zero lt = refl
get-front (x ∷ xs) ys (suc i) lt = get-front xs ys i (omega arith)

get-past : {A : Type 0} (xs ys : List A) (i : ℕ) → length xs ≤ i → slice_get (xs ++ ys) i ≡ slice_get ys (i - length xs)
get-past [] ys i le = let e : i ≡ i - 0 = omega arith in ap (slice_get ys) e
get-past (x ∷ xs) ys zero le = absurd (omega arith)
get-past (x ∷ xs) ys (suc i) le = let e : i - length xs ≡ suc i - length (x ∷ xs) = omega arith in get-past xs ys i (omega arith) ∙ ap (slice_get ys) e

pub posted-count : (p : Params) (t : List Deed) → length (posted_of p t) ≡ length (messages_of p t)
unfolding posted_of messages_of
posted-count p [] = refl
posted-count p (d ∷ t) =
    let new : length (map (posted (length t + 1)) (map post_of (sent_at p d t))) ≡ length (sent_at p d t) = length-map (map post_of (sent_at p d t)) (posted (length t + 1)) ∙ length-map (sent_at p d t) post_of in
    length-append (posted_of p t) (map (posted (length t + 1)) (map post_of (sent_at p d t))) ∙ ap (λ (n : ℕ). length (posted_of p t) + n) new ∙ ap (λ (n : ℕ). n + length (sent_at p d t)) (posted-count p t) ∙ sym (length-append (messages_of p t) (sent_at p d t))

abbrev kept_at : ℕ → Message → Posted
kept_at step m = posted step (post_of m)

map-twice : {A B C : Type 0} (f : B → C) (g : A → B) (o : Option A) → option_map f (option_map g o) ≡ option_map (λ x. f (g x)) o
map-twice f g None = refl
map-twice f g (Some x) = refl

get-posted : (p : Params) (t : List Deed) (i : ℕ) → slice_get (posted_of p t) i ≡ option_map (kept_at (step_of p (i + 1) t)) (slice_get (messages_of p t) i)
unfolding posted_of messages_of step_of
get-posted p [] i = refl
get-posted p (d ∷ t) i =
    let count = posted-count p t in
    let old = posted_of p t in
    let new = map (posted (length t + 1)) (map post_of (sent_at p d t)) in
    elim (cases_lt i (length (messages_of p t))) [
      | inl inside ↦
          (let here : nat_le (i + 1) (length (messages_of p t)) ≡ true = le-leb (i + 1) (length (messages_of p t)) (omega arith) in
          get-front old new i (omega arith) ∙ get-posted p t i
          ∙ ap (λ (o : Option Message). option_map (kept_at (step_of p (i + 1) t)) o) (sym (get-front (messages_of p t) (sent_at p d t) i inside))
          ∙ ap (λ (b : Bool). option_map (kept_at (cond b (step_of p (i + 1) t) (length t + 1))) (slice_get (messages_of p t ++ sent_at p d t) i)) (sym here))
      | inr past ↦
          (let later : nat_le (i + 1) (length (messages_of p t)) ≡ false = lt-leb (i + 1) (length (messages_of p t)) (omega arith) in
          let place : i - length old ≡ i - length (messages_of p t) = ap (λ (n : ℕ). i - n) count in
          get-past old new i (omega arith) ∙ ap (slice_get new) place
          ∙ slice_get-map (posted (length t + 1)) (map post_of (sent_at p d t)) (i - length (messages_of p t))
          ∙ ap (option_map (posted (length t + 1))) (slice_get-map post_of (sent_at p d t) (i - length (messages_of p t)))
          ∙ map-twice (posted (length t + 1)) post_of (slice_get (sent_at p d t) (i - length (messages_of p t)))
          ∙ ap (λ (o : Option Message). option_map (kept_at (length t + 1)) o) (sym (get-past (messages_of p t) (sent_at p d t) i past))
          ∙ ap (λ (b : Bool). option_map (kept_at (cond b (step_of p (i + 1) t) (length t + 1))) (slice_get (messages_of p t ++ sent_at p d t) i)) (sym later))
    ]

-- the message of a number is kept with the step at which it was sent
pub posted-message : (p : Params) (t : List Deed) (number : ℕ) → posted_at number (posted_of p t) ≡ option_map (kept_at (step_of p number t)) (message_at number (messages_of p t))
posted-message p t number = by-test (nat_lt 0 number) refl
  where
    by-test : (b : Bool) → nat_lt 0 number ≡ b → cond b (slice_get (posted_of p t) (number - 1)) None ≡ option_map (kept_at (step_of p number t)) (cond b (slice_get (messages_of p t) (number - 1)) None)
    by-test true is =
        let some : 0 < number = ltb-true 0 number is in
        let place : number - 1 + 1 ≡ number = omega arith in
        get-posted p t (number - 1) ∙ ap (λ (n : ℕ). option_map (kept_at (step_of p n t)) (slice_get (messages_of p t) (number - 1))) place
    by-test false is = refl
