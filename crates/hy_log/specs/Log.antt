-- What the simulator keeps of a trace.
use Rattle.std.specs.Prelude.{◌≡◌, ℕ, ◌+◌, ◌-◌, List, [], ◌∷◌, ◌++◌, length, map, slice_get, nat_lt, Option, Some, None, if◌then◌else◌}
use Rattle.hy_trace.specs.Deeds.{Params, Deed}
use Rattle.hy_trace.specs.Messages.{sent_at}
use Rattle.hy_trace.specs.Trace.{IsTrace}
use Rattle.hy_log.specs.declared.course.Course.{Course}
use Rattle.hy_log.specs.Courses.{AreCourses}
use Rattle.hy_log.specs.declared.post.Post.{Post}
use Rattle.hy_log.specs.Kept.{Posted}
use Rattle.hy_log.specs.declared.effects.Beginning.{Beginning}
use Rattle.hy_log.specs.declared.log.Started.{Started}
use Rattle.hy_log.specs.declared.log.Log.{Log}
use Rattle.hy_log.specs.Effects.{post_of, beginning_at}

abbrev pub posted : ℕ → Post → Posted
posted step post = record { step = step; post = post }

abbrev pub started : ℕ → Option Beginning → List Started
started step None = []
started step (Some beginning) = record { step = step; beginning = beginning } ∷ []

-- the messages of a trace, in the order in which they were sent
unfoldable pub posted_of : Params → List Deed → List Posted
posted_of p [] = []
posted_of p (d ∷ t) = posted_of p t ++ map (posted (length t + 1)) (map post_of (sent_at p d t))

-- the operations of a trace, in the order in which they began
unfoldable pub started_of : List Deed → List Started
started_of [] = []
started_of (d ∷ t) = started_of t ++ started (length t + 1) (beginning_at d)

-- what is kept is that of the trace
pub record LogKeeps (p : Params) (t : List Deed) (posts : List Posted) (starts : List Started) (courses : List (List Course)) (steps : ℕ) : Type 0 where
  pub posts_are : posts ≡ posted_of p t
  pub starts_are : starts ≡ started_of t
  pub courses_are : IsTrace p t → AreCourses p t courses
  pub steps_are : steps ≡ length t

abbrev pub Keeps : Log → Params → List Deed → Type 0
Keeps log p t = LogKeeps p t log.posts.items log.starts.items log.courses log.steps

-- the message of this number, with its step
abbrev pub posted_at : ℕ → List Posted → Option Posted
posted_at number posts = if nat_lt 0 number then slice_get posts (number - 1) else None
