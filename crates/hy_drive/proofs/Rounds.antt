-- Lemmas on the steps between two arrivals.
use Rattle.std.proofs.Common.{List, [], ◌++◌, Some, None, Result, Ok, Err, refl, ◌∙◌}
use Rattle.hy_base.specs.Moves.{Move}
use Rattle.hy_record.specs.declared.action.Reply.{Reply}
use Rattle.hy_record.specs.declared.turn.Out.{Out}
use Rattle.hy_serve.specs.Course.{begins, goes}
use Rattle.hy_drive.specs.declared.driver.Driver.{Driver}
use Rattle.hy_drive.specs.declared.driver.Next.{Next}
use Rattle.hy_drive.specs.declared.driver.Next.TheVariants as next
use Rattle.hy_drive.specs.declared.fault.DriveFault.{DriveFault}
use Rattle.hy_drive.specs.declared.fault.DriveFault.TheVariants.{NetFault, SessionsFull, TooLarge, NotYet, NoMemory}
use Rattle.hy_drive.specs.declared.job.Job.{Job}
use Rattle.hy_drive.specs.declared.settling.Step.TheVariants as steps
use Rattle.hy_drive.specs.State.{DriveState, IsFree}
use Rattle.hy_drive.specs.Calling.{DriveCalls}
use Rattle.hy_drive.specs.Arriving.{DriveTakes}
use Rattle.hy_drive.specs.Going.{DriveGoes}
use Rattle.hy_drive.specs.Role.{DriveLeads, Suits}
use Rattle.hy_drive.specs.Standing.{StandsFor, IsSome, IsResting}
use Rattle.hy_drive.specs.Stepping.{Judges, stays, judges, Follows, Refuses, IsLarge, MovesOn, Stops, Moved, SendsOut, Goes, Settles}
use Rattle.hy_drive.proofs.Courses.{leads-on}

-- one course, and another from where it led
pub leads-then : (job : Job) (start mid after : DriveState) (first second : List Move) → DriveLeads job start first mid → DriveLeads job mid second after → DriveLeads job start (second ++ first) after
leads-then job start mid after first second one two = leads-on start mid (DriveCalls job) DriveTakes (DriveGoes job) first one second after two

pub one-step : (job : Job) (state after : DriveState) → DriveGoes job state after → DriveLeads job state [] after
one-step job state after went = goes [] state after begins went

pub judged-step : (job : Job) (state after : DriveState) → Judges job state after → DriveLeads job state [] after
judged-step job state _ stays = begins
judged-step job state _ (judges after went) = one-step job state after went

-- ---- one step

-- the step ended it
refused-stops : (job : Job) (state : DriveState) (fault : DriveFault) → Refuses job state fault → Stops job state fault []
refused-stops job state NoMemory refuses = record { after = state; course = begins; shows = tt }
refused-stops job state NetFault refuses = absurd refuses
refused-stops job state (NotYet have need) refuses = absurd refuses
refused-stops job state SessionsFull refuses = record { after = refuses.after; course = one-step job state refuses.after refuses.goes; shows = refuses.shows }
refused-stops job state (TooLarge size) refuses = record { after = refuses.after; course = one-step job state refuses.after refuses.goes; shows = refuses.shows }

refused-large : (job : Job) (state : DriveState) (fault : DriveFault) → Refuses job state fault → IsLarge job fault
refused-large job state NoMemory refuses = tt
refused-large job state NetFault refuses = tt
refused-large job state (NotYet have need) refuses = tt
refused-large job state SessionsFull refuses = tt
refused-large job state (TooLarge size) refuses = refuses.large

abbrev pub Follow : Job → Driver → Driver → Result Next DriveFault → Type 0
Follow job old new result = (state : DriveState) → IsFree state → StandsFor job old state → Follows job state new result

pub goes-refused : (job : Job) (old new : Driver) (fault : DriveFault) → Follow job old new (Err fault) → Goes job old new (Err fault) []
goes-refused job old new fault follows state free stands = refused-stops job state fault (follows state free stands)

pub sound-refused : (job : Job) (old new : Driver) (fault : DriveFault) → Follow job old new (Err fault) → IsSome job old → IsLarge job fault
sound-refused job old new fault follows some = refused-large job some.state fault (follows some.state some.free some.stands)

pub goes-again : (job : Job) (old new : Driver) → Follow job old new (Ok next.Again) → Goes job old new (Ok steps.More) []
goes-again job old new follows state free stands =
    let s = follows state free stands in record { after = s.after; course = one-step job state s.after s.goes; free = s.free; stands = s.stands; left = s.left }

pub sound-again : (job : Job) (old new : Driver) → Follow job old new (Ok next.Again) → IsSome job old → IsSome job new
sound-again job old new follows some = let s = follows some.state some.free some.stands in record { state = s.after; free = s.free; stands = s.stands }

pub goes-idle : (job : Job) (old new : Driver) → Follow job old new (Ok next.Idle) → Goes job old new (Ok steps.Idle) []
goes-idle job old new follows state free stands =
    let s = follows state free stands in record { after = s.after; course = judged-step job state s.after s.judges; idle = s.idle; stands = s.stands; left = s.left }

pub sound-idle : (job : Job) (old new : Driver) → Follow job old new (Ok next.Idle) → IsSome job old → IsResting job new
sound-idle job old new follows some = let s = follows some.state some.free some.stands in record { state = s.after; idle = s.idle; stands = s.stands }

pub goes-replied : (job : Job) (old new : Driver) (reply : Reply) → Follow job old new (Ok (next.Replied reply)) → Goes job old new (Ok (steps.Replied reply)) []
goes-replied job old new reply follows state free stands =
    let s = follows state free stands in record { after = s.after; course = one-step job state s.after s.goes; replies = s.replies }

pub sound-replied : (job : Job) (old new : Driver) (reply : Reply) → Follow job old new (Ok (next.Replied reply)) → IsSome job old → Suits job.action reply
sound-replied job old new reply follows some = (follows some.state some.free some.stands).suits

-- a message is sent
pub some-sends : (job : Job) (old mid : Driver) (out : Out) → Follow job old mid (Ok (next.Send out)) → IsSome job old → IsSome job mid
some-sends job old mid out follows some =
    let s = follows some.state some.free some.stands in
    record { state = record some.state { sends = s.later }; free = record { clear = some.free.clear; goes = some.free.goes }; stands = s.stands }

sent-by : (job : Job) (old mid new : Driver) (out : Out) (result : Result Unit DriveFault) (moves : List Move) → Follow job old mid (Ok (next.Send out)) → SendsOut job mid new out result moves
    → (state : DriveState) → IsFree state → StandsFor job old state → Moved job state new result moves
sent-by job old mid new out result moves follows sends state free stands = let s = follows state free stands in sends state s.later free s.is s.stands

pub goes-sent : (job : Job) (old mid new : Driver) (out : Out) (moves : List Move) (done : Unit {0}) → Follow job old mid (Ok (next.Send out)) → SendsOut job mid new out (Ok done) moves
    → Goes job old new (Ok steps.More) moves
goes-sent job old mid new out moves done follows sends state free stands = sent-by job old mid new out (Ok done) moves follows sends state free stands

pub goes-unsent : (job : Job) (old mid new : Driver) (out : Out) (fault : DriveFault) (moves : List Move) → Follow job old mid (Ok (next.Send out)) → SendsOut job mid new out (Err fault) moves
    → Goes job old new (Err fault) moves
goes-unsent job old mid new out fault moves follows sends state free stands = sent-by job old mid new out (Err fault) moves follows sends state free stands

-- ---- steps

-- from any state that it stands for, it came to another
abbrev pub Advances : Job → Driver → Driver → List Move → Type 0
Advances job old new moves = (state : DriveState) → IsFree state → StandsFor job old state → MovesOn job state new moves

pub advances-none : (job : Job) (driver : Driver) → Advances job driver driver []
advances-none job driver state free stands = record { after = state; course = begins; free = free; stands = stands; left = refl }

pub advances-more : (job : Job) (old mid new : Driver) (first second : List Move) → Advances job old mid first → Goes job mid new (Ok steps.More) second → Advances job old new (second ++ first)
advances-more job old mid new first second one two state free stands =
    let a = one state free stands in
    let b = two a.after a.free a.stands in
    record { after = b.after; course = leads-then job state a.after b.after first second a.course b.course; free = b.free; stands = b.stands; left = b.left ∙ a.left }

pub settles-idle : (job : Job) (old mid new : Driver) (first second : List Move) → Advances job old mid first → Goes job mid new (Ok steps.Idle) second → Settles job old new (Ok None) (second ++ first)
settles-idle job old mid new first second one two state free stands =
    let a = one state free stands in
    let b = two a.after a.free a.stands in
    record { after = b.after; course = leads-then job state a.after b.after first second a.course b.course; idle = b.idle; stands = b.stands; left = b.left ∙ a.left }

pub settles-replied : (job : Job) (old mid new : Driver) (reply : Reply) (first second : List Move) → Advances job old mid first → Goes job mid new (Ok (steps.Replied reply)) second
    → Settles job old new (Ok (Some reply)) (second ++ first)
settles-replied job old mid new reply first second one two state free stands =
    let a = one state free stands in
    let b = two a.after a.free a.stands in
    record { after = b.after; course = leads-then job state a.after b.after first second a.course b.course; replies = b.replies }

pub settles-stopped : (job : Job) (old mid new : Driver) (fault : DriveFault) (first second : List Move) → Advances job old mid first → Goes job mid new (Err fault) second
    → Settles job old new (Err fault) (second ++ first)
settles-stopped job old mid new fault first second one two state free stands =
    let a = one state free stands in
    let b = two a.after a.free a.stands in
    record { after = b.after; course = leads-then job state a.after b.after first second a.course b.course; shows = b.shows }

pub settles-starved : (job : Job) (old new : Driver) (moves : List Move) → Advances job old new moves → Settles job old new (Err NoMemory) moves
settles-starved job old new moves one state free stands = let a = one state free stands in record { after = a.after; course = a.course; shows = tt }
