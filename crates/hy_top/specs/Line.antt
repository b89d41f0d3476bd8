-- The lines that tell how a job went.
use Rattle.std.specs.Prelude.{ℕ, List, [], ◌∷◌, codes}
use Rattle.std.specs.Fmt.{decimal}
use Rattle.hy_base.specs.declared.fault.TextFault.{TextFault}
use Rattle.hy_text.specs.Cause.{cause_word}
use Rattle.hy_record.specs.Stamp.{Timestamp}
use Rattle.hy_text.specs.Line.{line_text}
use Rattle.hy_text.specs.Stamp.{stamp_words}
use Rattle.hy_top.specs.declared.status.Status.{Status}
use Rattle.hy_top.specs.declared.status.Status.TheVariants.{BadInput, BadWords, NotYet, ReadFault, NetFault, TooLong, Illegal, Exhausted, TooLarge, SessionsFull, BadFrames}
use Rattle.hy_order.specs.declared.verdict.Verdict.{Verdict}
use Rattle.hy_order.specs.declared.verdict.Verdict.TheVariants.{Legal, Missing, Stranger, Twice, Early, Wrong}

-- the first bad line of an input, and its cause
abbrev pub bad_input_line : TextFault → List ℕ
bad_input_line fault = line_text (codes "bad" ∷ codes "input" ∷ decimal fault.line ∷ cause_word fault.cause ∷ [])

-- how many orders a report has, all of them legal
abbrev pub legal_line : ℕ → List ℕ
legal_line count = line_text (codes "legal" ∷ decimal count ∷ [])

-- how many arrivals a server took
abbrev pub arrivals_line : ℕ → List ℕ
arrivals_line count = line_text (codes "arrivals" ∷ decimal count ∷ [])

-- what an operation has, and what it needs
abbrev pub not_yet_line : ℕ → ℕ → List ℕ
not_yet_line have need = line_text (codes "not" ∷ codes "yet" ∷ decimal have ∷ decimal need ∷ [])

-- the last timestamp that there is
abbrev pub exhausted_line : Timestamp → List ℕ
exhausted_line stamp = line_text (codes "exhausted" ∷ stamp_words stamp)

-- the bytes of a value that is too large
abbrev pub too_large_line : ℕ → List ℕ
too_large_line size = line_text (codes "too" ∷ codes "large" ∷ decimal size ∷ [])

-- the place of the first frame that is none of a request
abbrev pub bad_frames_line : ℕ → List ℕ
bad_frames_line place = line_text (codes "bad" ∷ codes "frames" ∷ decimal place ∷ [])

-- the words that tell a verdict
abbrev pub verdict_words : Verdict → List (List ℕ)
verdict_words Legal = codes "legal" ∷ []
verdict_words (Missing number) = codes "missing" ∷ decimal number ∷ []
verdict_words (Stranger number) = codes "stranger" ∷ decimal number ∷ []
verdict_words (Twice number) = codes "twice" ∷ decimal number ∷ []
verdict_words (Early earlier later) = codes "early" ∷ decimal earlier ∷ decimal later ∷ []
verdict_words (Wrong number) = codes "wrong" ∷ decimal number ∷ []

-- the key of the first illegal order of a report, and the verdict on it
abbrev pub illegal_line : List ℕ → Verdict → List ℕ
illegal_line key verdict = line_text (codes "illegal" ∷ key ∷ verdict_words verdict)

-- the line of a refusal; a status that is none has no line
abbrev pub refusal_line : Status → List ℕ
refusal_line BadWords = line_text (codes "bad" ∷ codes "words" ∷ [])
refusal_line ReadFault = line_text (codes "read" ∷ codes "fault" ∷ [])
refusal_line NetFault = line_text (codes "net" ∷ codes "fault" ∷ [])
refusal_line TooLong = line_text (codes "too" ∷ codes "long" ∷ [])
refusal_line SessionsFull = line_text (codes "sessions" ∷ codes "full" ∷ [])
refusal_line (NotYet have need) = not_yet_line have need
refusal_line (Exhausted stamp) = exhausted_line stamp
refusal_line (TooLarge size) = too_large_line size
refusal_line (BadFrames place) = bad_frames_line place
refusal_line (BadInput fault) = bad_input_line fault
refusal_line (Illegal key verdict) = illegal_line key verdict
refusal_line other = []
