-- Worked schedules: what each tells, computed from the definitions.
use Rattle.std.specs.Prelude.{◌≡◌, ℕ, ◌==◌, true, false, List, [], ◌∷◌, ◌++◌, map, reverse}
use Rattle.hy_record.specs.declared.action.Action.TheVariants as asked
use Rattle.hy_record.specs.declared.action.Reply.TheVariants as told
use Rattle.hy_record.specs.declared.action.Phase.TheVariants as phases
use Rattle.hy_record.specs.Stamp.{Timestamp}
use Rattle.hy_record.specs.declared.cloud.CloudReply.{CloudReply}
use Rattle.hy_record.specs.declared.cloud.CloudSay.TheVariants.{Stored}
use Rattle.hy_order.specs.declared.operation.End.{End}
use Rattle.hy_order.specs.declared.operation.End.TheVariants.{Replied, Pending}
use Rattle.hy_order.specs.declared.operation.Operation.{Operation}
use Rattle.hy_trace.specs.declared.step.Step.{Step}
use Rattle.hy_trace.specs.declared.step.Step.TheVariants as steps
use Rattle.hy_trace.specs.Deeds.{Params}
use Rattle.hy_trace.specs.Schedule.{trace_of}
use Rattle.hy_trace.specs.History.{history_of}
use Rattle.hy_trace.specs.Order.{linearization_of}

-- stores of one cloud, of three, and of three of which the first is Byzantine
abbrev pub one_cloud : Params
one_cloud = record { f = 0; k = 1; is_liar = λ cloud. false }

abbrev pub three_clouds : Params
three_clouds = record { f = 1; k = 1; is_liar = λ cloud. false }

abbrev pub first_lies : Params
first_lies = record { f = 1; k = 1; is_liar = λ cloud. cloud == 0 }

-- the key `a`
abbrev pub a : List ℕ
a = 97 ∷ []

abbrev pub stamp : ℕ → ℕ → Timestamp
stamp sn cid = record { sn = sn; cid = cid }

-- deliveries of the messages of these numbers
abbrev pub gives : List ℕ → List Step
gives numbers = map steps.Give numbers

-- an operation of a history on the key `a`
abbrev pub put_of : ℕ → ℕ → ℕ → ℕ → End → Operation
put_of number client byte invoked end =
    record { number = number; client = client; action = asked.Put a (byte ∷ []); invoked = invoked; end = end }

abbrev pub get_of : ℕ → ℕ → ℕ → End → Operation
get_of number client invoked end = record { number = number; client = client; action = asked.Get a; invoked = invoked; end = end }

abbrev pub delete_of : ℕ → ℕ → ℕ → End → Operation
delete_of number client invoked end = record { number = number; client = client; action = asked.Delete a; invoked = invoked; end = end }

-- the key `_a`, which swaps alone write
abbrev pub cell : List ℕ
cell = 95 ∷ 97 ∷ []

abbrev pub swap_of : ℕ → ℕ → Timestamp → ℕ → ℕ → End → Operation
swap_of number client expected byte invoked end =
    record { number = number; client = client; action = asked.Swap cell expected (byte ∷ []); invoked = invoked; end = end }

-- a client is asked for a swap of the cell to a byte, and what is sent from then on is delivered
abbrev pub swaps : ℕ → Timestamp → ℕ → List ℕ → List Step
swaps client expected byte numbers = steps.Invoke client (asked.Swap cell expected (byte ∷ [])) ∷ gives numbers

-- these steps make this history, with this order of the cell
abbrev pub TellsCell : Params → List Step → List Operation → List ℕ → Type 0
TellsCell p schedule ops order =
    (history_of p (trace_of p (reverse schedule)) ≡ ops) × (linearization_of p (trace_of p (reverse schedule)) cell ≡ order)

-- these steps, the first of which stands first, make this history, with this order of the key `a`
abbrev pub Tells : Params → List Step → List Operation → List ℕ → Type 0
Tells p schedule ops order =
    (history_of p (trace_of p (reverse schedule)) ≡ ops) × (linearization_of p (trace_of p (reverse schedule)) a ≡ order)

-- client 1 joins, and is asked to put a byte
abbrev pub put_begins : List Step
put_begins = steps.Join ∷ steps.Invoke 1 (asked.Put a (1 ∷ [])) ∷ []

-- two clients join, and each is asked to put a byte
abbrev pub puts_begin : List Step
puts_begin = steps.Join ∷ steps.Join ∷ steps.Invoke 1 (asked.Put a (1 ∷ [])) ∷ steps.Invoke 2 (asked.Put a (2 ∷ [])) ∷ []

-- cloud 0 tells client 1's first operation that it stored the fragment
abbrev pub stored : CloudReply
stored = record { client = 1; op = 1; cloud = 0; key = a; stamp = stamp 1 1; say = Stored true }

-- what worked schedules tell
pub record WorkedRows : Type 0 where
  -- each message of a put is delivered once
  pub put_step_by_step :
      Tells three_clouds
      (put_begins ++ gives (1 ∷ 2 ∷ 3 ∷ 4 ∷ 5 ∷ 6 ∷ 7 ∷ 8 ∷ []))
      (put_of 1 1 1 2 (Replied 10 (told.Done (stamp 1 1))) ∷ [])
      (1 ∷ [])
  -- an update that is delivered twice is applied once
  pub repeated_update_is_kept :
      Tells three_clouds
      (put_begins ++ gives (1 ∷ 2 ∷ 3 ∷ 4 ∷ 5 ∷ 6 ∷ 7 ∷ 7 ∷ 8 ∷ 9 ∷ []))
      (put_of 1 1 1 2 (Replied 11 (told.Done (stamp 1 1))) ∷ [])
      (1 ∷ [])
  -- one cloud's acknowledgement that is delivered twice is one
  pub repeated_ack_counts_once :
      Tells three_clouds
      (put_begins ++ gives (1 ∷ 2 ∷ 3 ∷ 4 ∷ 5 ∷ 5 ∷ []))
      (put_of 1 1 1 2 (Pending phases.Store 1 2) ∷ [])
      []
  -- a put whose update is refused stands before the one that overtook it, though it returned later
  pub overwritten_put_orders_first :
      Tells one_cloud
      (puts_begin ++ gives (1 ∷ 2 ∷ 3 ∷ 4 ∷ 5 ∷ 6 ∷ 7 ∷ 8 ∷ 10 ∷ 9 ∷ 11 ∷ 12 ∷ []))
      (put_of 1 1 1 3 (Replied 16 (told.Done (stamp 1 1)))
      ∷ put_of 2 2 2 4 (Replied 15 (told.Done (stamp 1 2))) ∷ [])
      (1 ∷ 2 ∷ [])
  -- a put of a client that crashed is listed where its update was applied
  pub update_after_client_stopped :
      Tells one_cloud
      (put_begins ++ gives (1 ∷ 2 ∷ 3 ∷ 4 ∷ []) ++ steps.Stop 1 ∷ gives (5 ∷ 6 ∷ []))
      (put_of 1 1 1 2 (Pending phases.Update 0 1) ∷ [])
      (1 ∷ [])
  -- a Byzantine cloud's false acknowledgement counts, an honest cloud's does not
  pub lying_ack_counts :
      Tells first_lies
      (put_begins ++ gives (1 ∷ 2 ∷ 4 ∷ 5 ∷ []) ++ steps.Lie stored ∷ gives (6 ∷ 7 ∷ []))
      (put_of 1 1 1 2 (Replied 9 (told.Done (stamp 1 1))) ∷ [])
      (1 ∷ [])
  pub honest_ack_is_sent :
      Tells three_clouds
      (put_begins ++ gives (1 ∷ 2 ∷ 4 ∷ 5 ∷ []) ++ steps.Lie stored ∷ gives (6 ∷ 7 ∷ []))
      (put_of 1 1 1 2 (Pending phases.Store 1 2) ∷ [])
      []
  -- a timeout reaches the spare cloud
  pub tick_reaches_spare_clouds :
      Tells three_clouds
      (put_begins ++ gives (1 ∷ 2 ∷ 3 ∷ 5 ∷ []) ++ steps.Tick 1 ∷ gives (7 ∷ 8 ∷ 9 ∷ 10 ∷ []))
      (put_of 1 1 1 2 (Replied 11 (told.Done (stamp 1 1))) ∷ [])
      (1 ∷ [])
  -- two gets of one timestamp stand by their points
  pub gets_of_absent_key :
      Tells one_cloud
      (steps.Join ∷ steps.Invoke 1 (asked.Get a) ∷ gives (1 ∷ 2 ∷ []) ++ steps.Invoke 1 (asked.Get a) ∷ gives (3 ∷ 4 ∷ []))
      (get_of 1 1 2 (Replied 4 (told.Absent (stamp 0 0))) ∷ get_of 2 1 5 (Replied 7 (told.Absent (stamp 0 0))) ∷ [])
      (1 ∷ 2 ∷ [])
  -- a get stands where its answer was made, not where that was delivered
  pub get_stands_where_its_answer_was_made :
      Tells one_cloud
      (steps.Join ∷ steps.Join ∷ steps.Invoke 2 (asked.Get a) ∷ gives (1 ∷ []) ++
      steps.Invoke 1 (asked.Put a (1 ∷ [])) ∷ gives (3 ∷ 4 ∷ 5 ∷ 6 ∷ 7 ∷ 8 ∷ 2 ∷ []))
      (get_of 1 2 3 (Replied 12 (told.Absent (stamp 0 0)))
      ∷ put_of 2 1 1 5 (Replied 11 (told.Done (stamp 1 1))) ∷ [])
      (1 ∷ 2 ∷ [])
  -- a get finds a deletion
  pub delete_then_get :
      Tells one_cloud
      (put_begins ++ gives (1 ∷ 2 ∷ 3 ∷ 4 ∷ 5 ∷ 6 ∷ []) ++ steps.Invoke 1 (asked.Delete a) ∷ gives (7 ∷ 8 ∷ 9 ∷ 10 ∷ []) ++
      steps.Invoke 1 (asked.Get a) ∷ gives (11 ∷ 12 ∷ []))
      (put_of 1 1 1 2 (Replied 8 (told.Done (stamp 1 1)))
      ∷ delete_of 2 1 9 (Replied 13 (told.Done (stamp 2 1)))
      ∷ get_of 3 1 14 (Replied 16 (told.Absent (stamp 2 1))) ∷ [])
      (1 ∷ 2 ∷ 3 ∷ [])
  -- a busy client is asked in vain, and so is one that is not there
  pub busy_client_ignores_invoke :
      Tells one_cloud
      (put_begins ++ steps.Invoke 1 (asked.Get a) ∷ steps.Invoke 2 (asked.Get a) ∷ steps.Stop 1 ∷ steps.Invoke 1 (asked.Get a) ∷ [])
      (put_of 1 1 1 2 (Pending phases.Read 0 1) ∷ [])
      []
  -- a swap that finds what it expects, one that finds another record, and one that expects that
  pub swap_sequence :
      TellsCell one_cloud
      (steps.Join ∷ steps.Join ∷ swaps 1 (stamp 0 0) 1 (1 ∷ 2 ∷ 3 ∷ 4 ∷ 5 ∷ 6 ∷ []) ++ swaps 2 (stamp 0 0) 2 (7 ∷ 8 ∷ []) ++
      swaps 2 (stamp 1 1) 3 (9 ∷ 10 ∷ 11 ∷ 12 ∷ 13 ∷ 14 ∷ []))
      (swap_of 1 1 (stamp 0 0) 1 3 (Replied 9 (told.Swapped (stamp 1 1)))
      ∷ swap_of 2 2 (stamp 0 0) 2 10 (Replied 12 (told.Changed (stamp 1 1)))
      ∷ swap_of 3 2 (stamp 1 1) 3 13 (Replied 19 (told.Swapped (stamp 2 2))) ∷ [])
      (1 ∷ 2 ∷ 3 ∷ [])
  -- a swap that is delivered again is answered the same again, and acts once
  pub repeated_swap_acts_once :
      TellsCell one_cloud
      (steps.Join ∷ steps.Join ∷ swaps 1 (stamp 0 0) 1 (1 ∷ 2 ∷ 3 ∷ 4 ∷ 5 ∷ []) ++ swaps 2 (stamp 1 1) 2 (7 ∷ 8 ∷ 9 ∷ 10 ∷ 11 ∷ 12 ∷ []) ++
      gives (5 ∷ 13 ∷ []))
      (swap_of 1 1 (stamp 0 0) 1 3 (Replied 17 (told.Swapped (stamp 1 1)))
      ∷ swap_of 2 2 (stamp 1 1) 2 9 (Replied 15 (told.Swapped (stamp 2 2))) ∷ [])
      (1 ∷ 2 ∷ [])
  -- of two that expect the same, one is done, and the other finds its record; what it would have written is no old version
  pub competing_swaps :
      TellsCell one_cloud
      (steps.Join ∷ steps.Join ∷ swaps 1 (stamp 0 0) 1 [] ++ swaps 2 (stamp 0 0) 2 (1 ∷ 2 ∷ 3 ∷ 4 ∷ 5 ∷ 6 ∷ 7 ∷ 8 ∷ 9 ∷ 10 ∷ 11 ∷ 12 ∷ []))
      (swap_of 1 1 (stamp 0 0) 1 3 (Replied 15 (told.Swapped (stamp 1 1)))
      ∷ swap_of 2 2 (stamp 0 0) 2 4 (Replied 16 (told.Changed (stamp 1 1))) ∷ [])
      (1 ∷ 2 ∷ [])
  -- a swap of another key, and a put of a cell, are asked in vain
  pub keys_are_kept_apart :
      TellsCell one_cloud
      (steps.Join ∷ steps.Invoke 1 (asked.Put cell (1 ∷ [])) ∷ steps.Invoke 1 (asked.Swap a (stamp 0 0) (1 ∷ [])) ∷ steps.Invoke 1 (asked.Delete cell) ∷ [])
      []
      []
