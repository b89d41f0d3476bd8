-- What a connection asks, and what is answered to it, a frame can carry.
use Rattle.std.proofs.Common.{◌≡◌, Bool, true, false, List, [], ◌∷◌, ◌++◌, All, map, Option, Some, None, Result, Ok, Err, refl}
use Rattle.std.specs.Prelude.{if◌then◌else◌}
use Rattle.std.proofs.lemmas.List.Elements.{All-nil, All-cons, All-head, All-tail}
use Rattle.hy_record.specs.declared.message.MetaAsk.{MetaAsk}
use Rattle.hy_record.specs.declared.message.MetaAsk.TheVariants as asks
use Rattle.hy_record.specs.declared.message.MetaSay.{MetaSay}
use Rattle.hy_record.specs.declared.message.MetaSay.TheVariants as says
use Rattle.hy_mwire.specs.declared.fault.FrameFault.{FrameFault}
use Rattle.hy_mwire.specs.declared.message.Message.{Message}
use Rattle.hy_mwire.specs.declared.message.Message.TheVariants.{Join, Joined, Full, Ask, Say}
use Rattle.hy_mwire.specs.Message.{IsFramed, IsFramedAsk, IsFramedSay}
use Rattle.hy_mwire.specs.Stream.{Unread, next_answer}
use Rattle.hy_mwire.proofs.Framed.{answer-framed}
use Rattle.hy_meta.specs.declared.watcher.Watcher.{Watcher}
use Rattle.hy_meta.specs.Service.{record_after, record_stamp, old_list}
use Rattle.hy_meta.specs.Watches.{fired_watches, fired}
use Rattle.hy_meta.specs.Meta.{service_answers}
use Rattle.hy_serve.specs.declared.meta_lines.Session.{Session}
use Rattle.hy_serve.specs.declared.meta_lines.Session.TheVariants.{Unasked, Of, Refused}
use Rattle.hy_serve.specs.declared.meta_lines.Step.TheVariants.{Asks, Ends}
use Rattle.hy_serve.specs.MetaRole.{Line, unopened, talking, over, step_by, step_of, next_step}
use Rattle.hy_serve.specs.MetaStanding.{IsFramedStep}

-- ---- what is asked

either-framed : (b : Bool) (ask : MetaAsk) → IsFramedAsk ask → IsFramedStep (if b then Asks ask else Ends)
either-framed true ask framed = framed
either-framed false ask framed = tt

said-framed : (session : Session) (said : Message) → IsFramed said → IsFramedStep (step_by session said)
said-framed Unasked Join framed = tt
said-framed Unasked (Joined client) framed = tt
said-framed Unasked Full framed = tt
said-framed Unasked (Ask ask) framed = tt
said-framed Unasked (Say say) framed = tt
said-framed (Of client) Join framed = tt
said-framed (Of client) (Joined other) framed = tt
said-framed (Of client) Full framed = tt
said-framed (Of client) (Ask ask) framed = either-framed _ ask framed
said-framed (Of client) (Say say) framed = tt
said-framed Refused said framed = tt

read-framed : (session : Session) (stream : Unread) (answer : Result (Option Message) FrameFault) → next_answer stream ≡ answer
    → IsFramedStep (step_of session answer)
read-framed session stream (Ok None) is = tt
read-framed session stream (Ok (Some said)) is = said-framed session said (answer-framed stream said is)
read-framed session stream (Err wrong) is = tt

pub step-framed : (line : Line) → IsFramedStep (next_step line)
step-framed unopened = tt
step-framed (talking session stream) = read-framed session stream (next_answer stream) refl
step-framed over = tt

-- ---- what is answered

one-framed : (say : MetaSay) → IsFramedSay say → All IsFramedSay (say ∷ [])
one-framed say framed = All-cons IsFramedSay say [] framed (All-nil IsFramedSay)

fired-framed : (watches : List Watcher) → All IsFramedSay (map fired watches)
fired-framed [] = All-nil IsFramedSay
fired-framed (w ∷ watches) = All-cons IsFramedSay (fired w) (map fired watches) tt (fired-framed watches)

choice-framed : (b : Bool) (these those : List MetaSay) → All IsFramedSay these → All IsFramedSay those → All IsFramedSay (if b then these else those)
choice-framed true these those these_are those_are = these_are
choice-framed false these those these_are those_are = those_are

pub answers-framed : (before : List MetaAsk) (ask : MetaAsk) → IsFramedAsk ask → All IsFramedSay (service_answers before ask)
unfolding service_answers
answers-framed before (asks.Read client op key) framed = one-framed (says.Has client op key (record_after before key)) tt
answers-framed before (asks.Update client op key r) framed =
    let told = map fired (fired_watches before key r.stamp) in
    choice-framed _ (says.Applied client op key r.stamp ∷ told) (says.Kept client op key (record_stamp before key) ∷ [])
    (All-cons IsFramedSay (says.Applied client op key r.stamp) told tt (fired-framed (fired_watches before key r.stamp)))
    (one-framed (says.Kept client op key (record_stamp before key)) tt)
answers-framed before (asks.Watch client op key stamp) framed =
    choice-framed _ (says.Fired client op key stamp ∷ []) [] (one-framed (says.Fired client op key stamp) tt) (All-nil IsFramedSay)
answers-framed before (asks.Olds client op key) framed = one-framed (says.OldList client op key (old_list before key)) tt
answers-framed before (asks.Forget client op key stamps) framed = one-framed (says.Forgot client op key) tt
answers-framed before (asks.Swap client op key expected r) framed = absurd framed

-- ---- one message more

pub last-framed : (before : List MetaSay) (say : MetaSay) → All IsFramedSay (before ++ say ∷ []) → All IsFramedSay before × IsFramedSay say
last-framed [] say all = (All-nil IsFramedSay, All-head IsFramedSay say [] all)
last-framed (first ∷ before) say all =
    let rest = last-framed before say (All-tail IsFramedSay first (before ++ say ∷ []) all) in
    (All-cons IsFramedSay first before (All-head IsFramedSay first (before ++ say ∷ []) all) rest.0, rest.1)
