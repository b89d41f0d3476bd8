use Rattle.std.proofs.Common.{◌∷◌, [], ◌++◌, List, ℕ, All, map, sym, ap, subst, ◌∙◌}
use Rattle.std.proofs.lemmas.List.{map-append, flat_map_more}
use Rattle.std.proofs.lemmas.List.Elements.{All-head, All-tail}
use Rattle.hy_record.specs.declared.message.MetaSay.{MetaSay}
use Rattle.hy_mwire.specs.declared.message.Message.TheVariants as messages
use Rattle.hy_mwire.specs.Frames.{frame_of, frames_of}
use Rattle.hy_mwire.specs.Message.{IsFramedSay}
use Rattle.hy_journal.proofs.kept.frames_of_says.Goals as goal

pub loop-say-preserved : goal.loop-say-preserved
loop-say-preserved c = (
  c.in_ok-push_say.ensures
      ∙ ap (λ (l : List ℕ). l ++ frame_of (messages.Say c.in-Some.say)) c.loop-say.invariant.0
      ∙ flat_map_more frame_of [] (map messages.Say c.loop-say.yielded) (messages.Say c.in-Some.say)
      ∙ ap frames_of (sym (map-append messages.Say c.loop-say.yielded (c.in-Some.say ∷ []))),
  All-tail IsFramedSay c.in-Some.say c.next.new.self.rest.items
      (subst (λ (l : List MetaSay). All IsFramedSay l) c.in-Some.ensures.steps.0 c.loop-say.invariant.1),
)

pub push_say-requires : goal.push_say-requires
push_say-requires c =
    All-head IsFramedSay c.in-Some.say c.next.new.self.rest.items
    (subst (λ (l : List MetaSay). All IsFramedSay l) c.in-Some.ensures.steps.0 c.loop-say.invariant.1)
