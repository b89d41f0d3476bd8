use Rattle.std.proofs.Common.{◌≡◌, ℕ, Option, Some, None, true, false, Bool, cond, refl, sym, ap, ◌∙◌}
use Rattle.std.specs.Option.{option_map}
use Rattle.hy_record.specs.Record.{RecordValue}
use Rattle.hy_record.specs.Stamp.{Timestamp}
use Rattle.hy_meta.specs.Service.{stamp_of_record}
use Rattle.hy_protocol.specs.Inputs.{has_of}
use Rattle.hy_protocol.specs.Session.{takes}
use Rattle.hy_log.specs.declared.effects.Heard.{Heard}
use Rattle.hy_log.specs.Effects.{heard_with}
use Rattle.hy_world.proofs.seat.Seat.hears.Goals as goal

told : (client op made : ℕ) (stamp : Timestamp) (has : Option (Option RecordValue)) → Some stamp ≡ option_map stamp_of_record has → Some (record { client = client; op = op; stamp = stamp; made = made }) ≡ heard_with client op made has
told client op made stamp None is = cc
told client op made stamp (Some r) is = cc

untold : (client op made : ℕ) (has : Option (Option RecordValue)) → None ≡ option_map stamp_of_record has → heard_with client op made has ≡ None
untold client op made None is = refl
untold client op made (Some r) is = cc

neither : (b : Bool) (o : Option Heard) → o ≡ None → None ≡ cond b o None
neither true o is = sym is
neither false o is = refl

pub returns-then-takes : goal.returns-then-takes
returns-then-takes c = λ s is.
    told c.args.client c.args.op c.args.made c.in-Some.stamp (has_of c.args.cue.now) c.in-Some.ensures
    ∙ ap (λ (b : Bool). cond b (heard_with c.args.client c.args.op c.args.made (has_of c.args.cue.now)) None) (sym c.if-takes.true ∙ c.takes.ensures s is)

pub returns-else-takes : goal.returns-else-takes
returns-else-takes c = λ s is. ap (λ (b : Bool). cond b (heard_with c.args.client c.args.op c.args.made (has_of c.args.cue.now)) None) (sym c.if-takes.false ∙ c.takes.ensures s is)

pub returns-in-None : goal.returns-in-None
returns-in-None c = λ s is. neither (takes s c.args.cue.now) (heard_with c.args.client c.args.op c.args.made (has_of c.args.cue.now)) (untold c.args.client c.args.op c.args.made (has_of c.args.cue.now) c.in-None.ensures)
