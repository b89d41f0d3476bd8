use Rattle.std.proofs.Common.{◌≡◌, ◌∙◌, ℕ, ◌<◌, ◌≤◌, List, length, true, false, refl, ap, sym, arith}
use Rattle.std.specs.Prelude.{◌==◌, insert, remove, nat_lt}
use Rattle.std.specs.List.{list_any, prefix_len}
use Rattle.hy_code.specs.declared.pick.Pick.{Pick}
use Rattle.hy_get.proofs.Fragments.{remove-insert}
use Rattle.hy_get.proofs.Since.{HasMore, keep-again, keep-more, keep-value, awaits-as-before}
use Rattle.hy_get.proofs.fetch.Fetch.keep.Goals as goal

pub returns-then-has_pick-clause-keeps : goal.returns-then-has_pick-clause-keeps
returns-then-has_pick-clause-keeps c =
    let there : list_any (λ pick. pick.cloud == c.args.reply.now.cloud) c.args.self.now.picks.items ≡ true = ap (λ (ps : List Pick). list_any (λ pick. pick.cloud == c.args.reply.now.cloud) ps) (sym c.deref.ensures.value) ∙ sym c.has_pick.ensures ∙ c.if-has_pick.true in
    λ plan since a. keep-again plan c.args.self.now since c.args.reply.now c.args.bytes.now _ a c.requires.valid there c.new.ensures.items

pub returns-then-len-from-clause-keeps : goal.returns-then-len-from-clause-keeps
returns-then-len-from-clause-keeps c =
    let more : HasMore c.args.self.now c.args.reply.now c.args.bytes.now c.place_of-place.result c.insert.new.self.items = record {
      stamp = c.requires.stamp;
      valid = c.requires.valid;
      fresh = ap (λ (ps : List Pick). list_any (λ pick. pick.cloud == c.args.reply.now.cloud) ps) (sym c.deref.ensures.value) ∙ sym c.has_pick.ensures ∙ c.if-has_pick.false;
      at_it = c.place_of-place.ensures.value ∙ ap (λ (ps : List Pick). prefix_len (λ pick. nat_lt pick.cloud c.args.reply.now.cloud) ps) c.deref-2.ensures.value;
      inside = omega (arith, c.place_of-place.ensures.inside, c.deref-2.ensures.len, c.args.self.now.picks.ok.0);
      picks = c.in_ok-insert.ensures.items ∙ ap (λ (bs : List ℕ). insert c.args.self.now.picks.items c.place_of-place.result (record { cloud = c.args.reply.now.cloud; bytes = bs })) (c.in_ok-bytes.ensures ∙ c.bytes.ensures);
    } in
    let few : length c.insert.new.self.items < c.args.self.now.rec.k = omega (arith, c.if-len-from.true, c.from.ensures, c.k.ensures, c.len.ensures, c.insert.new.self.ok.0) in
    λ plan since a. keep-more plan c.args.self.now _ since c.args.reply.now c.args.bytes.now c.place_of-place.result _ a more (record { rec = refl; holders = refl; failed = refl; timeouts = refl; fired = refl }) few c.new-then-len-from.ensures.items

pub returns-in-Ok-clause-keeps : goal.returns-in-Ok-clause-keeps
returns-in-Ok-clause-keeps c =
    let more : HasMore c.args.self.now c.args.reply.now c.args.bytes.now c.place_of-place.result c.insert.new.self.items = record {
      stamp = c.requires.stamp;
      valid = c.requires.valid;
      fresh = ap (λ (ps : List Pick). list_any (λ pick. pick.cloud == c.args.reply.now.cloud) ps) (sym c.deref.ensures.value) ∙ sym c.has_pick.ensures ∙ c.if-has_pick.false;
      at_it = c.place_of-place.ensures.value ∙ ap (λ (ps : List Pick). prefix_len (λ pick. nat_lt pick.cloud c.args.reply.now.cloud) ps) c.deref-2.ensures.value;
      inside = omega (arith, c.place_of-place.ensures.inside, c.deref-2.ensures.len, c.args.self.now.picks.ok.0);
      picks = c.in_ok-insert.ensures.items ∙ ap (λ (bs : List ℕ). insert c.args.self.now.picks.items c.place_of-place.result (record { cloud = c.args.reply.now.cloud; bytes = bs })) (c.in_ok-bytes.ensures ∙ c.bytes.ensures);
    } in
    let rebuilt = rw (c.size.ensures, c.k-2.ensures) at c.in-Ok.ensures.rebuilt in
    let enough : c.args.self.now.rec.k ≤ length c.insert.new.self.items = omega (arith, c.if-len-from.false, c.from.ensures, c.k.ensures, c.len.ensures, c.insert.new.self.ok.0) in
    λ plan since a. keep-value c.args.self.now _ since c.args.reply.now c.args.bytes.now c.place_of-place.result c.in-Ok.value a more (record { rec = refl; holders = refl; failed = refl; timeouts = refl; fired = refl }) enough rebuilt

pub returns-in-Err-clause-keeps : goal.returns-in-Err-clause-keeps
returns-in-Err-clause-keeps c =
    let back : c.remove.new.self.items ≡ c.args.self.now.picks.items =
    c.remove.ensures.items ∙ ap (λ (ps : List Pick). remove ps c.place_of-place.result) c.in_ok-insert.ensures.items
    ∙ remove-insert c.args.self.now.picks.items c.place_of-place.result (record { cloud = c.args.reply.now.cloud; bytes = c.in_ok-bytes.bytes }) (omega (arith, c.place_of-place.ensures.inside, c.deref-2.ensures.len, c.args.self.now.picks.ok.0)) in
    λ plan since a. awaits-as-before c.args.self.now _ since a (record { rec = refl; holders = refl; failed = refl; timeouts = refl; fired = refl }) back
