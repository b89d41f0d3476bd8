use Rattle.std.proofs.Common.{ℕ, refl, ap, ◌∙◌}
use Rattle.std.specs.Prelude.{◌≡◌, map}
use Rattle.std.specs.List.{range_with_len}
use Rattle.hy_base.specs.Shape.{cloud_count}
use Rattle.hy_code.specs.Fragments.{fragment_of}
use Rattle.hy_put.proofs.Fragments.{hashes-whole, hashes-coded}
use Rattle.hy_put.proofs.content.Content.new.Goals as goal
use Rattle.hy_put.proofs.content.Content.new.Goals.{then-k-eq1+in_ok-hashes, else-k-eq1+in_ok-hashes-2}

pub returns : goal.returns
returns c =
    let fragments : c.in_ok-fragments.fragments ≡ map (fragment_of c.args.value.now c.args.k) (range_with_len 0 (cloud_count c.args.f c.args.k)) =
    c.in_ok-fragments.ensures.each ∙ ap (λ (n : ℕ). map (fragment_of c.args.value.now c.args.k) (range_with_len 0 n)) c.cloud_count-n.ensures in
    record {
      faults = refl;
      parts = refl;
      size = refl;
      fragments = fragments;
      hashes = elim c.if-k-eq1.branch [
        | then-k-eq1+in_ok-hashes w ↦ rw w.hashes-is (hashes-whole c.args.value.now c.args.f c.args.k _ w.if-k-eq1.true w.in_ok-hashes.ensures)
        | else-k-eq1+in_ok-hashes-2 w ↦ rw w.hashes-is (hashes-coded c.args.value.now c.args.f c.args.k _ c.in_ok-fragments.fragments w.if-k-eq1.false fragments (rw c.cloud_count-n.ensures at w.in_ok-hashes-2.ensures))
      ];
    }
