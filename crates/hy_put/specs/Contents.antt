-- What a put stores.
use Rattle.std.specs.Prelude.{◌≡◌, ℕ, List, [], length, map, slice_index_or, Option, Some, None}
use Rattle.std.specs.List.{range_with_len}
use Rattle.hy_record.specs.Stamp.{Timestamp}
use Rattle.hy_base.specs.Shape.{cloud_count, quorum_size}
use Rattle.hy_record.specs.declared.action.Phase.TheVariants as phases
use Rattle.hy_record.specs.declared.turn.Out.{Out}
use Rattle.hy_record.specs.declared.turn.Out.TheVariants as outs
use Rattle.hy_record.specs.declared.cloud.CloudAct.TheVariants as acts
use Rattle.hy_record.specs.declared.cloud.Wish.{Wish}
use Rattle.hy_code.specs.Fragments.{fragment_of}
use Rattle.hy_protocol.specs.Write.{hashes_of}
use Rattle.hy_operation.specs.declared.issuer.Issuer.{Issuer}
use Rattle.hy_operation.specs.declared.marks.Marks.{Marks}
use Rattle.hy_operation.specs.declared.progress.Progress.{Progress}
use Rattle.hy_operation.specs.Marks.{marked_below, unmarked_below}
use Rattle.hy_put.specs.declared.content.Content.{Content}

-- the content of this value
pub record Holds (content : Content) (f k : ℕ) (value : List ℕ) : Type 0 where
  pub faults : content.f ≡ f
  pub parts : content.k ≡ k
  pub size : content.size ≡ length value
  pub fragments : content.fragments ≡ map (fragment_of value k) (range_with_len 0 (cloud_count f k))
  pub hashes : content.hashes.items ≡ hashes_of value f k

-- the content of the value, or none where there is no value
abbrev pub CarriesValue : ℕ → ℕ → Option (List ℕ) → Option Content → Type 0
CarriesValue f k None None = Unit {0}
CarriesValue f k (Some value) (Some content) = Holds content f k value
CarriesValue f k None (Some content) = ⊥
CarriesValue f k (Some value) None = ⊥

-- a request to the cloud to hold these bytes
abbrev pub put_to : Issuer → Timestamp → ℕ → List ℕ → Out
put_to issuer stamp cloud bytes =
    let wish : Wish = record { key = issuer.key; stamp = stamp; act = acts.Put bytes } in
    outs.Cloud (record { client = issuer.client; op = issuer.op; cloud = cloud; wish = wish })

-- to each of these clouds its fragment
abbrev pub puts_of : Issuer → List (List ℕ) → Timestamp → List ℕ → List Out
puts_of issuer fragments stamp clouds = map (λ cloud. put_to issuer stamp cloud (slice_index_or fragments cloud [])) clouds

-- to each cloud of the store that is not marked its fragment
abbrev pub puts_again : Issuer → Content → Timestamp → Marks → List Out
puts_again issuer content stamp acked = puts_of issuer content.fragments stamp (unmarked_below acked (cloud_count content.f content.k))

-- how far a put with this content is, where it was told the record and these clouds have acknowledged
abbrev pub storing_progress : Option Content → Marks → Progress
storing_progress None acked = record { phase = phases.Update; have = 0; need = 1 }
storing_progress (Some content) acked =
    let have = length (marked_below acked (cloud_count content.f content.k)) in
    record { phase = phases.Store; have = have; need = quorum_size content.f content.k }
