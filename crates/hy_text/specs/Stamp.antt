-- Timestamps in a text: two words, the sequence number and the client.
use Rattle.std.specs.Prelude.{ℕ, ◌≤◌, List, [], ◌∷◌, Result, Ok}
use Rattle.std.specs.Fmt.{decimal}
use Rattle.hy_base.specs.Results.{◌>>=◌}
use Rattle.hy_base.specs.declared.fault.Cause.{Cause}
use Rattle.hy_base.specs.declared.limits.TheConstants.{MAX_SN}
use Rattle.hy_record.specs.Stamp.{Timestamp}
use Rattle.hy_text.specs.Line.{first_word, later_words}
use Rattle.hy_text.specs.Slot.{number_of}

-- the words of a timestamp
abbrev pub stamp_words : Timestamp → List (List ℕ)
stamp_words stamp = decimal stamp.sn ∷ decimal stamp.cid ∷ []

-- both numbers of the timestamp are from the least on, and its client is at most the last one
pub record IsStampWithin (least last : ℕ) (stamp : Timestamp) : Type 0 where
  pub number_low : least ≤ stamp.sn
  pub number_high : stamp.sn ≤ MAX_SN
  pub client_low : least ≤ stamp.cid
  pub client_high : stamp.cid ≤ last

-- a timestamp whose numbers are from the least on, and whose client is at most the last one
unfoldable pub stamp_from : ℕ → ℕ → List (List ℕ) → Result (Timestamp × List (List ℕ)) Cause
stamp_from least last words =
    number_of least MAX_SN (first_word words) >>= λ sn.
    number_of least last (first_word (later_words words)) >>= λ cid.
    Ok (record { sn = sn; cid = cid }, later_words (later_words words))
