-- Request by request.
use Rattle.std.proofs.Common.{◌≡◌, ◌⊎◌, inl, inr, ℕ, ◌+◌, ◌-◌, ◌<◌, ◌≤◌, List, [], ◌∷◌, ◌++◌, length, get_or, take, drop, All, refl, sym, ◌∙◌, ap, subst, arith, length-append, append_assoc}
use Rattle.std.proofs.lemmas.List.{append-nil, drop_more, flat_map_more, take-append-drop, take_more}
use Rattle.std.proofs.lemmas.List.Concat.{flat_map-append}
use Rattle.std.proofs.lemmas.List.Elements.{All-get_or}
use Rattle.hy_base.specs.declared.limits.TheConstants.{MAX_INPUT}
use Rattle.hy_record.specs.declared.message.MetaAsk.{MetaAsk}
use Rattle.hy_mwire.specs.declared.message.Message.{Message}
use Rattle.hy_mwire.specs.Frames.{frame_of, frames_of}
use Rattle.hy_disk.specs.MemDisk.{DiskValue}
use Rattle.hy_journal.specs.declared.entry.Entry.{Entry}
use Rattle.hy_journal.specs.declared.keeper.Keeper.{Keeper}
use Rattle.hy_journal.specs.Fold.{asks_of}
use Rattle.hy_journal.specs.Keeper.{disk_of}
use Rattle.hy_journal.specs.Requests.{IsRequest}
use Rattle.hy_journal.specs.Kept.{added, served_with, says_of, Kept}
use Rattle.hy_journal.specs.Playing.{IsReady, GoesOn, IsPlayed, Place, left_at, IsAnswered, IsLost}

-- ---- request by request

pub goes_by : (stop : ℕ) (old new : Keeper DiskValue) (requests : List Message) (request : Message) (before output : List ℕ) (place : Place)
    → ((more : List Message) (rest : List ℕ) → Kept (left_at place (disk_of old)) place.entries place.served more rest
    → Kept (stop - 4) [] [] (requests ++ more) (before ++ rest)) → (next : Place)
    → IsAnswered place next (left_at place (disk_of old)) (left_at next (disk_of new)) request before output
    ⊎ IsLost place next (left_at place (disk_of old)) (left_at next (disk_of new)) request before output
    → (more : List Message) (rest : List ℕ) → Kept (left_at next (disk_of new)) next.entries next.served more rest
    → Kept (stop - 4) [] [] ((requests ++ request ∷ []) ++ more) (output ++ rest)
unfolding Kept
goes_by stop old new requests request before output place goes next (inl told) more rest kept =
    let answers = frames_of (says_of place.entries place.served request) in
    let after = subst (λ (n : ℕ). Kept n (place.entries ++ added place.entries request) (served_with place.served request) more rest) told.left_is
    (subst (λ (l : List MetaAsk). Kept (left_at next (disk_of new)) (place.entries ++ added place.entries request) l more rest) told.served_are
    (subst (λ (l : List Entry). Kept (left_at next (disk_of new)) l next.served more rest) told.entries_are kept)) in
    let here = goes (request ∷ more) (answers ++ rest) (inr (told.other, (rest, refl, after))) in
    subst (λ (l : List Message). Kept (stop - 4) [] [] l (output ++ rest)) (sym (append_assoc requests (request ∷ []) more))
    (subst (λ (l : List ℕ). Kept (stop - 4) [] [] (requests ++ request ∷ more) l)
    (sym (ap (λ (l : List ℕ). l ++ rest) told.output_is ∙ append_assoc before answers rest)) here)
goes_by stop old new requests request before output place goes next (inr lost) more rest kept =
    let after = subst (λ (n : ℕ). Kept n next.entries (asks_of next.entries) more rest) lost.left_is
    (subst (λ (l : List MetaAsk). Kept (left_at next (disk_of new)) next.entries l more rest) lost.served_are kept) in
    let here = goes (request ∷ more) rest (inl (lost.stop, (next.entries, lost.found, after))) in
    subst (λ (l : List Message). Kept (stop - 4) [] [] l (output ++ rest)) (sym (append_assoc requests (request ∷ []) more))
    (subst (λ (l : List ℕ). Kept (stop - 4) [] [] (requests ++ request ∷ more) (l ++ rest)) (sym lost.output_is) here)

pub plays_on : (stop : ℕ) (old new : Keeper DiskValue) (requests : List Message) (request : Message) (before output : List ℕ)
    → IsPlayed stop old requests before → IsRequest request → length (frames_of requests) + length (frame_of request) ≤ MAX_INPUT
    → GoesOn old new request before output → IsPlayed stop new (requests ++ request ∷ []) output
plays_on stop old new requests request before output played known fits goes =
    let place = played.place in
    let on = goes place played.at known (omega (arith, played.long, fits)) in
    record {
      place = on.next;
      at = on.at;
      same = on.same ∙ played.same;
      long = on.longer ∙ omega (arith, played.long, length-append (frames_of requests) (frame_of request))
          ∙ ap (length {A = ℕ}) (flat_map_more frame_of [] requests request);
      goes = goes_by stop old new requests request before output place played.goes on.next on.moved;
    }

pub ready_for : (stop : ℕ) (keeper : Keeper DiskValue) (requests : List Message) (request : Message) (output : List ℕ)
    → IsPlayed stop keeper requests output → IsRequest request → length (frames_of requests) + length (frame_of request) ≤ MAX_INPUT
    → IsReady keeper request
ready_for stop keeper requests request output played known fits =
    record { place = played.place; at = played.at; known = known; fits = omega (arith, played.long, fits) }

-- the frame of a request that stands among others
pub frame_within : (all done : List Message) (request : Message) (more : List Message) → all ≡ done ++ request ∷ more
    → length (frames_of all) ≤ MAX_INPUT → length (frames_of done) + length (frame_of request) ≤ MAX_INPUT
frame_within all done request more is few =
    let whole = ap frames_of is ∙ flat_map-append frame_of done (request ∷ more) in
    omega (
      arith,
      few,
      ap (length {A = ℕ}) whole,
      length-append (frames_of done) (frame_of request ++ frames_of more),
      length-append (frame_of request) (frames_of more),
    )

pub played_whole : (stop : ℕ) (keeper : Keeper DiskValue) (requests : List Message) (output : List ℕ) → IsPlayed stop keeper requests output
    → Kept (stop - 4) [] [] requests output
unfolding Kept
played_whole stop keeper requests output played =
    subst (λ (l : List Message). Kept (stop - 4) [] [] l output) (append-nil requests)
    (subst (λ (l : List ℕ). Kept (stop - 4) [] [] (requests ++ []) l) (append-nil output) (played.goes [] [] refl))

-- ---- the requests of a list, by place

pub parts_at : (all : List Message) (request : Message) (i : ℕ) → i < length all → request ≡ get_or all i request
    → all ≡ take i all ++ request ∷ drop (i + 1) all
parts_at all request i inside is =
    sym (take-append-drop i all)
    ∙ ap (λ (l : List Message). take i all ++ l) (drop_more all i request inside ∙ ap (λ (m : Message). m ∷ drop (i + 1) all) (sym is))

pub next_at : (all : List Message) (request : Message) (i : ℕ) → i < length all → request ≡ get_or all i request
    → take (i + 1) all ≡ take i all ++ request ∷ []
next_at all request i inside is = take_more all i request inside ∙ ap (λ (m : Message). take i all ++ m ∷ []) (sym is)

pub known_at : (all : List Message) (request : Message) (i : ℕ) → i < length all → request ≡ get_or all i request → All IsRequest all → IsRequest request
known_at all request i inside is each = subst IsRequest (sym is) (All-get_or IsRequest all i request inside each)

pub ready_at : (stop : ℕ) (keeper : Keeper DiskValue) (all : List Message) (request : Message) (i : ℕ) (output : List ℕ) → i < length all
    → request ≡ get_or all i request → All IsRequest all → length (frames_of all) ≤ MAX_INPUT → IsPlayed stop keeper (take i all) output
    → IsReady keeper request
ready_at stop keeper all request i output inside is each few played =
    ready_for stop keeper (take i all) request output played (known_at all request i inside is each)
    (frame_within all (take i all) request (drop (i + 1) all) (parts_at all request i inside is) few)

pub plays_on_at : (stop : ℕ) (old new : Keeper DiskValue) (all : List Message) (request : Message) (i : ℕ) (before output : List ℕ) → i < length all
    → request ≡ get_or all i request → All IsRequest all → length (frames_of all) ≤ MAX_INPUT → IsPlayed stop old (take i all) before
    → GoesOn old new request before output → IsPlayed stop new (take (i + 1) all) output
plays_on_at stop old new all request i before output inside is each few played goes =
    subst (λ (l : List Message). IsPlayed stop new l output) (sym (next_at all request i inside is))
    (plays_on stop old new (take i all) request before output played (known_at all request i inside is each)
    (frame_within all (take i all) request (drop (i + 1) all) (parts_at all request i inside is) few) goes)
