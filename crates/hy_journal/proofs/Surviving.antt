-- What is opened after a crash at any moment.
use Rattle.std.proofs.Common.{◌≡◌, inl, inr, ℕ, ◌<◌, ◌≤◌, List, ◌++◌, length, sym, subst, arith}
use Rattle.hy_journal.specs.declared.limits.TheConstants.{MAX_JOURNAL}
use Rattle.hy_journal.specs.declared.entry.Entry.{Entry}
use Rattle.hy_journal.specs.declared.fault.OpenFault.{OpenFault}
use Rattle.hy_journal.specs.declared.fault.OpenFault.TheVariants as faults
use Rattle.hy_journal.specs.File.{IsNew, Recovers, IsBadAt, HasOrLacks, Holds, IsWithOrWithout}
use Rattle.hy_journal.specs.Keeper.{OpenCause, OpenLeaves, IsOutside}
use Rattle.hy_journal.proofs.Blocks.{recovers_new, recovers_empty}

module _ (one : (file : List ℕ) (a b : List Entry) → Recovers a file → Recovers b file → a ≡ b)
    (sound : (file : List ℕ) (a : List Entry) (place : ℕ) → Recovers a file → IsBadAt file place → ⊥)
    (short : (file : List ℕ) (a : List Entry) → Recovers a file → length file ≤ MAX_JOURNAL) where
  pub finds_one : (file : List ℕ) (entries more found : List Entry) → HasOrLacks entries more file → Recovers found file → IsWithOrWithout entries more found
  finds_one file entries more found (inl without) is = inl (one file found entries is without)
  finds_one file entries more found (inr with_more) is = inr (one file found (entries ++ more) is with_more)

  not_long : (file : List ℕ) (entries : List Entry) (size : ℕ) → Recovers entries file → size ≡ length file → MAX_JOURNAL < size → ⊥
  not_long file entries size is same long = let within = short file entries is in omega arith

  cause_of : (file : List ℕ) (entries : List Entry) (fault : OpenFault) → Recovers entries file → OpenCause file fault → IsOutside fault
  cause_of file entries (faults.TooLong size) is why = absurd (not_long file entries size is why.0 why.1)
  cause_of file entries (faults.BadEntry place) is why = absurd (sound file entries place is why)
  cause_of file entries faults.DiskFault is why = tt
  cause_of file entries faults.NoMemory is why = tt

  pub outside : (file : List ℕ) (entries more : List Entry) (fault : OpenFault) → HasOrLacks entries more file → OpenCause file fault → IsOutside fault
  outside file entries more fault (inl without) why = cause_of file entries fault without why
  outside file entries more fault (inr with_more) why = cause_of file (entries ++ more) fault with_more why

new_too : (entries : List Entry) (found c : List ℕ) → Recovers entries found → IsNew found → IsNew c → Recovers entries c
new_too entries found c is new too = subst (λ (l : List Entry). Recovers l c) (sym (recovers_empty entries found new is)) (recovers_new c too)

pub leaves_these : (entries more : List Entry) (found : List ℕ) (files : List ℕ → Type 0) → Holds entries more files → files found → (c : List ℕ)
    → OpenLeaves found files c → HasOrLacks entries more c
leaves_these entries more found files holds held c (inl left) = holds c left
leaves_these entries more found files holds held c (inr new) = either (holds found held)
  where
    either : HasOrLacks entries more found → HasOrLacks entries more c
    either (inl without) = inl (new_too entries found c without new.1 new.0)
    either (inr with_more) = inr (new_too (entries ++ more) found c with_more new.1 new.0)
