-- The printed form of a cause.
use Rattle.std.specs.Prelude.{ℕ, List, codes}
use Rattle.hy_base.specs.declared.fault.Cause.{Cause}
use Rattle.hy_base.specs.declared.fault.Cause.TheVariants as cause

-- the word by which a fault tells its cause
abbrev pub cause_word : Cause → List ℕ
cause_word cause.NoHeader = codes "NoHeader"
cause_word cause.BadParams = codes "BadParams"
cause_word cause.BadWord = codes "BadWord"
cause_word cause.BadNumber = codes "BadNumber"
cause_word cause.BadHex = codes "BadHex"
cause_word cause.BadKey = codes "BadKey"
cause_word cause.LongValue = codes "LongValue"
cause_word cause.Extra = codes "Extra"
cause_word cause.TooManyOpen = codes "TooManyOpen"
cause_word cause.TooManyLines = codes "TooManyLines"
cause_word cause.NoLineEnd = codes "NoLineEnd"
cause_word cause.NoEnd = codes "NoEnd"
