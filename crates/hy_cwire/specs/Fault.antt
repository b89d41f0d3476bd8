-- The status that tells a fault.
use Rattle.std.specs.Prelude.{ℕ}
use Rattle.hy_cwire.specs.declared.fault.HttpFault.{HttpFault}
use Rattle.hy_cwire.specs.declared.fault.HttpFault.TheVariants.{HeadTooLong, NotHead, BadMethod, BadTarget, Coding, LengthTwice, NoLength, BodyTooLong, Cut, NoMemory}

-- what is not implemented, what lacks a length, what is too large, and every other bad request
abbrev pub status_of : HttpFault → ℕ
status_of HeadTooLong = 400
status_of (NotHead size) = 400
status_of BadMethod = 501
status_of BadTarget = 400
status_of Coding = 501
status_of LengthTwice = 400
status_of NoLength = 411
status_of (BodyTooLong size) = 413
status_of (Cut have want) = 400
status_of NoMemory = 400
