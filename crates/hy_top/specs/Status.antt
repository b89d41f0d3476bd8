-- The exit status of the program, and the status of a stage that failed.
use Rattle.std.specs.Prelude.{ℕ}
use Rattle.hy_base.specs.declared.fault.TextError.{TextError}
use Rattle.hy_base.specs.declared.fault.TextError.TheVariants as text
use Rattle.hy_base.specs.declared.reading.ReadAllFault.{ReadAllFault}
use Rattle.hy_base.specs.declared.reading.ReadAllFault.TheVariants as reading
use Rattle.hy_drive.specs.declared.fault.DriveFault.{DriveFault}
use Rattle.hy_drive.specs.declared.fault.DriveFault.TheVariants as driving
use Rattle.hy_serve.specs.declared.fault.ServeFault.{ServeFault}
use Rattle.hy_serve.specs.declared.fault.ServeFault.TheVariants as serving
use Rattle.hy_top.specs.declared.status.Status.{Status}
use Rattle.hy_top.specs.declared.status.Status.TheVariants.{Done, BadInput, BadWords, NotYet, ReadFault, WriteFault, NetFault, NoMemory, TooLong, Illegal, Exhausted, TooLarge, SessionsFull, BadFrames}

-- the number by which the program tells its status
abbrev pub exit_code : Status → ℕ
exit_code Done = 0
exit_code (BadInput fault) = 1
exit_code BadWords = 2
exit_code (NotYet have need) = 3
exit_code ReadFault = 4
exit_code WriteFault = 5
exit_code NetFault = 6
exit_code NoMemory = 7
exit_code TooLong = 8
exit_code (Illegal key verdict) = 9
exit_code (Exhausted stamp) = 10
exit_code (TooLarge size) = 11
exit_code SessionsFull = 12
exit_code (BadFrames place) = 13

-- the status where an input could not be read to its end
abbrev pub status_of_reading : ReadAllFault → Status
status_of_reading reading.ReadFault = ReadFault
status_of_reading reading.TooLong = TooLong
status_of_reading reading.NoMemory = NoMemory

-- the status where a text could not be read
abbrev pub status_of_text : TextError → Status
status_of_text (text.Fault fault) = BadInput fault
status_of_text text.NoMemory = NoMemory

-- the status where a server ended before its time
abbrev pub status_of_serving : ServeFault → Status
status_of_serving serving.NetFault = NetFault
status_of_serving serving.NoMemory = NoMemory

-- the status where a client over a net ended without a reply
abbrev pub status_of_driving : DriveFault → Status
status_of_driving driving.NetFault = NetFault
status_of_driving driving.SessionsFull = SessionsFull
status_of_driving (driving.TooLarge size) = TooLarge size
status_of_driving (driving.NotYet have need) = NotYet have need
status_of_driving driving.NoMemory = NoMemory
