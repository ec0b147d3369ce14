-- How the top call ends.
use Rattle.std.specs.Prelude.{ℕ, Bool, true, false}
use Rattle.script_run.specs.declared.ends.RunEnd.{RunEnd}
use Rattle.script_run.specs.declared.ends.RunEnd.TheVariants as ends
use Rattle.ts_top.specs.declared.endings.Status.{Status}
use Rattle.ts_top.specs.declared.endings.Status.TheVariants.{Done, Refused, BadWords, ReadFault, WriteFault, DiskFault, Damaged, NoMemory, InputLong}

-- the exit status of a program that ends like this
abbrev pub exit_status : Status → ℕ
exit_status Done = 0
exit_status Refused = 1
exit_status BadWords = 2
exit_status ReadFault = 3
exit_status WriteFault = 4
exit_status DiskFault = 5
exit_status (Damaged at) = 6
exit_status NoMemory = 7
exit_status InputLong = 8

-- how a call that answered all lines ends, by whether a reply is a FAULT
abbrev pub status_answered : Bool → Status
status_answered true = Refused
status_answered false = Done

-- how the call ends after its script ended like this
abbrev pub status_of : RunEnd → Status
status_of ends.Done = Done
status_of ends.Refused = Refused
status_of ends.ReadFault = ReadFault
status_of ends.WriteFault = WriteFault
status_of ends.DiskFault = DiskFault
status_of ends.NoMemory = NoMemory
status_of ends.InputLong = InputLong

-- ---- the object whose count of faults rose

-- the source
abbrev pub is_read_fault : Status → Bool
is_read_fault ReadFault = true
is_read_fault other = false

-- the sink
abbrev pub is_write_fault : Status → Bool
is_write_fault WriteFault = true
is_write_fault other = false

-- the disk
abbrev pub is_disk_fault : Status → Bool
is_disk_fault DiskFault = true
is_disk_fault other = false
