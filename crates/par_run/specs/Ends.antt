-- How a run ends.
use Rattle.std.specs.Prelude.{Bool, true, false}
use Rattle.par_run.specs.declared.ends.ParStop.{ParStop}
use Rattle.par_run.specs.declared.ends.ParStop.TheVariants.{Done, DiskFault}

-- the disk failed at an event
abbrev pub is_disk_fault : ParStop → Bool
is_disk_fault DiskFault = true
is_disk_fault other = false

-- the end of a run, by whether the store has stopped
abbrev pub stop_by : Bool → ParStop
stop_by true = DiskFault
stop_by false = Done
