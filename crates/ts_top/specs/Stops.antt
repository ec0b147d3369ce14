-- Why printing stops.
use Rattle.std.specs.Prelude.{Bool, true, false, Result, Ok, Err}
use Rattle.ts_top.specs.declared.endings.Status.{Status}
use Rattle.ts_top.specs.declared.endings.Status.TheVariants as status
use Rattle.ts_top.specs.declared.prints.PrintStop.{PrintStop}
use Rattle.ts_top.specs.declared.prints.PrintStop.TheVariants.{WriteFault, NoMemory}

abbrev pub is_fault : PrintStop → Bool
is_fault WriteFault = true
is_fault NoMemory = false

-- a write failed
abbrev pub failed_writing : {T : Type 0} → Result T PrintStop → Bool
failed_writing (Ok done) = false
failed_writing (Err stop) = is_fault stop

-- how a call ends after printing ended like this
abbrev pub status_of_print : {T : Type 0} → Result T PrintStop → Status
status_of_print (Ok done) = status.Done
status_of_print (Err WriteFault) = status.WriteFault
status_of_print (Err NoMemory) = status.NoMemory

-- how the call ends, by whether its summary was written
abbrev pub status_of_shown : {T E : Type 0} → Result T E → Status
status_of_shown (Ok done) = status.Done
status_of_shown (Err failed) = status.WriteFault
