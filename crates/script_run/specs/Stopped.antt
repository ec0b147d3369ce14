-- How a run ends, by the reason for its stop.
use Rattle.std.specs.Prelude.{Bool, true, false}
use Rattle.script_run.specs.declared.ends.RunEnd.{RunEnd}
use Rattle.script_run.specs.declared.ends.RunEnd.TheVariants as ends
use Rattle.script_run.specs.declared.scripts.ScriptStop.{ScriptStop}
use Rattle.script_run.specs.declared.scripts.ScriptStop.TheVariants.{WriteFault, DiskFault, NoMemory}

-- the end of a run that stopped at a line
abbrev pub end_of_stop : ScriptStop → RunEnd
end_of_stop WriteFault = ends.WriteFault
end_of_stop DiskFault = ends.DiskFault
end_of_stop NoMemory = ends.NoMemory

-- the end of a run that executed its whole input, by whether a reply is a FAULT
abbrev pub end_of_input : Bool → RunEnd
end_of_input true = ends.Refused
end_of_input false = ends.Done
