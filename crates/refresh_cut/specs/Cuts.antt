-- The effect of a cut on the logs of all aggregates of a table.
use Rattle.std.specs.Prelude.{List}
use Rattle.std.specs.List.{AllZip}
use Rattle.inval_log.specs.declared.entries.Entry.{Entry}
use Rattle.mat_log.specs.Logs.{LogValue}
use Rattle.mat_log.specs.Feeding.{IsFed}

-- every entry was fed to every one of the logs
abbrev pub AreFed : List Entry → List LogValue → List LogValue → Type 0
AreFed entries olds news = AllZip (IsFed entries) olds news
