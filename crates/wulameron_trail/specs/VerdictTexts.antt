-- The line of what a log is.
use Rattle.std.specs.Prelude.{ℕ, List, ◌++◌, codes, decimal}
use Rattle.iceoryx2_file_log.specs.declared.header.HeaderError.TheVariants as header
use Rattle.wulameron_trail.specs.declared.checker.Ending.{Ending}
use Rattle.wulameron_trail.specs.declared.checker.Ending.TheVariants as ending
use Rattle.wulameron_trail.specs.declared.checker.LogFault.{LogFault}
use Rattle.wulameron_trail.specs.declared.checker.LogFault.TheVariants as wrong
use Rattle.wulameron_trail.specs.declared.checker.Found.{Found}
use Rattle.wulameron_trail.specs.declared.checker.Verdict.{Verdict}
use Rattle.wulameron_trail.specs.declared.checker.Verdict.TheVariants as verdict

-- what stands after the entries
abbrev pub ending_text : Ending → List ℕ
ending_text ending.Whole = codes "\n"
ending_text (ending.Torn n) =
    codes "; then " ++ (decimal n ++ codes " bytes of a writer that died; the next writer cuts them off\n")
ending_text ending.Moved = codes "; the log goes on in another file: check the one that has its path now\n"

-- what is wrong
abbrev pub wrong_text : LogFault → List ℕ
wrong_text (wrong.BadHeader header.NotALog) = codes "this is no log"
wrong_text (wrong.BadHeader (header.AnotherVersion found)) = codes "this is a log of version " ++ decimal found
wrong_text (wrong.BadHeader header.Damaged) = codes "the header is damaged"
wrong_text wrong.DamagedEntry = codes "the entry is damaged"
wrong_text wrong.NotAnswered = codes "the entry doesn't follow from the entries before it"
wrong_text wrong.ShortSnapshot = codes "the snapshot is shorter than its header says"
wrong_text wrong.MarkNotLast = codes "bytes follow the mark that ends this file"

-- what can be done about it
abbrev pub remedy : LogFault → List ℕ
remedy (wrong.BadHeader header.NotALog) = codes "name another file"
remedy (wrong.BadHeader (header.AnotherVersion found)) = codes "use a program of that version"
remedy (wrong.BadHeader header.Damaged) = codes "begin another log"
remedy wrong.DamagedEntry = codes "begin another log"
remedy wrong.NotAnswered = codes "see which program wrote it, and begin another log"
remedy wrong.ShortSnapshot = codes "begin another log"
remedy wrong.MarkNotLast = codes "check the file that has its path now; if it is this one, begin another log"

-- the line of the first thing that is wrong
abbrev pub found_line : Found → List ℕ
found_line f =
    codes "wrong at byte " ++ (decimal f.byte ++ (codes ", entry " ++ (decimal f.place
    ++ (codes ": " ++ (wrong_text f.wrong ++ (codes "; " ++ (remedy f.wrong ++ codes "\n")))))))

abbrev pub verdict_line : Verdict → List ℕ
verdict_line (verdict.Sound s) =
    codes "sound: " ++ (decimal s.entries ++ (codes " entries, " ++ (decimal s.end
    ++ (codes " bytes" ++ ending_text s.ending))))
verdict_line (verdict.Wrong f) = found_line f
