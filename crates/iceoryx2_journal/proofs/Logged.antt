-- An own part that is written down before it changes anything, and one that changes nothing for others.
use Rattle.std.proofs.Common.{◌≡◌, true, Option, Some, sym, ap, subst, ◌∙◌}
use Rattle.iceoryx2_access.specs.Letter.{Letter}
use Rattle.iceoryx2_access.specs.Letter as letter
use Rattle.iceoryx2_world.specs.World.{World}
use Rattle.iceoryx2_world.specs.Access.{IsOwnPart}
use Rattle.iceoryx2_table.specs.Recorded.{IsRecordedPart, untouched, recorded, is_written}
use Rattle.iceoryx2_table.specs.Recorded as table
use Rattle.iceoryx2_log.specs.declared.entry.Entry.{Entry}
use Rattle.iceoryx2_log.specs.Log.{Contents, WhereKnown, Appends}
use Rattle.iceoryx2_journal.specs.declared.log_recorder.LogRecorder.{LogRecorder}
use Rattle.iceoryx2_journal.specs.LogRecorder.{Appended, NotAppended}
use Rattle.iceoryx2_journal.specs.Follow.{IsEntryOf}
use Rattle.iceoryx2_journal.specs.Logged.{ReadsAtMost, IsLoggedPart, unwritten, written, declined}

reads_at_most : (l : Letter) {w v : World} → v ≡ w → ReadsAtMost l w v
reads_at_most (letter.Fetch i h a) same = tt
reads_at_most l same = same

module _ {L : Type 0} {contents : L → Option Contents} {w v : World} {l : Letter} {g d : L} where
  -- what is written, with the entry that the recorder had
  pub wrote : {before after : LogRecorder L} (e : Entry) → before.entry ≡ Some e → before.log ≡ g
      → (IsOwnPart w l v → is_written w l ≡ true → IsEntryOf e l)
      → IsRecordedPart (Appended contents) (NotAppended contents) w l v before after
      → contents d ≡ contents after.log → IsLoggedPart contents w l v g d
  wrote e next still is_entry (untouched isnt part same stays) kept =
      unwritten isnt part (reads_at_most l same) (kept ∙ ap (λ (p : LogRecorder L). contents p.log) stays ∙ ap contents still)
  wrote {before} {after} e next still is_entry (recorded holds part appended) kept =
      let same : appended.entry ≡ e = cc in
      written appended.entry holds part (subst (λ x. IsEntryOf x l) (sym same) (is_entry part holds))
      (subst (λ k. WhereKnown (Appends appended.entry) (contents g) k) (sym kept)
      (subst (λ k. WhereKnown (Appends appended.entry) (contents k) (contents after.log)) still appended.appends))
  wrote e next still is_entry (table.declined fault same refused) kept = declined fault same (kept ∙ refused ∙ ap contents still)
