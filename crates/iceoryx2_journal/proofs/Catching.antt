-- What catching up comes to, where a log goes on elsewhere.
use Rattle.std.proofs.Common.{◌≡◌, ℕ, List, [], ◌∷◌, ◌++◌, Option, None, refl, sym, subst}
use Rattle.iceoryx2_access.proofs.Run.{one, both}
use Rattle.iceoryx2_world.specs.World.{World}
use Rattle.iceoryx2_log.specs.declared.entry.Entry.{Entry}
use Rattle.iceoryx2_log.specs.Log.{Contents}
use Rattle.iceoryx2_journal.specs.declared.taking.Stop.{Stop}
use Rattle.iceoryx2_journal.specs.declared.taking.Stop.TheVariants as stop
use Rattle.iceoryx2_journal.specs.Follow.{IsFollowed}
use Rattle.iceoryx2_journal.specs.Snapshot.{IsSnapshot}
use Rattle.iceoryx2_journal.specs.Taking.{Stops, unread, starved, own, disagrees, astray}

-- Nothing changes, for whatever reason, in a log whose contents aren't known.
pub stops_anyhow : (nodes : List ℕ) (w : World) (s : Stop) → Stops nodes None w s w
stops_anyhow nodes w stop.Later = unread refl refl
stops_anyhow nodes w stop.Moved = unread refl refl
stops_anyhow nodes w stop.Over = astray refl refl refl

pub moved_same : {nodes : List ℕ} {c : Option Contents} {w v : World} (s : Stop) → s ≡ stop.Moved → Stops nodes c w s v → v ≡ w
moved_same s moved (unread is same) = same
moved_same s moved (starved e is front f p) = absurd (cc)
moved_same s moved (own e is front f same) = absurd (cc)
moved_same s moved (disagrees e is front f a) = absurd (cc)
moved_same s moved (astray is unknown same) = same

-- ---- a snapshot

pub written_more : {n : ℕ} {es fs : List Entry} {w v : World} → IsSnapshot n es w → ((e : Entry) × IsFollowed w e v × (fs ≡ es ++ e ∷ [])) → IsSnapshot n fs v
written_more {n} {v = v} s x = subst (λ es. IsSnapshot n es v) (sym x.2) (both s (one x.1))
