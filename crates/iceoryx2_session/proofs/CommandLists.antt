-- Commands one after the other, over any table and over one that nobody else uses.
use Rattle.std.proofs.Common.{◌≡◌, ℕ, Bool, List, [], ◌∷◌, ◌++◌, refl, sym, subst, ◌∙◌}
use Rattle.iceoryx2_access.specs.Letter.{Letter}
use Rattle.iceoryx2_access.specs.Run.{Each}
use Rattle.iceoryx2_description.specs.declared.config.Config.{Config}
use Rattle.iceoryx2_world.specs.Agreement.{Agrees}
use Rattle.iceoryx2_world.specs.World.{World}
use Rattle.iceoryx2_call_laws.specs.Quiet.{Quiet}
use Rattle.iceoryx2_call_laws.proofs.quiet.Same.{tags_counted}
use Rattle.iceoryx2_builder.specs.declared.command.Command.{Command}
use Rattle.iceoryx2_builder.specs.declared.command.Reply.{Reply}
use Rattle.iceoryx2_session.specs.Sessions.{SessionOver, SessionState, Applies, AppliesBy, AppliesInWorld}
use Rattle.iceoryx2_session.specs.Sessions as goes
use Rattle.iceoryx2_session.specs.CommandLists.{CarriesOut, none, first}
use Rattle.iceoryx2_session.specs.StandingSlots.{AppliesStanding, SlotsStand, OwnsTickets, IsOfOwn, AppliesStandingInWorld, SlotsStandInWorld, OwnsTicketsInWorld}
use Rattle.iceoryx2_session.specs.QuietSessions.{IsQuiet, IsMoved, QuietState, MovesTogether, AreMoved, RepliesNoChange, IsUnchanged}
use Rattle.iceoryx2_session.proofs.StandingSlots.{applies_standing, agree_in_world, standing_in_world}
use Rattle.iceoryx2_session.proofs.QuietSessions.{moved, itself, unchanged_by}
use Rattle.iceoryx2_session.proofs.OwnedTickets.{table_owns, owns_in_world}

-- one more command after those
pub one_more : {S C A : Type 0} {step : S → C → A → S → Type 0} {u v w : S} {commands : List C} {replies : List A} {c : C} {a : A}
    → CarriesOut step u commands replies v → step v c a w → CarriesOut step u (commands ++ c ∷ []) (replies ++ a ∷ []) w
one_more none s = first s none
one_more (first s rest) t = first s (one_more rest t)

-- commands that each go in a further way from a state with a property, and keep that
pub carried_where : {S C A : Type 0} {step also : S → C → A → S → Type 0} (P : S → Type 0)
    → ((s n : S) (c : C) (a : A) → step s c a n → P s → also s c a n × P n) → {s n : S} {commands : List C} {replies : List A}
    → CarriesOut step s commands replies n → P s → CarriesOut also s commands replies n × P n
carried_where P each none p = (none, p)
carried_where P each (first {old = s} {mid = m} {c = c} {a = a} one rest) p =
    let now = each s m c a one p in
    let later = carried_where P each rest now.1 in
    (first now.0 later.0, later.1)

-- commands that are each such go so
with_each : {S C A : Type 0} {step : S → C → A → S → Type 0} {Q : C → Type 0} {s n : S} {commands : List C} {replies : List A}
    → CarriesOut step s commands replies n → Each Q commands → CarriesOut (λ u c a v. step u c a v × Q c) s commands replies n
with_each none each = none
with_each (first one rest) each = first (one, each.0) (with_each rest each.1)

-- ---- over a world

config_stays : {S : Type 0} {step : S → Letter → S → Type 0} {world : S → World} {s n : SessionOver S} {c : Command} {a : Reply} → AppliesBy step world s c a n → n.config ≡ s.config
config_stays (goes.call_past le) = refl
config_stays (goes.call_taken e) = refl
config_stays (goes.called f free is) = refl
config_stays (goes.refused free is) = refl
config_stays (goes.close_past le) = refl
config_stays (goes.close_empty free) = refl
config_stays (goes.closed f at is) = refl
config_stays (goes.not_closed f at is) = refl
config_stays (goes.listed lists) = refl
config_stays goes.not_listed = refl

pub all_agree_in_world : {own : ℕ → Bool} {s n : SessionOver World} {commands : List Command} {replies : List Reply} → CarriesOut (AppliesInWorld own) s commands replies n
    → Agrees s.table → Agrees n.table
all_agree_in_world {own = own} goes agrees = (carried_where {also = AppliesInWorld own} (λ u. Agrees u.table) (λ s n c a one p. (one, agree_in_world one p)) goes agrees).1

pub all_own_in_world : {own : ℕ → Bool} {s n : SessionOver World} {commands : List Command} {replies : List Reply} → CarriesOut (AppliesInWorld own) s commands replies n
    → Agrees s.table → OwnsTicketsInWorld own s → OwnsTicketsInWorld own n
all_own_in_world {own = own} goes agrees owned =
    (carried_where {also = AppliesInWorld own} (λ u. Agrees u.table × OwnsTicketsInWorld own u)
    (λ s n c a one p. (one, (agree_in_world one p.0, owns_in_world one p.0 p.1))) goes (agrees, owned)).1.1

-- the slots stand in a world that agrees, and the nodes are configured so
abbrev StandsConfigured : (own : ℕ → Bool) → Config → SessionOver World → Type 0
StandsConfigured own config s = Agrees s.table × SlotsStandInWorld own s × (s.config ≡ config)

pub all_stand_in_world : {own : ℕ → Bool} {s n : SessionOver World} {commands : List Command} {replies : List Reply} → CarriesOut (AppliesInWorld own) s commands replies n
    → Agrees s.table → SlotsStandInWorld own s → Each (IsOfOwn own s.config) commands
    → CarriesOut (AppliesStandingInWorld own) s commands replies n × SlotsStandInWorld own n
all_stand_in_world {own = own} {s = s} goes agrees old mine =
    let all = carried_where {also = AppliesStandingInWorld own} (StandsConfigured own s.config) (λ u v c a one p.
    let after = standing_in_world one.0 (subst (λ k. IsOfOwn own k c) (sym p.2) one.1) p.0 p.1 in
    (after, (after.1, after.2, config_stays one.0 ∙ p.2))) (with_each goes mine) (agrees, old, refl) in
    (all.0, all.1.1)

-- ---- over any table whose world agrees

pub all_stand : {s n : SessionState} {commands : List Command} {replies : List Reply} → CarriesOut Applies s commands replies n
    → Agrees s.table.world → SlotsStand s → CarriesOut AppliesStanding s commands replies n × (Agrees n.table.world × SlotsStand n)
all_stand goes agrees old = carried_where (λ (u : SessionState). Agrees u.table.world × SlotsStand u)
    (λ s n c a one p. let after = applies_standing one p.0 p.1 in (after, (after.0.1, after.0.2))) goes (agrees, old)

pub all_own : {s n : SessionState} {commands : List Command} {replies : List Reply} → CarriesOut AppliesStanding s commands replies n
    → Agrees s.table.world → SlotsStand s → OwnsTickets s → OwnsTickets n
all_own none agrees old owned = owned
all_own (first one rest) agrees old owned = all_own rest one.0.1 one.0.2 (table_owns one.0.0 agrees owned)

-- ---- over a table that nobody else uses

together : (q : Quiet) (s n : SessionState) (c : Command) (a : Reply) → IsQuiet s q → SlotsStand s → Applies s c a n → (m : IsMoved s q c a n)
    → MovesTogether (record { session = s; machine = q }) c a (record { session = n; machine = m.state })
together q s n c a quiet old one m = record { goes = one; moves = m.moves; quiet = m.quiet; unchanged = λ still. unchanged_by q quiet old one still }

pub all_moved : (q : Quiet) {s n : SessionState} {commands : List Command} {replies : List Reply} → IsQuiet s q → SlotsStand s
    → CarriesOut Applies s commands replies n → AreMoved s q commands replies n
all_moved q quiet old (none {s = s}) =
    record { state = q; moves = none; quiet = quiet; tags = λ node hash. tags_counted s.table.world q node hash quiet.shows; configured = refl }
all_moved q {n = n} quiet old (first {old = s} {mid = m} {c = c} {a = a} one rest) =
    let now = moved q quiet old one in
    let after = all_moved now.state now.quiet (applies_standing one quiet.agrees old).0.2 rest in
    let mid : QuietState = record { session = m; machine = now.state } in
    record {
      state = after.state;
      moves = first {mid = mid} (together q s m c a quiet old one now) after.moves;
      quiet = after.quiet;
      tags = after.tags;
      configured = after.configured ∙ now.configured;
    }

then_unchanged : (s m n : SessionState) → IsUnchanged s m → IsUnchanged m n → IsUnchanged s n
then_unchanged s m n a b = record {
  slots = b.slots ∙ a.slots;
  services = record {
    rows = λ h. b.services.rows h ∙ a.services.rows h;
    segments = λ h. b.services.segments h ∙ a.services.segments h;
    tags = λ i h. b.services.tags i h ∙ a.services.tags i h;
    counts = λ i h. b.services.counts i h ∙ a.services.counts i h;
  };
}

pub all_unchanged : (q : Quiet) {s n : SessionState} {commands : List Command} {replies : List Reply} → IsQuiet s q → SlotsStand s
    → CarriesOut Applies s commands replies n → Each RepliesNoChange replies → IsUnchanged s n
all_unchanged q quiet old (none {s = s}) still = itself s
all_unchanged q {n = n} quiet old (first {old = s} {mid = m} one rest) still =
    let now = moved q quiet old one in
    then_unchanged s m n (unchanged_by q quiet old one still.0)
    (all_unchanged now.state now.quiet (applies_standing one quiet.agrees old).0.2 rest still.1)
