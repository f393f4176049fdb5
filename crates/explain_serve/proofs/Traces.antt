-- The accesses of a command, as a trace keeps them.
use Rattle.std.proofs.Common.{◌≡◌, ℕ, ◌+◌, ◌-◌, ◌^◌, ◌≤◌, min, List, [], ◌∷◌, ◌++◌, Option, Result, length, map, drop, length-append, length-drop, refl, sym, ap, subst, ◌∙◌, arith}
use Rattle.std.proofs.lemmas.List.{drop-drop, drop-append-le, length-map}
use Rattle.iceoryx2_access.specs.Letter.{Letter}
use Rattle.iceoryx2_access.specs.Registered.{Registered}
use Rattle.iceoryx2_description.specs.declared.config.Config.{Config}
use Rattle.iceoryx2_rounds.specs.BuilderCalls.{Way, ToCreate, ToOpen, ToOpenOrCreate}
use Rattle.iceoryx2_call_laws.specs.AnyCalls.{IsShortBy}
use Rattle.iceoryx2_call_laws.proofs.calls.AnyCalls.{each_is_short}
use Rattle.iceoryx2_call_laws.proofs.calls.Words.{close_is_short}
use Rattle.iceoryx2_testing.specs.Entries.{entry_of}
use Rattle.iceoryx2_testing.specs.Trace.{IsTracedAccess, TracedState, latest}
use Rattle.iceoryx2_testing.proofs.TraceRuns.{latest_entries, bound, same_room, total}
use Rattle.iceoryx2_builder.specs.declared.command.Command.{Command}
use Rattle.iceoryx2_builder.specs.declared.command.Command.TheVariants as command
use Rattle.iceoryx2_errors.specs.declared.refusal.Refusal.{Refusal}
use Rattle.iceoryx2_builder.specs.declared.command.Reply.{Reply}
use Rattle.iceoryx2_builder.specs.declared.command.Reply.TheVariants as reply
use Rattle.iceoryx2_session.proofs.Shown.{goes_along}
use Rattle.iceoryx2_session.specs.CommandWords.{IsBuilderWord, IsCommandWord, AppliesAlong, SpansTraced}
use Rattle.iceoryx2_session.specs.PatternCalls.{PatternCall}
use Rattle.iceoryx2_session.specs.Patterns.{builder_call}
use Rattle.iceoryx2_session.specs.Sessions.{AppliesBy}
use Rattle.iceoryx2_world.specs.World.{World}
use Rattle.explain_serve.specs.Traces.{TracedOver, HasItsRoom, AppliesTracedBy}

module _ {A : Type 0} where
  -- of the latest ones the last ones are those that came last
  latest_of_latest : (n : ℕ) (xs ys : List A) → length ys ≤ n → latest (length ys) (latest n (xs ++ ys)) ≡ ys
  latest_of_latest n xs ys fits =
      let whole = length-append xs ys in
      let cut = length (xs ++ ys) - n in
      let left = length-drop cut (xs ++ ys) in
      let again : cut + (length (drop cut (xs ++ ys)) - length ys) ≡ length xs = omega (arith, whole, left, fits) in
      drop-drop (length (drop cut (xs ++ ys)) - length ys) cut (xs ++ ys)
      ∙ ap (λ k. drop k (xs ++ ys)) again ∙ drop-append-le (length xs) xs ys (omega arith) ∙ ap (λ l. l ++ ys) (drop_own xs)
    where
      drop_own : (l : List A) → drop (length l) l ≡ []
      drop_own [] = refl
      drop_own (x ∷ l) = drop_own l

-- no call makes more accesses than an open or create
longest : (way : Way) (w : List Letter) → IsShortBy way w → length w ≤ 264
longest ToCreate w s = omega (arith, s.few_accesses)
longest ToOpen w s = omega (arith, s.few_accesses)
longest ToOpenOrCreate w s = s.few_accesses

builder_short : (b : PatternCall) (answer : Result Registered Refusal) (w : List Letter) → IsBuilderWord b answer w → length w ≤ 264
builder_short b answer w is = longest b.call.way w (each_is_short b.call b.call.way w is.0 is.2)

no_access : (w : List Letter) → w ≡ [] → length w ≤ 264
no_access w is = omega (arith, ap length is)

-- so no command does
word_short : (config : Config) (slots : List (Option Registered)) (c : Command) (r : Reply) (w : List Letter) → IsCommandWord config slots c r w → length w ≤ 264
word_short config slots (command.Call call) (reply.Opened slot number) w is = builder_short (builder_call config call) _ w is.2
word_short config slots (command.Call call) (reply.Refused refused) w is = builder_short (builder_call config call) _ w is
word_short config slots (command.Close slot) (reply.Closed same) w is = let few = close_is_short _ _ _ is.2.2 in omega (arith, few.few_accesses)
word_short config slots (command.Close slot) (reply.NotClosed same) w is = let few = close_is_short _ _ _ is.2 in omega (arith, few.few_accesses)
word_short config slots _ _ w is = no_access w is

made_is : (before after n : ℕ) → before + n ≤ 2 ^ 64 - 1 → after ≡ min (before + n) (2 ^ 64 - 1) → after - before ≡ n
made_is before after n fits is = omega (arith, fits, is)

module _ {S : Type 0} (step : S → Letter → S → Type 0) (world : S → World) (old new : TracedOver S) (c : Command) (r : Reply) (room : HasItsRoom old.table)
    (along : AppliesAlong (IsTracedAccess step) old c r new) where
  pub goes_traced : AppliesBy (IsTracedAccess step) (λ traced. world traced.inner) old c r new → AppliesTracedBy step world old c r new
  goes_traced goes = record {
    goes = goes;
    word = along.word;
    is_word = along.is_word;
    run = along.run;
    short = word_short old.config old.slots c r along.word along.is_word;
    made = λ fits. made_is old.table.total new.table.total (length along.word) fits (total along.run (omega (arith, fits)));
    kept =
        let same = length-map along.word entry_of in
        let fits = word_short old.config old.slots c r along.word along.is_word in
        ap (latest (length along.word)) (latest_entries along.run (omega (arith, room.room, room.kept)))
        ∙ ap (λ n. latest n (latest old.table.room (old.table.entries ++ map entry_of along.word))) (sym same)
        ∙ latest_of_latest old.table.room old.table.entries (map entry_of along.word) (omega (arith, room.room, fits, same));
  }

  pub still_room : HasItsRoom new.table
  still_room = record {
    room = same_room along.run ∙ room.room;
    kept = let within = bound along.run (omega (arith, room.room, room.kept)) in omega (arith, same_room along.run, room.room, within);
  }

-- ---- between two commands

module _ {S : Type 0} (changes : S → S → Type 0) (old new : TracedState S) (s : SpansTraced changes old new) where
  -- what the storage inside does leaves the trace with its room
  pub room_kept_by : HasItsRoom old → HasItsRoom new
  room_kept_by room = subst (λ (t : TracedState S). HasItsRoom t) (sym s.0) (record { room = room.room; kept = room.kept })

  -- and is no access
  pub total_kept_by : new.total ≡ old.total
  total_kept_by = ap (λ (t : TracedState S). t.total) s.0

-- A command leaves it with its room.
pub room_after : {S : Type 0} (step : S → Letter → S → Type 0) (world : S → World) (first last : TracedOver S) (c : Command) (answer : Reply)
    → AppliesBy (IsTracedAccess step) (λ traced. world traced.inner) first c answer last → HasItsRoom first.table → HasItsRoom last.table
room_after step world first last c answer applies room = still_room step world first last c answer room (goes_along applies)
