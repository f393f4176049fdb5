-- The begin and the end of a call change neither the world nor which nodes are own.
use Rattle.std.proofs.Common.{◌≡◌, ℕ, Bool, ap, sym, subst, ◌∙◌}
use Rattle.iceoryx2_world.specs.World.{World}
use Rattle.iceoryx2_builder.specs.declared.command.Command.{Command}
use Rattle.iceoryx2_builder.specs.declared.command.Reply.{Reply}
use Rattle.iceoryx2_session.specs.CommandWords.{SpansSession}
use Rattle.iceoryx2_session.specs.Sessions.{SessionOver, AppliesInWorld, shown_session}

module _ {S : Type 0} (spans : S → S → Type 0) (world : S → World) (own : S → ℕ → Bool)
    (keeps : (old new : S) → spans old new → (world new ≡ world old) × (own new ≡ own old)) where
  pub own_spanned : (old new : SessionOver S) → SpansSession spans old new → own new.table ≡ own old.table
  own_spanned old new s = (keeps old.table new.table s.changes).1

  abbrev over : SessionOver S → World → SessionOver World
  over s w = record { config = s.config; table = w; slots = s.slots }

  pub shown_spanned : (old new : SessionOver S) → SpansSession spans old new → shown_session world new ≡ shown_session world old
  shown_spanned old new s = ap (λ (x : SessionOver S). shown_session world x) s.same ∙ ap (over old) (keeps old.table new.table s.changes).0

  -- so a command between them goes over the world as by itself
  pub goes_held : (old first last new : SessionOver S) (c : Command) (r : Reply) → SpansSession spans old first
      → AppliesInWorld (own first.table) (shown_session world first) c r (shown_session world last) → SpansSession spans last new
      → AppliesInWorld (own old.table) (shown_session world old) c r (shown_session world new)
  goes_held old first last new c r begins goes ends =
      subst (λ (o : ℕ → Bool). AppliesInWorld o (shown_session world old) c r (shown_session world new)) (own_spanned old first begins)
      (subst (λ (w : SessionOver World). AppliesInWorld (own first.table) w c r (shown_session world new)) (shown_spanned old first begins)
      (subst (λ (w : SessionOver World). AppliesInWorld (own first.table) (shown_session world first) c r w) (sym (shown_spanned last new ends)) goes))
