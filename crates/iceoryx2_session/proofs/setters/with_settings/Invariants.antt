use Rattle.std.specs.Vec.Iter.{into_iter_items, into_iter_len}
use Rattle.iceoryx2_session.proofs.TakenSetters.{TakesSettings}
use Rattle.iceoryx2_session.proofs.setters.with_settings.Given as goal

abbrev pub invariant-loop-setting : goal.invariant-loop-setting
invariant-loop-setting g l = TakesSettings g.B.HasSetters.with_setting l.fn.builder (into_iter_items l.initial.setting-iterator) l.yielded (into_iter_items l.setting-iterator) (into_iter_len l.setting-iterator) l.builder
