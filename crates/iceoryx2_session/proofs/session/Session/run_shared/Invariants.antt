use Rattle.std.proofs.Common.{◌≡◌, ◌+◌, ◌≤◌, ◌++◌, length, vec_len, vec_capacity}
use Rattle.std.specs.Vec.Iter.{into_iter_items, into_iter_len}
use Rattle.iceoryx2_session.specs.Sessions.{AppliesBy}
use Rattle.iceoryx2_session.specs.SessionStates.{own_state}
use Rattle.iceoryx2_session.specs.CommandLists.{CarriesOut}
use Rattle.iceoryx2_session.proofs.session.Session.run_shared.Given as goal

abbrev pub invariant-loop-command : goal.invariant-loop-command
invariant-loop-command g l = record {
  so_far : CarriesOut (AppliesBy g.S.Storage.step g.S.WorldStorage.world) (own_state l.fn.self) l.yielded l.replies.items (own_state l.self);
  in_order : l.yielded ++ into_iter_items l.command-iterator ≡ into_iter_items l.initial.command-iterator;
  left : into_iter_len l.command-iterator ≡ length (into_iter_items l.command-iterator);
  room : vec_len l.replies + into_iter_len l.command-iterator ≤ vec_capacity l.replies;
}
