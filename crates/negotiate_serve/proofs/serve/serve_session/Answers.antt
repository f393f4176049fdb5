use Rattle.std.proofs.Common.{ap}
use Rattle.iceoryx2_world.specs.Tables.{TableState}
use Rattle.iceoryx2_session.specs.SessionStates.{own_state}
use Rattle.negotiate_serve.specs.Transcripts.{first_machine}
use Rattle.negotiate_serve.proofs.Shown.{shows_first, serves_as_machine}
use Rattle.negotiate_serve.proofs.serve.serve_session.Goals as goal

pub serve_by-ended-requires : goal.serve_by-ended-requires
serve_by-ended-requires g c =
    let made = c.new-table.ensures.state in (
      first_machine,
      shows_first (own_state c.new-session.result) c.default-config.result c.new-table.result c.new-session.ensures.state c.default-config.ensures c.new-session.ensures.stands
          (c.new-session.ensures.fresh 0 (ap (λ (t : TableState). t.world) made) (ap (λ (t : TableState). t.waiting) made)),
    )

pub returns-clause-serves : goal.returns-clause-serves
returns-clause-serves g c = λ bytes known.
    let made = c.new-table.ensures.state in
    let served = c.serve_by-ended.ensures.serves bytes known in
    let shows = shows_first (own_state c.new-session.result) c.default-config.result c.new-table.result c.new-session.ensures.state c.default-config.ensures c.new-session.ensures.stands
    (c.new-session.ensures.fresh 0 (ap (λ (t : TableState). t.world) made) (ap (λ (t : TableState). t.waiting) made)) in
    (served.0, serves_as_machine c.new-session.result c.serve_by-ended.result bytes served.0 (g.W.Write.contents c.args.output.now) (g.W.Write.contents c.serve_by-ended.new.output) shows served.1)

pub returns-clause-finished : goal.returns-clause-finished
returns-clause-finished g c =
    let m = c.serve_by-ended.ensures.stands.0 in
    let shows = c.serve_by-ended.ensures.stands.1 in
    record {
      services = c.finish.ensures.empty m.services shows.quiet shows.stand shows.owns;
      tickets = c.finish.ensures.no_tickets shows.quiet.agrees shows.stand shows.owns;
    }
