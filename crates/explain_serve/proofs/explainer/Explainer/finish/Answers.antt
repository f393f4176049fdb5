use Rattle.std.proofs.Common.{sym, subst}
use Rattle.negotiate_serve.specs.Served.{HasNothing}
use Rattle.explain_serve.proofs.explainer.Explainer.finish.Goals as goal

pub returns : goal.returns
returns c =
    let shows = c.requires.1.shows in
    subst HasNothing (sym c.into_inner.ensures) (record {
      services = c.finish.ensures.empty c.requires.0.services shows.quiet shows.stand shows.owns;
      tickets = c.finish.ensures.no_tickets shows.quiet.agrees shows.stand shows.owns;
    })
