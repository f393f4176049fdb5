-- What the quiet machine lists.
use Rattle.std.specs.Prelude.{false, List, Some, map}
use Rattle.std.specs.FinMap as finite
use Rattle.iceoryx2_description.specs.declared.description.ServiceHash.{ServiceHash}
use Rattle.iceoryx2_description.specs.Description.{max_nodes_of}
use Rattle.iceoryx2_data.specs.Form as form
use Rattle.iceoryx2_world.specs.declared.listing.ListedRow.TheVariants as listed
use Rattle.iceoryx2_world.specs.declared.listing.Entry.{Entry}
use Rattle.iceoryx2_call_laws.specs.Quiet.{QuietService, Quiet}

abbrev pub listed_service : ServiceHash → QuietService → Entry
listed_service h x = record {
  hash = h;
  row = listed.Published x.number (form.description x.description);
  segment = Some (record {
    number = x.number;
    max_nodes = max_nodes_of x.description.pattern;
    participants = finite.len x.counts;
    marked = false;
  });
}

-- each service, ascending by hash
abbrev pub listing : Quiet → List Entry
listing q = map (λ e. listed_service e.0 e.1) (finite.entries q.services)
