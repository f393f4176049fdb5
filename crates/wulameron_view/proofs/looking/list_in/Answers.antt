use Rattle.wulameron_view.proofs.looking.list_in.Goals as goal

pub returns-clause-listed : goal.returns-clause-listed
returns-clause-listed c =
    record {
      services = c.in_ok-all.all;
      are = c.in_ok-all.ensures;
      listed_ones = c.keep_listed-services.result;
      those = c.keep_listed-services.ensures;
      is = c.in_ok-list_all.ensures;
    }
