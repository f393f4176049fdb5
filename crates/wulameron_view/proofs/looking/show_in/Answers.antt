use Rattle.std.proofs.Common.{sym, ◌∙◌, arith}
use Rattle.wulameron_view.proofs.Printing.{no_item, one_item, two_items}
use Rattle.wulameron_view.proofs.looking.show_in.Goals as goal

pub returns-in-empty-clause-unshown : goal.returns-in-empty-clause-unshown
returns-in-empty-clause-unshown c =
    record {
      services = c.in_ok-services.services;
      are = c.in_ok-services.ensures;
      fits = sym c.keep_wanted.ensures ∙ sym c.as_slice.ensures.value ∙ no_item c.as_slice.result.now (omega (arith, c.in-empty.len_below));
    }

pub returns-in-len1-clause-shown : goal.returns-in-len1-clause-shown
returns-in-len1-clause-shown c =
    record {
      services = c.in_ok-services.services;
      are = c.in_ok-services.ensures;
      service = c.service-item.result;
      only = sym c.keep_wanted.ensures ∙ sym c.as_slice.ensures.value
          ∙ one_item c.as_slice.result.now c.service-item.result (omega (arith, c.in-len1.len_at_least)) (omega (arith, c.in-len1.len_below)) c.service-item.is;
      is = c.in_ok-show_one-in-len1.ensures;
    }

pub returns-clause-unshown : goal.returns-clause-unshown
returns-clause-unshown c =
    record {
      services = c.in_ok-services.services;
      are = c.in_ok-services.ensures;
      fits = two_items c.as_slice.result.now _ (sym c.keep_wanted.ensures ∙ sym c.as_slice.ensures.value) (omega (arith, c.in_default.len_at_least));
    }
