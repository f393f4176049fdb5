use Rattle.std.proofs.Common.{inl, inr, refl}
use Rattle.wulameron_place.proofs.reading.take_over.Goals as goal

pub returns-then-look : goal.returns-then-look
returns-then-look g c = record { tried = c.args.journal.now; first = inl refl; takes = c.if-look.ensures.takes }

pub returns-then-seems_damaged : goal.returns-then-seems_damaged
returns-then-seems_damaged g c = record { tried = c.look.new.self; first = inr c.if-look.ensures.takes; takes = c.look-then-seems_damaged.ensures.takes }

pub returns : goal.returns
returns g c = record { tried = c.args.journal.now; first = inl refl; takes = c.if-look.ensures.takes }
