use Rattle.std.proofs.Common.{Ok, Err, refl, subst}
use Rattle.std.proofs.KnownBytes.{Keeps-refl}
use Rattle.iceoryx2_file_log.specs.declared.remainder.Front.{Front}
use Rattle.wulameron_trail.specs.Unread.{IsNext}
use Rattle.wulameron_trail.specs.declared.printing.Rest.TheVariants as rest
use Rattle.wulameron_trail.specs.declared.stopping.Stop.TheVariants as stop
use Rattle.wulameron_trail.proofs.Pieces.{damage_next}
use Rattle.wulameron_trail.proofs.Shown.{nothing_shown, reading_stops}
use Rattle.wulameron_trail.proofs.printing.show_next.Goals as goal

pub returns-in-Whole : goal.returns-in-Whole
returns-in-Whole g c = λ bytes unread.
    c.show_found.ensures (g.R.Read.remaining c.next_front.new.reader) bytes (c.in-Ok.ensures.unread bytes unread)
    (subst (λ (f : Front). IsNext bytes f) c.in-Whole.is (c.in-Ok.ensures.next bytes unread))

pub returns-in-Torn : goal.returns-in-Torn
returns-in-Torn g c = λ bytes unread.
    let before = g.W.Write.contents c.args.output.now in
    nothing_shown g.P.Shows.shows bytes c.args.shown.now c.args.shown.now (Ok rest.Ended) before before refl
    (subst (λ (f : Front). IsNext bytes f) c.in-Torn.is (c.in-Ok.ensures.next bytes unread), refl) (Keeps-refl before)

pub returns-in-Unfinished : goal.returns-in-Unfinished
returns-in-Unfinished g c = λ bytes unread.
    let before = g.W.Write.contents c.args.output.now in
    nothing_shown g.P.Shows.shows bytes c.args.shown.now c.args.shown.now (Err stop.Damaged) before before refl
    (damage_next bytes c.in-Ok.front c.in-Unfinished.is (c.in-Ok.ensures.next bytes unread)) (Keeps-refl before)

pub returns-in-Err : goal.returns-in-Err
returns-in-Err g c = λ bytes unread.
    reading_stops g.P.Shows.shows bytes c.args.shown.now c.in-Err.stop (g.W.Write.contents c.args.output.now) c.in-Err.ensures.err
