-- What a compaction leaves that fails.
use Rattle.std.proofs.Common.{◌≡◌, ◌≢◌, ◌⊎◌, inl, inr, ℕ, ◌+◌, List, Option, codes, true, refl, sym, subst, ◌∙◌}
use Rattle.std.specs.Io.KnownBytes.{Appends}
use Rattle.iceoryx2_log.specs.declared.entry.Entry.{Entry}
use Rattle.iceoryx2_postgres_log.specs.declared.fault.PostgresFault.{PostgresFault}
use Rattle.iceoryx2_postgres_log.specs.declared.fault.PostgresFault.TheVariants as fault
use Rattle.iceoryx2_postgres_log.specs.declared.standing.Standing.{Standing}
use Rattle.iceoryx2_postgres_log.specs.Faults.{is_over_by}
use Rattle.iceoryx2_postgres_log.specs.Questions as text
use Rattle.iceoryx2_postgres_log.specs.Replies.{Asks, Refuses}
use Rattle.iceoryx2_postgres_log.specs.Compacting.{Moves, CopiesAll, none, more, IsCopied, AsksRows, nothing, mark, copies}
use Rattle.iceoryx2_postgres_log.specs.Compacting.{EndsIn, IsRefusedGoing, LeavesNothing}

-- rows were to be inserted, and then more
rows_both : (a b d u v w : Option (List ℕ)) → AsksRows a b u v → AsksRows b d v w → AsksRows a d u w
rows_both a b d u v w first (nothing e l) =
    subst (λ x. AsksRows a x u w) (sym e) (subst (λ x. AsksRows a b u x) (sym l) first)
rows_both a b d u v w first (mark {between = m} {heard = h} before log generation number later form rows end asks) =
    mark (rows_both a b m u v h first before) log generation number later form rows end asks
rows_both a b d u v w first (copies {between = m} {heard = h} before log generation number forms rows end asks) =
    copies (rows_both a b m u v h first before) log generation number forms rows end asks

-- and then no more was asked
pub ends_behind : (a b d u v w : Option (List ℕ)) (why : PostgresFault) → AsksRows a b u v → EndsIn b d v w why
    → EndsIn a d u w why
ends_behind a b d u v w why first (inl e) = inl e
ends_behind a b d u v w why first (inr (inl s)) = inr (inr (rows_both a b d u v w first (nothing s.0 s.1)))
ends_behind a b d u v w why first (inr (inr r)) = inr (inr (rows_both a b d u v w first r))

-- ---- what was done was asked

pub move_rows : (at start : Standing) (snapshot : ℕ) (written wrote unread left : Option (List ℕ))
    → Moves at snapshot written wrote unread left start → AsksRows written wrote unread left
move_rows at start snapshot written wrote unread left m =
    mark (nothing refl refl) at.log at.generation (at.number + 1) (at.generation + 1) m.form m.rows text.moved m.asks

pub copies_rows : (at new : Standing) (entries : List Entry) (written wrote unread left : Option (List ℕ))
    → CopiesAll at entries written wrote unread left new → AsksRows written wrote unread left
copies_rows at new entries written wrote unread left (none e w l is) = nothing w l
copies_rows at new entries written wrote unread left (more {between = m} {heard = h} {mid = mid} first last split) =
    copies (copies_rows at mid _ written m unread h first) mid.log mid.generation mid.number last.forms last.lines
    text.copied last.asks

pub copied_rows : (at last : Standing) (entries : List Entry) (written wrote unread left : Option (List ℕ))
    → IsCopied at entries written wrote unread left last → AsksRows written wrote unread left
copied_rows at last entries written wrote unread left c =
    rows_both written c.between wrote unread c.heard left (move_rows at c.start _ written c.between unread c.heard c.moves)
    (copies_rows c.start last entries c.between wrote c.heard left c.copies)

-- ---- what is left then

-- what was asked is undone
pub undone_leaves : (at : Standing) (snapshot : ℕ) (written between wrote unread left : Option (List ℕ))
    (result why : PostgresFault) → EndsIn written between unread left why
    → (result ≡ fault.SessionEnded) ⊎ ((result ≡ why) × Appends between wrote text.undoing)
    → LeavesNothing at snapshot written wrote unread left result
undone_leaves at snapshot written between wrote unread left result why a (inl e) = inl e
undone_leaves at snapshot written between wrote unread left result why (inl e) (inr u) = inl (u.0 ∙ e)
undone_leaves at snapshot written between wrote unread left result why (inr (inl s)) (inr u) =
    inr (inr (inr (inl (record { between = between; asks = nothing s.0 s.1; undoes = u.1 }))))
undone_leaves at snapshot written between wrote unread left result why (inr (inr a)) (inr u) =
    inr (inr (inr (inl (record { between = between; asks = a; undoes = u.1 }))))

-- the server refused to make the generation the current one
pub going_leaves : (at : Standing) (later snapshot : ℕ) (written between wrote unread heard left : Option (List ℕ))
    (why : PostgresFault) → AsksRows written between unread heard → why ≢ fault.OutOfMemory → later ≡ at.generation + 1
    → (why ≡ fault.OutOfMemory) ⊎ ((why ≡ fault.Unsure) ⊎ IsRefusedGoing at.log later snapshot between wrote heard left why)
    → LeavesNothing at snapshot written wrote unread left why
going_leaves at later snapshot written between wrote unread heard left why a other is (inl e) = absurd (other e)
going_leaves at later snapshot written between wrote unread heard left why a other is (inr (inl e)) = inr (inl e)
going_leaves at later snapshot written between wrote unread heard left why a other is (inr (inr r)) =
    let refused = subst (λ (n : ℕ). IsRefusedGoing at.log n snapshot between wrote heard left why) is r in
    inr (inr (inr (inr (record { between = between; heard = heard; asks = a; refused = refused }))))

-- and that it was refused to do so
pub refused_going : (log generation snapshot : ℕ) (written wrote unread left : Option (List ℕ))
    (rows : List (List ℕ)) (end : List ℕ) (result why : PostgresFault)
    → Asks (text.going_on log generation snapshot) (codes "went") rows end written wrote unread left
    → result ≢ fault.NotUnderstood → is_over_by result ≡ true → (result ≡ fault.Unsure) ⊎ (result ≡ why)
    → (why ≡ fault.NotUnderstood) ⊎ Refuses (codes "went") rows end why
    → (result ≡ fault.Unsure) ⊎ IsRefusedGoing log generation snapshot written wrote unread left result
refused_going log generation snapshot written wrote unread left rows end result why a known over (inl e) r = inl e
refused_going log generation snapshot written wrote unread left rows end result why a known over (inr e) (inl n) =
    absurd (known (e ∙ n))
refused_going log generation snapshot written wrote unread left rows end result why a known over (inr e) (inr r) =
    let refuses = subst (Refuses (codes "went") rows end) (sym e) r in
    inr (record { rows = rows; end = end; asks = a; refuses = refuses; over = over })
