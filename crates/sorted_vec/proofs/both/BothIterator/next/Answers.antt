use Rattle.std.proofs.Common.{sym, ◌∙◌}
use Rattle.sorted_vec.proofs.Boths.{ends, other_alone, one_alone, one_less, other_less, together, goes_by}
use Rattle.sorted_vec.proofs.both.BothIterator.next.Goals as goal

pub returns-in_default-other-clause-steps : goal.returns-in_default-other-clause-steps
returns-in_default-other-clause-steps g c =
    let f = c.self.inside in
    let none = ends g.K.Ord.cmp f.one f.ones f.other f.others c.in_default.is c.in_default-other.is c.self.invariant.0 c.self.invariant.1 in
    rw (← c.self.view_is) (none, none)

pub returns-in_default-clause-steps : goal.returns-in_default-clause-steps
returns-in_default-clause-steps g c =
    let f = c.self.inside in
    rw (← c.self.view_is) (other_alone g.K.Ord.cmp f.one f.ones f.other f.others c.in-Some-other.other c.next-self-inside.result c.next-self-inside.new.self c.in_default.is c.self.invariant.0 c.in-Some-other.is c.next-self-inside.ensures.steps)

pub returns-in_default-clause-goes : goal.returns-in_default-clause-goes
returns-in_default-clause-goes g c =
    let f = c.self.inside in
    rw (← c.self.view_is) (goes_by _ (λ s. tt) _ _ _ _ (other_alone g.K.Ord.cmp f.one f.ones f.other f.others c.in-Some-other.other c.next-self-inside.result c.next-self-inside.new.self c.in_default.is c.self.invariant.0 c.in-Some-other.is c.next-self-inside.ensures.steps))

pub returns-in_default-other-2-clause-steps : goal.returns-in_default-other-2-clause-steps
returns-in_default-other-2-clause-steps g c =
    let f = c.self.inside in
    rw (← c.self.view_is) (one_alone g.K.Ord.cmp f.one f.ones f.other f.others c.in-Some.one c.next-self-inside-in_default-other-2.result c.next-self-inside-in_default-other-2.new.self c.in_default-other-2.is c.self.invariant.1 c.in-Some.is c.next-self-inside-in_default-other-2.ensures.steps)

pub returns-in_default-other-2-clause-goes : goal.returns-in_default-other-2-clause-goes
returns-in_default-other-2-clause-goes g c =
    let f = c.self.inside in
    rw (← c.self.view_is) (goes_by _ (λ s. tt) _ _ _ _ (one_alone g.K.Ord.cmp f.one f.ones f.other f.others c.in-Some.one c.next-self-inside-in_default-other-2.result c.next-self-inside-in_default-other-2.new.self c.in_default-other-2.is c.self.invariant.1 c.in-Some.is c.next-self-inside-in_default-other-2.ensures.steps))

pub returns-in-Less-clause-steps : goal.returns-in-Less-clause-steps
returns-in-Less-clause-steps g c =
    let f = c.self.inside in
    rw (← c.self.view_is) (one_less g.K.Ord.cmp f.one f.ones f.other f.others c.in-Some.one c.in-Some-other-2.other c.in-Some.is c.in-Some-other-2.is c.next-self-inside-in-Less.result c.next-self-inside-in-Less.new.self (sym c.cmp.ensures ∙ c.in-Less.is) c.next-self-inside-in-Less.ensures.steps)

pub returns-in-Less-clause-goes : goal.returns-in-Less-clause-goes
returns-in-Less-clause-goes g c =
    let f = c.self.inside in
    rw (← c.self.view_is) (goes_by _ (λ s. tt) _ _ _ _ (one_less g.K.Ord.cmp f.one f.ones f.other f.others c.in-Some.one c.in-Some-other-2.other c.in-Some.is c.in-Some-other-2.is c.next-self-inside-in-Less.result c.next-self-inside-in-Less.new.self (sym c.cmp.ensures ∙ c.in-Less.is) c.next-self-inside-in-Less.ensures.steps))

pub returns-in-Equal-clause-steps : goal.returns-in-Equal-clause-steps
returns-in-Equal-clause-steps g c =
    let f = c.self.inside in
    rw (← c.self.view_is) (together g.K.Ord.cmp f.one f.ones f.other f.others c.in-Some.one c.in-Some-other-2.other c.in-Some.is c.in-Some-other-2.is c.next-self-inside-in-Equal.result c.next-self-inside-in-Equal.new.self c.next-self-inside-in-Equal-2.result c.next-self-inside-in-Equal-2.new.self (sym c.cmp.ensures ∙ c.in-Equal.is) c.next-self-inside-in-Equal.ensures.steps c.next-self-inside-in-Equal-2.ensures.steps)

pub returns-in-Equal-clause-goes : goal.returns-in-Equal-clause-goes
returns-in-Equal-clause-goes g c =
    let f = c.self.inside in
    rw (← c.self.view_is) (goes_by _ (λ s. tt) _ _ _ _ (together g.K.Ord.cmp f.one f.ones f.other f.others c.in-Some.one c.in-Some-other-2.other c.in-Some.is c.in-Some-other-2.is c.next-self-inside-in-Equal.result c.next-self-inside-in-Equal.new.self c.next-self-inside-in-Equal-2.result c.next-self-inside-in-Equal-2.new.self (sym c.cmp.ensures ∙ c.in-Equal.is) c.next-self-inside-in-Equal.ensures.steps c.next-self-inside-in-Equal-2.ensures.steps))

pub returns-in-Greater-clause-steps : goal.returns-in-Greater-clause-steps
returns-in-Greater-clause-steps g c =
    let f = c.self.inside in
    rw (← c.self.view_is) (other_less g.K.Ord.cmp f.one f.ones f.other f.others c.in-Some.one c.in-Some-other-2.other c.in-Some.is c.in-Some-other-2.is c.next-self-inside-in-Greater.result c.next-self-inside-in-Greater.new.self (sym c.cmp.ensures ∙ c.in-Greater.is) c.next-self-inside-in-Greater.ensures.steps)

pub returns-in-Greater-clause-goes : goal.returns-in-Greater-clause-goes
returns-in-Greater-clause-goes g c =
    let f = c.self.inside in
    rw (← c.self.view_is) (goes_by _ (λ s. tt) _ _ _ _ (other_less g.K.Ord.cmp f.one f.ones f.other f.others c.in-Some.one c.in-Some-other-2.other c.in-Some.is c.in-Some-other-2.is c.next-self-inside-in-Greater.result c.next-self-inside-in-Greater.new.self (sym c.cmp.ensures ∙ c.in-Greater.is) c.next-self-inside-in-Greater.ensures.steps))
