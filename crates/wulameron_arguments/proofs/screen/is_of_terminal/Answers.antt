use Rattle.std.proofs.Common.{◌≡◌, Bool, true, false, refl}
use Rattle.std.specs.Prelude.{◌||◌, codes, nat_eq}
use Rattle.std.specs.List.{starts_with}
use Rattle.std.proofs.lemmas.Str.Pattern.{starts_text}
use Rattle.wulameron_arguments.proofs.screen.is_of_terminal.Goals as goal

left : (r a b : Bool) → r ≡ a → r ≡ true → r ≡ (a || b)
left true true b p q = refl
left true false b p q = absurd cc
left false a b p q = absurd cc

right : (r s a b : Bool) → r ≡ a → r ≡ false → s ≡ b → s ≡ (a || b)
right false s false b p q e = e
right false s true b p q e = absurd cc
right true s a b p q e = absurd cc

pub returns-then-starts_with : goal.returns-then-starts_with
returns-then-starts_with c =
    let path = c.args.path.now in
    left _ (starts_with nat_eq path (codes "/dev/pts/")) (starts_with nat_eq path (codes "/dev/tty"))
    (starts_text _ (codes "/dev/pts/") path c.starts_with.ensures.cases) c.if-starts_with.true

pub returns-else-starts_with : goal.returns-else-starts_with
returns-else-starts_with c =
    let path = c.args.path.now in
    right _ _ (starts_with nat_eq path (codes "/dev/pts/")) (starts_with nat_eq path (codes "/dev/tty"))
    (starts_text _ (codes "/dev/pts/") path c.starts_with.ensures.cases) c.if-starts_with.false
    (starts_text _ (codes "/dev/tty") path c.starts_with-else-starts_with.ensures.cases)
