use Rattle.std.proofs.Common.{◌<◌, codes, lit<, refl}
use Rattle.std.specs.List.{AllByRecursion}
use Rattle.std.proofs.lemmas.Str.{IsUtf8-nil, IsUtf8-from_ascii}
use Rattle.std.proofs.lemmas.Str.Ascii.{IsAscii-from_all}
use Rattle.std.proofs.lemmas.List.Elements.{All-from_recursion}
use Rattle.percent_encoding.proofs.OnLiterals.{percent_encoding_on_literals}
use Rattle.negotiate_lines.specs.Leaves.{go_on}
use Rattle.negotiate_lines.proofs.LeavesPlain.{plain, some}
use Rattle.negotiate_lines.proofs.LeavesBack.{back, broken, one_leaf}
use Rattle.negotiate_lines.proofs.leaf.laws_of_leaves.Goals as goal

pub returns-clause-back : goal.returns-clause-back
returns-clause-back c = back

pub returns-clause-plain : goal.returns-clause-plain
returns-clause-plain c = plain

pub returns-clause-some : goal.returns-clause-some
returns-clause-some c = some

pub returns-clause-one : goal.returns-clause-one
returns-clause-one c = one_leaf

pub returns-clause-empty : goal.returns-clause-empty
returns-clause-empty c = (refl, IsUtf8-nil)

pub returns-clause-one_digit : goal.returns-clause-one_digit
unfolding go_on
returns-clause-one_digit c = broken (codes "%4") refl refl

pub returns-clause-no_digits : goal.returns-clause-no_digits
unfolding go_on
returns-clause-no_digits c = broken (codes "%zz") refl refl

pub returns-clause-lower_case : goal.returns-clause-lower_case
unfolding go_on percent_encoding_on_literals
returns-clause-lower_case c =
    let each : AllByRecursion (λ b. b < 128) (codes "a/b") = (lit< tt, (lit< tt, (lit< tt, tt))) in
    (refl, IsUtf8-from_ascii (codes "a/b") (IsAscii-from_all (codes "a/b") (All-from_recursion (λ b. b < 128) (codes "a/b") each)))
